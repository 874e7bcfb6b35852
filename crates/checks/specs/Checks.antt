-- The checks of one line by number: from how many types, rows and sites have passed and the words of the rows among them. Assumes nothing.
use Rattle.std.specs.Prelude.{Bool, true, false, cond, ◌&&◌, ◌||◌, List, ℕ, ◌+◌, ◌*◌, ◌≤◌, ltb, leb, eqb, pos, get_or, Result, Ok, Err}
use Rattle.std.proofs.Math.Option.{Option, none, some, or_else}
use Rattle.std.specs.Int.Signed.{lt_z}
use Rattle.rules.specs.Tables.{words_a_row, sink_kind}
use Rattle.rules.specs.declared.Pin.{Pin}
use Rattle.rules.specs.declared.Refusal.{Refusal}
use Rattle.rules.specs.declared.Refusal.TheVariants.{Form, Range, Room, Parent}
use Rattle.rules.specs.Lists.{given_when}
use Rattle.rules.specs.Quantities.{most_ohms, most_femtofarads, most_own, earliest_due, latest_due, types_room, rows_room, sites_room}
use Rattle.rules.specs.Refusals.{wire_out}
use Rattle.repeaters.specs.declared.Buffer.{Buffer}
use Rattle.checks.specs.declared.Wire.{Wire}
use Rattle.checks.specs.declared.Passed.{Passed}
use Rattle.checks.specs.declared.Line.{Line}
use Rattle.checks.specs.declared.Line.TheVariants.{Repeater as TypeLine, Driver as DriverLine, Point as PointLine, Sink as SinkLine}

-- accepted where nothing is refused
abbrev pub checking : Option Refusal → Result (Unit {0}) Refusal
checking none = Ok tt
checking (some r) = Err r

-- what has passed is within its room
pub record FewPassed (n : Passed) : Type 0 where
  pub types : n.types ≤ types_room
  pub rows : n.rows ≤ rows_room
  pub sites : n.sites ≤ sites_room

-- the line after those that have passed
abbrev pub place_at : Passed → ℕ
place_at n = n.types + n.rows + 1

-- in one line 1, 2, 3, 4
abbrev pub first_of : (form range room parent : Bool) (place : ℕ) → Option Refusal
first_of form range room parent place =
    or_else (given_when form (Form place)) (or_else (given_when range (Range place)) (or_else (given_when room (Room place)) (given_when parent (Parent place))))

abbrev pub type_out : Buffer → Bool
type_out t = ltb most_femtofarads t.input.0 || (ltb most_ohms t.resistance.0 || lt_z (pos most_own) t.own.0)

abbrev pub wire_out_of : Wire → Bool
wire_out_of w = wire_out w.parent w.resistance.0 w.capacitance.0 w.site

abbrev pub pin_out : Pin → Bool
pin_out p = ltb most_femtofarads p.load.0 || (lt_z p.due.0 earliest_due || lt_z latest_due p.due.0)

abbrev pub many_rows : Passed → (site : ℕ) → Bool
many_rows n site = leb rows_room n.rows || (eqb site 1 && leb sites_room n.sites)

-- the words of the rows say which of them are sinks: kind 2
abbrev pub no_parent_in : (rows : List ℕ) (count parent : ℕ) → Bool
no_parent_in rows count parent = cond (ltb parent count) (eqb (get_or rows (words_a_row * parent) 0) sink_kind) true

abbrev pub check_of : (rows : List ℕ) → Passed → Result Line Refusal → Result (Unit {0}) Refusal
check_of rows n (Ok (TypeLine t)) = checking (first_of (ltb 0 n.rows) (type_out t) (leb types_room n.types) false (place_at n))
check_of rows n (Ok (DriverLine o)) = checking (first_of (ltb 0 n.rows) (ltb most_ohms o.0) false false (place_at n))
check_of rows n (Ok (PointLine w)) = checking (first_of (eqb n.rows 0) (wire_out_of w) (many_rows n w.site) (no_parent_in rows n.rows w.parent) (place_at n))
check_of rows n (Ok (SinkLine w p)) = checking (first_of (eqb n.rows 0) (wire_out_of w || pin_out p) (many_rows n w.site) (no_parent_in rows n.rows w.parent) (place_at n))
check_of rows n (Err r) = Err r
