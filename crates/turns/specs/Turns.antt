-- What one turn of each kind of pass makes. Assumes nothing.
use Rattle.std.specs.Prelude.{◌≡◌, cond, ℕ, ◌+◌, ◌-◌, ◌<◌, ltb}
use Rattle.std.specs.Int.Signed.{lt_z}
use Rattle.rules.specs.declared.Ohm.{Ohm}
use Rattle.rules.specs.declared.Femtofarad.{Femtofarad}
use Rattle.rules.specs.declared.Femtosecond.{Femtosecond}
use Rattle.rules.specs.Quantities.{work_room}
use Rattle.laws.specs.Joining.{join_marks}
use Rattle.laws.specs.Steps.{joined}
use Rattle.laws.specs.Moves.{behind}
use Rattle.columns.specs.Run.{Candidate}
use Rattle.columns.specs.Made.{Fit, wire_of}
use Rattle.pairs.specs.Stands.{is_below, is_covering, is_covered}
use Rattle.rules.specs.declared.Cand.{Cand}
use Rattle.turns.specs.declared.Step.{Step}
use Rattle.turns.specs.declared.Step.TheVariants.{Put, Move, FirstWire, Wire, FirstChoice, Choose, Insert, Shift, Branch}
use Rattle.turns.specs.declared.Pass.{Pass}
use Rattle.turns.specs.declared.Turn.{Turn}
use Rattle.values.specs.Records.{cand_of}
use Rattle.values.specs.Values.{Wires, Chooses, worth_of}

abbrev pub pass_of : Step → (left from with to : ℕ) → Cand → Femtosecond → Pass
pass_of step left from with to held worth = record { step = step; left = left; from = from; with = with; to = to; held = held; worth = worth }

-- something is left, and all its places are in the run
pub record Here (p : Pass) : Type 0 where
  pub left : 0 < p.left
  pub from : p.from < work_room
  pub with : p.with < work_room
  pub to : p.to < work_room

-- ---- what a turn needs of what it reads
abbrev pub Can : Step → (x y : Candidate) → Type 0
Can Put x y = Unit {0}
Can Move x y = Unit {0}
Can (FirstWire r c) x y = Wires r c x
Can (Wire r c) x y = Wires r c x
Can (FirstChoice own r) x y = Chooses own r x
Can (Choose own r) x y = Chooses own r x
Can Insert x y = Unit {0}
Can Shift x y = Unit {0}
Can (Branch end mid) x y = Fit (joined join_marks x y)

-- ---- what it makes
abbrev pub Putting : Pass → Turn → Type 0
Putting p t = (t.put ≡ p.held) × (t.next ≡ pass_of Put (p.left - 1) p.from p.with (p.to + 1) p.held p.worth)

abbrev pub Moving : Pass → Cand → Turn → Type 0
Moving p x t = (t.put ≡ x) × (t.next ≡ pass_of Move (p.left - 1) (p.from + 1) p.with (p.to + 1) p.held p.worth)

abbrev pub FirstWiring : Ohm → Femtofarad → Pass → Cand → Turn → Type 0
FirstWiring r c p x t = (cand_of t.put ≡ behind (wire_of r.0 c.0) (cand_of x)) × (t.next ≡ pass_of (Wire r c) (p.left - 1) (p.from + 1) p.to (p.to + 1) p.held p.worth)

-- kept if it is later than the last kept, y
abbrev pub Wiring : Ohm → Femtofarad → Pass → (x y : Cand) → Turn → Type 0
Wiring r c p x y t =
    (cand_of t.put ≡ behind (wire_of r.0 c.0) (cand_of x))
    × (t.next ≡ cond (lt_z y.time.0 t.put.time.0)
    (pass_of (Wire r c) (p.left - 1) (p.from + 1) p.to (p.to + 1) p.held p.worth)
    (pass_of (Wire r c) (p.left - 1) (p.from + 1) p.with p.to p.held p.worth))

abbrev pub FirstChoosing : (own : Femtosecond) → Ohm → Pass → Cand → Turn → Type 0
FirstChoosing own r p x t = (t.put ≡ x) × (t.next ≡ pass_of (Choose own r) (p.left - 1) (p.from + 1) p.with (p.to + 1) x (worth_of own r x))

abbrev pub Choosing : (own : Femtosecond) → Ohm → Pass → Cand → Turn → Type 0
Choosing own r p x t =
    (t.put ≡ x)
    × (t.next ≡ cond (lt_z p.worth.0 (worth_of own r x).0)
    (pass_of (Choose own r) (p.left - 1) (p.from + 1) p.with (p.to + 1) x (worth_of own r x))
    (pass_of (Choose own r) (p.left - 1) (p.from + 1) p.with (p.to + 1) p.held p.worth))

abbrev pub Shifting : Pass → Cand → Turn → Type 0
Shifting p x t = (t.put ≡ p.held) × (t.next ≡ pass_of Shift (p.left - 1) (p.from + 1) p.with (p.to + 1) x p.worth)

-- the turn of a pass that puts the held one in, with something left to read
abbrev pub Searching : Pass → Cand → Turn → Type 0
Searching p x t =
    cond (is_below x.load.0 x.time.0 p.held.load.0 p.held.time.0)
    ((t.put ≡ x) × (t.next ≡ pass_of Insert (p.left - 1) (p.from + 1) p.with (p.to + 1) p.held p.worth))
    (cond (is_covered p.held.load.0 p.held.time.0 x.load.0 x.time.0)
    ((t.put ≡ x) × (t.next ≡ pass_of Move (p.left - 2) (p.from + 1) p.with (p.to + 1) p.held p.worth))
    (cond (is_covering p.held.load.0 p.held.time.0 x.load.0 x.time.0)
    ((t.put ≡ x) × (t.next ≡ pass_of Insert (p.left - 1) (p.from + 1) p.with p.to p.held p.worth))
    (Shifting p x t)))

abbrev pub Inserting : Pass → Cand → Turn → Type 0
Inserting p x t = cond (ltb p.left 2) (Shifting p x t) (Searching p x t)

-- nothing is left where one of two lists is done
abbrev pub both_left : (left i j end mid : ℕ) → ℕ
both_left left i j end mid = cond (ltb i end) (cond (ltb j mid) (left - 1) 0) 0

-- past the earlier of the two, past both where neither is
abbrev pub on_from : Pass → (x y : Cand) → ℕ
on_from p x y = p.from + cond (lt_z y.time.0 x.time.0) 0 1

abbrev pub on_with : Pass → (x y : Cand) → ℕ
on_with p x y = p.with + cond (lt_z x.time.0 y.time.0) 0 1

abbrev pub Branching : (end mid : ℕ) → Pass → (x y : Cand) → Turn → Type 0
Branching end mid p x y t =
    (cand_of t.put ≡ joined join_marks (cand_of x) (cand_of y))
    × (t.next ≡ pass_of (Branch end mid) (both_left p.left (on_from p x y) (on_with p x y) end mid) (on_from p x y) (on_with p x y) (p.to + 1) p.held p.worth)

abbrev pub Turned : Step → Pass → (x y : Cand) → Turn → Type 0
Turned Put p x y t = Putting p t
Turned Move p x y t = Moving p x t
Turned (FirstWire r c) p x y t = FirstWiring r c p x t
Turned (Wire r c) p x y t = Wiring r c p x y t
Turned (FirstChoice own r) p x y t = FirstChoosing own r p x t
Turned (Choose own r) p x y t = Choosing own r p x t
Turned Insert p x y t = Inserting p x t
Turned Shift p x y t = Shifting p x t
Turned (Branch end mid) p x y t = Branching end mid p x y t
