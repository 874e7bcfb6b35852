-- What hangs somewhere as a load and a time: nothing, or both. The steps from the sinks up. Assumes nothing.
use Rattle.std.specs.Prelude.{◌≡◌, ℕ, ◌+◌, ◌*◌, ◌≤◌, ℤ, pos, ◌-ℤ◌, Option, Some, None, Result, Ok, Err}
use Rattle.std.proofs.Common.{sym, ap, subst}
use Rattle.std.specs.Int.Signed.{mag}
use Rattle.rules.specs.declared.Femtofarad.{Femtofarad}
use Rattle.rules.specs.declared.Femtosecond.{Femtosecond}
use Rattle.rules.specs.declared.Kind.{Kind}
use Rattle.rules.specs.declared.Kind.TheVariants.{Driver, Point, Sink}
use Rattle.rules.specs.declared.Refusal.TheVariants.{NoRow}
use Rattle.rules.specs.declared.Refusal.{Refusal}
use Rattle.rules.specs.declared.Timed.{Timed}
use Rattle.rules.specs.Quantities.{◌⊖◌, most_ohms, most_femtofarads, most_own}
use Rattle.rules.specs.Entries.{Repeater}
use Rattle.laws.specs.Integers.{minℤ, ⊖-⊖}
use Rattle.laws.specs.Ranges.{RepeaterInRange, most_load}
use Rattle.repeaters.specs.declared.Buffer.{Buffer}
use Rattle.repeaters.specs.Repeaters.{IsBuffer}
use Rattle.units.specs.Times.{far_time}
use Rattle.pairs.specs.declared.Pair.{Pair}

-- what hangs somewhere: nothing, or a load and a time
abbrev pub Hung : Type 0
Hung = Option Pair

abbrev pub seen : Femtofarad → Femtosecond → Hung
seen l t = Some (record { load = l; time = t })

-- a load and a time, as they are held
abbrev pub seen_as : ℕ → ℤ → Hung
seen_as l t = seen (record { 0 = l }) (record { 0 = t })

pub seen-is : (l : Femtofarad) (t : Femtosecond) (a : ℕ) (b : ℤ) → l.0 ≡ a → t.0 ≡ b → seen l t ≡ seen_as a b
seen-is l t a b e f = λ i. seen (record { 0 = e i }) (record { 0 = f i })

-- a load and a time in their ranges
abbrev pub Within : Hung → Type 0
Within None = Unit {0}
Within (Some s) = (s.load.0 ≤ most_load) × (mag s.time.0 ≤ far_time)

-- a type's three quantities in theirs
pub record BufferIn (b : Buffer) : Type 0 where
  pub input : b.input.0 ≤ most_femtofarads
  pub resistance : b.resistance.0 ≤ most_ohms
  pub own : mag b.own.0 ≤ most_own

-- ---- the steps
-- behind a wire: the whole capacitance counts at the far end
unfoldable pub wire_hung : (resistance capacitance : ℕ) → Hung → Hung
wire_hung r c None = None
wire_hung r c (Some s) = seen_as (c + s.load.0) (s.time.0 ⊖ (r * (c + s.load.0)))

-- beside each other: the loads together, and the time of the one that is due first
unfoldable pub beside_hung : Hung → Hung → Hung
beside_hung None b = b
beside_hung (Some s) None = Some s
beside_hung (Some s) (Some t) = seen_as (s.load.0 + t.load.0) (minℤ s.time.0 t.time.0)

-- behind a repeater of a type, worked out from the load it drives
unfoldable pub repeat_hung : Repeater → Hung → Hung
repeat_hung x None = None
repeat_hung x (Some s) = seen_as x.input (s.time.0 ⊖ (x.own + x.resistance * s.load.0))

-- a sink's pin, or what hangs under the row
abbrev pub start_hung : Kind → Hung → Hung
start_hung Driver h = h
start_hung Point h = h
start_hung (Sink pin) h = seen_as pin.load.0 pin.due.0

-- at the driver: its delay is its resistance times its driven load. Something hangs under every driver, so the first line is never used
unfoldable pub slack_hung : (driver : ℕ) → Hung → Result Timed Refusal
slack_hung driver None = Err NoRow
slack_hung driver (Some s) = Ok (record { slack = record { 0 = s.time.0 ⊖ (driver * s.load.0) }; load = s.load })

-- a type in its ranges has its quantities in theirs
pub buffer-in : {x : Repeater} {b : Buffer} → IsBuffer x b → RepeaterInRange x → BufferIn b
buffer-in i r = record { input = rw i.input r.input; resistance = rw i.resistance r.resistance; own = rw i.own r.own }

-- ---- the same by cases, as the code goes
pub within-at : {h : Hung} {l : Femtofarad} {t : Femtosecond} → h ≡ seen l t → Within h → (l.0 ≤ most_load) × (mag t.0 ≤ far_time)
within-at e w = subst (λ h. Within h) e w

pub wire-seen : (r c : ℕ) {h : Hung} {l : Femtofarad} {t : Femtosecond} → h ≡ seen l t → wire_hung r c h ≡ seen_as (c + l.0) (t.0 ⊖ (r * (c + l.0)))
unfolding wire_hung
wire-seen r c e = rw e

pub beside-seen : {a b : Hung} {l m : Femtofarad} {t u : Femtosecond} → a ≡ seen l t → b ≡ seen m u → beside_hung a b ≡ seen_as (l.0 + m.0) (minℤ t.0 u.0)
unfolding beside_hung
beside-seen e f = rw (e, f)

-- a type with its three quantities apart
pub repeat-seen : {x : Repeater} {b : Buffer} {h : Hung} {l : Femtofarad} {t : Femtosecond} → IsBuffer x b → h ≡ seen l t → repeat_hung x h ≡ seen_as b.input.0 (t.0 -ℤ b.own.0 -ℤ pos (b.resistance.0 * l.0))
unfolding repeat_hung ◌⊖◌
repeat-seen {x} {b} {h} {l} {t} i e = rw (e, i.input, i.resistance, i.own) (ap (seen_as x.input) (sym (⊖-⊖ t.0 x.own (x.resistance * l.0))))

pub slack-seen : (driver : ℕ) {h : Hung} {l : Femtofarad} {t s : Femtosecond} → h ≡ seen l t → s.0 ≡ t.0 ⊖ (driver * l.0) → Ok (record { slack = s; load = l }) ≡ slack_hung driver h
unfolding slack_hung
slack-seen driver {h} {l} {t} {s} e f = rw e (λ i. Ok (record { slack = record { 0 = f i }; load = l }))
