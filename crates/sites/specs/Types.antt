-- The types as words, three a type: input load, resistance, own delay. Assumes nothing.
use Rattle.std.specs.Prelude.{◌≡◌, List, ℕ, suc, ◌+◌, ◌*◌, ◌≤◌, ◌<◌, length}
use Rattle.std.proofs.Common.{ap, ◌∙◌, arith, zero-add}
use Rattle.rules.specs.Quantities.{types_room}
use Rattle.rules.specs.Tables.{words_a_type}
use Rattle.rules.specs.Entries.{Repeater}
use Rattle.rules.specs.Slack.{type_of}
use Rattle.laws.specs.Ranges.{RepeaterInRange}
use Rattle.laws.specs.Tabled.{repeaters-at}
use Rattle.laws.specs.Tabled.{repeaters-length as from-length}
unfoldable pub use Rattle.laws.specs.Tabled.{repeater_at, repeaters_from}

-- as many as are counted
unfoldable pub repeaters_of : List ℕ → (count : ℕ) → List Repeater
repeaters_of words count = repeaters_from words 0 count

pub repeaters-length : (words : List ℕ) (count : ℕ) → length (repeaters_of words count) ≡ count
unfolding repeaters_of
repeaters-length words count = from-length words 0 count

-- types are numbered from 1
pub repeaters-type : (words : List ℕ) (count t : ℕ) → t < count → type_of (repeaters_of words count) (suc t) ≡ repeater_at words t
unfolding repeaters_of type_of
repeaters-type words count t h = repeaters-at words _ 0 count t h ∙ ap (repeater_at words) (zero-add t)

-- the words have the types, each in its range
pub record TypesIn (words : List ℕ) (count : ℕ) : Type 0 where
  pub few : count ≤ types_room
  pub long : words_a_type * count ≤ length words
  pub known : (t : ℕ) → t < count → RepeaterInRange (repeater_at words t)

pub types-fewer : {words : List ℕ} {count : ℕ} (t : ℕ) → t < count → TypesIn words count → TypesIn words (t + 1)
types-fewer t h r = record { few = omega (arith, r.few); long = omega (arith, r.long); known = λ j k. r.known j (omega arith) }
