-- A type as the code holds it, its three quantities apart. Assumes nothing.
use Rattle.std.specs.Prelude.{◌≡◌, refl, List, ℕ, ◌+◌, ◌*◌, pos, get_or}
use Rattle.rules.specs.Entries.{Repeater}
use Rattle.rules.specs.Tables.{words_a_type, type_resistance, type_own}
use Rattle.laws.specs.Tabled.{repeater_at}
use Rattle.repeaters.specs.declared.Buffer.{Buffer}

-- of three numbers
unfoldable pub buffer_of : (input resistance own : ℕ) → Buffer
buffer_of input resistance own = record { input = record { 0 = input }; resistance = record { 0 = resistance }; own = record { 0 = pos own } }

-- type i, from its three words
unfoldable pub buffer_at : (types : List ℕ) → ℕ → Buffer
buffer_at types i = buffer_of (get_or types (words_a_type * i) 0) (get_or types (words_a_type * i + type_resistance) 0) (get_or types (words_a_type * i + type_own) 0)

-- the same quantities as a type of the paper
pub record IsBuffer (x : Repeater) (b : Buffer) : Type 0 where
  pub input : b.input.0 ≡ x.input
  pub resistance : b.resistance.0 ≡ x.resistance
  pub own : b.own.0 ≡ pos x.own

pub is-buffer : (types : List ℕ) (i : ℕ) {b : Buffer} → b ≡ buffer_at types i → IsBuffer (repeater_at types i) b
unfolding buffer_at buffer_of repeater_at
is-buffer types i e = rw e (record { input = refl; resistance = refl; own = refl })
