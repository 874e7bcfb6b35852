-- Nets written as texts: their bytes, and the entries that they state. Assumes nothing.
use Rattle.std.specs.Prelude.{List, [], ◌∷◌, ℕ}
use Prim.Native.Char.{code}
use Prim.Native.String as text
use Prim.Native.String.{String}
use Rattle.rules.specs.Entries.{Entry}
use Rattle.rules.specs.Text.{text_entries}

-- the bytes of a text, ASCII
unfoldable pub bytes : String → List ℕ
bytes text.[] = []
bytes (text.◌∷◌ c s) = code c ∷ bytes s

abbrev pub entries : String → List Entry
entries s = text_entries (bytes s)
