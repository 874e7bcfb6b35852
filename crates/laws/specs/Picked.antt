-- Which placement is returned where several have the same slack and the same load on the driver: the one that the method carries. It
-- carries one placement for each pair of a list: up a wire and where branches meet there is nothing to choose, and at a site an equal pair
-- goes to what stands, so no repeater comes before one and the lower type before the higher (`Ties`, in proofs/). At the driver the first
-- greatest of the list is taken. So the placement is a function of the types and the rows, and that is all that one needs to know of it:
-- `picked-settled`, in proofs/, says that two areas that this clause allows are equal to the last word, whatever the definitions below
-- choose. Assumes nothing.
use Rattle.std.specs.Prelude.{◌≡◌, List, [], ◌∷◌, ℕ, ◌*◌, ◌^◌, ◌<◌, length}
use Rattle.std.proofs.Math.Option.{some}
use Rattle.rules.specs.Lists.{All, written}
use Rattle.rules.specs.Quantities.{placement_room}
use Rattle.rules.specs.Entries.{Entry, Repeater, types_of, rows_of}
use Rattle.rules.specs.Placements.{Placement, marks}
use Rattle.rules.specs.Net.{Tree, at_row, driver_ohms}
use Rattle.laws.specs.Candidates.{Cand}
use Rattle.laws.specs.Steps.{best}
use Rattle.laws.specs.Method.{front_of}

-- of a list the placement of the first greatest behind a delay
abbrev pub pick_in : (ℕ → ℕ) → List (Cand Placement) → Placement
pick_in delay [] = λ j. 0
pick_in delay (x ∷ l) = (best delay x l).place

-- of the list that the method makes of a tree, behind the driver
unfoldable pub pick_of : List Repeater → (driver : ℕ) → Tree → Placement
pick_of types driver t = pick_in (λ m. driver * m) (front_of types t)

-- the four words written at the start of the area stand for it
pub record PickedOf (es : List Entry) (before after : List ℕ) : Type 0 where
  pub tree : Tree
  pub tree_is : at_row (rows_of es) 0 ≡ some tree
  pub words : List ℕ
  pub four : length words ≡ placement_room
  pub after_is : after ≡ written words before
  pub marks_are : marks words ≡ pick_of (types_of es) (driver_ohms (rows_of es)) tree

-- ---- planning, settled
-- the clause of planning: where nothing was refused (the number told is 0), the words returned are those of the placement picked
abbrev pub Picks : (es : List Entry) (before after : List ℕ) (number : ℕ) → Type 0
Picks es before after number = number ≡ 0 → PickedOf es before after

-- the words of an area are 64-bit words
abbrev pub Words64 : List ℕ → Type 0
Words64 area = All (λ w. w < 2 ^ 64) area
