-- The first greatest of the list at the driver, and the words of its placement. Assumes nothing.
use Rattle.std.specs.Prelude.{◌≡◌, refl, List, [], ◌∷◌, ℕ, ◌+◌, ◌*◌, ◌≤◌, ◌<◌, ℤ, length, get_or, set}
use Rattle.std.proofs.Common.{sym, ap, ◌∙◌, arith}
use Rattle.rules.specs.Lists.{written}
use Rattle.rules.specs.Quantities.{most_ohms, placement_room, work_room}
use Rattle.rules.specs.Placements.{marks}
use Rattle.rules.specs.Tables.{words_a_row}
use Rattle.laws.specs.Steps.{best, value}
use Rattle.laws.specs.Tabled.{row_at}
use Rattle.columns.specs.Parts.{part}
use Rattle.columns.specs.Run.{Candidate, blank, run, run-load, run_at, words-read}
use Rattle.columns.specs.Made.{Room, Stand}
use Rattle.columns.specs.Choosing.{Chosen}

-- the four words of candidate b
abbrev pub four_at : List ℕ → (b : ℕ) → List ℕ
four_at words b = get_or words (placement_room * b) 0 ∷ get_or words (placement_room * b + 1) 0 ∷ get_or words (placement_room * b + 2) 0 ∷ get_or words (placement_room * b + 3) 0 ∷ []

-- four words stored at the start of an area
pub four-written : (p : List ℕ) (a b c d : ℕ) → placement_room ≤ length p → set (set (set (set p 0 a) 1 b) 2 c) 3 d ≡ written (a ∷ b ∷ c ∷ d ∷ []) p
unfolding written
four-written [] a b c d h = absurd (omega arith)
four-written (w ∷ []) a b c d h = absurd (omega arith)
four-written (w ∷ x ∷ []) a b c d h = absurd (omega arith)
four-written (w ∷ x ∷ y ∷ []) a b c d h = absurd (omega arith)
four-written (w ∷ x ∷ y ∷ z ∷ p) a b c d h = refl

-- the list at the driver stands in the work area, and there is a placement to put words into
pub record Ready (rows : List ℕ) (due : List ℤ) (loads : List ℕ) (times : List ℤ) (words : List ℕ) (len : ℕ) (placement : List ℕ) : Type 0 where
  pub row_long : words_a_row ≤ length rows
  pub due_long : 1 ≤ length due
  pub ohms : (row_at rows due 0).resistance.0 ≤ most_ohms
  pub room : Room loads times words
  pub stand : Stand (run loads times words) 0 len
  pub four : placement_room ≤ length placement

-- the first greatest behind the driver was chosen
pub record Choice (rows : List ℕ) (due : List ℤ) (w : List Candidate) (len : ℕ) (before after : List ℕ) (slack : ℤ) (on_driver : ℕ) : Type 0 where
  pub chosen : Candidate
  pub chosen_is : chosen ≡ best (λ m. (row_at rows due 0).resistance.0 * m) (get_or w 0 blank) (part 1 len w)
  pub slack_is : slack ≡ value (λ m. (row_at rows due 0).resistance.0 * m) chosen
  pub load_is : on_driver ≡ chosen.load
  pub words : List ℕ
  pub words_four : length words ≡ placement_room
  pub words_are : marks words ≡ chosen.place
  pub after_is : after ≡ written words before

module _ (rows : List ℕ) (due : List ℤ) (ls : List ℕ) (ts : List ℤ) (ws : List ℕ) (len : ℕ) (before : List ℕ) (ready : Ready rows due ls ts ws len before) (b : ℕ) (v : ℤ) (C : Chosen (λ m. (row_at rows due 0).resistance.0 * m) ls ts 0 len b v) where
  pub chosen-inside : b < work_room
  chosen-inside = omega (arith, C.upto, ready.stand.place)

  pub choice : (after : List ℕ) → after ≡ written (four_at ws b) before → Choice rows due (run ls ts ws) len before after v (get_or ls b 0)
  choice after e =
      let z : 0 + len ≡ len = omega arith in
      let h : b < length ls = omega (arith, chosen-inside, ready.room.loads) in
      let g : b < length ts = omega (arith, chosen-inside, ready.room.times) in
      record {
        chosen = get_or (run ls ts ws) b blank;
        chosen_is = rw z at (C.best_is ws);
        slack_is = C.value_is ws;
        load_is = sym (run-load ls ts ws b h g);
        words = four_at ws b;
        words_four = refl;
        words_are = words-read ws b ∙ sym (ap (λ (c : Candidate). c.place) (run_at ls ts ws b h g));
        after_is = e;
      }
