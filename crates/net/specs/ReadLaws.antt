-- A text line by line: the entries from a place on, and that taking its lines one by one finds the first refusal of all or holds them all.
-- Assumes nothing.
use Rattle.std.specs.Prelude.{◌≡◌, refl, ℕ, suc, ◌+◌, ◌-◌, ◌≤◌, ◌<◌, ltb, ℤ, take, drop, Result, Ok, Err}
use Rattle.std.proofs.Common.{sym, ◌∙◌, arith, length-drop, drop_of_length-le, drop-drop, ltb-true, ltb-false}
use Rattle.std.proofs.Math.Path.{ap}
use mathlib.Core.List.{List, [], ◌∷◌, ◌++◌, append_assoc, append-nil}
use Rattle.std.proofs.Math.Option.{Option, none, some, or_else}
use Rattle.std.proofs.Math.ListN.{length}
use Rattle.rules.specs.declared.Refusal.{Refusal}
use Rattle.rules.specs.declared.Refusal.TheVariants.{Form}
use Rattle.rules.specs.Entries.{Entry, malformed, types_of, rows_of, sites_of}
use Rattle.rules.specs.Text.{parted, line_of, lines_of, text_entries}
use Rattle.rules.specs.Refusals.{line_refusal, last_refusal, first_refusal, misplaced}
use Rattle.rules.specs.Promises.{Settled}
use Rattle.rules.specs.Tables.{type_table, row_table, due_table}
use Rattle.text.specs.Stretches.{tab, line_feed, lead, stretch, lead-le, either, absurd, parted-last, parted-more}
use Rattle.checks.specs.declared.Passed.{Passed}
use Rattle.checks.specs.Checks.{place_at}
use Rattle.entries.specs.Held.{Holds}
use Rattle.ending.specs.Below.{Finished}
use Rattle.net.specs.Steps.{EntryTaken, LineTaken, AllAfter, lines_from, Reaches}
use Rattle.net.specs.Passing.{first-refused, first-passed}

-- ---- lines by place
lines_cons : (line next : List ℕ) (rest : List (List ℕ)) → lines_of (line ∷ next ∷ rest) ≡ line_of (parted tab line) ∷ lines_of (next ∷ rest)
unfolding lines_of
lines_cons [] next rest = refl
lines_cons (b ∷ s) next rest = refl

lines-shape : (line : List ℕ) (ps : List (List ℕ)) (s : List ℕ) → ps ≡ parted line_feed s → lines_of (line ∷ ps) ≡ line_of (parted tab line) ∷ lines_of ps
lines-shape line ps s e =
    either (ltb (lead line_feed s) (length s))
    (λ t. rw (e, parted-more line_feed s (ltb-true (lead line_feed s) (length s) t)) (lines_cons line (stretch line_feed s) (parted line_feed (drop (suc (lead line_feed s)) s))))
    (λ f. rw (e, parted-last line_feed s (omega (arith, lead-le line_feed s, ltb-false (lead line_feed s) (length s) f))) (lines_cons line s []))

lines-last : (s : List ℕ) → 0 < length s → lines_of (s ∷ []) ≡ malformed ∷ []
unfolding lines_of
lines-last [] h = absurd (omega arith)
lines-last (b ∷ s) h = refl

module _ (text : List ℕ) (at to : ℕ) (inside : at < length text) (to_is : to ≡ at + lead line_feed (drop at text)) where
  -- the last line is not ended
  pub lines-unended : to ≡ length text → lines_from text at ≡ malformed ∷ []
  lines-unended e =
      let s = drop at text in
      let whole : lead line_feed s ≡ length s = omega (arith, length-drop at text) in
      rw (parted-last line_feed s whole) (lines-last s (omega (arith, length-drop at text)))

  -- the next line, and those after its line feed
  pub lines_next : to < length text → lines_from text at ≡ line_of (parted tab (take (to - at) (drop at text))) ∷ lines_from text (to + 1)
  lines_next h =
      let s = drop at text in
      let k : lead line_feed s ≡ to - at = omega arith in
      let more = parted-more line_feed s (omega (arith, length-drop at text)) in
      let rest_is : drop (suc (lead line_feed s)) s ≡ drop (to + 1) text =
      drop-drop (suc (lead line_feed s)) at text ∙ ap (λ (j : ℕ). drop j text) (next k) in
      ap lines_of more ∙ lines-shape (stretch line_feed s) (parted line_feed (drop (suc (lead line_feed s)) s)) (drop (suc (lead line_feed s)) s) refl
      ∙ rw (rest_is, k)
    where
      next : lead line_feed (drop at text) ≡ to - at → at + suc (lead line_feed (drop at text)) ≡ to + 1
      next k = omega arith

-- ---- nothing has passed yet
abbrev pub nothing : Passed
nothing = record { types = 0; rows = 0; sites = 0 }

pub holds-nothing : (types rows : List ℕ) (due : List ℤ) → Holds [] types rows due nothing
unfolding types_of rows_of sites_of type_table row_table due_table
holds-nothing types rows due =
    record {
      few = record { types = omega arith; rows = omega arith; sites = omega arith };
      types_counted = refl;
      rows_counted = refl;
      sites_counted = refl;
      lines_counted = refl;
      type_words = refl;
      row_words = refl;
      due_times = refl;
    }

pub reach-start : (text types rows : List ℕ) (due : List ℤ) → Reaches text 0 types rows due nothing
unfolding text_entries
reach-start text types rows due = record { before = []; held = holds-nothing types rows due; all = refl; first = refl }

-- ---- a line after those that have passed
module _ (text : List ℕ) (at to : ℕ) (types rows : List ℕ) (due : List ℤ) (n : Passed) (s : Reaches text at types rows due n) (inside : at < length text)
    (to_is : to ≡ at + lead line_feed (drop at text)) where
  pub reach-unended : (place : ℕ) → to ≡ length text → place ≡ place_at n → first_refusal [] (text_entries text) ≡ some (Form place)
  unfolding line_refusal misplaced or_else
  reach-unended place e p =
      let here : length s.before + 1 ≡ place = omega (arith, s.held.lines_counted) in
      s.first ∙ ap (first_refusal s.before) (lines-unended text at to inside to_is e) ∙ first-refused s.before malformed [] (Form place) (rw here)

  module _ (types' rows' : List ℕ) (due' : List ℤ) (r : Result Passed Refusal) (took : LineTaken (take (to - at) (drop at text)) types rows due n r types' rows' due') (ended : to < length text) where
    step : EntryTaken s.before (line_of (parted tab (take (to - at) (drop at text)))) r types' rows' due'
    step = took s.before s.held

    lines_are : lines_from text at ≡ line_of (parted tab (take (to - at) (drop at text))) ∷ lines_from text (to + 1)
    lines_are = lines_next text at to inside to_is ended

    pub reach-refused : (x : Refusal) → r ≡ Err x → first_refusal [] (text_entries text) ≡ some x
    reach-refused x a =
        s.first ∙ ap (first_refusal s.before) lines_are
        ∙ first-refused s.before (line_of (parted tab (take (to - at) (drop at text)))) (lines_from text (to + 1)) x (rw a at step)

    pub reach-taken : (m : Passed) → r ≡ Ok m → Reaches text (to + 1) types' rows' due' m
    reach-taken m a =
        let line = line_of (parted tab (take (to - at) (drop at text))) in
        let t : (line_refusal s.before line ≡ none) × Holds (s.before ++ (line ∷ [])) types' rows' due' m = rw a at step in
        record {
          before = s.before ++ (line ∷ []);
          held = t.1;
          all = s.all ∙ ap (λ (l : List Entry). s.before ++ l) lines_are ∙ sym (append_assoc s.before (line ∷ []) (lines_from text (to + 1)));
          first = s.first ∙ ap (first_refusal s.before) lines_are ∙ first-passed s.before line (lines_from text (to + 1)) t.0;
        }

-- ---- all lines have passed
lines-over : (text : List ℕ) (at : ℕ) → length text ≤ at → lines_from text at ≡ []
unfolding lines_of parted
lines-over text at h = rw (drop_of_length-le text {i = at} h)

-- what finishing says of the entries that have passed, which are all
pub all-passed : (first before es : List Entry) (o : Option Refusal) (r : Result Passed Refusal) (types rows : List ℕ) (due : List ℤ) (n : Passed) → first_refusal first es ≡ o
    → first ++ es ≡ before → Holds before types rows due n → Settled o (λ x. r ≡ Err x) (r ≡ Ok n) → AllAfter first es r types rows due
all-passed first before es none r types rows due n e f h g = rw g (e, rw f h)
all-passed first before es (some x) r types rows due n e f h g = rw g e

pub last-is : (before : List Entry) → first_refusal before [] ≡ last_refusal before
unfolding first_refusal
last-is before = refl

pub reach-done : (text : List ℕ) (at : ℕ) (types rows : List ℕ) (due : List ℤ) (n : Passed) (r : Result Passed Refusal) → Reaches text at types rows due n → length text ≤ at
    → Finished rows n r → AllAfter [] (text_entries text) r types rows due
reach-done text at types rows due n r s h f =
    let none_left = lines-over text at h in
    all-passed [] s.before (text_entries text) (last_refusal s.before) r types rows due n
    (s.first ∙ ap (first_refusal s.before) none_left ∙ last-is s.before)
    (s.all ∙ ap (λ (l : List Entry). s.before ++ l) none_left ∙ append-nil s.before)
    s.held (f s.before types due s.held)
