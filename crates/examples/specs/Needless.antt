-- A repeater that is worth its place at its own site and turns out needless further up. Ties at a site go to what stands, so a repeater is
-- placed only where the pair gains by it there; but the pair without it is dropped there, and is not had back where another repeater, nearer
-- to the driver, hides what it gained. The net is read from its text. Assumes nothing.
use Rattle.std.specs.Prelude.{◌≡◌, refl, List, [], ◌∷◌, ◌⊎◌, ℕ, zero, suc, ◌<◌, pos, get_or}
use Rattle.std.proofs.Math.Path.{fun_ext}
use Rattle.std.proofs.Common.{◌∙◌, inl, inr, arith}
use Prim.Native.String.{String}
use Rattle.std.proofs.Math.Decide.{dec_le}
use Rattle.rules.specs.Quantities.{◌⊖◌}
use Rattle.rules.specs.Lists.{nil, cons}
use Rattle.rules.specs.Entries.{Repeater, types_of, rows_of, row_of}
use Rattle.rules.specs.Text.{text_entries, lines_of, line_of, lettered, type_line, driver_line, point_line, sink_line, parted, number, more_digits, signed}
use Rattle.rules.specs.Placements.{row_of_site}
use Rattle.rules.specs.Net.{Tree, sink, site, wire, wire_of, hangs, at, at_row, driver_ohms}
use Rattle.rules.specs.Slack.{type_of, seen_load, repeater_delay, wire_delay}
use Rattle.rules.specs.Slack.{load_of}
use Rattle.rules.specs.Pairs.{On, Legal}
use Rattle.examples.specs.Texts.{bytes, entries}
use Rattle.laws.specs.Integers.{hi, lo, minℤ, ≤-or-<, order}
use Rattle.laws.specs.Candidates.{thin_in, put, stand, stand_by}
use Rattle.laws.specs.Thinning.{climb, climbed}
use Rattle.laws.specs.Steps.{value, best, pick, buffered}
use Rattle.laws.specs.Moves.{behind, wire_step, type_step, site_step}
use Rattle.laws.specs.Joining.{with_mark, with-mark-here, with-mark-there}
use Rattle.laws.specs.Trees.{time as time_of}
use Rattle.laws.specs.Method.{Proper, pinned, front_of}
use Rattle.laws.specs.Listing.{pair_of}
use Rattle.laws.specs.Picked.{pick_of}
use Rattle.examples.specs.Examples.{marked, marked-legal, IsPlanned, IsList, paired, top, plan-by, list-by, wire_by}

-- `T 2 0 0`, `D 1`, `W 0 0 0 1`, `S 1 0 10 1 5 1000`
abbrev pub net_n : String
net_n = "T\t2\t0\t0\nD\t1\nW\t0\t0\t0\t1\nS\t1\t0\t10\t1\t5\t1000\n"

unfoldable pub types_n : List Repeater
types_n = record { input = 2; resistance = 0; own = 0 } ∷ []

-- what is at its rows
unfoldable pub N₂ : Tree
N₂ = site 1 (sink 5 (pos 1000))

unfoldable pub N₁ : Tree
N₁ = site 0 (wire (wire_by 0 10) N₂)

unfoldable pub N₀ : Tree
N₀ = wire (wire_by 0 0) N₁

proper-N : Proper N₀
unfolding N₀ N₁ N₂
proper-N = (apart, ((λ h. h), tt))
  where
    apart : (◌≡◌ {A = ℕ} 0 1) ⊎ ⊥ → ⊥
    apart (inl e) = omega arith
    apart (inr e) = e

pub record Needless : Type 0 where
  -- at row 2 the pair with a repeater, (2, 1000), beats the one without, (5, 1000): it is alone on the list
  pub list : IsList net_n 2 (paired (2, 1000) ∷ [])
  -- so a repeater at rows 1 and 2 is returned
  pub picked : pick_of (types_of (entries net_n)) (driver_ohms (rows_of (entries net_n))) N₀ ≡ marked (1 ∷ 1 ∷ [])
  pub rows : (row_of_site 0 (rows_of (entries net_n)) 0 ≡ 1) × (row_of_site 0 (rows_of (entries net_n)) 1 ≡ 2)
  -- which is as good as any; and so is the one at row 1 alone
  pub both : IsPlanned net_n (marked (1 ∷ 1 ∷ [])) (pos 998) 2
  pub one : IsPlanned net_n (marked (1 ∷ [])) (pos 998) 2

both-N : Legal types_n N₀ (marked (1 ∷ 1 ∷ []))
unfolding types_n N₀ N₁ N₂
both-N = marked-legal types_n N₀ (1 ∷ 1 ∷ []) (cons (omega arith) (cons (omega arith) nil)) on
  where
    on : (j : ℕ) → j < 2 → On N₀ j
    on zero h = inl refl
    on (suc zero) h = inr (inl refl)
    on (suc (suc j)) h = absurd (omega arith)

one-N : Legal types_n N₀ (marked (1 ∷ []))
unfolding types_n N₀ N₁ N₂
one-N = marked-legal types_n N₀ (1 ∷ []) (cons (omega arith) nil) (λ j h. inl (omega arith))

-- two marks put one after the other
both-marked : with_mark 0 1 (with_mark 1 1 (λ j. 0)) ≡ marked (1 ∷ 1 ∷ [])
unfolding marked
both-marked = fun_ext (λ j. go j)
  where
    go : (j : ℕ) → with_mark 0 1 (with_mark 1 1 (λ i. 0)) j ≡ get_or (1 ∷ 1 ∷ []) j 0
    go zero = with-mark-here 0 1 (with_mark 1 1 (λ i. 0))
    go (suc zero) = with-mark-there 0 1 (with_mark 1 1 (λ i. 0)) 1 (omega arith) ∙ with-mark-here 1 1 (λ i. 0)
    go (suc (suc j)) = with-mark-there 0 1 (with_mark 1 1 (λ i. 0)) (suc (suc j)) (omega arith) ∙ with-mark-there 1 1 (λ i. 0) (suc (suc j)) (omega arith)

-- all of it, computed from the definitions
pub needless : Needless
unfolding bytes text_entries lines_of line_of lettered type_line driver_line point_line sink_line parted number more_digits signed types_of rows_of row_of wire_of hangs at at_row row_of_site types_n wire_by N₀ N₁ N₂ marked load_of seen_load time_of top pinned type_of repeater_delay wire_delay front_of site_step type_step wire_step climb climbed behind buffered value best pick thin_in put stand stand_by dec_le ≤-or-< order minℤ hi lo ◌⊖◌ pair_of pick_of
needless = record {
  list = record { tree = N₂; tree_is = refl; unbeaten = list-by _ N₂ _ ((λ h. h), tt) refl };
  picked = both-marked;
  rows = (refl, refl);
  both = record { tree = N₀; tree_is = refl; planned = plan-by _ _ N₀ _ _ _ proper-N both-N refl refl refl };
  one = record { tree = N₀; tree_is = refl; planned = plan-by _ _ N₀ _ _ _ proper-N one-N refl refl refl };
}
