-- `rows::row_at` meets its contract. Assumes nothing.
use Rattle.std.proofs.Common.{◌≡◌, ◌+◌, ◌*◌, arith, get_or, pos, rules, to_z, of_z, w64}
use Rattle.rules.specs.Entries.{row_of}
use Rattle.laws.specs.Tabled.{row_at}
use Rattle.rows.proofs.row_at.Goals as goal

pub returns : goal.returns
unfolding row_at row_of
returns c =
    let a = c.args in
    let h = c.kind_of.ensures in
    let e : 6 * a.i + 0 ≡ 6 * a.i = omega arith in
    let g : to_z w64 (of_z w64 (get_or a.net.now.due.now a.i (pos 0))) ≡ get_or a.net.now.due.now a.i (pos 0) = search rules in
    simp (h, g, e)
