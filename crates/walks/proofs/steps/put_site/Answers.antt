-- `walks::steps::put_site` meets its contract. Assumes nothing.
use Rattle.std.proofs.Common.{◌≡◌, true, false, arith}
use Rattle.rules.specs.Quantities.{work_room}
use Rattle.columns.specs.Made.{room-run}
use Rattle.walks.specs.Made.{row_of}
use Rattle.walks.specs.Steps.{site-put, site-none}
use Rattle.walks.proofs.steps.put_site.Goals as goal

pub returns-then-row_at : goal.returns-then-row_at
returns-then-row_at c =
    let net = c.args.net.now in
    let e : (row_of net c.args.row).site ≡ true = rw (← c.row_at.ensures) c.if-row_at.true in
    site-put net.types.now _ _ _ _ _ _ c.requires.sited _ _ e (rw c.sites_before-k.ensures at c.put_types.ensures)

pub returns-else-row_at : goal.returns-else-row_at
returns-else-row_at c =
    let net = c.args.net.now in
    let e : (row_of net c.args.row).site ≡ false = rw (← c.row_at.ensures) c.if-row_at.false in
    site-none net.types.now _ _ _ _ _ _ c.requires.sited (room-run work_room c.requires.room (omega arith)) e
