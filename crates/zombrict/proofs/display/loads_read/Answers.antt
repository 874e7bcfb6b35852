-- `zombrict::display::loads_read` meets its contract: a refusal of the text is handed on, else the entry is called with the counts that were read. Assumes nothing.
use Rattle.std.proofs.Common.{refl}
use Rattle.std.proofs.lemmas.Result.{err_from_is_err_and}
use Rattle.zombrict.specs.TextLaws.{loads-refused, loads-read}
use Rattle.zombrict.proofs.display.loads_read.Goals as goal

pub returns-in_err-n : goal.returns-in_err-n
returns-in_err-n c =
    let p = err_from_is_err_and c.from_residual.result c.from_residual.ensures.1 in
    rw (p.1, p.2)
    (loads-refused _ _ _ c.in_err-n.was)

pub returns : goal.returns
returns c = loads-read _ _ _ _ _ _ c.in_ok-n.was refl refl c.loads_at.ensures
