-- `zombrict::texts::plan_read` meets its contract: a refusal of the text is handed on, else the entry is called with the counts that were read. Assumes nothing.
use Rattle.std.proofs.Common.{refl}
use Rattle.std.proofs.lemmas.Result.{err_from_is_err_and}
use Rattle.zombrict.specs.TextLaws.{plan-refused, plan-read, pick-refused, pick-read}
use Rattle.zombrict.proofs.texts.plan_read.Goals as goal

pub returns-in_err-n : goal.returns-in_err-n
returns-in_err-n c =
    let p = err_from_is_err_and c.from_residual.result c.from_residual.ensures.1 in
    rw (p.1, p.2)
    (record { planned = plan-refused _ _ c.in_err-n.was; picked = pick-refused _ _ _ _ c.in_err-n.was })

pub returns : goal.returns
returns c = record { planned = plan-read _ _ _ _ _ c.in_ok-n.was refl refl c.plan_net.ensures.planned; picked = pick-read _ _ _ _ c.in_ok-n.was refl refl c.plan_net.ensures.picked }
