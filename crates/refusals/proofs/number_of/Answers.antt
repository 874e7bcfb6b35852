-- `refusals::number_of` meets its contract: each refusal has the number that the list of refusals gives it. Assumes nothing.
use mathlib.Core.Path.{refl}
use Rattle.refusals.proofs.number_of.Goals as goal

pub returns-in-Form : goal.returns-in-Form
returns-in-Form c = rw c.in-Form.is refl

pub returns-in-Range : goal.returns-in-Range
returns-in-Range c = rw c.in-Range.is refl

pub returns-in-Room : goal.returns-in-Room
returns-in-Room c = rw c.in-Room.is refl

pub returns-in-Parent : goal.returns-in-Parent
returns-in-Parent c = rw c.in-Parent.is refl

pub returns-in-Childless : goal.returns-in-Childless
returns-in-Childless c = rw c.in-Childless.is refl

pub returns-in-Mark : goal.returns-in-Mark
returns-in-Mark c = rw c.in-Mark.is refl

pub returns-in-Short : goal.returns-in-Short
returns-in-Short c = rw c.in-Short.is refl

pub returns-in-NoRow : goal.returns-in-NoRow
returns-in-NoRow c = rw c.in-NoRow.is refl
