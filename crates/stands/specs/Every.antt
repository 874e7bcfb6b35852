-- Every step of the method as one table of statements, with one proof in proofs/: where columns and a run of records stand for the same
-- candidates up to the first unused place before the step, they do after it. A statement says first that what the function over the records
-- asks of its run holds where what the columns' function asks for does, then what stands alike once both have run; clearing asks for its
-- room alone. What is asked of a job or of the tables is not about candidates, and is not repeated. The premises are what the contracts of
-- the functions named say. A statement stands in the file that is named last, and its proof in the file of that name in proofs/; that the
-- entries give the same is in `Entries`, in proofs/. Assumes nothing.
use Rattle.stands.specs.Steps.{PinAlike, WireAlike, JoinAlike, MoveAlike}
use Rattle.stands.specs.Choices.{SiteBegins, ChoiceAlike}
use Rattle.stands.specs.Puts.{PutAlike, SettleAlike}
use Rattle.stands.specs.Jobs.{SameSite, RepeatersAlike, SinkAlike}
use Rattle.stands.specs.Hangs.{AloneAlike, HangAlike}
use Rattle.stands.specs.Ends.{DriverAlike, ClearAlike}
use Rattle.stands.specs.Rows.{SinkListAlike, SeenAlike, BelowAlike, MakeAlike}

pub record EveryStep : Type 0 where
  -- a pin put down: `columns::cells::put_pin`; a pass that puts one record. Steps
  pub pin : PinAlike
  -- a list behind a wire: `wires::wire_list`; the pass `FirstWire`. Steps
  pub wire : WireAlike
  -- two lists joined where branches meet: `branches::join_lists`; the passes `Branch` and `Move`. Steps
  pub join : JoinAlike
  -- a list moved to a lower place: `columns::moves::move_list` and `move_down`; the pass `Move`. Steps
  pub move : MoveAlike
  -- a list that a site is to be put on, with nothing chosen yet. Choices
  pub begins : SiteBegins
  -- the best behind a type: `sites::put_choice`; the pass `FirstChoice`, and `stages::ends::end`. Choices
  pub choice : ChoiceAlike
  -- one put in: `inserts::put_in`; the pass `Insert`, and `stages::ends::end`. Puts
  pub put : PutAlike
  -- the columns' list moved to its place after the last was put in: `columns::moves::move_list`; nothing is done over the records. Puts
  pub settle : SettleAlike
  -- the number of a row's site, as `walks` and `jobs` each read it in their links. Jobs
  pub number : SameSite
  -- the repeaters of a site: `walks::steps::put_site`; `jobs::site` of a row that is no sink. Jobs
  pub repeaters : RepeatersAlike
  -- a sink's pin and its site: `walks::steps::start` and `put_site`; `jobs::site`. Jobs
  pub sink : SinkAlike
  -- the same made by one call: `walks::steps::pin_list`; `jobs::site`. Rows
  pub sink_list : SinkListAlike
  -- a row's list behind its wire, where no list waits: `walks::steps::wire_row`; `jobs::hang`. Hangs
  pub alone : AloneAlike
  -- and joined with the list that waits: `walks::steps::hang`; `jobs::hang`. Hangs
  pub hang : HangAlike
  -- the list at a row: `walks::seen`; `sights::seen`. Rows
  pub seen : SeenAlike
  -- the list of what hangs under a row: `walks::below`; `sights::below`. Rows
  pub below : BelowAlike
  -- the list at a row from the start of the work area: `chosen::make`; `sights::make`. Rows
  pub make : MakeAlike
  -- the choice at the driver: `picked::choose`; `records::choose`. Ends
  pub driver : DriverAlike
  -- the area cleared: `clearing::clear`; `records::clear`. Ends
  pub clear : ClearAlike
