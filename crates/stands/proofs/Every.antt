-- The one proof of the table of steps: each part is the theorem of its step. Assumes nothing.
use Rattle.stands.proofs.Steps.{pin-alike, wire-alike, join-alike, move-alike}
use Rattle.stands.proofs.Choices.{site-begins, choice-alike}
use Rattle.stands.proofs.Puts.{put-alike, settle-alike}
use Rattle.stands.proofs.Jobs.{same-site, repeaters-alike, sink-alike}
use Rattle.stands.proofs.Hangs.{alone-alike, hang-alike}
use Rattle.stands.proofs.Ends.{driver-alike, clear-alike}
use Rattle.stands.proofs.Rows.{sink-list-alike, seen_alike, below_alike, make-alike}
use Rattle.stands.specs.Every.{EveryStep}

pub every-step : EveryStep
every-step = record {
  pin = pin-alike;
  wire = wire-alike;
  join = join-alike;
  move = move-alike;
  begins = site-begins;
  choice = choice-alike;
  put = put-alike;
  settle = settle-alike;
  number = same-site;
  repeaters = repeaters-alike;
  sink = sink-alike;
  sink_list = sink-list-alike;
  alone = alone-alike;
  hang = hang-alike;
  seen = seen_alike;
  below = below_alike;
  make = make-alike;
  driver = driver-alike;
  clear = clear-alike;
}
