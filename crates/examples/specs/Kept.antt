-- A work area of full room, all zero. Assumes nothing.
use Rattle.std.specs.Prelude.{◌*◌, replicate}
use Rattle.std.proofs.Math.IntN.{pos}
use Rattle.rules.specs.Quantities.{placement_room, work_room}
use Rattle.rules.specs.Areas.{Columns}

unfoldable pub blank_work : Columns
blank_work = record { loads = replicate work_room 0; times = replicate work_room (pos 0); words = replicate (placement_room * work_room) 0 }
