use Rattle.std.proofs.Common.{rules}
use Rattle.curve.specs.Room.{room_mark}
use Rattle.curve.proofs.room_mark.Goals as goal

pub returns-then-light-black : goal.returns-then-light-black
unfolding room_mark
returns-then-light-black c = search rules

pub returns-else-light-black : goal.returns-else-light-black
unfolding room_mark
returns-else-light-black c = search rules
