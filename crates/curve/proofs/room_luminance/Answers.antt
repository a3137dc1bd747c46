use Rattle.std.proofs.Common.{rules}
use Rattle.curve.specs.Room.{room_luminance}
use Rattle.curve.proofs.room_luminance.Goals as goal

pub returns : goal.returns
unfolding room_luminance
returns c = search rules
