use mathlib.Core.Path.{◌≡◌}
use Rattle.std.proofs.Common.{refl}
use denote.Enum.Declared.{tag_of}
use Rattle.curve.specs.contracts.RoomMark.{the_type}
use Rattle.curve.specs.declared.RoomMark.{RoomMark}
use Rattle.curve.specs.declared.RoomMark.TheVariants.{Low, High}
use Rattle.curve.specs.Room.{mark_number}
use Rattle.curve.proofs.U32FromRoomMark.from.Goals as goal

numbered : (mark : RoomMark) → tag_of the_type mark ≡ mark_number mark
numbered Low = refl
numbered High = refl

pub returns : goal.returns
returns c = numbered c.args.mark
