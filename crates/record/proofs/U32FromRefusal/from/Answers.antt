use Rattle.std.proofs.Common.{◌≡◌, ◌+◌, refl}
use denote.Enum.Declared.{tag_of}
use Rattle.record.specs.declared.Refusal.{Refusal}
use Rattle.record.specs.declared.Refusal.TheVariants.{LentTooShort, RecordTooShort, CountNotPermitted, TrailingBytes, OutOfRange, DdlsDoNotSpan, LuminanceFalls, BlackBelowTable, WhiteAboveTable, RangeTooNarrow, NoTable, CheckOutsideTable, CheckRangeTooNarrow}
use Rattle.record.specs.contracts.Refusal.{the_type}
use Rattle.record.specs.Refusals.{refusal_number}
use Rattle.record.proofs.U32FromRefusal.from.Goals as goal

numbered : (r : Refusal) → tag_of the_type r + 1 ≡ refusal_number r
numbered LentTooShort = refl
numbered RecordTooShort = refl
numbered CountNotPermitted = refl
numbered TrailingBytes = refl
numbered OutOfRange = refl
numbered DdlsDoNotSpan = refl
numbered LuminanceFalls = refl
numbered BlackBelowTable = refl
numbered WhiteAboveTable = refl
numbered RangeTooNarrow = refl
numbered NoTable = refl
numbered CheckOutsideTable = refl
numbered CheckRangeTooNarrow = refl

pub returns : goal.returns
returns c = numbered c.args.r
