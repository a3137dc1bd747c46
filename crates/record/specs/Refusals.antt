-- The refusals and their numbers.
use Rattle.std.specs.Prelude.{ℕ}
use Rattle.record.specs.declared.Refusal.{Refusal}
use Rattle.record.specs.declared.Refusal.TheVariants.{LentTooShort, RecordTooShort, CountNotPermitted, TrailingBytes, OutOfRange, DdlsDoNotSpan, LuminanceFalls, BlackBelowTable, WhiteAboveTable, RangeTooNarrow, NoTable, CheckOutsideTable, CheckRangeTooNarrow}

-- the number of a refusal in document 01
abbrev pub refusal_number : Refusal → ℕ
refusal_number LentTooShort = 1
refusal_number RecordTooShort = 2
refusal_number CountNotPermitted = 3
refusal_number TrailingBytes = 4
refusal_number OutOfRange = 5
refusal_number DdlsDoNotSpan = 6
refusal_number LuminanceFalls = 7
refusal_number BlackBelowTable = 8
refusal_number WhiteAboveTable = 9
refusal_number RangeTooNarrow = 10
refusal_number NoTable = 11
refusal_number CheckOutsideTable = 12
refusal_number CheckRangeTooNarrow = 13
