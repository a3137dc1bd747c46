-- The light of the room. Luminances are in units of 0.0001 cd/m².
use Rattle.std.specs.Prelude.{ℕ, ◌*◌, cond, leb}
use Rattle.record.specs.declared.Meter.{Meter}
use Rattle.record.specs.declared.Meter.TheVariants.{Contact, Telescopic}
use Rattle.curve.specs.declared.RoomMark.{RoomMark}
use Rattle.curve.specs.declared.RoomMark.TheVariants.{Low, High}

-- A0 of document 01: the sum of the lamps in lux, times Rd in units of 0.0001 per steradian
unfoldable pub room_luminance : (lux rd : ℕ) → ℕ
room_luminance lux rd = lux * rd

-- A of document 01: what a reading lacks of the light that the eye sees; a telescopic meter sees the room too
abbrev pub added_luminance : Meter → (room : ℕ) → ℕ
added_luminance Contact room = room
added_luminance Telescopic room = 0

-- the room mark, by A0 and the first sweep reading as recorded
unfoldable pub room_mark : (room first : ℕ) → RoomMark
room_mark room first = cond (leb (4 * room) first) Low High

-- the room mark as a number; document 01 has words alone
abbrev pub mark_number : RoomMark → ℕ
mark_number Low = 0
mark_number High = 1
