use Rattle.std.proofs.Common.{◌≡◌, ℕ}
use Rattle.units.specs.declared.Luminance.{Luminance}
use Rattle.engine.specs.declared.Light.{Light}
use Rattle.engine.proofs.light_of.Goals as goal

light_by : {room added : Luminance} {a b : ℕ} → room.0 ≡ a → added.0 ≡ b → ◌≡◌ {A = Light} (record { room = room; added = added }) (record { room = record { 0 = a }; added = record { 0 = b } })
light_by e f = rw (← e, ← f)

pub returns : goal.returns
returns c = light_by c.room_luminance-room.ensures (rw (← c.room_luminance-room.ensures) c.added_luminance-added.ensures)
