use native.Mathlib.Omega.{arith}
use mir.ValLaws.{to_z-of_z}
use Rattle.contrast.proofs.neighbours.floor_div.Goals as goal

pub returns-then-n-lt0-2 : goal.returns-then-n-lt0-2
returns-then-n-lt0-2 c = grind (arith, to_z-of_z)
