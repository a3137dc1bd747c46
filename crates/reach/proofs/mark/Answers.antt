-- The mask is a power of two. Assumes nothing.
use Prim.Native.Nat.{◌%◌}
use Rattle.reach.specs.Bits.{marked}
use native.Mathlib.Omega.{arith}
use Rattle.std.proofs.lemmas.Nat.{one_shl}
use Rattle.reach.proofs.mark.Goals as goal

pub returns : goal.returns
unfolding marked
returns c = simp (one_shl (c.args.place % 32) 32 (omega arith))
