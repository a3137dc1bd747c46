-- A shift and a mask read one digit. Assumes nothing.
use Rattle.std.proofs.lemmas.Nat.Bits.{shr_and_one}
use Rattle.reach.specs.Bits.{digit}
use Rattle.reach.proofs.Bits.{place_bit}
use Rattle.reach.proofs.test.Goals as goal

pub returns : goal.returns
unfolding digit
returns c = rw (shr_and_one, place_bit)
