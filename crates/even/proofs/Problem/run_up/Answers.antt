use Rattle.std.proofs.Common.{refl}
use Rattle.even.proofs.Problem.run_up.Goals as goal

pub returns-then-to-from : goal.returns-then-to-from
returns-then-to-from c = rw (c.rise_to-to.ensures, c.rise_to-from.ensures, c.band-band.ensures.bright, c.band-band.ensures.dark) at c.if-to-from.true

pub returns : goal.returns
returns c = (c.if-to-from.false, rw (c.rise_to-to.ensures, c.rise_to-from.ensures, c.band-band.ensures.bright, c.band-band.ensures.dark) refl)
