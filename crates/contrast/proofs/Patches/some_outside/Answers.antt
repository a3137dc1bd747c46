-- Assumes nothing.
use mathlib.Core.Path.{◌≡◌}
use mathlib.Core.Bool.{true, false}
use lib.ListN.{take}
use Rattle.std.proofs.Common.{rules, tests}
use Rattle.std.proofs.lemmas.Iterator.{cases_from_any, YieldsList-from_slice}
use Rattle.contrast.proofs.Filling.{off, tested_is}
use Rattle.contrast.proofs.Patches.some_outside.Goals as goal

pub returns : goal.returns
returns c =
    tested_is _ _ c.args.self.now.patches _
    (cases_from_any _ _ _ (λ x. off c.args.self.now.added.0 x ≡ true) (λ x. off c.args.self.now.added.0 x ≡ false) c.any.ensures.ran
    (YieldsList-from_slice (take 18 c.args.self.now.readings.now) cc) (λ x q k. search (rules, tests)) (λ x q k. search (rules, tests)))
