-- Assumes nothing.
use Prim.Native.Nat.{◌+◌}
use mathlib.Core.Path.{◌≡◌}
use mathlib.Core.Bool.{◌&&◌}
use lib.Dec.{leb, ltb}
use native.Mathlib.Omega.{arith}
use Rattle.std.proofs.lemmas.Grind.{common_steps}
use Rattle.gsdf.proofs.TableRule.{jnd_first, jnd_200, jnd_300, jnd_last}
use Rattle.target.specs.Target.{clearly_wide}
use Rattle.target.proofs.is_clearly_wide.Goals as goal

pub returns : goal.returns
unfolding clearly_wide
returns c =
    let black = c.args.added.0 + c.args.first.0 in
    let white = c.args.added.0 + c.args.last.0 in
    let dark : c.contains.result ≡ (leb 500 black && ltb black 82179) = grind (arith, common_steps) in
    let bright : c.contains-2.result ≡ (leb 233990 white && leb white 39934040) = grind (arith, common_steps) in
    rw (dark, bright, jnd_first, jnd_200, jnd_300, jnd_last)
