-- The loop's invariant is the record `Filling`. Assumes nothing.
use mathlib.Core.Path.{◌≡◌}
use Prim.Native.Nat.{◌*◌, min, max}
use native.Mathlib.Omega.{arith}
use Rattle.reach.proofs.Filling.{filling_none, filling_more}
use Rattle.reach.proofs.fill_row.Goals as goal
use Rattle.reach.proofs.fill_row.Goals.{else-loop-i-test, then-loop-i-test+then-part}

pub loop-i-init : goal.loop-i-init
loop-i-init c = filling_none _ _ _ _ _

pub loop-i-preserved : goal.loop-i-preserved
loop-i-preserved c =
    let at = c in
    filling_more at.requires at.loop-i.invariant (omega arith) (omega arith) at.max.ensures at.min.ensures at.fill_word-word.ensures

pub returns : goal.returns
returns c =
    let all : min (max c.args.run.from (c.loop-i.i * 32)) c.args.run.to ≡ c.args.run.to =
    elim c.loop-i-test.branch [ else-loop-i-test w ↦ omega arith | then-loop-i-test+then-part w ↦ omega (arith, w.max.ensures, w.min.ensures, w.if-part.true) ] in
    rw all at c.loop-i.invariant.filled
