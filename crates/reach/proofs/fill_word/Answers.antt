-- The loop's invariant is the record `Gathering`. Assumes nothing.
use mathlib.Core.Path.{◌≡◌}
use mir.Facts.{clash}
use Prim.Native.Nat.{max, ◌%◌}
use native.Mathlib.Omega.{arith}
use Rattle.std.proofs.lemmas.Nat.{one_shl}
use Rattle.reach.proofs.Words.{gathering_none, gathering_skip, gathering_mark, gathering_end}
use Rattle.reach.proofs.fill_word.Goals as goal
use Rattle.reach.proofs.fill_word.Goals.{in-Some+then-from-luminance, in-Some+else-from-luminance, in-None}

pub loop-d-init : goal.loop-d-init
loop-d-init c = gathering_none _ _ _ _ _

pub loop-d-preserved : goal.loop-d-preserved
loop-d-preserved c =
    let at = c in
    let (asks, one) = at.requires in
    let h = at.loop-d.invariant in
    elim c.match-first_lit.branch [
      | in-Some+then-from-luminance w ↦ let (l, first) = rw at.from-luminance.ensures at w.in-Some.ensures in
          rw (w.bits-is, w.q-is, one_shl (at.loop-d.d % 32) 32 (omega arith)) (gathering_mark h asks (omega arith) at.max.ensures first one l (omega (arith, w.from.ensures, at.from-luminance.ensures, w.if-from-luminance.true)))
      | in-Some+else-from-luminance w ↦ let (l, first) = rw at.from-luminance.ensures at w.in-Some.ensures in
          rw (w.bits-is, w.q-is) (gathering_skip h asks (omega arith) at.max.ensures first (λ _. omega (arith, w.from.ensures, at.from-luminance.ensures, w.if-from-luminance.false)))
      | in-None w ↦
          let e : max at.max.result at.args.next.to ≡ at.args.next.to = omega arith in
          rw (w.bits-is, w.q-is) (gathering_skip h asks (omega arith) at.max.ensures (rw (e, at.from-luminance.ensures) at w.in-None.ensures) (λ l. clash l (omega arith)))
    ]

pub returns-then-left : goal.returns-then-left
returns-then-left c = gathering_end c.loop-d.invariant c.requires.0.never_falls (omega arith) (omega arith)
