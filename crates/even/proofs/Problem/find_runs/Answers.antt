-- One walk over the P-values. Assumes nothing.
use Prim.Native.Nat.{◌+◌}
use native.Mathlib.Omega.{arith}
use Rattle.even.proofs.Bound.{level, found_none, to_fits, finding_first, run_on, climbs, finding_more, found_all}
use Rattle.even.proofs.Steps.{step_rises}
use Rattle.even.proofs.Problem.find_runs.Goals as goal

pub returns-in_err-run : goal.returns-in_err-run
returns-in_err-run c =
    rw c.from_residual.ensures (found_none c.args.self.now.workable 0 _ _ c.args.self.now.workable.usable.some_target c.in_err-run.ensures)

pub loop-p-init : goal.loop-p-init
loop-p-init c = finding_first c.args.self.now.workable c.requires c.in_ok-run.ensures

pub overflow_cast-starts : goal.overflow_cast-starts
overflow_cast-starts c = omega (arith, level c.args.self.now.workable 0 c.in_ok-run.ensures, c.args.self.now.workable.levels)

pub overflow_cast-ends : goal.overflow_cast-ends
overflow_cast-ends c = omega (arith, to_fits c.args.self.now.workable 0 c.in_ok-run.ensures)

pub overflow_cast-starts-in-loop-p : goal.overflow_cast-starts-in-loop-p
overflow_cast-starts-in-loop-p c = omega (arith, level c.args.self.now.workable (c.loop-p.p + 1) c.in_ok-next.ensures, c.args.self.now.workable.levels)

pub overflow_cast-ends-in-loop-p : goal.overflow_cast-ends-in-loop-p
overflow_cast-ends-in-loop-p c = omega (arith, to_fits c.args.self.now.workable (c.loop-p.p + 1) c.in_ok-next.ensures)

pub run_up-requires-in-loop-p-clause-not_above : goal.run_up-requires-in-loop-p-clause-not_above
run_up-requires-in-loop-p-clause-not_above c = run_on c.args.self.now.workable c.requires c.loop-p.invariant c.loop-p-test.true

pub returns-in_err-next : goal.returns-in_err-next
returns-in_err-next c =
    rw c.from_residual-in_err-next.ensures
    (found_none c.args.self.now.workable (c.loop-p.p + 1) _ _ (omega arith) c.in_err-next.ensures)

pub offset_bounds-self-next : goal.offset_bounds-self-next
offset_bounds-self-next c = omega (arith, level c.args.self.now.workable (c.loop-p.p + 1) c.in_ok-next.ensures, c.args.self.now.workable.levels)

pub bounds-self-next : goal.bounds-self-next
bounds-self-next c = level c.args.self.now.workable (c.loop-p.p + 1) c.in_ok-next.ensures

pub offset_bounds-self-run : goal.offset_bounds-self-run
offset_bounds-self-run c = omega (arith, level c.args.self.now.workable c.loop-p.p c.loop-p.invariant.is, c.args.self.now.workable.levels)

pub bounds-self-run : goal.bounds-self-run
bounds-self-run c = level c.args.self.now.workable c.loop-p.p c.loop-p.invariant.is

pub overflow_sub-f : goal.overflow_sub-f
overflow_sub-f c = climbs c.args.self.now.workable c.requires c.loop-p.invariant c.loop-p-test.true c.in_ok-next.ensures

pub loop-p-preserved : goal.loop-p-preserved
loop-p-preserved c =
    rw (c.max-worst.ensures, c.step_deviation.ensures, c.wanted_step.ensures) (finding_more c.args.self.now.workable c.requires c.loop-p.invariant c.loop-p-test.true c.in_ok-next.ensures)

pub returns : goal.returns
returns c = found_all c.args.self.now.workable c.requires c.loop-p.invariant c.loop-p-test.false

pub step_deviation-requires : goal.step_deviation-requires
step_deviation-requires c = rw c.wanted_step.ensures (step_rises _ c.args.self.now.workable.usable 0 _ (omega arith))
