use native.Mathlib.Nat.{mul-le-mul}
use native.Mathlib.Omega.{arith}
use Rattle.std.proofs.Common.{◌≡◌, ℕ, suc, ◌≤◌, ◌+◌, ◌-◌, ◌*◌, ◌/◌}
use Rattle.reach.specs.declared.Span.{Span}
use Rattle.even.specs.Steps.{least_step, most_step}
use Rattle.even.proofs.Problem.span.Goals as goal

pub overflow_mul-apart : goal.overflow_mul-apart
overflow_mul-apart c =
    let small : c.args.k * c.from-step.result ≤ 67108864000 * 67108864 = mul-le-mul {m₂ = 67108864} c.requires.0 (omega (arith, c.args.self.now.workable.targets_small (suc c.args.p))) in
    omega arith

span_is : (k g : ℕ) → ◌≡◌ {A = Span} (record { least = g - k * g / 1000; most = g + k * g / 1000 }) (record { least = least_step k g; most = most_step k g })
span_is k g =
    let least : g - k * g / 1000 ≡ least_step k g = omega arith in
    let most : g + k * g / 1000 ≡ most_step k g = omega arith in
    cc

pub returns : goal.returns
returns c = rw (c.saturating_sub.ensures, c.from-step.ensures, c.wanted_step.ensures) (span_is c.args.k _)
