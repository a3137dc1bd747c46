-- The steps of luminance whose step deviation is at most k, where the target rises by g: those from `least_step` to `most_step`.
use Rattle.std.specs.Prelude.{ℕ, ◌+◌, ◌-◌, ◌*◌, ◌/◌}
use Rattle.reach.specs.declared.Span.{Span}
use Rattle.even.specs.Even.{Given, target_step}

abbrev pub least_step : (k g : ℕ) → ℕ
least_step k g = (1000 * g - k * g + 999) / 1000

abbrev pub most_step : (k g : ℕ) → ℕ
most_step k g = (1000 * g + k * g) / 1000

-- those from p to the next P-value
abbrev pub span_of : Given → (k p : ℕ) → Span
span_of x k p = record { least = least_step k (target_step x p); most = most_step k (target_step x p) }
