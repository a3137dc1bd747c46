-- The levels allowed at a P-value are a run: from where the curve enters the band around the target to where it leaves it.
use Rattle.std.specs.Prelude.{ℕ, ◌+◌, ◌-◌, ◌*◌, ◌/◌, ◌≤◌, ◌<◌, ◌≡◌, List, Option, Some, None, leb, length, get_or}
use Rattle.laws.specs.Search.{lowest}
use Rattle.reach.specs.declared.Run.{Run}
use Rattle.even.specs.Even.{Given, t}

-- the error allowed at p, as a luminance, rounded down
abbrev pub margin : Given → (p : ℕ) → ℕ
margin x p = x.tolerance * t x p / 1000

-- the ends of the band
abbrev pub darkest : Given → (p : ℕ) → ℕ
darkest x p = t x p - margin x p

abbrev pub brightest : Given → (p : ℕ) → ℕ
brightest x p = t x p + margin x p

-- the first level that is not darker than l; where all are, their number
unfoldable pub reaching : (curve : List ℕ) (l : ℕ) → ℕ
reaching curve l = lowest (λ d. leb l (get_or curve d 0)) (length curve)

-- the run of p: from the first level not below the band to the first above it
abbrev pub run_from : Given → (p : ℕ) → ℕ
run_from x p = reaching x.curve (darkest x p)

abbrev pub run_to : Given → (p : ℕ) → ℕ
run_to x p = reaching x.curve (brightest x p + 1)

abbrev pub run_of : Given → (p : ℕ) → Run
run_of x p = record { p = p; from = run_from x p; to = run_to x p }

-- neither end lies above that of the run of p
pub record NotAbove (x : Given) (p : ℕ) (run : Run) : Type 0 where
  pub from_low : run.from ≤ run_from x p
  pub to_low : run.to ≤ run_to x p

-- the run of p, or that it has no level
abbrev pub RunFound : Given → (p : ℕ) → Option Run → Type 0
RunFound x p (Some run) = (run.from < run.to) × (run ≡ run_of x p)
RunFound x p None = run_to x p ≤ run_from x p

-- two lists hold the runs of all P-values: where each starts, and where it has ended
pub record AreRuns (x : Given) (starts ends : List ℕ) : Type 0 where
  pub starts_fit : length x.targets ≤ length starts
  pub ends_fit : length x.targets ≤ length ends
  pub starts_are : (p : ℕ) → p < length x.targets → get_or starts p 0 ≡ run_from x p
  pub ends_are : (p : ℕ) → p < length x.targets → get_or ends p 0 ≡ run_to x p
