-- What follows from the promise of the nearest table.
use Rattle.std.specs.Prelude.{ℕ, ◌≤◌, ◌<◌, ◌≡◌, List, Ok, length, get_or}
use Rattle.nearest.specs.Nearest.{error_at, nearest_level}
use Rattle.record.specs.Refusals.{refusal_number}
use Rattle.record.specs.declared.Refusal.{Refusal}
use Rattle.engine.specs.Sound.{SoundJob, soundness, IsSound}
use Rattle.engine.specs.Nearest.{NearestValues, nearest_values, nearest_answer, nearest_lent}
use Rattle.engine.specs.declared.NearestFigures.{NearestFigures}

-- a table that was made, of 256 entries or more that were lent
pub record MadeTable (bytes before after : List ℕ) (figures : NearestFigures) : Type 0 where
  -- the job is sound
  pub job : SoundJob
  pub is : soundness bytes ≡ Ok job
  pub known : IsSound job
  -- Jlo, Jhi, N and the room mark are its
  pub indices : figures.indices ≡ job.indices
  pub mark : figures.mark ≡ job.mark
  -- the first 256 entries: each is a level of the display, none nearer to the target, and each lower one farther
  pub entries : (p : ℕ) → p < 256 → get_or after p 0 ≡ nearest_level job.curve (get_or job.targets p 0)
  pub levels : (p : ℕ) → p < 256 → get_or after p 0 < length job.curve
  pub least : (p d : ℕ) → p < 256 → d < length job.curve → error_at job.curve (get_or job.targets p 0) (get_or after p 0) ≤ error_at job.curve (get_or job.targets p 0) d
  pub first : (p d : ℕ) → p < 256 → d < get_or after p 0 → error_at job.curve (get_or job.targets p 0) (get_or after p 0) < error_at job.curve (get_or job.targets p 0) d
  -- they never fall
  pub keeps : (p q : ℕ) → p ≤ q → q < 256 → get_or after p 0 ≤ get_or after q 0
  -- the later ones are as before, and as many
  pub size : length after ≡ length before
  pub later : (i : ℕ) → 256 ≤ i → get_or after i 0 ≡ get_or before i 0
  -- the figure is at least each entry's error, and no smaller number is
  pub largest : (p : ℕ) → p < 256 → error_at job.curve (get_or job.targets p 0) (get_or after p 0) ≤ figures.error.0
  pub no_larger : (e : ℕ) → ((p : ℕ) → p < 256 → error_at job.curve (get_or job.targets p 0) (get_or after p 0) ≤ e) → figures.error.0 ≤ e

-- the entries and the values are those of the equations
pub record Settled (bytes before after : List ℕ) (v : NearestValues) : Type 0 where
  pub entries : after ≡ nearest_lent bytes before
  pub values_are : v ≡ nearest_values (nearest_answer bytes (length before))

-- r is numbered from low to high
pub record Numbered (low high : ℕ) (r : Refusal) : Type 0 where
  pub from : low ≤ refusal_number r
  pub to : refusal_number r ≤ high
