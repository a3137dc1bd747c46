-- The nearest table of a record: each way that the operation ends.
-- Assumes nothing.
use mathlib.Core.Path.{◌≡◌}
use mathlib.Core.List.{List}
use Prim.Native.Nat.{ℕ, ◌≤◌, ◌<◌}
use native.Mathlib.Omega.{arith}
use lib.ListN.{length, get_or}
use borrow.Author.Tests.{le-ltb, lt-ltb}
use Rattle.std.specs.Prelude.{Ok, Err}
use Rattle.laws.specs.Rises.{NeverFalls}
use Rattle.record.specs.declared.Refusal.{Refusal}
use Rattle.record.specs.declared.Refusal.TheVariants.{LentTooShort}
use Rattle.record.specs.Sections.{sections, luminances_in}
use Rattle.curve.specs.Room.{room_mark}
use Rattle.curve.specs.declared.RoomMark.{RoomMark}
use Rattle.units.specs.declared.Luminance.{Luminance}
use Rattle.target.specs.declared.IndexRange.{IndexRange}
use Rattle.nearest.specs.Nearest.{Fillable, Filled}
use Rattle.engine.specs.Sound.{SoundJob, soundness, IsSound, room_of}
use Rattle.engine.specs.Nearest.{nearest_answer, nearest_lent, NearestPromise}
use Rattle.engine.specs.Drawing.{Drawn}
use Rattle.engine.specs.declared.TestedJob.{TestedJob}
use Rattle.engine.proofs.NearestOutcomes.{promised}
use Rattle.engine.proofs.Soundness.{sound_job}

-- targets that rise never fall
pub targets_keep : {job : SoundJob} → IsSound job → NeverFalls job.targets
targets_keep s = record { keeps = λ i k h l. grind (arith, s.targets_rise i k) }

module _ (bytes before : List ℕ) where
  pub too_short : length before < 256 → NearestPromise bytes before before (Err LentTooShort)
  unfolding nearest_answer nearest_lent
  too_short h = promised _ _ _ _ (simp (lt-ltb _ _ h)) (simp (lt-ltb _ _ h))

  module _ (long : 256 ≤ length before) where
    pub back : (r : Refusal) → soundness bytes ≡ Err r → NearestPromise bytes before before (Err r)
    unfolding nearest_answer nearest_lent
    back r e = promised _ _ _ _ (simp (le-ltb _ _ long, e)) (simp (le-ltb _ _ long, e))

    module _ {tested : TestedJob} {curve targets : List ℕ} {indices : IndexRange} (d : Drawn bytes tested curve indices targets) where
      pub fillable : Fillable curve targets before
      fillable = let known = sound_job bytes _ d.is in grind (arith, targets_keep known)

      pub filled : {mark : RoomMark} (after : List ℕ) (error : Luminance) → mark ≡ room_mark (room_of tested.job) (get_or (luminances_in (sections bytes)) 0 0)
          → Filled curve targets before after error.0
          → NearestPromise bytes before after (Ok (record { indices = indices; mark = mark; error = error }))
      unfolding nearest_answer nearest_lent
      filled after error m h = promised _ _ _ _ (simp (le-ltb _ _ long, d.is) (rw (m, ← h.largest))) (simp (le-ltb _ _ long, d.is) h.table)
