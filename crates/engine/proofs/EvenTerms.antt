-- The even table of a sound job in document 01's terms, and in those of its curve and its targets as lists.
-- Assumes nothing.
use Prim.Native.Nat.{ℕ, suc, ◌+◌, ◌-◌, ◌*◌, ◌≤◌, ◌<◌}
use mathlib.Core.Path.{◌≡◌, refl, sym, ◌∙◌}
use mathlib.Core.List.{List}
use native.Mathlib.Numerals.{add-one}
use native.Mathlib.Omega.{arith}
use lib.ListN.{length, get_or}
use Rattle.laws.specs.Numbers.{distance}
use Rattle.laws.proofs.Numbers.{max_same}
use Rattle.record.specs.Sections.{sections, ddls_in, luminances_in}
use Rattle.record.specs.declared.Job.{Job}
use Rattle.curve.specs.Curve.{Sweep}
use Rattle.curve.proofs.Laws as curve
use Rattle.target.proofs.Laws as target
use Rattle.even.specs.Even as lists
use Rattle.even.specs.Filled.{given, Workable}
use Rattle.engine.specs.Sound.{SoundJob, IsSound, added_of, top_of}
use Rattle.engine.specs.Conditions.{F, jlo, N, GoesOn, made_by}
use Rattle.engine.specs.Even.{given_by, w, t, WithinError, AllowedTable, step_deviation_at, worst_step, IsEvenTable}
use Rattle.engine.proofs.Conditions.{went_on}
use Rattle.engine.proofs.Reading.{measurable}
use Rattle.engine.proofs.Soundness.{sound_job}

-- curve and targets of a sound job, with its allowed error or another one in range, are what the even table asks
pub workable_within : {job : SoundJob} → IsSound job → (tolerance : ℕ) → tolerance ≤ 1000 → Workable (given job.curve job.targets tolerance)
workable_within s tolerance h = record {
  usable = record {
    some_level = omega (arith, s.levels_low);
    some_target = omega (arith, s.values);
    curve_keeps = s.curve_keeps;
    targets_rise = λ p l. s.targets_rise p (suc p) (omega arith) (omega (arith, s.values));
    tolerance_high = h;
  };
  levels = s.levels_high;
  values = omega (arith, s.values);
  curve_small = λ d l. omega (arith, (s.curve_in d l).high);
  targets_small = λ p l. omega (arith, (s.targets_in p (omega (arith, s.values))).high);
}

pub workable : {job : SoundJob} → IsSound job → Workable (given_by job)
workable s = workable_within s _ s.tolerance

-- x has the curve, the targets and the allowed error of a job
pub record Spells (bytes : List ℕ) (job : Job) (x : lists.Given) : Type 0 where
  pub levels : length x.curve ≡ top_of job + 1
  pub values : length x.targets ≡ 256
  pub curve_at_level : (d : ℕ) → d ≤ top_of job → get_or x.curve d 0 ≡ F bytes job d
  pub target_at_value : (p : ℕ) → p < 256 → get_or x.targets p 0 ≡ t bytes job p
  pub error : x.tolerance ≡ w job

module _ {bytes : List ℕ} {job : Job} (g : GoesOn bytes job) where
  pub known : IsSound (made_by bytes job)
  known = sound_job bytes _ (went_on g)

  sweep : Sweep (ddls_in (sections bytes)) (luminances_in (sections bytes)) (top_of job)
  sweep = (measurable bytes g.accepted).sweep

  pub spells : Spells bytes job (given_by (made_by bytes job))
  unfolding made_by
  spells = record {
    levels = curve.curve_length sweep (added_of job);
    values = known.values;
    curve_at_level = λ d h. curve.curve_level sweep (added_of job) d 0 h;
    target_at_value = λ p h. target.targets_at (jlo bytes job) (N bytes job) 255 p 0 (omega arith);
    error = refl;
  }

-- an allowed level by equal numbers
near_same : {a b c d e f : ℕ} → a ≡ b → c ≡ d → e ≡ f → distance a c * 1000 ≤ e * c → distance b d * 1000 ≤ f * d
near_same i j k h = rw (← i, ← j, ← k) h

module _ {bytes : List ℕ} {job : Job} {x : lists.Given} (s : Spells bytes job x) where
  -- ---- a list within the error

  pub in_terms : {levels : List ℕ} → lists.Within x levels → WithinError bytes job levels
  in_terms {levels} h = record {
    size = h.one_each ∙ s.values;
    level = level;
    near = λ p l. near_same (s.curve_at_level (get_or levels p 0) (level p l)) (s.target_at_value p l) s.error (h.near p (rw s.values l));
  }
    where
      level : (p : ℕ) → p < 256 → get_or levels p 0 ≤ top_of job
      level p l = omega (arith, h.level p (rw s.values l), s.levels)

  pub in_lists : {levels : List ℕ} → WithinError bytes job levels → lists.Within x levels
  in_lists {levels} h = record {
    one_each = h.size ∙ sym s.values;
    level = λ p l. omega (arith, h.level p (rw s.values at l), s.levels);
    near = λ p l.
        let k : p < 256 = rw s.values at l in
        near_same (sym (s.curve_at_level (get_or levels p 0) (h.level p k))) (sym (s.target_at_value p k)) (sym s.error) (h.near p k);
  }

  allowed_in_lists : {table : List ℕ} → AllowedTable bytes job table → lists.AllowedTable x table
  allowed_in_lists a = record { within = in_lists a.within; never_falls = a.never_falls }

  allowed_in_terms : {table : List ℕ} → lists.AllowedTable x table → AllowedTable bytes job table
  allowed_in_terms a = record { within = in_terms a.within; never_falls = a.never_falls }

  -- ---- its worst step

  pub worst_same : {table : List ℕ} → WithinError bytes job table → lists.worst_step x table ≡ worst_step bytes job table
  worst_same {table} h =
      let n : length x.targets - 1 ≡ 255 = omega (arith, s.values) in
      rw n (max_same _ _ 255 step)
    where
      step : (p : ℕ) → p < 255 → lists.deviation_at x p (get_or table p 0) (get_or table (suc p) 0) ≡ step_deviation_at bytes job table p
      step p l =
          let e : p + 1 ≡ suc p = add-one p in
          let next : suc p < 256 = omega arith in
          let here : p < 256 = omega arith in
          rw (e, s.curve_at_level (get_or table p 0) (h.level p here), s.curve_at_level (get_or table (suc p) 0) (h.level (suc p) next), s.target_at_value p here, s.target_at_value (suc p) next)

  -- ---- the even table

  pub even_in_terms : {table : List ℕ} → lists.IsEven x table → IsEvenTable bytes job table
  even_in_terms {table} v =
      let ours = allowed_in_terms v.allowed in
      record {
        allowed = ours;
        least = λ other a. rw (sym (worst_same ours.within), sym (worst_same a.within)) (v.least other (allowed_in_lists a));
        lower = λ other a e p l f.
            v.lower other (allowed_in_lists a) (worst_same a.within ∙ e ∙ sym (worst_same ours.within)) p (rw s.values l) f;
      }

  pub even_in_lists : {table : List ℕ} → IsEvenTable bytes job table → lists.IsEven x table
  even_in_lists {table} v =
      let ours = allowed_in_lists v.allowed in
      record {
        allowed = ours;
        least = λ other a.
            let b = allowed_in_terms a in
            rw (worst_same v.allowed.within, worst_same b.within) (v.least other b);
        lower = λ other a e p l f.
            let b = allowed_in_terms a in
            v.lower other b (sym (worst_same b.within) ∙ e ∙ worst_same v.allowed.within) p (rw s.values at l) f;
      }
