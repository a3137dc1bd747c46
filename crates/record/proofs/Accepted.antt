-- What an accepted record promises to the layers above.
-- Assumes nothing.
use Prim.Native.Nat.{ℕ, ◌-◌, ◌≤◌}
use mathlib.Core.Path.{◌≡◌, refl}
use mathlib.Core.List.{List}
use lib.ListN.{length, get_or}
use lib.Dec.{T}
use native.Mathlib.Omega.{arith}
use Rattle.std.specs.Prelude.{Result, Ok, Err}
use Rattle.laws.specs.Rises.{rises_by}
use Rattle.laws.proofs.Rises.{rises_at}
use Rattle.record.specs.Sections.{Counts, Lists, permitted, sections, lists_at, layout_of}
use Rattle.record.specs.Tests.{settings_in_range, lamps_in_range, max_ddl, is_never_falling, settings_of, job_of, judged, answer_of}
use Rattle.record.specs.Accepted.{AcceptedJob}
use Rattle.record.specs.declared.Section.TheVariants.{Sweep, Check}
use Rattle.record.specs.declared.Refusal.{Refusal}
use Rattle.record.specs.declared.Job.{Job}
use Rattle.record.proofs.Fields.{fields_length}
use Rattle.record.proofs.Placed.{placed, sizes}
use Rattle.record.proofs.Scans.{sum_up_to}

-- the settings are in range
record Ranges (st : List ℕ) : Type 0 where
  depth_low : 8 ≤ get_or st 0 0
  depth_high : get_or st 0 0 ≤ 10
  meter : get_or st 1 0 ≤ 1
  class_low : 1 ≤ get_or st 2 0
  class_high : get_or st 2 0 ≤ 2
  reflectance : get_or st 3 0 ≤ 1000
  tolerance : get_or st 4 0 ≤ 1000

ranges : (st : List ℕ) → T (settings_in_range st) → Ranges st
unfolding settings_in_range
ranges st t = grind arith

-- all three tests passed
record Passed (st la dd lu : List ℕ) (job : Job) : Type 0 where
  settings : T (settings_in_range st)
  lamps : T (lamps_in_range la)
  first : get_or dd 0 0 ≡ 0
  last : get_or dd (length dd - 1) 0 ≡ max_ddl (get_or st 0 0)
  ddls_rise : T (rises_by 1 dd)
  luminances_keep : T (is_never_falling lu)
  is : job ≡ job_of st la

passed : (st la dd lu : List ℕ) (job : Job) → judged st la dd lu ≡ Ok job → Passed st la dd lu job
unfolding judged
passed st la dd lu job e = grind arith

-- the record's lists, tested
module _ (s : List ℕ) (job : Job) (h : answer_of s ≡ Ok job) where
  from_lists : (l : Lists) → sections s ≡ Ok l → length l.lamps ≤ 8 → T (permitted Sweep (length l.ddls)) → length l.luminances ≡ length l.ddls → T (permitted Check (length l.check)) → AcceptedJob s job
  unfolding answer_of settings_of
  from_lists l e k m n o =
      let p = passed l.settings l.lamps l.ddls l.luminances job (simp e at h) in
      let r = ranges l.settings p.settings in
      grind (arith, sum_up_to 2000 l.lamps p.lamps, rises_at 1 l.ddls, rises_at 0 l.luminances)

  from_layout : (n : Result Counts Refusal) → layout_of s ≡ n → AcceptedJob s job
  unfolding answer_of sections
  from_layout (Err r) e = grind arith
  from_layout (Ok n) e =
      let p = placed s n e in
      let z = sizes s n e in
      from_lists (lists_at s n) (rw e) (rw fields_length z.lamps) (grind (arith, fields_length {A = ℕ})) (grind (arith, fields_length {A = ℕ})) (grind (arith, fields_length {A = ℕ}))

  pub accepted_job : AcceptedJob s job
  accepted_job = from_layout (layout_of s) refl
