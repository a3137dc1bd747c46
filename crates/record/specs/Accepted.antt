-- What is known of an accepted record: for the layers that work on its job and its readings.
use Rattle.std.specs.Prelude.{ℕ, suc, ◌-◌, ◌≤◌, ◌<◌, List, ◌≡◌, length, get_or, sum, T}
use Rattle.record.specs.Sections.{permitted, sections, settings_in, lamps_in, ddls_in, luminances_in, check_in}
use Rattle.record.specs.Tests.{meter_number, class_number, settings_of, max_ddl}
use Rattle.record.specs.declared.Section.TheVariants.{Sweep, Check}
use Rattle.record.specs.declared.Job.{Job}

pub record AcceptedJob (s : List ℕ) (job : Job) : Type 0 where
  -- the job is that of the record's settings and lamps
  pub settings : job.settings ≡ settings_of (settings_in (sections s))
  pub meter : meter_number job.settings.meter ≡ get_or (settings_in (sections s)) 1 0
  pub class : class_number job.settings.class ≡ get_or (settings_in (sections s)) 2 0
  pub lux : job.lamps.0 ≡ sum (lamps_in (sections s))
  -- and in range
  pub depth_low : 8 ≤ job.settings.depth
  pub depth_high : job.settings.depth ≤ 10
  pub reflectance : job.settings.reflectance.0 ≤ 1000
  pub tolerance : job.settings.tolerance ≤ 1000
  pub lux_high : job.lamps.0 ≤ 16000
  -- the readings are in order, and as many as they may be
  pub readings : T (permitted Sweep (length (ddls_in (sections s))))
  pub pairs : length (luminances_in (sections s)) ≡ length (ddls_in (sections s))
  pub patches : T (permitted Check (length (check_in (sections s))))
  pub first : get_or (ddls_in (sections s)) 0 0 ≡ 0
  pub last : get_or (ddls_in (sections s)) (length (ddls_in (sections s)) - 1) 0 ≡ max_ddl job.settings.depth
  pub ddls_rise : (i : ℕ) → suc i < length (ddls_in (sections s)) → get_or (ddls_in (sections s)) i 0 < get_or (ddls_in (sections s)) (suc i) 0
  pub luminances_keep : (i : ℕ) → suc i < length (luminances_in (sections s)) → get_or (luminances_in (sections s)) i 0 ≤ get_or (luminances_in (sections s)) (suc i) 0
