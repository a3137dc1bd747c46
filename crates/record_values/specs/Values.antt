-- The results of both readers in bare numbers.
use Rattle.std.specs.Prelude.{ℕ, List, ◌≡◌, length, take, Result, Ok, Err}
use Rattle.record.specs.Refusals.{refusal_number}
use Rattle.record.specs.Reader.{lists_of}
use Rattle.record.specs.Sections.{after, Lists, sections, settings_in, lamps_in, ddls_in, luminances_in, check_in}
use Rattle.record.specs.Tests.{meter_number, class_number, answer_of}
use Rattle.record.specs.declared.Job.{Job}
use Rattle.record.specs.declared.Refusal.{Refusal}
use Rattle.record.specs.declared.items.JobRecord.{JobRecord}
use Rattle.record_values.specs.declared.Numbers.{Numbers}
use Rattle.record_values.specs.declared.RecordValues.{RecordValues}

-- the numbers of an answer
abbrev pub numbers_of : Result Job Refusal → Numbers
numbers_of (Ok job) = record {
  refusal = 0;
  depth = job.settings.depth;
  meter = meter_number job.settings.meter;
  class = class_number job.settings.class;
  reflectance = job.settings.reflectance.0;
  tolerance = job.settings.tolerance;
  lux = job.lamps.0;
}
numbers_of (Err r) = record {
  refusal = refusal_number r;
  depth = 0;
  meter = 0;
  class = 0;
  reflectance = 0;
  tolerance = 0;
  lux = 0;
}

-- r holds an answer and the lists of a record; no list of one that is refused with 2 to 4
pub record Holds (job : Result Job Refusal) (lists : Result Lists Refusal) (r : RecordValues) : Type 0 where
  pub answer : r.answer ≡ numbers_of job
  pub given : r.given ≡ length (settings_in lists)
  pub settings : take r.given r.settings ≡ settings_in lists
  pub sources : r.sources ≡ length (lamps_in lists)
  pub lamps : take r.sources r.lamps ≡ lamps_in lists
  pub readings : r.readings ≡ length (ddls_in lists)
  pub ddls : take r.readings r.ddls ≡ ddls_in lists
  pub luminances : take r.readings r.luminances ≡ luminances_in lists
  pub patches : r.patches ≡ length (check_in lists)
  pub check : take r.patches r.check ≡ check_in lists

-- r is read from the bytes s
abbrev pub ValuesOf : List ℕ → RecordValues → Type 0
ValuesOf s r = Holds (answer_of s) (sections s) r

-- r holds what a reader found
abbrev pub Shows : Result JobRecord Refusal → RecordValues → Type 0
Shows found r = Holds (after found (λ x. x.job)) (after found (λ x. Ok (lists_of x))) r
