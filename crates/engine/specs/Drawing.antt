-- What stands between tests 2 to 10 of a record and its tables: what its functions ask and promise.
use Rattle.std.specs.Prelude.{ℕ, ◌+◌, ◌-◌, ◌≡◌, List, Ok, length, get_or}
use Rattle.record.specs.Sections.{sections, luminances_in}
use Rattle.record.specs.Tests.{answer_of}
use Rattle.record.specs.Reader.{ReadFrom}
use Rattle.record.specs.declared.Job.{Job}
use Rattle.curve.specs.Room.{room_mark}
use Rattle.target.specs.declared.IndexRange.{IndexRange}
use Rattle.engine.specs.Sound.{soundness, room_of, added_of, InRange}
use Rattle.engine.specs.declared.Light.{Light}
use Rattle.engine.specs.declared.TestedJob.{TestedJob}

-- the light of a job
abbrev pub light_of : Job → Light
light_of job = record { room = record { 0 = room_of job }; added = record { 0 = added_of job } }

-- the luminances of the first and the last reading, with A
abbrev pub black_of : (added : ℕ) (luminances : List ℕ) → ℕ
black_of added luminances = added + get_or luminances 0 0

abbrev pub white_of : (added : ℕ) (luminances : List ℕ) → ℕ
white_of added luminances = added + get_or luminances (length luminances - 1) 0

-- a record passed tests 2 to 10: what was read of it, its job and its light
pub record PassedTests (bytes : List ℕ) (tested : TestedJob) : Type 0 where
  pub read : ReadFrom bytes (Ok tested.found)
  pub accepted : answer_of bytes ≡ Ok tested.job
  pub light : tested.light ≡ light_of tested.job
  pub wide : InRange (black_of (added_of tested.job) (luminances_in (sections bytes))) (white_of (added_of tested.job) (luminances_in (sections bytes)))

-- some record did
abbrev pub SomeRecord : TestedJob → Type 0
SomeRecord tested = (bytes : List ℕ) × PassedTests bytes tested

-- a record is sound, with this curve, these indices and these targets
pub record Drawn (bytes : List ℕ) (tested : TestedJob) (curve : List ℕ) (indices : IndexRange) (targets : List ℕ) : Type 0 where
  pub is : soundness bytes ≡ Ok (record {
    accepted = tested.job;
    curve = curve;
    targets = targets;
    indices = indices;
    mark = room_mark (room_of tested.job) (get_or (luminances_in (sections bytes)) 0 0);
  })
