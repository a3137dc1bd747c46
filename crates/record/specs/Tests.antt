-- Tests 5, 6 and 7, over the lists of a record alone.
use Rattle.std.specs.Prelude.{ℕ, ◌-◌, ◌^◌, List, Bool, cond, ◌&&◌, length, get_or, leb, eqb, sum, Result, Ok, Err}
use Rattle.std.specs.List.{list_all}
use Rattle.laws.specs.Rises.{rises_by}
use Rattle.record.specs.Sections.{after, sections}
use Rattle.record.specs.declared.Refusal.{Refusal}
use Rattle.record.specs.declared.Refusal.TheVariants.{OutOfRange, DdlsDoNotSpan, LuminanceFalls}
use Rattle.record.specs.declared.Meter.{Meter}
use Rattle.record.specs.declared.Meter.TheVariants.{Contact, Telescopic}
use Rattle.record.specs.declared.Class.{Class}
use Rattle.record.specs.declared.Class.TheVariants.{Primary, Secondary}
use Rattle.record.specs.declared.JobSettings.{JobSettings}
use Rattle.record.specs.declared.Job.{Job}

-- n is from low to high
abbrev pub within : ℕ → ℕ → ℕ → Bool
within low high n = leb low n && leb n high

-- the five settings in their order: depth b, meter, class, Rd, allowed error w
unfoldable pub settings_in_range : List ℕ → Bool
settings_in_range xs =
    within 8 10 (get_or xs 0 0) && within 0 1 (get_or xs 1 0) && within 1 2 (get_or xs 2 0) && within 0 1000 (get_or xs 3 0) && within 0 1000 (get_or xs 4 0)

-- each element is at most m
unfoldable pub all_up_to : ℕ → List ℕ → Bool
all_up_to m xs = list_all (λ x. leb x m) xs

abbrev pub lamps_in_range : List ℕ → Bool
lamps_in_range = all_up_to 2000

-- M of document 01: the largest drive level of depth b
abbrev pub max_ddl : ℕ → ℕ
max_ddl b = 2 ^ b - 1

-- from 0, strictly rising, to m
abbrev pub spans : ℕ → List ℕ → Bool
spans m ddls = eqb (get_or ddls 0 0) 0 && rises_by 1 ddls && eqb (get_or ddls (length ddls - 1) 0) m

-- none below the one before it
abbrev pub is_never_falling : List ℕ → Bool
is_never_falling luminances = rises_by 0 luminances

-- a meter by its number, of which test 5 admits 0 and 1
abbrev pub meter_of : ℕ → Meter
meter_of n = cond (eqb n 0) Contact Telescopic

-- a class by its number, of which test 5 admits 1 and 2
abbrev pub class_of : ℕ → Class
class_of n = cond (eqb n 1) Primary Secondary

-- their numbers in document 01
abbrev pub meter_number : Meter → ℕ
meter_number Contact = 0
meter_number Telescopic = 1

abbrev pub class_number : Class → ℕ
class_number Primary = 1
class_number Secondary = 2

unfoldable pub settings_of : List ℕ → JobSettings
settings_of xs = record {
  depth = get_or xs 0 0;
  meter = meter_of (get_or xs 1 0);
  class = class_of (get_or xs 2 0);
  reflectance = record { 0 = get_or xs 3 0 };
  tolerance = get_or xs 4 0;
}

abbrev pub job_of : List ℕ → List ℕ → Job
job_of settings lamps = record { settings = settings_of settings; lamps = record { 0 = sum lamps } }

-- the result where the test passes, else the refusal
abbrev pub unless : {A : Type 0} → Bool → Refusal → Result A Refusal → Result A Refusal
unless test r result = cond test result (Err r)

-- tests 5, 6 and 7 in their order
unfoldable pub judged : (settings lamps ddls luminances : List ℕ) → Result Job Refusal
judged settings lamps ddls luminances =
    unless (settings_in_range settings && lamps_in_range lamps) OutOfRange
    (unless (spans (max_ddl (get_or settings 0 0)) ddls) DdlsDoNotSpan
    (unless (is_never_falling luminances) LuminanceFalls
    (Ok (job_of settings lamps))))

-- what a record of any bytes gives: its job, or the one refusal from 2 to 7
unfoldable pub answer_of : List ℕ → Result Job Refusal
answer_of s = after (sections s) (λ l. judged l.settings l.lamps l.ddls l.luminances)
