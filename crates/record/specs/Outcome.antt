-- What can come of a record: one case for each refusal from 2 to 7, and one for an accepted record. How the record is laid out is stated here by its
-- written form, and not by reading it; the tests of its lists are those of `Tests`.
use Rattle.std.specs.Prelude.{ℕ, ◌*◌, ◌<◌, List, ◌∷◌, ◌++◌, not, ◌&&◌, ◌≡◌, length, get_or, T, Result, Ok, Err}
use Rattle.record.specs.Bytes.{bytes16}
use Rattle.record.specs.Sections.{permitted, width, Lists}
use Rattle.record.specs.Tests.{settings_in_range, lamps_in_range, spans, max_ddl, is_never_falling, job_of}
use Rattle.record.specs.Written.{section, written, Writable}
use Rattle.record.specs.declared.Section.{Section}
use Rattle.record.specs.declared.Section.TheVariants.{Settings, Lamps, Sweep, Check}
use Rattle.record.specs.declared.Refusal.{Refusal}
use Rattle.record.specs.declared.Refusal.TheVariants.{RecordTooShort, CountNotPermitted, TrailingBytes, OutOfRange, DdlsDoNotSpan, LuminanceFalls}
use Rattle.record.specs.declared.Job.{Job}

-- s is section k with a permitted count and all its items, and then more
pub record Whole (k : Section) (s more : List ℕ) : Type 0 where
  pub count : ℕ
  pub items : List ℕ
  pub may : T (permitted k count)
  pub all : length items ≡ count * width k
  pub is : s ≡ section count items more

-- the sections before k stand whole at the front of s, and then t
pub data Reached (s : List ℕ) : Section → List ℕ → Type 0 where
  to_settings : Reached s Settings s
  to_lamps : {t : List ℕ} → Whole Settings s t → Reached s Lamps t
  to_sweep : {t u : List ℕ} → Reached s Lamps t → Whole Lamps t u → Reached s Sweep u
  to_check : {t u : List ℕ} → Reached s Sweep t → Whole Sweep t u → Reached s Check u

-- t, in which section k should stand, ends in its count, or after a permitted count in its items
pub data EndsIn (k : Section) (t : List ℕ) : Type 0 where
  count_cut : length t < 2 → EndsIn k t
  items_cut : (n : ℕ) (items : List ℕ) → t ≡ bytes16 n ++ items → T (permitted k n) → length items < n * width k → EndsIn k t

-- t, in which section k should stand, begins with a count that is not permitted
pub record Barred (k : Section) (t : List ℕ) : Type 0 where
  pub count : ℕ
  pub fits : count < 65536
  pub more : List ℕ
  pub is : t ≡ bytes16 count ++ more
  pub may_not : T (not (permitted k count))

-- s is the written form of five lists
pub record Holds (s : List ℕ) (l : Lists) : Type 0 where
  pub writable : Writable l
  pub is : s ≡ written l

-- what can come of s: 2, 3 and 4 by how it is laid out, 5, 6 and 7 by its lists, or none of them
pub data Outcome (s : List ℕ) : Type 0 where
  -- 2
  too_short : {k : Section} {t : List ℕ} → Reached s k t → EndsIn k t → Outcome s
  -- 3
  not_permitted : {k : Section} {t : List ℕ} → Reached s k t → Barred k t → Outcome s
  -- 4
  trailing : {t : List ℕ} {x : ℕ} {more : List ℕ} → Reached s Check t → Whole Check t (x ∷ more) → Outcome s
  -- 5
  out_of_range : {l : Lists} → Holds s l → T (not (settings_in_range l.settings && lamps_in_range l.lamps)) → Outcome s
  -- 6
  not_spanning : {l : Lists} → Holds s l → T (settings_in_range l.settings && lamps_in_range l.lamps) → T (not (spans (max_ddl (get_or l.settings 0 0)) l.ddls)) → Outcome s
  -- 7
  falls : {l : Lists} → Holds s l → T (settings_in_range l.settings && lamps_in_range l.lamps) → T (spans (max_ddl (get_or l.settings 0 0)) l.ddls) → T (not (is_never_falling l.luminances)) → Outcome s
  -- accepted
  passes : {l : Lists} → Holds s l → T (settings_in_range l.settings && lamps_in_range l.lamps) → T (spans (max_ddl (get_or l.settings 0 0)) l.ddls) → T (is_never_falling l.luminances) → Outcome s

-- the answer that each case has
abbrev pub answer_for : {s : List ℕ} → Outcome s → Result Job Refusal
answer_for (too_short r e) = Err RecordTooShort
answer_for (not_permitted r b) = Err CountNotPermitted
answer_for (trailing r w) = Err TrailingBytes
answer_for (out_of_range h a) = Err OutOfRange
answer_for (not_spanning h a b) = Err DdlsDoNotSpan
answer_for (falls h a b c) = Err LuminanceFalls
answer_for (passes {l} h a b c) = Ok (job_of l.settings l.lamps)

-- some outcome of s has this answer
pub record Under (s : List ℕ) (answer : Result Job Refusal) : Type 0 where
  pub outcome : Outcome s
  pub is : answer_for outcome ≡ answer

-- s is the written form of five lists, of which this is the job
pub record WrittenJob (s : List ℕ) (job : Job) : Type 0 where
  pub lists : Lists
  pub holds : Holds s lists
  pub is : job ≡ job_of lists.settings lists.lamps
