-- The even table of a job record.
use Rattle.std.specs.Prelude.{ℕ, ◌+◌, ◌-◌, ◌*◌, ◌≤◌, ◌<◌, ◌≡◌, List, ◌++◌, Option, ok_or, Result, Ok, Err, Bool, if◌then◌else◌, nat_lt, ◌||◌, ◌⊎◌, ◌↔◌, length, get_or, take, drop}
use Rattle.laws.specs.Numbers.{distance, max_of}
use Rattle.laws.specs.Rises.{NeverFalls}
use Rattle.record.specs.Refusals.{refusal_number}
use Rattle.record.specs.Sections.{after}
use Rattle.record.specs.declared.Refusal.{Refusal}
use Rattle.record.specs.declared.Refusal.TheVariants.{LentTooShort, NoTable}
use Rattle.record.specs.declared.Job.{Job}
use Rattle.target.specs.Target.{target_at}
use Rattle.even.specs.Even.{Given, step_deviation, FirstDifference}
use Rattle.even.specs.Filled.{given, outcome_of, even_over}
use Rattle.engine.specs.Sound.{SoundJob, soundness, top_of}
use Rattle.engine.specs.Conditions.{F, jlo, N, SendsBack, GoesOn}
use Rattle.engine.specs.declared.EvenFigures.{EvenFigures}

-- ---- the answer and the lent entries, as equations

-- what the even table of a sound job is made for
abbrev pub given_by : SoundJob → Given
given_by job = given job.curve job.targets job.accepted.settings.tolerance

-- the worst step of its table, or refusal 11 where there is none
abbrev pub outcome_answer : Option ℕ → Result EvenFigures Refusal
outcome_answer outcome = after (ok_or outcome NoTable) (λ worst. Ok (record { worst = worst }))

abbrev pub even_of : Result SoundJob Refusal → Result EvenFigures Refusal
even_of x = after x (λ job. outcome_answer (outcome_of (given_by job)))

-- test 1: fewer than 256 entries, or fewer than 8,192 words
abbrev pub too_little : (entries words : ℕ) → Bool
too_little entries words = nat_lt entries 256 || nat_lt words 8192

-- the answer, by the bytes of the record and the numbers of entries and words lent
unfoldable pub even_answer : (bytes : List ℕ) (entries words : ℕ) → Result EvenFigures Refusal
even_answer bytes entries words = if too_little entries words then Err LentTooShort else even_of (soundness bytes)

abbrev pub even_entries : Result SoundJob Refusal → List ℕ → List ℕ
even_entries (Ok job) before = even_over (given_by job) before
even_entries (Err r) before = before

-- the lent entries afterwards: the table and the later ones as they were, or all as they were
unfoldable pub even_lent : (bytes before : List ℕ) (words : ℕ) → List ℕ
even_lent bytes before words = if too_little (length before) words then before else even_entries (soundness bytes) before

-- ---- document 01's even table

-- w of a job
abbrev pub w : Job → ℕ
w job = job.settings.tolerance

-- t of a job whose record has these bytes
abbrev pub t : (bytes : List ℕ) → Job → (p : ℕ) → ℕ
t bytes job = target_at (jlo bytes job) (N bytes job) 255

-- d is allowed at p
abbrev pub Allowed : (bytes : List ℕ) → Job → (p d : ℕ) → Type 0
Allowed bytes job p d = distance (F bytes job d) (t bytes job p) * 1000 ≤ w job * t bytes job p

-- 256 drive levels, 0 to M, falling or not, that miss no target by more than the allowed error
pub record WithinError (bytes : List ℕ) (job : Job) (levels : List ℕ) : Type 0 where
  pub size : length levels ≡ 256
  pub level : (p : ℕ) → p < 256 → get_or levels p 0 ≤ top_of job
  pub near : (p : ℕ) → p < 256 → Allowed bytes job p (get_or levels p 0)

-- an allowed table: such a list that never falls
pub record AllowedTable (bytes : List ℕ) (job : Job) (table : List ℕ) : Type 0 where
  pub within : WithinError bytes job table
  pub never_falls : NeverFalls table

-- its step deviation at p, 0 to 254. f is the step of the luminance, not below 0 since F and the table never fall; g is that of the target
abbrev pub step_deviation_at : (bytes : List ℕ) → Job → (table : List ℕ) (p : ℕ) → ℕ
step_deviation_at bytes job table p =
    step_deviation (F bytes job (get_or table (p + 1) 0) - F bytes job (get_or table p 0)) (t bytes job (p + 1) - t bytes job p)

-- its worst step: the largest deviation of its 255 steps
abbrev pub worst_step : (bytes : List ℕ) → Job → (table : List ℕ) → ℕ
worst_step bytes job table = max_of (step_deviation_at bytes job table) 255

-- the even table: allowed, of the least worst step, and lower than any other of that worst step where the two first differ
pub record IsEvenTable (bytes : List ℕ) (job : Job) (table : List ℕ) : Type 0 where
  pub allowed : AllowedTable bytes job table
  pub least : (other : List ℕ) → AllowedTable bytes job other → worst_step bytes job table ≤ worst_step bytes job other
  pub lower : (other : List ℕ) → AllowedTable bytes job other → worst_step bytes job other ≡ worst_step bytes job table
      → (p : ℕ) → p < 256 → FirstDifference table other p → get_or table p 0 < get_or other p 0

-- ---- the same in document 01's numbers and conditions

-- the worst step of a table that was made, or the number of a refusal
pub data EvenValues : Type 0 where
  worst : ℕ → EvenValues
  number : ℕ → EvenValues

abbrev pub even_values : Result EvenFigures Refusal → EvenValues
even_values (Ok figures) = worst figures.worst
even_values (Err r) = number (refusal_number r)

-- test 1 is passed
pub record Enough (before work : List ℕ) : Type 0 where
  pub entries : 256 ≤ length before
  pub words : 8192 ≤ length work

-- what can come of a record, the entries and the words lent: a number under its condition and no entry changed, or the table
pub data EvenOutcome (bytes before work : List ℕ) : (after : List ℕ) → EvenValues → Type 0 where
  short : (length before < 256) ⊎ (length work < 8192) → EvenOutcome bytes before work before (number 1)
  back : {n : ℕ} → Enough before work → SendsBack bytes n → EvenOutcome bytes before work before (number n)
  none : {job : Job} → Enough before work → GoesOn bytes job → ((levels : List ℕ) → WithinError bytes job levels → ⊥) → EvenOutcome bytes before work before (number 11)
  made : {job : Job} {table : List ℕ} → Enough before work → GoesOn bytes job → IsEvenTable bytes job table
      → EvenOutcome bytes before work (table ++ drop 256 before) (worst (worst_step bytes job table))

-- the answer is a table, and the job is sound
pub record MadeFor (bytes : List ℕ) (job : Job) (answer : Result EvenFigures Refusal) : Type 0 where
  pub goes_on : GoesOn bytes job
  pub figures : EvenFigures
  pub is : answer ≡ Ok figures

-- what the operation promises of its answer and of the entries and the words after it
pub record EvenPromise (bytes before after work work_after : List ℕ) (answer : Result EvenFigures Refusal) : Type 0 where
  pub answers : answer ≡ even_answer bytes (length before) (length work)
  pub table : after ≡ even_lent bytes before (length work)
  -- words from 8,192 on are as they were, and all of them where the job is refused; after a table the first 8,192 hold what they may
  pub words_size : length work_after ≡ length work
  pub words_later : (i : ℕ) → 8192 ≤ i → get_or work_after i 0 ≡ get_or work i 0
  pub words_refused : {r : Refusal} → answer ≡ Err r → work_after ≡ work
  pub outcome : EvenOutcome bytes before work after (even_values answer)
  -- demand 3. "No table" is answered exactly where every list, falling or not, misses some target by more than the error
  pub no_table : {job : Job} → Enough before work → GoesOn bytes job → (answer ≡ Err NoTable) ↔ ((levels : List ℕ) → WithinError bytes job levels → ⊥)
  -- in every other case there is a table, and the first 256 entries are it
  pub otherwise : {job : Job} → Enough before work → GoesOn bytes job → (answer ≡ Err NoTable → ⊥) → MadeFor bytes job answer
  pub even : {job : Job} → MadeFor bytes job answer → IsEvenTable bytes job (take 256 after)
  -- no entry is below the one before it, and none misses its target by more than the error
  pub never_falls : {job : Job} → MadeFor bytes job answer → NeverFalls (take 256 after)
  pub within : {job : Job} → MadeFor bytes job answer → WithinError bytes job (take 256 after)
  -- no other list of which this holds has a smaller worst step
  pub least : {job : Job} → MadeFor bytes job answer → (other : List ℕ) → WithinError bytes job other → NeverFalls other
      → worst_step bytes job (take 256 after) ≤ worst_step bytes job other
  -- and one with the same worst step is higher where it first differs
  pub lower : {job : Job} → MadeFor bytes job answer → (other : List ℕ) → WithinError bytes job other → NeverFalls other
      → worst_step bytes job other ≡ worst_step bytes job (take 256 after)
      → (p : ℕ) → p < 256 → FirstDifference (take 256 after) other p → get_or (take 256 after) p 0 < get_or other p 0
  -- the figure in the answer is worked out from these entries
  pub worst_is : {job : Job} → (made : MadeFor bytes job answer) → made.figures.worst ≡ worst_step bytes job (take 256 after)
