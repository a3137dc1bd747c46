-- What the readers of a record ask and promise.
use Rattle.std.specs.Prelude.{ℕ, map, length, ◌+◌, ◌-◌, ◌≤◌, ◌<◌, List, Bool, ◌&&◌, ◌≡◌, T, get_or, leb, Result, Ok}
use Rattle.record.specs.Bytes.{word, long, fields}
use Rattle.record.specs.Sections.{permitted, width, count_of, items, rest, after, Lists, sections}
use Rattle.record.specs.Tests.{answer_of}
use Rattle.record.specs.declared.Section.{Section}
use Rattle.record.specs.declared.Refusal.{Refusal}
use Rattle.record.specs.declared.items.Items.{Items}
use Rattle.record.specs.declared.items.Reading.{Reading}
use Rattle.record.specs.declared.items.JobRecord.{JobRecord}

-- what a view of numbers of 16 bits shows, and one of 32
abbrev pub words : Items ℕ (List ℕ) → List ℕ
words v = map (word 0) v.raw.now

abbrev pub longs : Items ℕ (List ℕ) → List ℕ
longs v = map (long 0) v.raw.now

-- the drive levels and the luminances of a sweep
abbrev pub ddls_of : Items Reading (List ℕ) → List ℕ
ddls_of v = map (word 0) v.raw.now

abbrev pub luminances_of : Items Reading (List ℕ) → List ℕ
luminances_of v = map (long 2) v.raw.now

-- section k was taken off the front of s: its n items, and what follows it
pub record Taken (k : Section) (s : List ℕ) (n : ℕ) (found more : List ℕ) : Type 0 where
  pub count : count_of k s ≡ Ok n
  pub may : T (permitted k n)
  pub items : found ≡ items k n s
  pub rest : more ≡ rest k n s

-- and its items are found, as f reads each
pub record TakenAs {A : Type 0} (f : List ℕ → A) (k : Section) (s : List ℕ) (found : List A) (more : List ℕ) : Type 0 where
  pub taken : Taken k s (length found) (items k (length found) s) more
  pub are : found ≡ fields (width k) f (length found) (items k (length found) s)

-- reading i, counted from 0, has a higher level than the one before it, and no lower luminance; in the form of rises_from, with steps of 1 and 0
abbrev pub steps_up : (ddls luminances : List ℕ) (i : ℕ) → Bool
steps_up ddls luminances i = leb (get_or ddls (i - 1) 0 + 1) (get_or ddls i 0) && leb (get_or luminances (i - 1) 0 + 0) (get_or luminances i 0)

-- the levels before place i rise
pub record LevelsRise (ddls : List ℕ) (i : ℕ) : Type 0 where
  pub some : 1 ≤ i
  pub is : (k : ℕ) → 1 ≤ k → k < i → get_or ddls (k - 1) 0 < get_or ddls k 0

-- the five lists that a record shows, as they stand before test 5
abbrev pub lists_of : JobRecord → Lists
lists_of r = record {
  settings = words r.settings;
  lamps = words r.lamps;
  ddls = ddls_of r.sweep;
  luminances = luminances_of r.sweep;
  check = longs r.check;
}

-- r is read from the bytes s: their lists and their answer
pub record ReadFrom (s : List ℕ) (r : Result JobRecord Refusal) : Type 0 where
  pub lists : after r (λ x. Ok (lists_of x)) ≡ sections s
  pub answer : after r (λ x. x.job) ≡ answer_of s
