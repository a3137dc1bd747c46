-- Tests 2 to 10 in document 01's conditions, and the soundness of a record.
-- Assumes nothing.
use mathlib.Core.Path.{◌≡◌, refl}
use mathlib.Core.List.{List}
use Prim.Native.Nat.{ℕ}
use borrow.Author.Tests.{ltb-true, ltb-false, le-ltb, lt-ltb}
use Rattle.std.specs.Prelude.{Result, Ok, Err}
use Rattle.laws.proofs.Cases.{by}
use Rattle.record.specs.Tests.{answer_of}
use Rattle.record.specs.declared.Refusal.{Refusal}
use Rattle.record.specs.declared.Refusal.TheVariants.{BlackBelowTable, WhiteAboveTable, RangeTooNarrow}
use Rattle.record.specs.declared.Job.{Job}
use Rattle.gsdf.specs.Ends.{below_table, above_table}
use Rattle.target.specs.Target.{range_of, too_narrow}
use Rattle.engine.specs.Sound.{range_tests, measured, soundness, top_of}
use Rattle.engine.specs.Conditions.{F, SendsBack, unread, black, white, narrow, GoesOn, made_by, Standing, stands, returned, Unsound}

module _ (bytes : List ℕ) where
  job_standing : (job : Job) → answer_of bytes ≡ Ok job → Standing bytes (soundness bytes)
  unfolding soundness measured range_tests below_table above_table range_of made_by
  job_standing job a =
      by (below_table (F bytes job 0))
      (λ b. simp (a, b) (returned (black a (ltb-true _ _ b))))
      (λ b. by (above_table (F bytes job (top_of job)))
      (λ w. simp (a, b, w) (returned (white a (ltb-false _ _ b) (ltb-true _ _ w))))
      (λ w. by (too_narrow (range_of (F bytes job 0) (F bytes job (top_of job))).range.0)
      (λ n. simp (a, b, w, n) (returned (narrow a (ltb-false _ _ b) (ltb-false _ _ w) (ltb-true _ _ n))))
      (λ n. simp (a, b, w, n) (stands (record { accepted = a; black = ltb-false _ _ b; white = ltb-false _ _ w; wide = ltb-false _ _ n })))))

  pub standing : Standing bytes (soundness bytes)
  unfolding soundness
  standing = go (answer_of bytes) refl
    where
      go : (x : Result Job Refusal) → answer_of bytes ≡ x → Standing bytes (soundness bytes)
      go (Err r) e = rw e (returned (unread e))
      go (Ok job) e = job_standing job e

-- the conditions settle the soundness
pub sent : {bytes : List ℕ} {n : ℕ} → SendsBack bytes n → Unsound bytes n
unfolding soundness measured range_tests below_table above_table range_of
sent (unread {r = r} e) = record { refusal = r; is = simp e; numbered = refl }
sent (black a b) = record { refusal = BlackBelowTable; is = simp (a, lt-ltb _ _ b); numbered = refl }
sent (white a b w) = record { refusal = WhiteAboveTable; is = simp (a, le-ltb _ _ b, lt-ltb _ _ w); numbered = refl }
sent (narrow a b w n) = record { refusal = RangeTooNarrow; is = simp (a, le-ltb _ _ b, le-ltb _ _ w, lt-ltb _ _ n); numbered = refl }

pub went_on : {bytes : List ℕ} {job : Job} → GoesOn bytes job → soundness bytes ≡ Ok (made_by bytes job)
unfolding soundness measured range_tests below_table above_table range_of made_by
went_on g = simp (g.accepted, le-ltb _ _ g.black, le-ltb _ _ g.white, le-ltb _ _ g.wide)
