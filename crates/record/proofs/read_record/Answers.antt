use Rattle.laws.proofs.Cases.{err_returned}
use Rattle.std.proofs.Common.{arith, refl, map, ℕ, ◌≡◌, ◌≤◌, List, length}
use Rattle.std.specs.Prelude.{T}
use Rattle.std.proofs.lemmas.List.{length-map}
use Rattle.record.specs.Sections.{permitted, layout_of, sections}
use Rattle.record.specs.Reader.{TakenAs}
use Rattle.record.specs.declared.Section.{Section}
use Rattle.record.specs.declared.Section.TheVariants.{Settings, Lamps, Sweep}
use Rattle.record.specs.Tests.{answer_of}
use Rattle.record.proofs.Held.{answer_read}
use Rattle.record.proofs.read_record.Goals as goal

-- how many items were taken
counted : {A X : Type 0} {f : List ℕ → A} {k : Section} {s more : List ℕ} (held : X → A) (raw : List X) → TakenAs f k s (map held raw) more → T (permitted k (length raw))
counted held raw t = rw (← length-map raw held) t.taken.may

five : (n : ℕ) → T (permitted Settings n) → n ≡ 5
five n h = grind arith

le_below : {n : ℕ} → 2 ≤ n → 1 ≤ n
le_below h = omega arith

up_to_8 : (n : ℕ) → T (permitted Lamps n) → n ≤ 8
up_to_8 n h = grind arith

two : (n : ℕ) → T (permitted Sweep n) → (2 ≤ n) × (n ≤ 1024)
two n h = grind arith

pub invariant_of-result-clause-some : goal.invariant_of-result-clause-some
invariant_of-result-clause-some c = grind (arith, length-map)

pub invariant_of-result-clause-five : goal.invariant_of-result-clause-five
invariant_of-result-clause-five c = five _ (counted _ _ c.in_ok-settings.ensures)

pub invariant_of-result-clause-up_to_8 : goal.invariant_of-result-clause-up_to_8
invariant_of-result-clause-up_to_8 c = up_to_8 _ (counted _ _ c.in_ok-lamps.ensures)

pub invariant_of-result-clause-up_to_1024 : goal.invariant_of-result-clause-up_to_1024
invariant_of-result-clause-up_to_1024 c = grind (arith, length-map)

pub invariant_of-result-clause-up_to_18 : goal.invariant_of-result-clause-up_to_18
invariant_of-result-clause-up_to_18 c = grind (arith, length-map)

pub judge-job-requires-clause-five : goal.judge-job-requires-clause-five
judge-job-requires-clause-five c = five _ (counted _ _ c.in_ok-settings.ensures)

pub judge-job-requires-clause-up_to_8 : goal.judge-job-requires-clause-up_to_8
judge-job-requires-clause-up_to_8 c = up_to_8 _ (counted _ _ c.in_ok-lamps.ensures)

pub judge-job-requires-clause-some : goal.judge-job-requires-clause-some
judge-job-requires-clause-some c = let n : 2 ≤ length c.in_ok-sweep.sweep.raw.now = (two _ (counted _ _ c.in_ok-sweep.ensures)).0 in le_below n

pub take_section-requires : goal.take_section-requires
take_section-requires c = refl

pub take_section-requires-2 : goal.take_section-requires-2
take_section-requires-2 c = refl

pub take_section-requires-3 : goal.take_section-requires-3
take_section-requires-3 c = refl

pub take_section-requires-4 : goal.take_section-requires-4
take_section-requires-4 c = refl

pub returns-in_err-settings : goal.returns-in_err-settings
unfolding answer_of sections layout_of
returns-in_err-settings c = grind (arith, err_returned c.from_residual.ensures.1)

pub returns-in_err-lamps : goal.returns-in_err-lamps
unfolding answer_of sections layout_of
returns-in_err-lamps c = grind (arith, err_returned c.from_residual-in_err-lamps.ensures.1)

pub returns-in_err-sweep : goal.returns-in_err-sweep
unfolding answer_of sections layout_of
returns-in_err-sweep c = grind (arith, err_returned c.from_residual-in_err-sweep.ensures.1)

pub returns-in_err-check : goal.returns-in_err-check
unfolding answer_of sections layout_of
returns-in_err-check c = grind (arith, err_returned c.from_residual-in_err-check.ensures.1)

pub returns-then-not-is_empty : goal.returns-then-not-is_empty
unfolding answer_of sections layout_of
returns-then-not-is_empty c = grind arith

pub returns : goal.returns
unfolding answer_of sections layout_of
returns c = answer_read _ c.in_ok-settings.ensures c.in_ok-lamps.ensures c.in_ok-sweep.ensures c.in_ok-check.ensures (grind arith) c.judge-job.ensures
