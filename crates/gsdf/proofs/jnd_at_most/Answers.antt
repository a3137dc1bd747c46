-- The number of entries at most l is the last JND at or below l. Assumes nothing.
use Prim.Native.Nat.{ℕ, ◌-◌, ◌≤◌, ◌<◌}
use native.Mathlib.Omega.{arith}
use lib.Dec.{leb}
use borrow.Author.Tests.{leb-true, leb-false}
use Rattle.std.proofs.Common.{rules}
use Rattle.std.specs.List.Sorted.{IsPartitionPoint}
use Rattle.std.proofs.lemmas.List.Sorted.{IsPartitionPoint-from_clause, IsPartitionedBy-leb}
use Rattle.gsdf.specs.Table.{table_b1}
use Rattle.gsdf.specs.DisplayFunction.{jnd_luminance}
use Rattle.gsdf.proofs.TableRule.{table_b1_length, table_b1_never_falls, jnd_first}
use Rattle.gsdf.proofs.jnd_at_most.Goals as goal

-- the entries before it are at most l, and those from it on are above l
point : (c : goal.After-partition_point) → IsPartitionPoint (λ x. x ≤ c.args.l.0) (λ x. c.args.l.0 < x) table_b1 c.partition_point.result
point c =
    let l = c.args.l.0 in
    let found = IsPartitionPoint-from_clause (λ (x : ℕ). leb x l) table_b1 c.partition_point.result
    (rw c.entries.ensures at c.partition_point.ensures.partitioned)
    (IsPartitionedBy-leb (λ (x : ℕ). x) table_b1 l table_b1_never_falls)
    (λ a r f k. search rules) in
    (λ k d a b. leb-true _ _ (found.0 k d a b), λ k d a b. leb-false _ _ (found.1 k d a b))

above : (c : goal.After-partition_point) (j : ℕ) → c.partition_point.result < j → j ≤ 1023 → c.args.l.0 < jnd_luminance j
unfolding jnd_luminance
above c j a b = (point c).1 (j - 1) 0 (omega arith) (omega (arith, table_b1_length))

-- l is at least T(1)
pub returns-clause-first : goal.returns-clause-first
returns-clause-first c = grind (arith, jnd_first, above c 1)

pub returns-clause-at_most : goal.returns-clause-at_most
unfolding jnd_luminance
returns-clause-at_most c = grind (arith, returns-clause-first c, (point c).0 (c.partition_point.result - 1) 0)

pub returns-clause-above : goal.returns-clause-above
returns-clause-above c = grind (arith, above c)
