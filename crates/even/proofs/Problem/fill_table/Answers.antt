use mathlib.Core.Path.{◌≡◌}
use mathlib.Core.Bool.{false}
use native.Mathlib.Omega.{arith}
use Rattle.even.specs.Problems.{given_of}
use Rattle.even.specs.Table.{has_no_table}
use Rattle.even.specs.Filled.{outcome_of, even_over}
use Rattle.even.specs.Filling.{first_bound}
use Rattle.even.proofs.Rows.{kept_all, last_there, last_lit}
use Rattle.even.proofs.Writing.{write_asks, even_within}
use Rattle.even.proofs.Problem.fill_table.Goals as goal

pub returns-in_err-bound : goal.returns-in_err-bound
unfolding outcome_of even_over first_bound
returns-in_err-bound c = rw c.from_residual.ensures (grind (arith, kept_all))

pub invariant_of-found : goal.invariant_of-found
unfolding first_bound
invariant_of-found c = grind arith

pub light_run-requires : goal.light_run-requires
light_run-requires c = last_there c.args.self.now.workable c.requires.rows_fit c.run_at.ensures

pub invariant_of-rows : goal.invariant_of-rows
invariant_of-rows c = record { last_lit = last_lit c.args.self.now.workable c.requires.rows_fit c.run_at.ensures c.light_run.ensures }

pub least_worst-worst-requires : goal.least_worst-worst-requires
unfolding first_bound
least_worst-worst-requires c = grind arith

pub write_table-requires : goal.write_table-requires
unfolding first_bound
write_table-requires c =
    rw c.least_worst-worst.ensures.same_problem (write_asks c.args.self.now.workable (grind arith) c.least_worst-worst.ensures.searched c.requires.entries_fit)

pub returns : goal.returns
unfolding outcome_of even_over first_bound
returns c =
    let some : has_no_table (given_of c.args.self.now) ≡ false = grind arith in
    let e = even_within c.args.self.now.workable some c.least_worst-worst.ensures.searched in
    grind arith
