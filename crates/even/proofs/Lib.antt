-- `Examples`: document 01's marked examples, and small tables. `Paths`: paths through layers. `Runs`: the levels allowed at a P-value.
-- `Even`: the table that is computed is the even table, and no other is. `Steps`: the steps that fit. `Bound`: the walk that finds the runs.
-- `Rows`, `Filling`: the rows of lit levels. `Halving`: the least worst step. `Writing`: the entries.
pub mod Examples
pub mod Paths
pub mod Runs
pub mod Even
pub mod Steps
pub mod Bound
pub mod Rows
pub mod Filling
pub mod Halving
pub mod Writing
