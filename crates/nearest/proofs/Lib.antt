-- `Numbers`: what belongs to no layer. `Laws`: what the crates above use of the nearest table. `Places`: the walk along a curve.
-- `Filling`: the table filled entry by entry. `Examples`: document 01's marked examples.
pub mod Numbers
pub mod Laws
pub mod Places
pub mod Filling
pub mod Examples
