-- `Examples`: document 01's marked examples. `Floor`: the floor of a signed number. `Bounds`: how large the numbers of a pair are.
-- `Laws`: what the crates above use of the check. `Filling`: the two loops.
pub mod Examples
pub mod Floor
pub mod Bounds
pub mod Laws
pub mod Filling
