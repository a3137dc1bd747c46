-- `Examples`: document 01's marked examples. `Interpolation`: the value between two readings. `Steps`: the line between them.
-- `Laws`: the curve of a sweep. `Walk`: the curve, from reading to reading. `Viewed`: the sweep of a record.
pub mod Examples
pub mod Interpolation
pub mod Steps
pub mod Laws
pub mod Walk
pub mod Viewed
