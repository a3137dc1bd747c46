-- `TableRule`: the rule of Table B-1. `Unrounded`: the display function before its rounding. `Laws`: what the crates above use of it. `Ends`: a luminance against the ends of the table.
pub mod TableRule
pub mod Unrounded
pub mod Laws
pub mod Ends
