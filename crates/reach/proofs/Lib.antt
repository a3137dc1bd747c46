-- `Bits`: bits in words. `Rows`: the lit levels of a row, and what other rows keep. `Runs`: a run lit.
-- `Steps`: the levels that reach the next row. `Words`: one word of a row, level by level. `Filling`: a row, word by word.
pub mod Bits
pub mod Rows
pub mod Runs
pub mod Steps
pub mod Words
pub mod Filling
