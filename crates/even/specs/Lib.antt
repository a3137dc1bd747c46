pub mod Even
pub mod Paths
pub mod Table
pub mod Runs
pub mod Steps
pub mod Filled
pub mod Problems
pub mod Filling
