pub mod Text
pub mod Report
pub mod Putting
pub mod Facts
