pub mod Decimal
pub mod Pairs
pub mod Putting
pub mod Reporting
pub mod Lines
pub mod Facts
