pub mod Table
pub mod DisplayFunction
pub mod Ends
