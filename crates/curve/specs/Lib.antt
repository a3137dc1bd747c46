pub mod Room
pub mod Curve
pub mod Line
pub mod Walk
