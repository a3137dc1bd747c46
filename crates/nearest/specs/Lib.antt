pub mod Nearest
pub mod Places
