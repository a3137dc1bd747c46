pub mod Search
pub mod Numbers
pub mod Fill
pub mod Rises
