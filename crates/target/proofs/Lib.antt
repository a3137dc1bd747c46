-- `Laws`: the targets of an index range. `Ranges`: the index range of a display.
pub mod Laws
pub mod Ranges
