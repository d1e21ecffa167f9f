pub mod Fronts
pub mod Wholes
pub mod Held
pub mod Unique
pub mod Past
