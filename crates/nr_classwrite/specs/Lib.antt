pub mod Names
pub mod Faults
pub mod Text
pub mod Fits
