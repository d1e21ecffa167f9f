pub mod ServeFaults
pub mod Faults
pub mod Text
pub mod Reading
pub mod Writing
pub mod Whole
