pub mod Faults
pub mod Items
pub mod Describing
pub mod Reading
pub mod Working
