pub mod Roots
pub mod Refusals
pub mod Drawing
pub mod Reading
pub mod Listed
pub mod Planting
pub mod Making
pub mod Filling
