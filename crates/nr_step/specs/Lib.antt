pub mod Windows
pub mod Flows
pub mod Instructions
pub mod Elements
pub mod Selecting
pub mod NestedArrays
pub mod Codes
