pub mod Named
pub mod Resolution
pub mod Found
pub mod Entries
pub mod Rules
pub mod Links
pub mod Example
