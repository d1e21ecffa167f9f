pub mod Rows
pub mod Tables
pub mod Arithmetic
pub mod Operations
