pub mod Executions
pub mod Turned
pub mod Resumed
pub mod CallStacks
pub mod Machines
pub mod Stays
pub mod Settles
pub mod Prints
