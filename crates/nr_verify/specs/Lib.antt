pub mod Walking
pub mod First
