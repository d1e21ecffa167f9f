-- Steps that are worked out by hand from the JVM Specification, 6.5, and computed by the rules.
pub mod Machine
pub mod Values
pub mod Stack
pub mod Arrays
pub mod Objects
pub mod Calls
pub mod Runs
pub mod Restored
pub mod BoxRun
pub mod BoxCopied
pub mod BoxRestored
pub mod BoxAsked
pub mod BoxRelayed
