mod Arrays
mod Vectors
pub mod StableSorts
pub mod SortedMembers
pub mod PlacedSlots
pub mod MemberSlots
pub mod FormLaws
pub mod KeyTables
