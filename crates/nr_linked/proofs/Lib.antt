pub mod Components
mod TypingExamples
pub mod Upward
pub mod Places
pub mod Elements
pub mod Listed
pub mod Ascents
pub mod BuiltInEntries
pub mod AnyReferences
pub mod BuiltInLaws
pub mod Declaring
pub mod LegalTexts
pub mod SeenSlots
pub mod BuiltInTexts
pub mod BuiltInsAbove
pub mod Witness
pub mod WitnessFacts
