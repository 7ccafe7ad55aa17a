pub mod Granted
pub mod Invalidations
pub mod Kepts
pub mod Losings
pub mod Nexts
pub mod PartsAnswers
pub mod Recordings
pub mod Reorders
pub mod Risings
pub mod Searches
pub mod Sides
pub mod SpellableCaches
pub mod SpellableSides
pub mod StorableChanges
pub mod UndoSwaps
pub mod Watches
mod Eithers
mod Markings
mod Spellables
