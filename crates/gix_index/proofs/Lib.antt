pub mod Checks
mod FileFaults
pub mod Files
pub mod Joined
mod Puts
mod ReadsBy
mod Times
pub use Rattle.entry_list.proofs.ReadRecords
pub use Rattle.entry_list.proofs.Storing
pub use Rattle.entry_decode.proofs.Readers
pub use Rattle.index_extensions.proofs.Walks
pub use Rattle.index_extensions.proofs.MarkerReadings
pub use Rattle.file_place.proofs.Moved
pub use Rattle.index_model.proofs.OnceAnswers
pub use Rattle.index_model.proofs.Outcomes
pub use Rattle.entry_lookup.proofs.RunFilters
pub use Rattle.index_parts.proofs.Taking
pub use Rattle.ext_split.proofs.Links
