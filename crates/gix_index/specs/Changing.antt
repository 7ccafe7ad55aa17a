-- Definitions about changes of an index, and about the extensions that describe its entries (git-update-index,
-- "--index-info").
pub use Rattle.index_edit.specs.Updates
pub use Rattle.entry_edit.specs.Changes
pub use Rattle.entry_edit.specs.Edits as Staging
pub use Rattle.entry_edit.specs.Refusals
pub use Rattle.entry_edit.specs.Wholes
pub use Rattle.ext_tree.specs.Invalidation
pub use Rattle.index_edit.specs.Dirty
pub use Rattle.index_edit.specs.Invalidated
pub use Rattle.index_edit.specs.PartsUpdates
pub use Rattle.index_edit.specs.Recorded
pub use Rattle.index_edit.specs.StillStorable
pub use Rattle.index_edit.specs.Undone
pub use Rattle.ext_untracked.specs.UntrackedEdits
pub use Rattle.index_state.specs.StateChanges
pub use Rattle.index_state.specs.StateEdits
pub use Rattle.entry_edit.specs.declared.change.Change
pub use Rattle.entry_edit.specs.declared.change.ApplyError
pub use Rattle.entry_edit.specs.declared.error.Error
pub use Rattle.entry_edit.specs.declared.stage.Displaced
