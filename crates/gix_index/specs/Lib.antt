-- The definitions that the clauses of callers cite, each under one name. A type has its own name if a file of
-- definitions has that name too.
pub mod Changing
pub mod Checked
pub mod Disk
pub mod Ewah
pub mod File
pub mod FileFaults
pub mod Hashing
pub mod InPlace
pub mod Keeping
pub mod Linked
pub mod OnDisk
pub mod OnSystem
pub mod Outlined
pub mod ReadFile
pub mod Searching
pub mod Trees
pub mod VerifiedFile
pub mod WrittenFile
pub use Rattle.bstr.specs.Owned
pub use Rattle.hex.specs.Hex
pub use Rattle.index_parts.specs.Id
pub use Rattle.index_parts.specs.Limit
pub use Rattle.index_parts.specs.Numbers
pub use Rattle.index_parts.specs.Octal
pub use Rattle.index_parts.specs.Offset
pub use Rattle.index_parts.specs.Puts
pub use Rattle.index_parts.specs.Taking
pub use Rattle.entry_fields.specs.Flags
pub use Rattle.index_parts.specs.Mode
pub use Rattle.entry_fields.specs.ModeChange
pub use Rattle.entry_fields.specs.Stat
pub use Rattle.entry_fields.specs.StatMatch
pub use Rattle.index_parts.specs.Object
pub use Rattle.entry_list.specs.Entries
pub use Rattle.entry_list.specs.Entry
pub use Rattle.entry_decode.specs.EntryFaults
pub use Rattle.entry_list.specs.EntryImage
pub use Rattle.entry_list.specs.Header
pub use Rattle.entry_list.specs.Held
pub use Rattle.entry_decode.specs.Lent
pub use Rattle.entry_decode.specs.Reader
pub use Rattle.entry_list.specs.Limits
pub use Rattle.entry_list.specs.Order
pub use Rattle.entry_list.specs.PathRange
pub use Rattle.entry_list.specs.Record
pub use Rattle.entry_list.specs.Removed
pub use Rattle.entry_list.specs.Shared
pub use Rattle.entry_list.specs.Slice
pub use Rattle.entry_list.specs.Sorted
pub use Rattle.entry_list.specs.TreeOrder
pub use Rattle.entry_lookup.specs.Closest
pub use Rattle.entry_lookup.specs.Lookup
pub use Rattle.entry_lookup.specs.Range
pub use Rattle.tree_encode.specs.Cached
pub use Rattle.tree_encode.specs.Directory as TreeDirectory
pub use Rattle.tree_encode.specs.Kept as KeptCounts
pub use Rattle.index_laws.specs.Laws
pub use Rattle.index_laws.specs.Reading
pub use Rattle.tree_encode.specs.Refusals
pub use Rattle.tree_encode.specs.Staged
pub use Rattle.tree_encode.specs.TreeIds
pub use Rattle.index_extensions.specs.EndMarker
pub use Rattle.index_extensions.specs.ExtensionValue
pub use Rattle.ext_small.specs.FsMonitor
pub use Rattle.ext_small.specs.ModeDigits
pub use Rattle.ext_small.specs.OffsetTable
pub use Rattle.ext_small.specs.ResolveUndo
pub use Rattle.index_extensions.specs.Encoding
pub use Rattle.index_extensions.specs.Walk
pub use Rattle.ext_tree.specs.Agreement
pub use Rattle.ext_tree.specs.Decimal
pub use Rattle.ext_tree.specs.Sound
pub use Rattle.ext_tree.specs.StoredTree
pub use Rattle.ext_tree.specs.Tree
pub use Rattle.ext_tree.specs.TreeFaults
pub use Rattle.ext_tree.specs.TreeImage
pub use Rattle.ext_tree.specs.TreeWriting
pub use Rattle.ext_untracked.specs.Blocks
pub use Rattle.ext_untracked.specs.CacheBitmaps
pub use Rattle.ext_untracked.specs.CachedStat
pub use Rattle.ext_untracked.specs.Untracked
pub use Rattle.ext_split.specs.Link
pub use Rattle.ext_split.specs.Merge
pub use Rattle.index_model.specs.Answer
pub use Rattle.index_model.specs.Contents
pub use Rattle.index_model.specs.DecodeErrors
pub use Rattle.index_model.specs.HeaderErrors
pub use Rattle.index_model.specs.Image
pub use Rattle.index_model.specs.Lending
pub use Rattle.index_model.specs.Outcome
pub use Rattle.index_model.specs.Storable
pub use Rattle.index_model.specs.Stored
pub use Rattle.index_model.specs.Writing
pub use Rattle.file_errors.specs.WriteFaults
pub use Rattle.index_decode.specs.Behind
pub use Rattle.file_windows.specs.Intact
pub use Rattle.index_state.specs.Dissolve
pub use Rattle.index_state.specs.Edits
pub use Rattle.index_state.specs.SoundState
pub use Rattle.index_state.specs.State
pub use Rattle.index_parts.specs.declared.hash.Kind
pub use Rattle.index_parts.specs.declared.hash.ObjectId
pub use Rattle.index_parts.specs.contracts.hash.ObjectIdOrd
pub use Rattle.entry_fields.specs.declared.entry.flags.Flags as FlagsType
pub use Rattle.entry_fields.specs.declared.entry.flags.Stage
pub use Rattle.entry_fields.specs.declared.entry.mode.Mode as ModeType
pub use Rattle.entry_fields.specs.declared.entry.mode.Change
pub use Rattle.entry_fields.specs.declared.entry.stat.FileTime
pub use Rattle.entry_fields.specs.declared.entry.stat.Stat as StatType
pub use Rattle.entry_fields.specs.declared.entry.stat.Time
pub use Rattle.entry_fields.specs.declared.entry.stat.OutOfRange
pub use Rattle.entry_fields.specs.declared.entry.stat.Options as StatOptions
pub use Rattle.entry_fields.specs.declared.entry.at_rest.Flags as FlagsAtRest
pub use Rattle.entry_fields.specs.declared.entry.at_rest.FlagsExtended as ExtendedFlagsAtRest
pub use Rattle.entry_fields.specs.declared.fs.FileKind
pub use Rattle.entry_fields.specs.declared.fs.Metadata
pub use Rattle.index_parts.specs.declared.object.Kind as ObjectKind
pub use Rattle.entry_list.specs.declared.Entry as EntryType
pub use Rattle.entry_list.specs.declared.Pathless
pub use Rattle.entry_list.specs.declared.list.EntryList
pub use Rattle.entry_list.specs.declared.slice.EntrySlice
pub use Rattle.entry_list.specs.declared.Version
pub use Rattle.entry_decode.specs.declared.entries.FirstEntries
pub use Rattle.entry_decode.specs.declared.entry.Lent as LentEntry
pub use Rattle.index_model.specs.declared.error.Header as HeaderError
pub use Rattle.entry_list.specs.declared.write.VersionChoice
pub use Rattle.tree_encode.specs.declared.error.Error as WriteTreesError
pub use Rattle.tree_encode.specs.declared.tree_ids.Error as TreeIdsError
pub use Rattle.index_extensions.specs.declared.iter.Iter as ExtensionIter
pub use Rattle.ext_small.specs.declared.fs_monitor.FsMonitor as FsMonitorType
pub use Rattle.ext_small.specs.declared.fs_monitor.Token
pub use Rattle.ext_small.specs.declared.index_entry_offset_table.Offset as OffsetType
pub use Rattle.ext_small.specs.declared.resolve_undo.ResolvePath
pub use Rattle.ext_small.specs.declared.resolve_undo.Stage as ResolveStage
pub use Rattle.ext_tree.specs.declared.Tree as TreeType
pub use Rattle.ext_tree.specs.declared.verify.Error as TreeError
pub use Rattle.ext_tree.specs.declared.write.Error as TreeWriteError
pub use Rattle.ext_untracked.specs.declared.UntrackedCache
pub use Rattle.ext_untracked.specs.declared.Directory
pub use Rattle.ext_untracked.specs.declared.OidStat
pub use Rattle.ext_split.specs.declared.link.Link as LinkType
pub use Rattle.ext_split.specs.declared.link.Bitmaps
pub use Rattle.ext_split.specs.declared.link.decode.Error as LinkError
pub use Rattle.index_model.specs.declared.error.Error as DecodeError
pub use Rattle.index_model.specs.declared.decode.Options as DecodeOptions
pub use Rattle.index_model.specs.declared.error.Extension as ExtensionError
pub use Rattle.index_model.specs.declared.write.Error as WriteError
pub use Rattle.index_model.specs.declared.write.Extensions as WriteExtensions
pub use Rattle.index_model.specs.declared.write.Options as WriteOptions
pub use Rattle.index_state.specs.declared.State as StateType
pub use Rattle.index_state.specs.declared.verify.entries.Error as OrderError
