use Rattle.ext_untracked.proofs.CacheReadings.{cache_reading, cache_reading_one}
use Rattle.index_extensions.proofs.MarkerReadings.{marker_reading, marker_reading_one}
use Rattle.ext_small.proofs.Monitors.{monitor_reading, monitor_reading_one}
use Rattle.index_extensions.proofs.Readings.{one_read}
use Rattle.ext_small.proofs.ResolveUndo.{resolve_undo_reading, resolve_undo_reading_one}
use Rattle.ext_small.proofs.TableReadings.{table_reading, table_reading_one}
use Rattle.ext_tree.proofs.TreeReadings.{tree_reading, tree_reading_one}
use Rattle.index_extensions.proofs.Walks.{walk_of, walk_one}
use Rattle.ext_bitmap.proofs.BitmapFaults.{bitmap_or_fault, no_fault, one_fault}
use Rattle.ext_bitmap.proofs.Bitmaps.{one_bitmap}
use Rattle.ext_split.specs.Link.{IsLink}
use Rattle.ext_split.proofs.OnceLinks.{link_reading, one_link}
use Rattle.ext_split.proofs.OnceLinkFaults.{one_link_fault}
use Rattle.index_laws.proofs.one_reading.Goals as goal

pub returns-clause-tree : goal.returns-clause-tree
returns-clause-tree c = λ kind limit. record { some = tree_reading kind limit; one = tree_reading_one kind limit }

pub returns-clause-link : goal.returns-clause-link
returns-clause-link c =
    λ kind. record { some = link_reading kind; one = λ bytes. one_read (IsLink kind) bytes (one_link kind bytes) }

pub returns-clause-link_fault : goal.returns-clause-link_fault
returns-clause-link_fault c = one_link_fault

pub returns-clause-resolve_undo : goal.returns-clause-resolve_undo
returns-clause-resolve_undo c = λ kind. record { some = resolve_undo_reading kind; one = resolve_undo_reading_one kind }

pub returns-clause-untracked : goal.returns-clause-untracked
returns-clause-untracked c =
    λ kind limit. record { some = cache_reading kind limit; one = cache_reading_one kind limit }

pub returns-clause-fs_monitor : goal.returns-clause-fs_monitor
returns-clause-fs_monitor c = record { some = monitor_reading; one = monitor_reading_one }

pub returns-clause-offset_table : goal.returns-clause-offset_table
returns-clause-offset_table c = record { some = table_reading; one = table_reading_one }

pub returns-clause-end_marker : goal.returns-clause-end_marker
returns-clause-end_marker c = λ kind. record { some = marker_reading kind; one = marker_reading_one kind }

pub returns-clause-walk : goal.returns-clause-walk
returns-clause-walk c = record { some = λ bytes. let w = walk_of bytes in (w.0, (w.1, w.2)); one = walk_one }

pub returns-clause-bitmap : goal.returns-clause-bitmap
returns-clause-bitmap c = record { some = bitmap_or_fault; apart = no_fault; one = one_bitmap; one_fault = one_fault }
