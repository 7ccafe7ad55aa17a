-- Entries that are read in windows, and entries that are passed (the library's own).
use Rattle.std.specs.Prelude.{◌≡◌, ◌≤◌, ◌+◌, ◌-◌, ℕ, All, List, length, None, Option, Result, IfOk, IfSome, OnOk}
use Rattle.std.specs.Prelude.{vec_len}
use Rattle.std.specs.Global.{Vec}
use Rattle.std.specs.declared.alloc.AllocError.{AllocError}
use Rattle.std.specs.declared.io.Error.{Error}
use Rattle.entry_list.specs.Entries.{AreEntries}
use Rattle.entry_list.specs.Record.{Record, has_directory}
use Rattle.entry_list.specs.declared.Version.{Version}
use Rattle.entry_decode.specs.declared.entries.FirstEntries.{FirstEntries}
use Rattle.file_place.specs.declared.folder.Source.{Ghosts}
use Rattle.index_parts.specs.Id.{id_kind}
use Rattle.index_parts.specs.declared.hash.Hasher.{Hasher}
use Rattle.index_parts.specs.declared.hash.Kind.{Kind}
use Rattle.file_windows.specs.Passed.{in_64_bits, paths_len}
use Rattle.file_windows.specs.Windowed.{IfGiven, IsReadOn, moment_of}
use Rattle.file_windows.specs.declared.passed.Passed.{Passed}
use Rattle.file_windows.specs.declared.plan.Plan.{Plan}

-- The ids have the plan's hash algorithm, `sparse` reports a directory among the entries, and there are no more entries
-- than declared.
pub record FitPlan (plan : Plan) (first : FirstEntries) : Type 0 where
  pub ids : All (λ r. id_kind r.id ≡ plan.kind) first.list.records
  pub sparse : first.sparse ≡ has_directory first.list.records
  pub count : length first.list.records ≤ plan.count

-- The complete entries in the window from index `start` on were read. The result is the index after them.
pub record Scans (plan : Plan) (start : ℕ) (h i : Hasher) (old new : Vec ℕ) (before after : FirstEntries)
    (result : Result ℕ AllocError) : Type 0 where
  pub fit : OnOk result (FitPlan plan after)
  pub read : IfOk result (λ place. (left : Option (List ℕ)) → IsReadOn plan
      (record { left = left; hasher = h; window = old.items; decoded = start; records = before.list.records })
      (record { left = left; hasher = i; window = new.items; decoded = place; records = after.list.records }) 0)

-- All entries were read. The result is the index after them in the window, and the number of bytes that weren't read
-- yet. The end marker names the offset after the entries.
pub record ReadsEntries {S : Type 0} (source : Ghosts S) (plan : Plan) (left : ℕ) (file rest : S) (h i : Hasher)
    (old new : Vec ℕ) (before after : FirstEntries) (result : Result (Option (ℕ × ℕ)) Error) : Type 0 where
  pub fit : OnOk result (FitPlan plan after)
  pub whole : IfGiven result (λ _. length after.list.records ≡ plan.count)
  pub read : IfGiven result (λ x. (count : ℕ) × (count + x.1 ≡ left) × IsReadOn plan
      (moment_of source file h old.items 12 before.list.records)
      (moment_of source rest i new.items x.0 after.list.records) count)
  pub named : IfGiven result
      (λ x. IfSome plan.offset (λ place. place + (vec_len new - x.0) + x.1 ≡ plan.len))
  pub stored : source.stored rest ≡ source.stored file
  pub works : source.works rest ≡ source.works file

-- This number of entries precedes the rest. The total length of their paths, and whether a directory is among them.
abbrev pub ArePassed : Version → Kind → ℕ → List ℕ → Passed → Type 0
ArePassed version kind count bytes x =
    (records : List Record) × AreEntries version kind None bytes records x.rest.now × (length records ≡ count)
    × (x.path_bytes ≡ in_64_bits (paths_len records)) × (x.sparse ≡ has_directory records)
