-- Files that are listed, as entries of an index. This definition belongs to the example alone.
use Rattle.std.specs.Prelude.{◌≡◌, ℕ, ◌-◌, ◌<◌, List, length, map, slice_index_or, IsPermutation}
use Rattle.gix_index.specs.OrderError.{Error}
use Rattle.gix_index.specs.OrderError.TheVariants.{Memory, OutOfOrder}
use Rattle.gix_index.specs.Record.{Record}
use Rattle.examples.specs.declared.tree_builder.Listed.{Listed}

-- The record of a file, at stage 0 and without a flag.
abbrev pub listed_record : Listed → Record
listed_record f = record { path = f.path.now; stat = f.stat; id = f.id; flags = 0; mode = f.mode.0 }

-- A path is listed twice: in some order of the files, two adjacent ones have one path.
pub record HasPathTwice (files : List Listed) : Type 0 where
  pub records : List Record
  pub in_some_order : IsPermutation (map listed_record files) records
  pub place : ℕ
  pub behind_one : 0 < place
  pub in_range : place < length records
  pub same : (d : Record) → (slice_index_or records (place - 1) d).path ≡ (slice_index_or records place d).path

-- Why there is no index of the files: a path is listed twice, or an allocation failed.
abbrev pub RepeatedPathCause : List Listed → Error → Type 0
RepeatedPathCause files (OutOfOrder index path stage previous_path previous_stage) = HasPathTwice files
RepeatedPathCause files Memory = Unit {0}
