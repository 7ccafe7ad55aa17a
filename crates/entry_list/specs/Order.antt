-- The order of records (gitformat-index, "Index entries are sorted in ascending order"): by path as unsigned
-- bytes, and at the same path by the number of the stage.
use Rattle.std.specs.Prelude.{◌≡◌, ◌≢◌, ℕ, List}
use Rattle.std.specs.Cmp.Lexicographic.{slice_cmp}
use Rattle.std.specs.List.{AllPairs}
use Rattle.std.specs.Ordering.{nat_cmp, ordering_then}
use Rattle.std.specs.declared.cmp.Ordering.{Ordering}
use Rattle.std.specs.declared.cmp.Ordering.TheVariants.{Less, Greater}
use Rattle.entry_fields.specs.Flags.{stage_number}
use Rattle.entry_list.specs.Record.{Record}

-- the first bytes that differ decide; a path is less than the longer paths that begin with it
abbrev pub path_cmp : List ℕ → List ℕ → Ordering
path_cmp a b = slice_cmp nat_cmp a b

-- the number of the stage: bits 12 and 13 of the flags
abbrev pub record_stage : Record → ℕ
record_stage r = stage_number r.flags

-- how a record compares with a path and a stage
abbrev pub key_cmp : List ℕ → ℕ → Record → Ordering
key_cmp path stage r = ordering_then (path_cmp r.path path) (nat_cmp (record_stage r) stage)

-- how a record compares with another one
abbrev pub record_cmp : Record → Record → Ordering
record_cmp r q = key_cmp q.path (record_stage q) r

-- the same path and the same stage
abbrev pub IsSameKey : Record → Record → Type 0
IsSameKey r q = (r.path ≡ q.path) × (record_stage r ≡ record_stage q)

-- path and stage strictly increase
pub record IsStrictlyOrdered (rs : List Record) : Type 0 where
  pub less : AllPairs (λ r q. record_cmp r q ≡ Less) rs

-- paths never fall
pub record IsOrderedByPath (rs : List Record) : Type 0 where
  pub never_falls : AllPairs (λ r q. path_cmp r.path q.path ≢ Greater) rs
