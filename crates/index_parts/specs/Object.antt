-- What a store of objects has for an id, and its answer (the library's own).
use Rattle.std.specs.Prelude.{◌≡◌, ℕ, List, Option, Some, None, Result, Ok, Err}
use Rattle.index_parts.specs.declared.object.Kind.{Kind}
use Rattle.index_parts.specs.declared.object.Kind.TheVariants as kinds
use Rattle.index_parts.specs.declared.object.find.Error.{Error}
use Rattle.index_parts.specs.declared.object.find.Error.TheVariants as errors

-- nothing, an object with its type and bytes, or an error of the store's own, by its number
pub data Found : Type 0 where
  absent : Found
  object : (kind : Kind) (bytes : List ℕ) → Found
  fault : (number : ℕ) → Found

-- the bytes of an object that was found, if it is a tree
abbrev pub tree_bytes : Found → Option (List ℕ)
tree_bytes (object kinds.Tree bytes) = Some bytes
tree_bytes (object kinds.Blob bytes) = None
tree_bytes (object kinds.Commit bytes) = None
tree_bytes (object kinds.Tag bytes) = None
tree_bytes absent = None
tree_bytes (fault number) = None

-- The answer, with the bytes that the buffer then holds, is what was found. When out of memory, nothing is stated.
abbrev pub IsFindResult : Found → Result (Option Kind) Error → List ℕ → Type 0
IsFindResult found (Ok None) bytes = found ≡ absent
IsFindResult found (Ok (Some kind)) bytes = found ≡ object kind bytes
IsFindResult found (Err (errors.Fault number)) bytes = found ≡ fault number
IsFindResult found (Err errors.Memory) bytes = Unit {0}
