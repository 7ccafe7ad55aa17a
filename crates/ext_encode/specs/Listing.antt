-- The lengths of the contents of the extensions that are written.
use Rattle.std.specs.Prelude.{◌≡◌, ℕ, ◌+◌, ◌++◌, List, [], ◌∷◌, length, codes, Option, Some, None, Bool, true, false}
use Rattle.std.specs.Option.{option_map}
use Rattle.index_parts.specs.declared.hash.Kind.{Kind}
use Rattle.ext_tree.specs.TreeImage.{node_bytes}
use Rattle.index_parts.specs.Numbers.{within_32}
use Rattle.ext_encode.specs.MonitorImage.{monitor_bytes}
use Rattle.ext_encode.specs.ResolveUndoImage.{resolve_undo_bytes}
use Rattle.ext_encode.specs.UntrackedImage.{cache_bytes}
use Rattle.ext_encode.specs.Chosen.{Extensions}
use Rattle.ext_encode.specs.declared.lens.Lens.{Lens}

-- the length of each content, for the extensions that are present
pub record AreLens (kind : Kind) (e : Extensions) (lens : Lens) : Type 0 where
  pub tree : lens.tree ≡ option_map (λ t. length (node_bytes t)) e.tree
  pub resolve_undo : lens.resolve_undo ≡ option_map (λ paths. length (resolve_undo_bytes paths)) e.resolve_undo
  pub untracked : lens.untracked ≡ option_map (λ c. length (cache_bytes kind c)) e.untracked
  pub fs_monitor : lens.fs_monitor ≡ option_map (λ m. length (monitor_bytes m)) e.fs_monitor

-- a length that is absent or fits into 32 bits
abbrev pub len_within_32 : Option ℕ → Option (Option ℕ)
len_within_32 None = Some None
len_within_32 (Some n) = option_map Some (within_32 n)

-- the length of an extension with this content length, or 0 if there is no extension
abbrev pub whole_len : Option ℕ → ℕ
whole_len None = 0
whole_len (Some len) = 8 + len

-- the length of the mark of a sparse index, or 0 if the index isn't sparse
abbrev pub sparse_len : Bool → ℕ
sparse_len true = 8
sparse_len false = 0

-- the signature and the content length of an extension, if there is one
abbrev pub head_if : List ℕ → Option ℕ → List (List ℕ × ℕ)
head_if signature None = []
head_if signature (Some len) = (signature, len) ∷ []

-- the content length of the mark of a sparse index, if the index is sparse; it has no content
abbrev pub sparse_head_len : Bool → Option ℕ
sparse_head_len true = Some 0
sparse_head_len false = None

-- the signatures and the content lengths of all extensions
abbrev pub listed_heads : Lens → Bool → List (List ℕ × ℕ)
listed_heads lens sparse =
    (((head_if (codes "TREE") lens.tree ++ head_if (codes "REUC") lens.resolve_undo)
    ++ head_if (codes "UNTR") lens.untracked) ++ head_if (codes "FSMN") lens.fs_monitor)
    ++ head_if (codes "sdir") (sparse_head_len sparse)
