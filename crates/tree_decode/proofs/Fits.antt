-- What a file can hold of the leaves of a tree: all of each.
use Rattle.std.proofs.Common.{◌≡◌, ℕ, ◌<◌, ◌^◌, List, [], ◌∷◌, ◌++◌, All, length, Bool, Option, Ok, Err, sym, ap, ◌∙◌}
use Rattle.std.proofs.Common.{arith}
use Rattle.std.specs.Prelude.{◌≢◌}
use Rattle.std.proofs.lemmas.List.Elements.{All-nil, All-cons, All-append, All-head, All-tail}
use Rattle.index_parts.proofs.Ids.{id_bytes-make_id, id_kind-make_id}
use Rattle.index_parts.specs.Id.{id_bytes, id_kind, id_len}
use Rattle.index_parts.specs.Mode.{mode_of_kind}
use Rattle.index_parts.specs.Object.{Found}
use Rattle.index_parts.specs.TreeObject.{TreeEntry, IsTreeEntry, AreTreeEntries, kind_of_mode}
use Rattle.index_parts.specs.declared.hash.Kind.{Kind}
use Rattle.index_parts.specs.declared.hash.ObjectId.{ObjectId}
use Rattle.index_parts.specs.declared.object.tree.EntryKind.{EntryKind}
use Rattle.index_parts.specs.declared.object.tree.EntryKind.TheVariants as kinds
use Rattle.entry_list.specs.Record.{Record, IsSized}
use Rattle.tree_decode.specs.Leaves.{AreLeaves, LeavesAnswer, Part, Yields, with_leaves, leaf_of, some_entries}
use Rattle.tree_decode.specs.Leaves.{whole_tree, limit, unread, opened, ended, refused, leaf, below, stopped}

-- no byte is NUL
abbrev HasNoNul : List ℕ → Type 0
HasNoNul l = All (λ b. b ≢ 0) l

-- a file of this kind holds all of the record
pub record FitsFile (kind : Kind) (r : Record) : Type 0 where
  pub id : id_kind r.id ≡ kind
  pub path : HasNoNul r.path
  pub sized : IsSized r

-- ---- entries

record IsClean (kind : Kind) (e : TreeEntry) : Type 0 where
  name : HasNoNul e.name
  id : id_kind e.id ≡ kind
  size : length (id_bytes e.id) ≡ id_len kind

clean : (kind : Kind) (bytes : List ℕ) (e : TreeEntry) (rest : List ℕ) → IsTreeEntry kind bytes e rest → IsClean kind e
clean kind bytes e rest h = record {
  name = h.apart;
  id = ap id_kind h.is_id ∙ id_kind-make_id kind h.id;
  size = ap (λ (i : ObjectId). length (id_bytes i)) h.is_id ∙ ap length (id_bytes-make_id kind h.id) ∙ h.id_size;
}

are_clean : (kind : Kind) (bytes : List ℕ) (es : List TreeEntry) (rest : List ℕ) → AreTreeEntries kind bytes es rest
    → All (IsClean kind) es
are_clean kind bytes [] rest h = All-nil (IsClean kind)
are_clean kind bytes (e ∷ es) rest h =
    All-cons (IsClean kind) e es (clean kind bytes e h.0 h.1) (are_clean kind h.0 es rest h.2)

mode_fits : (k : EntryKind) → mode_of_kind k < 2 ^ 32
mode_fits kinds.Tree = omega arith
mode_fits kinds.Blob = omega arith
mode_fits kinds.BlobExecutable = omega arith
mode_fits kinds.Link = omega arith
mode_fits kinds.Commit = omega arith

leaf_fits : (kind : Kind) (prefix : List ℕ) (e : TreeEntry) → HasNoNul prefix → IsClean kind e
    → FitsFile kind (leaf_of prefix e)
leaf_fits kind prefix e h c = record {
  id = c.id;
  path = All-append (λ b. b ≢ 0) prefix e.name h c.name;
  sized = record {
    ctime_secs = omega arith;
    ctime_nsecs = omega arith;
    mtime_secs = omega arith;
    mtime_nsecs = omega arith;
    dev = omega arith;
    ino = omega arith;
    uid = omega arith;
    gid = omega arith;
    size = omega arith;
    mode = mode_fits (kind_of_mode e.mode);
    id = c.size ∙ ap id_len (sym c.id);
  };
}

-- ---- leaves

IsCleanPart : Kind → Part → Type 0
IsCleanPart kind (whole_tree prefix id) = HasNoNul prefix
IsCleanPart kind (some_entries prefix es) = HasNoNul prefix × All (IsClean kind) es

AllFit : Kind → LeavesAnswer → Type 0
AllFit kind (Ok x) = All (FitsFile kind) x.0
AllFit kind (Err f) = Unit {0}

both_fit : (kind : Kind) (rs : List Record) (r : LeavesAnswer) → All (FitsFile kind) rs → AllFit kind r
    → AllFit kind (with_leaves rs r)
unfolding AllFit
both_fit kind rs (Ok x) h k = All-append (FitsFile kind) rs x.0 h k
both_fit kind rs (Err f) h k = tt

below_clean : (kind : Kind) (prefix : List ℕ) (e : TreeEntry) → HasNoNul prefix → IsClean kind e
    → HasNoNul (prefix ++ e.name ++ 47 ∷ [])
below_clean kind prefix e h c =
    All-append (λ b. b ≢ 0) (prefix ++ e.name) (47 ∷ []) (All-append (λ b. b ≢ 0) prefix e.name h c.name)
    (All-cons (λ b. b ≢ 0) 47 [] (λ is. absurd (omega (arith, is))) (All-nil (λ b. b ≢ 0)))

module _ (find : ObjectId → Found) (check : List ℕ → Bool → Option ℕ) (kind : Kind) where
  part_fits : (n : ℕ) (part : Part) (r : LeavesAnswer) → Yields find check kind n part r → IsCleanPart kind part
      → AllFit kind r
  unfolding AllFit IsCleanPart
  part_fits n part r (limit prefix id) h = tt
  part_fits n part r (unread m prefix id f u) h = tt
  part_fits n part r (opened m prefix id bytes es more found is y) h =
      part_fits m (some_entries prefix es) more y (h, are_clean kind bytes es [] is)
  part_fits n part r (ended m prefix) h = All-nil (FitsFile kind)
  part_fits n part r (refused m prefix e es number refuses) h = tt
  part_fits n part r (leaf m prefix e es more passes other y) h =
      both_fit kind (leaf_of prefix e ∷ []) more (All-cons (FitsFile kind) (leaf_of prefix e) []
      (leaf_fits kind prefix e h.0 (All-head (IsClean kind) e es h.1)) (All-nil (FitsFile kind)))
      (part_fits m (some_entries prefix es) more y (h.0, All-tail (IsClean kind) e es h.1))
  part_fits n part r (below m left prefix e es rs more passes is y z) h =
      both_fit kind rs more (part_fits m (whole_tree (prefix ++ e.name ++ 47 ∷ []) e.id) (Ok (rs, left)) y
      (below_clean kind prefix e h.0 (All-head (IsClean kind) e es h.1)))
      (part_fits left (some_entries prefix es) more z (h.0, All-tail (IsClean kind) e es h.1))
  part_fits n part r (stopped m prefix e es f passes is y) h = tt

pub leaves_fit : (find : ObjectId → Found) (check : List ℕ → Bool → Option ℕ) (root : ObjectId) (most : ℕ)
    (rs : List Record) → AreLeaves find check root most (Ok rs) → All (FitsFile (id_kind root)) rs
unfolding AllFit IsCleanPart
leaves_fit find check root most rs h =
    part_fits find check (id_kind root) most (whole_tree [] root) (Ok (rs, h.0)) h.1 (All-nil (λ b. b ≢ 0))
