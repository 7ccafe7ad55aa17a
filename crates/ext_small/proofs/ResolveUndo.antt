-- Bytes are one list of paths, or none, and the ids in it are of one kind.
use Rattle.std.proofs.Common.{◌≡◌, ℕ, zero, suc, ◌<◌, ◌≤◌, List, [], ◌∷◌, ◌++◌, length, Option, Some, None, All, refl}
use Rattle.std.proofs.Common.{sym, ap, subst, ◌∙◌, arith}
use Rattle.std.specs.Prelude.{IfSome}
use Rattle.std.proofs.lemmas.List.Elements.{All-nil, All-cons}
use Rattle.index_parts.specs.Id.{id_kind}
use Rattle.index_parts.specs.declared.hash.Kind.{Kind}
use Rattle.index_extensions.specs.ExtensionValue.{IsRead}
use Rattle.ext_small.specs.ResolveUndoSteps.{resolve_path_at}
use Rattle.ext_small.specs.ResolveUndo.{PathStages, IsResolvePath, HasResolvePath, AreResolvePaths}
use Rattle.ext_small.specs.ResolveUndo.{IsResolveUndo, PathIdsAreOf}
use Rattle.ext_small.proofs.Paths.{path_takes, path_again, one_path, path_fewer, path_kind}
use Rattle.index_extensions.proofs.Readings.{one_read}

-- no path begins if nothing is left
no_path : (kind : Kind) (bytes : List ℕ) (p : PathStages) (rest : List ℕ) → bytes ≡ [] → IsResolvePath kind bytes p rest
    → ⊥
no_path kind bytes p rest none h = omega (arith, path_fewer kind bytes p rest h, ap length none)

-- a path after paths implies one at the start
pub front_path : (kind : Kind) (bytes : List ℕ) (paths : List PathStages) (rest : List ℕ)
    → AreResolvePaths kind bytes paths rest → HasResolvePath kind rest → HasResolvePath kind bytes
front_path kind bytes [] rest h has = subst (HasResolvePath kind) (sym h) has
front_path kind bytes (p ∷ paths) rest h has = record { path = p; rest = h.0; is_path = h.1 }

-- one more path after paths
pub paths_push : (kind : Kind) (bytes : List ℕ) (paths : List PathStages) (p : PathStages) (middle rest : List ℕ)
    → AreResolvePaths kind bytes paths middle → IsResolvePath kind middle p rest
    → AreResolvePaths kind bytes (paths ++ p ∷ []) rest
paths_push kind bytes [] p middle rest h k = (rest, subst (λ (b : List ℕ). IsResolvePath kind b p rest) (sym h) k, refl)
paths_push kind bytes (q ∷ paths) p middle rest h k = (h.0, h.1, paths_push kind h.0 paths p middle rest h.2 k)

-- if some bytes after paths begin no path, the bytes are no paths
pub no_paths : (kind : Kind) (bytes : List ℕ) (paths all : List PathStages) (rest : List ℕ)
    → AreResolvePaths kind bytes paths rest → (rest ≡ [] → ⊥) → resolve_path_at kind rest ≡ None
    → IsResolveUndo kind bytes all → ⊥
no_paths kind bytes [] [] rest h some e k = some (sym h ∙ k)
no_paths kind bytes [] (q ∷ all) rest h some e k =
    let f : resolve_path_at kind rest ≡ Some (q, k.0) =
    path_again kind rest q k.0 (subst (λ (b : List ℕ). IsResolvePath kind b q k.0) h k.1) in
    cc
no_paths kind bytes (p ∷ paths) [] rest h some e k = no_path kind bytes p h.0 k h.1
no_paths kind bytes (p ∷ paths) (q ∷ all) rest h some e k =
    let same = one_path kind bytes q p k.0 h.0 k.1 h.1 in
    no_paths kind h.0 paths all rest h.2 some e (subst (λ (b : List ℕ). AreResolvePaths kind b all []) same.1 k.2)

-- bytes are one list of paths
pub one_resolve_undo : (kind : Kind) (bytes : List ℕ) (a b : List PathStages) → IsResolveUndo kind bytes a
    → IsResolveUndo kind bytes b → a ≡ b
one_resolve_undo kind bytes [] [] h k = refl
one_resolve_undo kind bytes [] (q ∷ b) h k = absurd (no_path kind bytes q k.0 h k.1)
one_resolve_undo kind bytes (p ∷ a) [] h k = absurd (no_path kind bytes p h.0 k h.1)
one_resolve_undo kind bytes (p ∷ a) (q ∷ b) h k =
    let same = one_path kind bytes p q h.0 k.0 h.1 k.1 in
    let others =
    one_resolve_undo kind h.0 a b h.2 (subst (λ (l : List ℕ). AreResolvePaths kind l b []) (sym same.1) k.2) in
    ap (λ (x : PathStages). x ∷ a) same.0 ∙ ap (λ (l : List PathStages). q ∷ l) others

-- all ids of paths are of the kind that their bytes are read by
pub ids_of_paths : (kind : Kind) (bytes : List ℕ) (paths : List PathStages) (rest : List ℕ)
    → AreResolvePaths kind bytes paths rest → PathIdsAreOf kind paths
ids_of_paths kind bytes [] rest h = All-nil (λ p. All (λ stage. IfSome stage (λ s. id_kind s.id ≡ kind)) p.stages)
ids_of_paths kind bytes (p ∷ paths) rest h =
    All-cons (λ q. All (λ stage. IfSome stage (λ s. id_kind s.id ≡ kind)) q.stages) p paths
    (path_kind kind bytes p h.0 h.1) (ids_of_paths kind h.0 paths rest h.2)

-- ---- bytes are paths or none

abbrev Reading : Kind → List ℕ → Type 0
Reading kind bytes = (v : Option (List PathStages)) × IsRead (IsResolveUndo kind) bytes v

abbrev NoPaths : Kind → List ℕ → Type 0
NoPaths kind bytes = (paths : List PathStages) → IsResolveUndo kind bytes paths → ⊥

no_others : (kind : Kind) (bytes : List ℕ) (p : PathStages) (rest : List ℕ) (all : List PathStages)
    → IsResolvePath kind bytes p rest → NoPaths kind rest → IsResolveUndo kind bytes all → ⊥
no_others kind bytes p rest [] h none k = no_path kind bytes p rest k h
no_others kind bytes p rest (q ∷ all) h none k =
    let same = one_path kind bytes q p k.0 rest k.1 h in
    none all (subst (λ (b : List ℕ). AreResolvePaths kind b all []) same.1 k.2)

more_paths : (kind : Kind) (bytes : List ℕ) (p : PathStages) (rest : List ℕ) (v : Option (List PathStages))
    → IsResolvePath kind bytes p rest → IsRead (IsResolveUndo kind) rest v → Reading kind bytes
more_paths kind bytes p rest (Some paths) h others = (Some (p ∷ paths), (rest, h, others))
more_paths kind bytes p rest None h none = (None, λ all k. no_others kind bytes p rest all h none k)

-- by the path that begins bytes, if one does, and a reading of the fewer bytes after it
path_by : (kind : Kind) (bytes : List ℕ) (o : Option (PathStages × List ℕ)) → (bytes ≡ [] → ⊥)
    → resolve_path_at kind bytes ≡ o → ((rest : List ℕ) → length rest < length bytes → Reading kind rest)
    → Reading kind bytes
path_by kind bytes None some e behind = (None, λ all k. no_paths kind bytes [] all bytes refl some e k)
path_by kind bytes (Some x) some e behind =
    let h = path_takes kind bytes x e in
    let r = behind x.1 (path_fewer kind bytes x.0 x.1 h) in
    more_paths kind bytes x.0 x.1 r.0 h r.1

paths_within : (most : ℕ) (kind : Kind) (bytes : List ℕ) → length bytes ≤ most → Reading kind bytes
paths_within most kind [] few = (Some [], refl)
paths_within zero kind (b ∷ bytes) few = absurd (omega arith)
paths_within (suc most) kind (b ∷ bytes) few =
    path_by kind (b ∷ bytes) (resolve_path_at kind (b ∷ bytes)) (λ none. absurd cc) refl
    (λ rest fewer. paths_within most kind rest (omega arith))

pub resolve_undo_reading : (kind : Kind) (bytes : List ℕ)
    → (v : Option (List PathStages)) × IsRead (IsResolveUndo kind) bytes v
resolve_undo_reading kind bytes = paths_within (length bytes) kind bytes (omega arith)

pub resolve_undo_reading_one : (kind : Kind) (bytes : List ℕ) (v w : Option (List PathStages))
    → IsRead (IsResolveUndo kind) bytes v → IsRead (IsResolveUndo kind) bytes w → v ≡ w
resolve_undo_reading_one kind bytes = one_read (IsResolveUndo kind) bytes (one_resolve_undo kind bytes)
