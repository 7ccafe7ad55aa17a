-- What was written of resolve-undo is read again, and what was read can be written.
use Rattle.std.proofs.Common.{◌≡◌, ℕ, ◌+◌, ◌^◌, ◌<◌, List, [], ◌∷◌, ◌++◌, length, map, Option, Some, None, All}
use Rattle.std.proofs.Common.{get_or, refl, sym, ap, subst, ◌∙◌, append_assoc, append-nil, length-append, arith}
use Rattle.std.specs.Prelude.{◌≢◌, IfSome}
use Rattle.std.specs.List.{flat_map}
use Rattle.std.proofs.lemmas.List.Elements.{All-nil, All-cons, All-head, All-tail}
use Rattle.index_parts.proofs.Ids.{id_kind-make_id, id_bytes-make_id}
use Rattle.index_parts.specs.Id.{id_bytes, id_kind, make_id}
use Rattle.index_parts.specs.declared.hash.Kind.{Kind}
use Rattle.index_parts.specs.declared.hash.ObjectId.{ObjectId}
use Rattle.index_parts.specs.declared.hash.ObjectId.TheVariants as ids
use Rattle.ext_small.specs.ModeDigits.{IsMode, plain, plus}
use Rattle.ext_small.specs.ResolveUndo.{PathStages, IsStage, absent, present, IsResolvePath}
use Rattle.ext_small.specs.ResolveUndo.{AreResolvePaths, IsResolveUndo, path_stages}
use Rattle.ext_small.specs.declared.resolve_undo.ResolvePath.{ResolvePath}
use Rattle.ext_small.specs.declared.resolve_undo.Stage.{Stage}
use Rattle.ext_encode.specs.ResolveUndoImage.{octal_digits, stage_mode, mode_bytes, stage_id, path_bytes}
use Rattle.ext_encode.specs.ResolveUndoImage.{resolve_undo_bytes, IsSpellableStage, IsSpellablePath}
use Rattle.ext_encode.specs.ResolveUndoImage.{AreSpellablePaths}
use Rattle.ext_encode.proofs.OctalDigits.{digits_spell}

-- ---- a stage

pub id_made : (kind : Kind) (id : ObjectId) → id_kind id ≡ kind → id ≡ make_id kind (id_bytes id)
id_made kind id e = rw (← e) (made id)
  where
    made : (i : ObjectId) → i ≡ make_id (id_kind i) (id_bytes i)
    made (ids.Sha1 bytes) = refl
    made (ids.Sha256 bytes) = refl

stage_there : (kind : Kind) (stage : Option Stage) → IfSome stage (IsSpellableStage kind)
    → IsStage kind (octal_digits (stage_mode stage)) (stage_id stage) stage
stage_there kind None h = absent (plain (digits_spell 0 (omega arith))) refl refl
stage_there kind (Some s) h =
    let with_id : ObjectId → Option Stage = λ id. Some (record { mode = s.mode; id = id }) in
    present s.mode (plain (digits_spell s.mode h.fits)) h.some h.id_size (ap with_id (id_made kind s.id h.id_is))

mode_fits : (text : List ℕ) (n : ℕ) → IsMode text n → n < 2 ^ 32
mode_fits text n (plain h) = h.fits
mode_fits text n (plus digits parts h) = h.fits

stage_spellable : (kind : Kind) (text id : List ℕ) (stage : Option Stage) → IsStage kind text id stage
    → IfSome stage (IsSpellableStage kind)
stage_spellable kind text id stage (absent m none is) =
    subst (λ (s : Option Stage). IfSome s (IsSpellableStage kind)) (sym is) tt
stage_spellable kind text id stage (present mode m other len is) =
    subst (λ (s : Option Stage). IfSome s (IsSpellableStage kind)) (sym is) (record {
      some = other;
      fits = mode_fits text mode m;
      id_is = id_kind-make_id kind id;
      id_size = ap length (id_bytes-make_id kind id) ∙ len;
    })

-- ---- a path

path_joined : (n b o t i j k rest : List ℕ)
    → ((n ++ 0 ∷ []) ++ (((b ++ 0 ∷ []) ++ ((o ++ 0 ∷ []) ++ ((t ++ 0 ∷ []) ++ []))) ++ (i ++ (j ++ (k ++ []))))) ++ rest
    ≡ n ++ 0 ∷ (b ++ 0 ∷ (o ++ 0 ∷ (t ++ 0 ∷ (i ++ (j ++ (k ++ rest))))))
path_joined n b o t i j k rest = simp (append_assoc, append-nil) refl

abbrev IsFit : Kind → Option Stage → Type 0
IsFit kind stage = IfSome stage (IsSpellableStage kind)

three_there : (kind : Kind) (name : List ℕ) (a b c : Option Stage) (rest : List ℕ) → All (λ x. x ≢ 0) name
    → IsFit kind a → IsFit kind b → IsFit kind c
    → IsResolvePath kind (path_bytes (record { name = name; stages = a ∷ b ∷ c ∷ [] }) ++ rest)
    (record { name = name; stages = a ∷ b ∷ c ∷ [] }) rest
unfolding path_bytes
three_there kind name a b c rest apart f g h = record {
  base = octal_digits (stage_mode a);
  ours = octal_digits (stage_mode b);
  theirs = octal_digits (stage_mode c);
  base_id = stage_id a;
  ours_id = stage_id b;
  theirs_id = stage_id c;
  parts = path_joined name (octal_digits (stage_mode a)) (octal_digits (stage_mode b)) (octal_digits (stage_mode c))
      (stage_id a) (stage_id b) (stage_id c) rest;
  name_apart = apart;
  base_stage = a;
  ours_stage = b;
  theirs_stage = c;
  is_base = stage_there kind a f;
  is_ours = stage_there kind b g;
  is_theirs = stage_there kind c h;
  stages_are = refl;
}

stages_there : (kind : Kind) (name : List ℕ) (stages : List (Option Stage)) (rest : List ℕ) → All (λ x. x ≢ 0) name
    → length stages ≡ 3 → All (IsFit kind) stages
    → IsResolvePath kind (path_bytes (record { name = name; stages = stages }) ++ rest)
    (record { name = name; stages = stages }) rest
stages_there kind name [] rest apart len h = absurd (omega arith)
stages_there kind name (a ∷ []) rest apart len h = absurd (omega arith)
stages_there kind name (a ∷ b ∷ []) rest apart len h = absurd (omega arith)
stages_there kind name (a ∷ b ∷ c ∷ []) rest apart len h =
    let two = All-tail (IsFit kind) a (b ∷ c ∷ []) h in
    let one = All-tail (IsFit kind) b (c ∷ []) two in
    three_there kind name a b c rest apart (All-head (IsFit kind) a (b ∷ c ∷ []) h)
    (All-head (IsFit kind) b (c ∷ []) two) (All-head (IsFit kind) c [] one)
stages_there kind name (a ∷ b ∷ c ∷ d ∷ stages) rest apart len h = absurd (omega arith)

path_there : (kind : Kind) (p : PathStages) (rest : List ℕ) → IsSpellablePath kind p
    → IsResolvePath kind (path_bytes p ++ rest) p rest
path_there kind p rest h = stages_there kind p.name p.stages rest h.name h.three h.stages

path_spellable : (kind : Kind) (bytes : List ℕ) (p : PathStages) (rest : List ℕ) → IsResolvePath kind bytes p rest
    → IsSpellablePath kind p
path_spellable kind bytes p rest h =
    let base = stage_spellable kind h.base h.base_id h.base_stage h.is_base in
    let ours = stage_spellable kind h.ours h.ours_id h.ours_stage h.is_ours in
    let theirs = stage_spellable kind h.theirs h.theirs_id h.theirs_stage h.is_theirs in
    let one = All-cons (IsFit kind) h.theirs_stage [] theirs (All-nil (IsFit kind)) in
    let two = All-cons (IsFit kind) h.ours_stage (h.theirs_stage ∷ []) ours one in
    let three = All-cons (IsFit kind) h.base_stage (h.ours_stage ∷ h.theirs_stage ∷ []) base two in
    record {
      name = h.name_apart;
      three = ap length h.stages_are;
      stages = subst (All (IsFit kind)) (sym h.stages_are) three;
    }

-- ---- paths

pub resolve_undo_there : (kind : Kind) (paths : List PathStages) → AreSpellablePaths kind paths
    → IsResolveUndo kind (resolve_undo_bytes paths) paths
resolve_undo_there kind [] h = refl
resolve_undo_there kind (p ∷ paths) h = (
  resolve_undo_bytes paths,
  path_there kind p (resolve_undo_bytes paths) (All-head (IsSpellablePath kind) p paths h),
  resolve_undo_there kind paths (All-tail (IsSpellablePath kind) p paths h),
)

pub paths_spellable : (kind : Kind) (bytes : List ℕ) (paths : List PathStages) (rest : List ℕ)
    → AreResolvePaths kind bytes paths rest → AreSpellablePaths kind paths
paths_spellable kind bytes [] rest h = All-nil (IsSpellablePath kind)
paths_spellable kind bytes (p ∷ paths) rest h = All-cons (IsSpellablePath kind) p paths
    (path_spellable kind bytes p h.0 h.1) (paths_spellable kind h.0 paths rest h.2)

-- ---- parts and lengths

pub path_parts : (p : PathStages) (name : List ℕ) (stages : List (Option Stage)) → name ≡ p.name → stages ≡ p.stages
    → (name ++ 0 ∷ []) ++ (flat_map mode_bytes stages ++ flat_map stage_id stages) ≡ path_bytes p
unfolding path_bytes
path_parts p name stages e f = rw (e, f) refl

-- paths as they are in memory
pub listed : (paths : List ResolvePath)
    → flat_map (λ p. path_bytes (path_stages p)) paths ≡ resolve_undo_bytes (map path_stages paths)
listed [] = refl
listed (p ∷ paths) = ap (λ (l : List ℕ). path_bytes (path_stages p) ++ l) (listed paths)

stages_sum : (b o t i j k : List ℕ)
    → length (((b ++ 0 ∷ []) ++ ((o ++ 0 ∷ []) ++ ((t ++ 0 ∷ []) ++ []))) ++ (i ++ (j ++ (k ++ []))))
    ≡ (length (b ++ 0 ∷ []) + length i) + (length (o ++ 0 ∷ []) + length j) + (length (t ++ 0 ∷ []) + length k)
stages_sum b o t i j k = omega (
  arith,
  length-append ((b ++ 0 ∷ []) ++ ((o ++ 0 ∷ []) ++ ((t ++ 0 ∷ []) ++ []))) (i ++ (j ++ (k ++ []))),
  length-append (b ++ 0 ∷ []) ((o ++ 0 ∷ []) ++ ((t ++ 0 ∷ []) ++ [])),
  length-append (o ++ 0 ∷ []) ((t ++ 0 ∷ []) ++ []),
  length-append (t ++ 0 ∷ []) [],
  length-append i (j ++ (k ++ [])),
  length-append j (k ++ []),
  length-append k [],
)

three_are : (l : List (Option Stage)) (d e f : Option Stage) → length l ≡ 3
    → l ≡ get_or l 0 d ∷ get_or l 1 e ∷ get_or l 2 f ∷ []
three_are [] d e f len = absurd (omega arith)
three_are (a ∷ []) d e f len = absurd (omega arith)
three_are (a ∷ b ∷ []) d e f len = absurd (omega arith)
three_are (a ∷ b ∷ c ∷ []) d e f len = refl
three_are (a ∷ b ∷ c ∷ g ∷ l) d e f len = absurd (omega arith)

pub stages_len : (stages : List (Option Stage)) (d e f : Option Stage) (base ours theirs : ℕ) → length stages ≡ 3
    → base ≡ length (mode_bytes (get_or stages 0 d)) + length (stage_id (get_or stages 0 d))
    → ours ≡ length (mode_bytes (get_or stages 1 e)) + length (stage_id (get_or stages 1 e))
    → theirs ≡ length (mode_bytes (get_or stages 2 f)) + length (stage_id (get_or stages 2 f))
    → base + ours + theirs ≡ length (flat_map mode_bytes stages ++ flat_map stage_id stages)
stages_len stages d e f base ours theirs len x y z =
    let a = get_or stages 0 d in
    let b = get_or stages 1 e in
    let c = get_or stages 2 f in
    let sum = stages_sum (octal_digits (stage_mode a)) (octal_digits (stage_mode b)) (octal_digits (stage_mode c))
    (stage_id a) (stage_id b) (stage_id c) in
    let is = ap (λ (s : List (Option Stage)). length (flat_map mode_bytes s ++ flat_map stage_id s))
    (three_are stages d e f len) in
    omega (arith, sum, is, x, y, z)

pub path_len : (p : PathStages) (name : List ℕ) (stages : List (Option Stage)) (size : ℕ) → name ≡ p.name
    → stages ≡ p.stages → size ≡ length (flat_map mode_bytes stages ++ flat_map stage_id stages)
    → length name + 1 + size ≡ length (path_bytes p)
path_len p name stages size e f len = omega (
  arith,
  len,
  ap length (path_parts p name stages e f),
  length-append (name ++ 0 ∷ []) (flat_map mode_bytes stages ++ flat_map stage_id stages),
  length-append name (0 ∷ []),
)

-- what all of a list's images have, all of it have in their images
pub all_unmapped : {A B : Type 0} (P : B → Type 0) (f : A → B) (xs : List A) → All P (map f xs) → All (λ x. P (f x)) xs
all_unmapped P f [] h = All-nil (λ x. P (f x))
all_unmapped P f (x ∷ xs) h = All-cons (λ y. P (f y)) x xs (All-head P (f x) (map f xs) h)
    (all_unmapped P f xs (All-tail P (f x) (map f xs) h))
