-- Resolve-undo (gitformat-index, "Resolve undo"): conflicted paths as they were before the conflict was resolved.
use Rattle.std.specs.Prelude.{◌≡◌, ◌≢◌, ℕ, ◌==◌, List, [], ◌∷◌, ◌++◌, All, length, Option, Some, None, IfSome}
use Rattle.std.specs.Prelude.{if◌then◌else◌}
use Rattle.bstr.specs.Owned.{bstring_bytes}
use Rattle.index_parts.specs.Id.{id_len, id_kind, make_id}
use Rattle.index_parts.specs.declared.hash.Kind.{Kind}
use Rattle.index_parts.specs.declared.hash.ObjectId.{ObjectId}
use Rattle.ext_small.specs.ModeDigits.{IsMode}
use Rattle.ext_small.specs.declared.resolve_undo.Stage.{Stage}
use Rattle.ext_small.specs.declared.resolve_undo.ResolvePath.{ResolvePath}

-- a path, and its stages 1 to 3, as far as it had them
pub record PathStages : Type 0 where
  pub name : List ℕ
  pub stages : List (Option Stage)

-- a path as plain data
abbrev pub path_stages : ResolvePath → PathStages
path_stages p = record { name = bstring_bytes p.name; stages = p.stages }

-- the side with a mode and an id; a mode of 0 means that there is none
abbrev pub side_of : ℕ → ObjectId → Option Stage
side_of mode id = if mode == 0 then None else Some (record { mode = mode; id = id })

-- A mode's text and the bytes of an id are a stage. A mode of 0 means that there is no stage, and has no id.
pub data IsStage (kind : Kind) (text id : List ℕ) (stage : Option Stage) : Type 0 where
  absent : IsMode text 0 → id ≡ [] → stage ≡ None → IsStage kind text id stage
  present : (mode : ℕ) → IsMode text mode → mode ≢ 0 → length id ≡ id_len kind
      → stage ≡ Some (record { mode = mode; id = make_id kind id }) → IsStage kind text id stage

-- Bytes are a path, and the rest. A path is the name up to a NUL and three modes, each up to a NUL. The ids of the
-- modes that aren't 0 follow, in the order of the modes.
pub record IsResolvePath (kind : Kind) (bytes : List ℕ) (p : PathStages) (rest : List ℕ) : Type 0 where
  pub base : List ℕ
  pub ours : List ℕ
  pub theirs : List ℕ
  pub base_id : List ℕ
  pub ours_id : List ℕ
  pub theirs_id : List ℕ
  pub parts : bytes ≡ p.name ++ 0 ∷
      (base ++ 0 ∷ (ours ++ 0 ∷ (theirs ++ 0 ∷ (base_id ++ (ours_id ++ (theirs_id ++ rest))))))
  pub name_apart : All (λ b. b ≢ 0) p.name
  pub base_stage : Option Stage
  pub ours_stage : Option Stage
  pub theirs_stage : Option Stage
  pub is_base : IsStage kind base base_id base_stage
  pub is_ours : IsStage kind ours ours_id ours_stage
  pub is_theirs : IsStage kind theirs theirs_id theirs_stage
  pub stages_are : p.stages ≡ base_stage ∷ ours_stage ∷ theirs_stage ∷ []

pub record HasResolvePath (kind : Kind) (bytes : List ℕ) : Type 0 where
  pub path : PathStages
  pub rest : List ℕ
  pub is_path : IsResolvePath kind bytes path rest

-- bytes are these paths, one after another, and the rest
abbrev pub AreResolvePaths : Kind → List ℕ → List PathStages → List ℕ → Type 0
AreResolvePaths kind bytes [] rest = bytes ≡ rest
AreResolvePaths kind bytes (p ∷ paths) rest =
    (after : List ℕ) × IsResolvePath kind bytes p after × AreResolvePaths kind after paths rest

-- bytes are these paths, and nothing follows them
abbrev pub IsResolveUndo : Kind → List ℕ → List PathStages → Type 0
IsResolveUndo kind bytes paths = AreResolvePaths kind bytes paths []

-- all ids of stages are of this hash algorithm
abbrev pub PathIdsAreOf : Kind → List PathStages → Type 0
PathIdsAreOf kind paths = All (λ p. All (λ stage. IfSome stage (λ s. id_kind s.id ≡ kind)) p.stages) paths
