-- The bytes that are written for the resolve-undo extension (gitformat-index, "Resolve undo").
use Rattle.std.specs.Prelude.{◌≡◌, ◌≢◌, ℕ, zero, suc, ◌+◌, ◌/◌, ◌%◌, ◌^◌, ◌<◌, nat_lt, if◌then◌else◌, List, [], ◌∷◌}
use Rattle.std.specs.Prelude.{◌++◌, All, codes, length, Option, Some, None, IfSome}
use Rattle.std.specs.List.{flat_map}
use Rattle.index_parts.specs.Id.{id_bytes, id_kind, id_len}
use Rattle.index_parts.specs.declared.hash.Kind.{Kind}
use Rattle.index_extensions.specs.Encoding.{item_of}
use Rattle.index_extensions.specs.Walk.{Item}
use Rattle.ext_small.specs.ResolveUndo.{PathStages}
use Rattle.ext_small.specs.declared.resolve_undo.Stage.{Stage}

-- the octal digits of a number before its last one, at most as many as the first argument
unfoldable pub octal_before_last : ℕ → ℕ → List ℕ
octal_before_last zero n = []
octal_before_last (suc most) n = if nat_lt n 8 then [] else octal_before_last most (n / 8) ++ (48 + n / 8 % 8) ∷ []

-- the octal digits of a number of at most 32 bits, without leading zeros
unfoldable pub octal_digits : ℕ → List ℕ
octal_digits n = octal_before_last 10 n ++ (48 + n % 8) ∷ []

-- the mode of a stage, or 0 if there is none
abbrev pub stage_mode : Option Stage → ℕ
stage_mode None = 0
stage_mode (Some stage) = stage.mode

-- a mode in octal digits, and a NUL
abbrev pub mode_bytes : Option Stage → List ℕ
mode_bytes stage = octal_digits (stage_mode stage) ++ 0 ∷ []

-- the id of a stage; a missing stage has no bytes
abbrev pub stage_id : Option Stage → List ℕ
stage_id None = []
stage_id (Some stage) = id_bytes stage.id

-- the path and a NUL, the modes of its three stages, and the ids of the stages that are present
unfoldable pub path_bytes : PathStages → List ℕ
path_bytes p = (p.name ++ 0 ∷ []) ++ (flat_map mode_bytes p.stages ++ flat_map stage_id p.stages)

-- the paths, one after another
abbrev pub resolve_undo_bytes : List PathStages → List ℕ
resolve_undo_bytes paths = flat_map path_bytes paths

-- the resolve-undo extension with its head
abbrev pub resolve_undo_item : List PathStages → Item
resolve_undo_item paths = item_of (codes "REUC") (resolve_undo_bytes paths)

-- a mode of at most 32 bits that isn't 0, and an id of the hash algorithm with its number of bytes
pub record IsSpellableStage (kind : Kind) (stage : Stage) : Type 0 where
  pub some : stage.mode ≢ 0
  pub fits : stage.mode < 2 ^ 32
  pub id_is : id_kind stage.id ≡ kind
  pub id_size : length (id_bytes stage.id) ≡ id_len kind

-- the name contains no NUL, and there are three stages
pub record IsSpellablePath (kind : Kind) (p : PathStages) : Type 0 where
  pub name : All (λ b. b ≢ 0) p.name
  pub three : length p.stages ≡ 3
  pub stages : All (λ stage. IfSome stage (IsSpellableStage kind)) p.stages

abbrev pub AreSpellablePaths : Kind → List PathStages → Type 0
AreSpellablePaths kind paths = All (IsSpellablePath kind) paths
