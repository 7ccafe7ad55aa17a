-- The results of the readers of resolve-undo, as functions: a value and the rest, or nothing (gitformat-index, "Resolve
-- undo"). Public clauses cite none of these.
use Rattle.std.specs.Prelude.{ℕ, ◌==◌, List, [], ◌∷◌, Option, Some, None, if◌then◌else◌}
use Rattle.index_parts.specs.Octal.{octal_number}
use Rattle.index_parts.specs.ReadingSteps.{◌>>=◌, split_at_byte, object_id_at}
use Rattle.index_parts.specs.declared.hash.Kind.{Kind}
use Rattle.ext_small.specs.ResolveUndo.{PathStages}
use Rattle.ext_small.specs.declared.resolve_undo.Stage.{Stage}
use Rattle.ext_small.specs.declared.resolve_undo.path.LentPath.{LentPath}

-- the mode that octal digits after an optional plus sign encode
abbrev pub mode_of : List ℕ → Option ℕ
mode_of [] = octal_number []
mode_of (b ∷ text) = if b == 43 then octal_number text else octal_number (b ∷ text)

-- a mode up to a NUL
unfoldable pub mode_at : List ℕ → Option (ℕ × List ℕ)
mode_at bytes = do
  text ← split_at_byte 0 bytes
  mode ← mode_of text.0
  Some (mode, text.1)

-- the stage with this mode
unfoldable pub stage_at : Kind → ℕ → List ℕ → Option (Option Stage × List ℕ)
stage_at kind mode bytes =
    if mode == 0 then Some (None, bytes)
    else (object_id_at kind bytes >>= λ id. Some (Some (record { mode = mode; id = id.0 }), id.1))

-- a path and its stages
unfoldable pub resolve_path_at : Kind → List ℕ → Option (PathStages × List ℕ)
resolve_path_at kind bytes = do
  name ← split_at_byte 0 bytes
  base ← mode_at name.1
  ours ← mode_at base.1
  theirs ← mode_at ours.1
  one ← stage_at kind base.0 theirs.1
  two ← stage_at kind ours.0 one.1
  three ← stage_at kind theirs.0 two.1
  Some (record { name = name.0; stages = one.0 ∷ two.0 ∷ three.0 ∷ [] }, three.1)

-- the value of a path that borrows its name
abbrev pub lent_path : LentPath → PathStages
lent_path p = record { name = p.name.now; stages = p.stages }
