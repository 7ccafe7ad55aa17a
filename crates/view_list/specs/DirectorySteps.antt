-- Steps of writing the lines of directories (the library's own).
use Rattle.std.specs.Prelude.{◌≡◌, ℕ, List, ◌++◌, Result, OnOk}
use Rattle.std.specs.declared.io.Error.{Error}
use Rattle.index_parts.specs.declared.hash.io.Out.{Ghosts}
use Rattle.base_text.specs.Blocks.{PutsBlocks}

-- The effect of a call that writes lines after those that were collected, in a directory with the prefix `front`. After
-- an `Ok` the prefix is as it was before.
pub record PutsLines {S T : Type 0} (writer : Ghosts S) (old new : S) (answer : Result T Error)
    (waited waiting lines front after : List ℕ) : Type 0 where
  pub written : PutsBlocks writer old new answer waiting (waited ++ lines)
  pub kept : OnOk answer (after ≡ front)
