-- The result of a call that writes bytes: the bytes, the writer's failure and its borrows.
use Rattle.std.specs.Prelude.{◌≡◌, ◌||◌, ℕ, List, is_err, Result}
use Rattle.index_parts.specs.declared.hash.io.Out.{Ghosts}
use Rattle.index_parts.specs.Taking.{Takes}

-- After Ok all of these bytes were taken, after Err a prefix of them. The writer has failed if the call has, or if it
-- had before. Its borrows are unchanged.
pub record Puts {S T E : Type 0} (writer : Ghosts S) (old new : S) (answer : Result T E) (bytes : List ℕ) : Type 0 where
  pub takes : Takes writer.taken writer.hashed old new answer bytes
  pub failed : writer.failed new ≡ (is_err answer || writer.failed old)
  pub loan : writer.loan new ≡ writer.loan old
