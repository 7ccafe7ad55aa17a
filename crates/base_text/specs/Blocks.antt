-- Text that is written in blocks, and the result of a call that writes so (the library's own).
use Rattle.std.specs.Prelude.{◌≡◌, ◌≢◌, ◌||◌, ℕ, nat_lt, List, [], ◌++◌, length, Option, Result, OnOk, OnErr, IfErr, true}
use Rattle.std.specs.Prelude.{is_err, if◌then◌else◌}
use Rattle.std.specs.Io.KnownBytes.{Appends}
use Rattle.std.specs.IoError.{error_kind}
use Rattle.std.specs.declared.io.Error.{Error}
use Rattle.std.specs.declared.io.ErrorKind.TheVariants.{OutOfMemory}
use Rattle.index_parts.specs.Taking.{AppendsPrefix}
use Rattle.index_parts.specs.declared.hash.io.Out.{Ghosts}

-- some of the bytes were written, and the others are buffered
abbrev pub Passes : Option (List ℕ) → Option (List ℕ) → List ℕ → List ℕ → Type 0
Passes old new waiting all = (done : List ℕ) × Appends old new done × (done ++ waiting ≡ all)

-- the part of a text that stays in the buffer: all of it below 64 KiB, else nothing
abbrev pub waiting_of : List ℕ → List ℕ
waiting_of text = if nat_lt (length text) 65536 then text else []

-- The result of a call that writes a full buffer and empties it. After Ok the buffer has the rest of its text
-- (`waiting_of`). After Err a prefix of it was written, and the buffer is unchanged. The writer has failed if the call
-- has, or if it had before. Its borrows are unchanged.
pub record PutsFull {S T E : Type 0} (writer : Ghosts S) (old new : S) (answer : Result T E) (before after : List ℕ)
    : Type 0 where
  pub ok : OnOk answer (Passes (writer.taken old) (writer.taken new) after before)
  pub waits : OnOk answer (after ≡ waiting_of before)
  pub err : OnErr answer (AppendsPrefix (writer.taken old) (writer.taken new) before)
  pub kept : OnErr answer (after ≡ before)
  pub has_failed : writer.failed new ≡ (is_err answer || writer.failed old)
  pub loan : writer.loan new ≡ writer.loan old

-- The result of a call that writes a text when it fills a block. After Ok a prefix of the text was written, and the
-- rest is buffered. After Err a prefix of it was written. After Ok the writer has failed only if it had before. After
-- an error other than out of memory it has failed. Its borrows are unchanged.
pub record PutsBlocks {S T : Type 0} (writer : Ghosts S) (old new : S) (answer : Result T Error) (waiting text : List ℕ)
    : Type 0 where
  pub ok : OnOk answer (Passes (writer.taken old) (writer.taken new) waiting text)
  pub err : OnErr answer (AppendsPrefix (writer.taken old) (writer.taken new) text)
  pub going : OnOk answer (writer.failed new ≡ writer.failed old)
  pub cause : IfErr answer (λ e. error_kind e ≢ OutOfMemory → writer.failed new ≡ true)
  pub loan : writer.loan new ≡ writer.loan old

-- The result of a call that writes a text in blocks and buffers nothing after Ok: then all of it was written. After Err
-- a prefix of it was written. After Ok the writer has failed only if it had before. After an error other than out of
-- memory it has failed. Its borrows are unchanged.
pub record PutsText {S T : Type 0} (writer : Ghosts S) (old new : S) (answer : Result T Error) (text : List ℕ)
    : Type 0 where
  pub ok : OnOk answer (Appends (writer.taken old) (writer.taken new) text)
  pub err : OnErr answer (AppendsPrefix (writer.taken old) (writer.taken new) text)
  pub going : OnOk answer (writer.failed new ≡ writer.failed old)
  pub cause : IfErr answer (λ e. error_kind e ≢ OutOfMemory → writer.failed new ≡ true)
  pub loan : writer.loan new ≡ writer.loan old
