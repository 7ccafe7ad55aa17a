-- What a command prints of a file, and how such a command fails (the program's own).
use Rattle.std.specs.Prelude.{◌≡◌, ◌≢◌, ◌⊎◌, ℕ, true, List, Option, Result, IfErr, OnOk}
use Rattle.std.specs.Borrow.{Bor}
use Rattle.std.specs.Io.KnownBytes.{Appends, Keeps}
use Rattle.std.specs.IoError.{error_kind}
use Rattle.std.specs.declared.io.Error.{Error as IoError}
use Rattle.std.specs.declared.io.ErrorKind.TheVariants.{OutOfMemory}
use Rattle.gix_index.specs.DecodeError.{Error}
use Rattle.gix_index.specs.Hashing.Out.{Ghosts}
use Rattle.gix_index.specs.Taking.{AppendsPrefix}
use Rattle.tool_errors.specs.declared.failure.Failure.{Failure}
use Rattle.tool_errors.specs.declared.failure.Failure.TheVariants as failures

-- known bytes grew by a text of which a predicate holds
pub record TextOutput (Text : List ℕ → Type 0) (old new : Option (List ℕ)) : Type 0 where
  pub text : List ℕ
  pub is : Text text
  pub grew : Appends old new text

-- known bytes grew by a prefix of such a text
pub record PartialOutput (Text : List ℕ → Type 0) (old new : Option (List ℕ)) : Type 0 where
  pub text : List ℕ
  pub is : Text text
  pub grew : AppendsPrefix old new text

-- nothing is printed of a damaged file with this first error at this offset
abbrev pub NoText : ℕ → Error → List ℕ → Type 0
NoText offset e text = ⊥

-- what is printed of a valid file, or of a damaged one
abbrev pub AnyText : (List ℕ → Type 0) → (ℕ → Error → List ℕ → Type 0) → List ℕ → Type 0
AnyText Text Damaged text = Text text ⊎ ((offset : ℕ) × (e : Error) × Damaged offset e text)

-- How a command fails that prints. With an error of the output, the output took a part of the text, and has failed
-- unless memory was short. For a damaged file the output took all of the text, with the error, its offset and the file.
-- With any other failure, which is one of `Fault`, the output took nothing.
pub data FailsOutput (Text : List ℕ → Type 0) (Damaged : ℕ → Error → List ℕ → Type 0) (Fault : Failure → Type 0)
    (path : List ℕ) (failure : Failure) (Failed : Type 0) (old new : Option (List ℕ)) : Type 0 where
  part : (e : IoError) → failure ≡ failures.Output e → (error_kind e ≢ OutOfMemory → Failed)
      → PartialOutput (AnyText Text Damaged) old new
      → FailsOutput Text Damaged Fault path failure Failed old new
  whole : (file : Bor (List ℕ)) (offset : ℕ) (e : Error) → failure ≡ failures.Damaged file offset e → file.now ≡ path
      → TextOutput (Damaged offset e) old new → FailsOutput Text Damaged Fault path failure Failed old new
  untold : Fault failure → Keeps old new → FailsOutput Text Damaged Fault path failure Failed old new

-- How a command ends that prints what is in the file at a path. The output took such a text; or the failure is one of
-- these, and the output took what the failure states.
pub record EndsOutput {T : Type 0} (writer : Ghosts T) (old new : T) (Text : List ℕ → Type 0)
    (Damaged : ℕ → Error → List ℕ → Type 0) (Fault : Failure → Type 0) (path : List ℕ)
    (answer : Result (Unit {0}) Failure) : Type 0 where
  pub told : OnOk answer (TextOutput Text (writer.taken old) (writer.taken new))
  pub refused : IfErr answer (λ failure. FailsOutput Text Damaged Fault path failure
      (writer.failed new ≡ true) (writer.taken old) (writer.taken new))
