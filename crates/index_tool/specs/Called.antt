-- What the program did for the arguments with which it was called, over the files of the system (the program's own).
use Rattle.std.specs.Prelude.{◌≡◌, ◌≢◌, ◌≤◌, ◌↔◌, ℕ, false, List, Option, Result, IfErr, IfOk, OnErr, String}
use Rattle.std.specs.Global.{Global, Vec}
use Rattle.std.specs.Io.KnownBytes.{Keeps}
use Rattle.std.specs.declared.io.ErrorKind.{ErrorKind}
use Rattle.std.specs.declared.io.ErrorKind.TheVariants.{OutOfMemory}
use Rattle.gix_index.specs.Disk.World.{Unknown, World}
use Rattle.tool_defaults.specs.declared.place.Surroundings.{Surroundings}
use Rattle.index_tool.specs.Calls.{meaning_of}
use Rattle.index_tool.specs.Ending.{AreWrong, IsDone, IsRefused}
use Rattle.index_tool.specs.declared.command.TheConstants.{DONE, REFUSED, WRONG_WORDS}

-- some environment, and what the output had before and has after
pub record Somewhere (Holds : Surroundings → Option (List ℕ) → Option (List ℕ) → Type 0) : Type 0 where
  pub around : Surroundings
  pub old : Option (List ℕ)
  pub new : Option (List ℕ)
  pub holds : Holds around old new

-- the files of the system, of which nothing is known
abbrev pub unknown : World
unknown = λ path. Unknown

-- What these arguments mean was done on the files of the system, or failed, by the status; or it is a usage error.
pub record EndsWords (texts : List (String Global)) (code : ℕ) : Type 0 where
  pub status : code ≤ WRONG_WORDS
  pub wrong_words : code ≡ WRONG_WORDS → AreWrong (meaning_of texts)
  pub done : code ≡ DONE → Somewhere
      (λ around old new. IsDone around false false unknown unknown old new (meaning_of texts))
  pub refused : code ≡ REFUSED → Somewhere
      (λ around old new. IsRefused around false false unknown unknown old new (meaning_of texts))

-- The arguments with which the program was called were run. If they can't be read, the status is that of an allocation
-- failure or of an argument that isn't UTF-8. Nothing is then written to the output.
pub record EndsCall (call : Result (Vec (String Global)) ErrorKind) (old new : Option (List ℕ)) (code : ℕ) : Type 0 where
  pub status : code ≤ WRONG_WORDS
  pub run : IfOk call (λ words. EndsWords words.items code)
  pub no_memory : IfErr call (λ kind. (code ≡ REFUSED) ↔ (kind ≡ OutOfMemory))
  pub not_utf_8 : IfErr call (λ kind. (code ≡ WRONG_WORDS) ↔ (kind ≢ OutOfMemory))
  pub nothing : OnErr call (Keeps old new)
