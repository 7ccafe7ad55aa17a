-- What each call of the program returns, and what it leaves of files and of the output (the program's own).
use Rattle.std.specs.Prelude.{◌≡◌, ◌≤◌, ◌⊎◌, ℕ, Bool, false, true, List, map, Option, Result, IfErr, IfOk}
use Rattle.std.specs.Prelude.{OnErr, OnOk, String, string_bytes}
use Rattle.std.specs.Global.{Global}
use Rattle.std.specs.Io.KnownBytes.{Keeps}
use Rattle.std.specs.Option.{option_map}
use Rattle.gix_index.specs.Hashing.Out.{Ghosts as Output}
use Rattle.gix_index.specs.Kind.{Kind}
use Rattle.gix_index.specs.OnDisk.FolderTrait.{Ghosts as Folder}
use Rattle.gix_index.specs.OnDisk.Folders.{LeavesFolder}
use Rattle.tool_errors.specs.Storing.{EndsStoring}
use Rattle.tool_errors.specs.Outputs.{TextOutput}
use Rattle.tool_errors.specs.declared.failure.Failure.{Failure}
use Rattle.tool_defaults.specs.declared.error.Error.{Error}
use Rattle.tool_defaults.specs.declared.place.Surroundings.{Surroundings}
use Rattle.tool_inspect.specs.declared.salvage.Report.{Report}
use Rattle.tool_args.specs.Answers.{is_asked_for}
use Rattle.tool_args.specs.Commands as words
use Rattle.tool_args.specs.Meaning.{Meaning, meaning}
use Rattle.tool_args.specs.declared.answer.Answer.{Answer}
use Rattle.tool_args.specs.declared.answer.Answer.TheVariants as answers
use Rattle.tool_args.specs.declared.command.Command.{Command}
use Rattle.tool_args.specs.declared.command.Input.{Input}
use Rattle.tool_args.specs.declared.command.Reading.{Reading}
use Rattle.tool_args.specs.declared.command.Writing.{Writing}
use Rattle.index_tool.specs.Command.{ResolvedCommand, IsFileAndKind, IsPlace, Reads, on_file}
use Rattle.index_tool.specs.Ending.{AreWrong, HasNoPlace, IsDone, IsRefused, IsUnfound, InputCause, reports, reports_of}
use Rattle.index_tool.specs.Outcome.{Does, FailsToStore, GivesUp, IsOutput, Spares, StoresIndex, Succeeds}
use Rattle.index_tool.specs.declared.command.Found.{Found}
use Rattle.index_tool.specs.declared.command.TheConstants.{DONE, REFUSED, WRONG_WORDS}

-- ---- the index that a command is about

-- the standard input is held in memory, or why it can't be; the folder stays
pub record HoldsInput {S F M : Type 0} (folder : Folder S F M) (old new : S) (answer : Result (Unit {0}) Error)
    : Type 0 where
  pub fault : IfErr answer InputCause
  pub leaves : LeavesFolder folder old new

-- The path of the file that an argument names, or of the index of the work tree around; or why there is none. The
-- folder stays.
pub record FindsFilePath {S F M : Type 0} (folder : Folder S F M) (old new : S) (around : Surroundings)
    (input : Option Input) (answer : Result (String Global) Error) : Type 0 where
  pub place : IfOk answer
      (λ path. IsPlace (folder.known old) around (option_map words.place_of input) (string_bytes path))
  pub fault : IfErr answer
      (HasNoPlace (folder.works old) (folder.known old) around (option_map words.place_of input))
  pub leaves : LeavesFolder folder old new

-- The file and its hash algorithm, as far as arguments name them, and otherwise as they are found; or why they aren't.
-- The folder stays.
pub record FindsFileAndKind {S F M : Type 0} (folder : Folder S F M) (old new : S) (around : Surroundings)
    (given : Option Kind) (input : Option Input) (answer : Result Found Error) : Type 0 where
  pub found : IfOk answer (λ found. IsFileAndKind (folder.known old) around given (option_map words.place_of input)
      found.kind (string_bytes found.path))
  pub fault : IfErr answer
      (IsUnfound (folder.works old) (folder.known old) around given (option_map words.place_of input))
  pub leaves : LeavesFolder folder old new

-- ---- a command

-- what is requested of the file at a path is printed, or the command fails
pub record InspectOutput {S F M T : Type 0} (what : Reading) (folder : Folder S F M) (now : S) (kind : Kind) (path :
    List ℕ)
    (writer : Output T) (old new : T) (answer : Result (Unit {0}) Failure) : Type 0 where
  pub told : OnOk answer (TextOutput (IsOutput what (folder.known now) kind path) (writer.taken old) (writer.taken new))
  pub refused : OnErr answer
      (GivesUp (folder.known now) (Reads what kind path) (writer.taken old) (writer.taken new))

-- what is requested of an index is written to another path, or why it isn't
abbrev pub WritesOf : {S F M : Type 0} → Writing → Folder S F M → S → S → Found → List ℕ
    → Result (Option Report) Failure → Type 0
WritesOf what folder old new index to answer = EndsStoring folder old new to
    (StoresIndex what (folder.alone old) (folder.guards old) index.kind (folder.known old) (folder.known new)
    (string_bytes index.path) to)
    (FailsToStore what (folder.works old) (folder.guards old) index.kind (folder.known old) (string_bytes index.path) to)
    answer

-- the command of the arguments as it runs on an index, and whether a line reports what it did
abbrev pub command_on : Command → Found → ResolvedCommand
command_on command index = on_file (words.command_value command) index.kind (string_bytes index.path)

abbrev pub reports_by : Command → Bool
reports_by command = reports (words.command_value command)

-- a command runs on an index: it completed, or it failed
pub record Acts {S F M T : Type 0} (command : Command) (index : Found) (folder : Folder S F M) (before behind : S)
    (writer : Output T) (old new : T) (answer : Result (Option Report) Failure) : Type 0 where
  pub done : IfOk answer (λ report. Does report (folder.alone before) (folder.guards before) (folder.known before)
      (folder.known behind) (command_on command index) (writer.taken old) (writer.taken new))
  pub refused : OnErr answer
      (GivesUp (folder.known before) (command_on command index) (writer.taken old) (writer.taken new))
  pub spared : OnErr answer (Spares (folder.alone before) (folder.works before) (folder.known before)
      (folder.known behind) (command_on command index))

-- a command runs on an index, by the status with which the program ends
pub record EndsByStatus {S F M T : Type 0} (command : Command) (index : Found) (folder : Folder S F M) (before behind : S)
    (writer : Output T) (old new : T) (code : ℕ) : Type 0 where
  pub status : code ≤ REFUSED
  pub done : code ≡ DONE → Succeeds (folder.alone before) (folder.guards before) (folder.known before)
      (folder.known behind) (command_on command index) (writer.taken old) (writer.taken new)
  pub refused : code ≡ REFUSED
      → GivesUp (folder.known before) (command_on command index) (writer.taken old) (writer.taken new)
  pub spared : code ≡ REFUSED → Spares (folder.alone before) (folder.works before) (folder.known before)
      (folder.known behind) (command_on command index)

-- ---- the arguments

-- an answer that may end with status 1: what was requested, which the output may not take, or an allocation failure
abbrev pub IsRefusable : Answer → Type 0
IsRefusable answer = (is_asked_for answer ≡ true) ⊎ (answer ≡ answers.OutOfMemory)

-- what the arguments of a call mean
abbrev pub meaning_of : List (String Global) → Meaning
meaning_of texts = meaning (map string_bytes texts)

-- What these arguments mean was done, or failed, by the status with which the program ends. Or it is a usage error:
-- then nothing is written to the output, and no file is opened.
pub record EndsRun {S F M T : Type 0} (around : Surroundings) (texts : List (String Global)) (folder : Folder S F M)
    (before behind : S) (writer : Output T) (old new : T) (code : ℕ) : Type 0 where
  pub status : code ≤ WRONG_WORDS
  pub wrong_words : code ≡ WRONG_WORDS → AreWrong (meaning_of texts)
  pub nothing_opened : code ≡ WRONG_WORDS → Keeps (writer.taken old) (writer.taken new)
  pub untouched : code ≡ WRONG_WORDS → folder.known behind ≡ folder.known before
  pub done : code ≡ DONE → IsDone around (folder.alone before) (folder.guards before) (folder.known before)
      (folder.known behind) (writer.taken old) (writer.taken new) (meaning_of texts)
  pub refused : code ≡ REFUSED → IsRefused around (folder.alone before) (folder.works before) (folder.known before)
      (folder.known behind) (writer.taken old) (writer.taken new) (meaning_of texts)

-- if the command completed and no line reports what it did, nothing is written to the lines of errors
abbrev pub KeepsFaults : {U : Type 0} → Bool → (U → Option (List ℕ)) → U → U → ℕ → Type 0
KeepsFaults reported lines old new code = code ≡ DONE → reported ≡ false → Keeps (lines old) (lines new)

abbrev pub reports_in : List (String Global) → Bool
reports_in texts = reports_of (meaning_of texts)
