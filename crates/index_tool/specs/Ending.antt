-- What the program did for its arguments, by the status with which it ends (the program's own).
use Rattle.std.specs.Prelude.{◌≡◌, ◌≢◌, ◌⊎◌, ℕ, List, Bool, true, false, codes, Option, Some, None}
use Rattle.std.specs.Io.KnownBytes.{Keeps}
use Rattle.std.specs.Path.{path_buf_bytes}
use Rattle.gix_index.specs.Kind.{Kind}
use Rattle.gix_index.specs.Disk.World.{World}
use Rattle.clap.specs.Kinds.{IsAmong, Kinds}
use Rattle.clap.specs.declared.error.kind.ErrorKind.{ErrorKind}
use Rattle.clap.specs.declared.error.kind.ErrorKind.TheVariants.{DisplayHelp, DisplayVersion}
use Rattle.tool_defaults.specs.KindAt.{KindCause}
use Rattle.tool_defaults.specs.PlaceFaults.{IndexPathCause}
use Rattle.tool_defaults.specs.declared.error.Error.{Error}
use Rattle.tool_defaults.specs.declared.error.Error.TheVariants as errors
use Rattle.tool_defaults.specs.declared.place.Surroundings.{Surroundings}
use Rattle.tool_args.specs.declared.answer.Answer.{Answer}
use Rattle.tool_args.specs.declared.answer.Answer.TheVariants as answers
use Rattle.tool_args.specs.Commands as words
use Rattle.tool_args.specs.Meaning.{Meaning, Runs, Says}
use Rattle.tool_args.specs.declared.command.Writing.TheVariants as writings
use Rattle.index_tool.specs.Command.{ResolvedCommand, IsCommand, IsPlace, given_of, input_of}
use Rattle.index_tool.specs.Outcome.{GivesUp, Spares, Succeeds}

-- ---- the index isn't found

-- the standard input can't be read, or there is no memory for it
abbrev pub InputCause : Error → Type 0
InputCause (errors.Io fault) = path_buf_bytes fault.path ≡ codes "/dev/stdin"
InputCause errors.Memory = Unit {0}
InputCause (errors.NotRegular at) = ⊥
InputCause (errors.Empty at) = ⊥
InputCause (errors.NoIndex at start) = ⊥
InputCause (errors.KindNotTold at) = ⊥
InputCause (errors.OtherKind at) = ⊥
InputCause (errors.NoCommonDir at) = ⊥
InputCause (errors.NoGitDir at) = ⊥
InputCause errors.NoRepository = ⊥

-- why there is no path
abbrev pub HasNoPlace : Bool → World → Surroundings → Option words.Place → Error → Type 0
HasNoPlace works world around (Some words.standard_input) e = InputCause e
HasNoPlace works world around (Some (words.file text)) e = e ≡ errors.Memory
HasNoPlace works world around (Some (words.changed text)) e = InputCause e
HasNoPlace works world around None e = IndexPathCause works world around e

-- why there is no path, or no hash algorithm of the file at it if no argument names one
abbrev pub IsUnfound : Bool → World → Surroundings → Option Kind → Option words.Place → Error → Type 0
IsUnfound works world around given place e = HasNoPlace works world around place e
    ⊎ ((given ≡ None) × ((path : List ℕ) × IsPlace world around place path × KindCause works world path e))

-- ---- what is done

-- the arguments request help or the version
abbrev pub AreAsked : Kinds → Type 0
AreAsked kinds = IsAmong DisplayHelp kinds ⊎ IsAmong DisplayVersion kinds

-- the arguments have a usage error, which is neither
abbrev pub AreWrong : Meaning → Type 0
AreWrong (Runs command) = ⊥
AreWrong (Says kinds) =
    (kind : ErrorKind) × IsAmong kind kinds × (kind ≢ DisplayHelp) × (kind ≢ DisplayVersion)

-- an answer is a usage error
abbrev pub IsWrong : Answer → Type 0
IsWrong (answers.WrongWords e) = Unit {0}
IsWrong (answers.Help e) = ⊥
IsWrong (answers.Version e) = ⊥
IsWrong answers.OutOfMemory = ⊥

-- whether a line reports what was done, if it was: that of what was saved
abbrev pub reports : words.CommandValue → Bool
reports (words.Writes (writings.Salvage all) given place to) = true
reports command = false

abbrev pub reports_of : Meaning → Bool
reports_of (Runs command) = reports command
reports_of (Says kinds) = false

-- the command of the arguments completed; or what they request was printed, which changes no file
pub data IsDone (around : Surroundings) (alone guards : Bool) (before behind : World) (old new : Option (List ℕ))
    : Meaning → Type 0 where
  ran : (meant : words.CommandValue) (command : ResolvedCommand) → IsCommand before around meant command
      → Succeeds alone guards before behind command old new
      → IsDone around alone guards before behind old new (Runs meant)
  told : (kinds : Kinds) → AreAsked kinds → behind ≡ before
      → IsDone around alone guards before behind old new (Says kinds)

-- The command of the arguments failed. Or its index isn't found, because of the error, or there is no memory for the
-- arguments, and nothing is changed. Or what they request couldn't be printed.
pub data IsRefused (around : Surroundings) (alone works : Bool) (before behind : World) (old new : Option (List ℕ))
    : Meaning → Type 0 where
  refused : (meant : words.CommandValue) (command : ResolvedCommand) → IsCommand before around meant command
      → GivesUp before command old new → Spares alone works before behind command
      → IsRefused around alone works before behind old new (Runs meant)
  unfound : (meant : words.CommandValue) (e : Error)
      → IsUnfound works before around (given_of meant) (input_of meant) e → Keeps old new → behind ≡ before
      → IsRefused around alone works before behind old new (Runs meant)
  untold : (kinds : Kinds) → AreAsked kinds → behind ≡ before
      → IsRefused around alone works before behind old new (Says kinds)
  unread : (meaning : Meaning) → Keeps old new → behind ≡ before
      → IsRefused around alone works before behind old new meaning
