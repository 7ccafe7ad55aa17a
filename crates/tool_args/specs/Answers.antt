-- What is printed instead of running a command (the program's own).
use Rattle.std.specs.Prelude.{◌≡◌, ◌≢◌, ⊤, ℕ, [], Bool, true, false, List, Result, Ok, Err, IfErr, IfOk}
use Rattle.clap.specs.Faults.{fault_of}
use Rattle.clap.specs.Kinds.{IsAmong}
use Rattle.clap.specs.Simple.{subcommand_of, subcommand_rows_of}
use Rattle.clap.specs.Values.{kind_of}
use Rattle.clap.specs.Walk.{Text}
use Rattle.clap.specs.declared.error.Error.{Error}
use Rattle.clap.specs.declared.error.kind.ErrorKind.{ErrorKind}
use Rattle.clap.specs.declared.error.kind.ErrorKind.TheVariants.{DisplayHelp, DisplayVersion}
use Rattle.clap.specs.declared.error.kind.ErrorKind.TheVariants.{OutOfMemory}
use Rattle.tool_args.specs.Commands.{command_value}
use Rattle.tool_args.specs.Meaning.{Meaning, Runs, Says}
use Rattle.tool_args.specs.Table.{program}
use Rattle.clap.specs.declared.parser.matches.ArgMatches.{ArgMatches}
use Rattle.tool_args.specs.declared.answer.Answer.{Answer}
use Rattle.tool_args.specs.declared.command.Command.{Command}
use Rattle.tool_args.specs.declared.answer.Answer.TheVariants as answers

-- the answer for a parse's error
abbrev pub answer_by : ErrorKind → Error → Answer
answer_by DisplayHelp e = answers.Help e
answer_by DisplayVersion e = answers.Version e
answer_by OutOfMemory e = answers.OutOfMemory
answer_by kind e = answers.WrongWords e

abbrev pub answer_of : Error → Answer
answer_of e = answer_by (kind_of e) e

-- The answer of an error has what the arguments mean: help or the version if they request it, and otherwise their usage
-- error. Or memory ran out.
abbrev pub Answers : Meaning → Answer → Type 0
Answers (Runs command) answer = answer ≡ answers.OutOfMemory
Answers (Says kinds) answers.OutOfMemory = ⊤
Answers (Says kinds) (answers.Help e) = (kind_of e ≡ DisplayHelp) × IsAmong DisplayHelp kinds
Answers (Says kinds) (answers.Version e) =
    (kind_of e ≡ DisplayVersion) × IsAmong DisplayVersion kinds
Answers (Says kinds) (answers.WrongWords e) =
    (kind_of e ≢ DisplayHelp) × (kind_of e ≢ DisplayVersion) × IsAmong (kind_of e) kinds

-- the arguments requested it
abbrev pub is_asked_for : Answer → Bool
is_asked_for (answers.Help e) = true
is_asked_for (answers.Version e) = true
is_asked_for _ = false

-- the status with which the program ends: 0 for what was requested, 1 if memory ran out, and 2 for a usage error
abbrev pub status_of : Answer → ℕ
status_of (answers.Help e) = 0
status_of (answers.Version e) = 0
status_of answers.OutOfMemory = 1
status_of (answers.WrongWords e) = 2

-- a call's result is what is meant
abbrev pub IsMeant : Meaning → Result Command Answer → Type 0
IsMeant meaning (Ok command) = meaning ≡ Runs (command_value command)
IsMeant meaning (Err answer) = Answers meaning answer

-- what the arguments match, if they have no usage error; or the answer has the one that they have
pub record MatchesWords (words : List Text) (r : Result ArgMatches Answer) : Type 0 where
  pub fault : IfOk r (λ m. fault_of program words ≡ [])
  pub matches : IfOk r (λ m. subcommand_rows_of m ≡ subcommand_of program words)
  pub answer : IfErr r (Answers (Says (fault_of program words)))
