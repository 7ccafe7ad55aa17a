-- The program's commands with their arguments, as a parse reads them (the program's own).
use Rattle.std.specs.Prelude.{◌≡◌, ℕ, Bool, List, [], ◌∷◌, ◌||◌, codes, Some, if◌then◌else◌, fold, true, false, Result}
use Rattle.std.specs.Prelude.{IfOk}
use Rattle.std.specs.Str.{bytes_eq}
use Rattle.clap.specs.Walk.{Rule, Text}
use Rattle.clap.specs.Simple.{App, app_of, new_app, new_rule, with_rule, with_subcommand}
use Rattle.clap.specs.declared.builder.action.ArgAction.TheVariants.{SetTrue}
use Rattle.clap.specs.declared.builder.command.Command.{Command}
use Rattle.clap.specs.declared.builder.command.Command.TheViews.{out-Command}

-- the names of the commands that read or write an index
abbrev pub names : List Text
names =
    codes "list" ∷ codes "check" ∷ codes "check-trees" ∷ codes "map" ∷ codes "map-svg"
    ∷ codes "show" ∷ codes "show-json" ∷ codes "trees" ∷ codes "rewrite" ∷ codes "rewrite4"
    ∷ codes "rewrite-trees" ∷ codes "update" ∷ codes "salvage" ∷ []

-- the commands that write an index, those that write lines with paths, and those that check an index
abbrev pub is_writing : Text → Bool
is_writing name =
    bytes_eq name (codes "rewrite") || (bytes_eq name (codes "rewrite4")
    || (bytes_eq name (codes "rewrite-trees") || bytes_eq name (codes "salvage")))

abbrev pub has_lines : Text → Bool
has_lines name =
    bytes_eq name (codes "list") || (bytes_eq name (codes "map") || bytes_eq name (codes "trees"))

abbrev pub is_checking : Text → Bool
is_checking name = bytes_eq name (codes "check") || bytes_eq name (codes "check-trees")

abbrev pub flag : Text → Rule
flag id = record (new_rule id) { action = Some SetTrue }

abbrev pub short_flag : Text → ℕ → Rule
short_flag id letter = record (flag id) { short = Some letter }

abbrev pub long_flag : Text → Rule
long_flag id = record (flag id) { long = Some id }

-- `-z`
abbrev pub with_nul : App → App
with_nul a = with_rule a (short_flag (codes "z") 122)

-- `-z` and `--quote`
abbrev pub with_lines : App → App
with_lines a = with_rule (with_nul a) (long_flag (codes "quote"))

abbrev pub auto_flag : Rule
auto_flag = record (short_flag (codes "auto") 97) { long = Some (codes "auto") }

abbrev pub with_keep : App → App
with_keep a = with_rule a (long_flag (codes "keep"))

abbrev pub with_all : App → App
with_all a = with_rule a (long_flag (codes "all"))

abbrev pub with_missing : App → App
with_missing a = with_rule a (long_flag (codes "missing-ok"))

abbrev pub with_strict : App → App
with_strict a = with_rule a (long_flag (codes "strict"))

abbrev pub with_out : App → App
with_out a = with_rule a (new_rule (codes "OUT"))

abbrev pub with_auto : App → App
with_auto a = with_rule a auto_flag

-- the arguments KIND and FILE, and `-a` or `--auto`
abbrev pub with_inputs : App → App
with_inputs a = with_auto (with_rule (with_rule a (new_rule (codes "KIND"))) (new_rule (codes "FILE")))

-- the commands that write an index again
abbrev pub is_rewriting : Text → Bool
is_rewriting name = bytes_eq name (codes "rewrite") || bytes_eq name (codes "rewrite4")

-- the command of a name that writes: after KIND and FILE, it has the argument OUT and its option
abbrev pub written_app : Text → App → App
written_app name a =
    if bytes_eq name (codes "rewrite-trees") then with_missing (with_out a)
    else (if is_rewriting name then with_keep (with_out a) else with_all (with_out a))

-- the command of a name, with its arguments and options
abbrev pub command_app : Text → App
command_app name =
    if is_writing name then written_app name (with_inputs (new_app name))
    else (if bytes_eq name (codes "update") then with_nul (with_inputs (new_app name))
    else (if has_lines name then with_lines (with_inputs (new_app name))
    else (if is_checking name then with_strict (with_inputs (new_app name))
    else with_inputs (new_app name))))

abbrev pub with_command : App → Text → App
with_command a name = with_subcommand a (command_app name).top

-- `help`, with the name of a command
abbrev pub help_app : App
help_app = with_rule (new_app (codes "help")) (new_rule (codes "COMMAND"))

abbrev pub no_commands : App
no_commands = record (new_app (codes "index-tool")) {
  top = record (new_app (codes "index-tool")).top {
    has_version = true;
    no_binary_name = true;
    disable_help_subcommand = true;
    subcommand_required = true;
    arg_required_else_help = true;
  };
}

-- the program with all its commands, `help` the last
abbrev pub program : App
program = with_subcommand (fold with_command no_commands names) help_app.top

-- ---- what each call makes

-- the command before, with these arguments and options; none of the options is for all commands
pub record Extends {E : Type 0} (extended : App → App) (before : Command) (answer : Result Command E) : Type 0 where
  pub app : IfOk answer (λ c. app_of c ≡ extended (app_of before))
  pub local : IfOk answer (λ c. (out-Command before).has_globals ≡ false → (out-Command c).has_globals ≡ false)

-- this command; none of its options is for all commands
pub record MakesApp {E : Type 0} (made : App) (answer : Result Command E) : Type 0 where
  pub app : IfOk answer (λ c. app_of c ≡ made)
  pub local : IfOk answer (λ c. (out-Command c).has_globals ≡ false)
