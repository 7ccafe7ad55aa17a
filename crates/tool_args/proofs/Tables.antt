-- What a command is after an argument or a subcommand was added.
use Rattle.std.proofs.Common.{◌≡◌, ◌∙◌, ap, false, refl}
use Rattle.clap.specs.Built.{AddsArg}
use Rattle.clap.specs.Simple.{App, app_of, with_rule}
use Rattle.clap.specs.Walk.{Rule, Text, rule_of}
use Rattle.clap.specs.declared.builder.arg.Arg.{Arg}
use Rattle.clap.specs.declared.builder.command.Command.{Command}
use Rattle.clap.specs.declared.builder.command.Command.TheViews.{out-Command}
use Rattle.tool_args.specs.Table.{with_command}

pub app_with : (old new : Command) (a : Arg) (r : Rule) → AddsArg old a new → a.global ≡ false → rule_of a ≡ r
    → app_of new ≡ with_rule (app_of old) r
app_with old new a r added local is = added.shape local ∙ ap (with_rule (app_of old)) is

pub local_with : (old new : Command) (a : Arg) → AddsArg old a new → a.global ≡ false → (out-Command old).has_globals ≡ false
    → (out-Command new).has_globals ≡ false
local_with old new a added local before = added.globals ∙ rw (before, local) refl

pub command_with : (new old before : App) (name : Text) → new ≡ with_command old name → old ≡ before → new ≡ with_command before name
command_with new old before name added is = added ∙ ap (λ (a : App). with_command a name) is
