-- The commands as values, and what the single arguments name (the program's own).
use Rattle.std.specs.Prelude.{Bool, false, codes, List, Option, Some, None, if◌then◌else◌}
use Rattle.std.specs.Prelude.{option_map}
use Rattle.std.specs.Borrow.{Bor}
use Rattle.std.specs.Option.{option_map_or}
use Rattle.std.specs.Str.{bytes_eq}
use Rattle.index_parts.specs.declared.hash.Kind.{Kind}
use Rattle.index_parts.specs.declared.hash.Kind.TheVariants.{Sha1, Sha256}
use Rattle.clap.specs.Walk.{Row, Text, first_of}
use Rattle.tool_args.specs.declared.command.Command.{Command}
use Rattle.tool_args.specs.declared.command.Command.TheVariants as commands
use Rattle.tool_args.specs.declared.command.Input.{Input}
use Rattle.tool_args.specs.declared.command.Input.TheVariants as inputs
use Rattle.base_text.specs.declared.lines.Lines.{Lines}
use Rattle.tool_args.specs.declared.command.Reading.{Reading}
use Rattle.tool_args.specs.declared.command.Reading.TheVariants as readings
use Rattle.tool_args.specs.declared.command.Writing.{Writing}
use Rattle.tool_args.specs.declared.command.Writing.TheVariants as writings

-- the location of an index: a file, for which the standard input may have changes, or the standard input
pub data Place : Type 0 where
  standard_input : Place
  file : Text → Place
  changed : Text → Place

-- a command with its values: the hash algorithm and the location, if they are given
pub data CommandValue : Type 0 where
  Reads : Reading → Option Kind → Option Place → CommandValue
  Writes : Writing → Option Kind → Place → Text → CommandValue

abbrev pub place_of : Input → Place
place_of inputs.Stdin = standard_input
place_of (inputs.File path) = file path.now
place_of (inputs.Changed path) = changed path.now

abbrev pub command_value : Command → CommandValue
command_value (commands.Read what kind input) = Reads what kind (option_map place_of input)
command_value (commands.Write what kind input to) = Writes what kind (place_of input) to.now

-- ---- one argument

abbrev pub kind_argument : Text → Option Kind
kind_argument word =
    if bytes_eq word (codes "sha1") then Some Sha1
    else (if bytes_eq word (codes "sha256") then Some Sha256 else None)

abbrev pub place_named : Text → Place
place_named word = if bytes_eq word (codes "-") then standard_input else file word

-- the text of an argument, if there is one
abbrev pub text_of : Option (Bor Text) → Option Text
text_of = option_map (λ word. word.now)

-- ---- what the parse matched

-- whether a flag was set
abbrev pub is_set : Text → List Row → Bool
is_set id rows = option_map_or (λ text. bytes_eq text (codes "true")) (first_of id rows) false

abbrev pub lines_argument : List Row → Lines
lines_argument rows = record { nul = is_set (codes "z") rows; quote = is_set (codes "quote") rows }

-- what the command of a name prints
abbrev pub reading_named : Text → List Row → Option Reading
reading_named name rows =
    if bytes_eq name (codes "list") then Some (readings.List (lines_argument rows))
    else (if bytes_eq name (codes "check") then Some (readings.Check (is_set (codes "strict") rows))
    else (if bytes_eq name (codes "check-trees") then Some (readings.CheckTrees (is_set (codes "strict") rows))
    else (if bytes_eq name (codes "map") then Some (readings.Map (lines_argument rows))
    else (if bytes_eq name (codes "map-svg") then Some readings.MapSvg
    else (if bytes_eq name (codes "show") then Some readings.Show
    else (if bytes_eq name (codes "show-json") then Some readings.ShowJson
    else (if bytes_eq name (codes "trees") then Some (readings.Trees (lines_argument rows))
    else None)))))))

-- what the command of a name writes
abbrev pub writing_named : Text → List Row → Option Writing
writing_named name rows =
    if bytes_eq name (codes "rewrite") then Some (writings.Rewrite (is_set (codes "keep") rows))
    else (if bytes_eq name (codes "rewrite4") then Some (writings.Rewrite4 (is_set (codes "keep") rows))
    else (if bytes_eq name (codes "rewrite-trees")
    then Some (writings.RewriteTrees (is_set (codes "missing-ok") rows))
    else (if bytes_eq name (codes "salvage") then Some (writings.Salvage (is_set (codes "all") rows))
    else None)))
