-- What arguments mean: a command with its values, or what is printed instead (the program's own).
use Rattle.std.specs.Prelude.{Bool, ◌∷◌, ◌++◌, codes, List, [], Option, Some, None, if◌then◌else◌}
use Rattle.std.specs.Borrow.{Bor}
use Rattle.std.specs.Str.{bytes_eq}
use Rattle.index_parts.specs.declared.hash.Kind.{Kind}
use Rattle.clap.specs.Kinds.{Kinds}
use Rattle.clap.specs.Faults.{fault_of}
use Rattle.clap.specs.Simple.{subcommand_of}
use Rattle.clap.specs.Walk.{Row, Text, first_of}
use Rattle.clap.specs.declared.error.kind.ErrorKind.TheVariants.{InvalidSubcommand, InvalidValue}
use Rattle.clap.specs.declared.error.kind.ErrorKind.TheVariants.{MissingRequiredArgument}
use Rattle.clap.specs.declared.error.kind.ErrorKind.TheVariants.{MissingSubcommand}
use Rattle.tool_args.specs.Commands.{CommandValue, Reads, Writes, changed, is_set, kind_argument, place_named}
use Rattle.tool_args.specs.Commands.{reading_named, text_of, writing_named}
use Rattle.tool_args.specs.Table.{program}
use Rattle.tool_args.specs.declared.command.Reading.{Reading}
use Rattle.tool_args.specs.declared.command.Writing.{Writing}
use Rattle.tool_args.specs.declared.command.Writing.TheVariants.{Update}

-- what arguments mean: a command, or an answer with one of these values of `ErrorKind`
pub data Meaning : Type 0 where
  Runs : CommandValue → Meaning
  Says : Kinds → Meaning

-- ---- the arguments after a command's name

-- an argument, if there is one, with those after it
abbrev pub optional_argument : Option Text → List Text → List Text
optional_argument (Some word) rest = word ∷ rest
optional_argument None rest = []

-- the arguments with these ids, up to the first that isn't given
abbrev pub words_at : List Text → List Row → List Text
words_at [] rows = []
words_at (id ∷ ids) rows = optional_argument (first_of id rows) (words_at ids rows)

-- FILE, which may be left out with `--auto`
abbrev pub read_meant : Bool → Reading → Option Kind → List Text → Meaning
read_meant auto what kind [] =
    if auto then Runs (Reads what kind None) else Says (MissingRequiredArgument ∷ [])
read_meant auto what kind (word ∷ []) = Runs (Reads what kind (Some (place_named word)))
read_meant auto what kind (word ∷ next ∷ rest) = Says (InvalidValue ∷ [])

-- FILE OUT, which is a path: only FILE may be `-`, the standard input
abbrev pub write_meant : Writing → Option Kind → List Text → Meaning
write_meant what kind [] = Says (MissingRequiredArgument ∷ [])
write_meant what kind (word ∷ []) = Says (MissingRequiredArgument ∷ [])
write_meant what kind (word ∷ to ∷ []) =
    if bytes_eq to (codes "-") then Says (InvalidValue ∷ []) else Runs (Writes what kind (place_named word) to)
write_meant what kind (word ∷ to ∷ next ∷ rest) = Says (InvalidValue ∷ [])

-- FILE, which is changed, so it isn't the standard input
abbrev pub change_meant : Bool → Option Kind → List Text → Meaning
change_meant nul kind [] = Says (MissingRequiredArgument ∷ [])
change_meant nul kind (word ∷ []) =
    if bytes_eq word (codes "-") then Says (InvalidValue ∷ [])
    else Runs (Writes (Update nul) kind (changed word) word)
change_meant nul kind (word ∷ next ∷ rest) = Says (InvalidValue ∷ [])

-- with `--auto` a first argument that names a hash algorithm is the KIND, and otherwise KIND is left out
abbrev pub kind_in_front : Option Kind → Text → List Text → Option Kind × List Text
kind_in_front (Some kind) word rest = (Some kind, rest)
kind_in_front None word rest = (None, word ∷ rest)

abbrev pub kind_taken : List Text → Option Kind × List Text
kind_taken [] = (None, [])
kind_taken (word ∷ rest) = kind_in_front (kind_argument word) word rest

abbrev pub on_taken : (Option Kind → List Text → Meaning) → List Text → Meaning
on_taken meant words = meant (kind_taken words).0 (kind_taken words).1

-- without `--auto` the first argument is the KIND
abbrev pub on_kind : (Option Kind → List Text → Meaning) → Option Kind → List Text → Meaning
on_kind meant (Some kind) rest = meant (Some kind) rest
on_kind meant None rest = Says (InvalidValue ∷ [])

abbrev pub on_named : (Option Kind → List Text → Meaning) → List Text → Meaning
on_named meant [] = Says (MissingRequiredArgument ∷ [])
on_named meant (word ∷ rest) = on_kind meant (kind_argument word) rest

abbrev pub on_words : Bool → (Option Kind → List Text → Meaning) → List Text → Meaning
on_words auto meant words = if auto then on_taken meant words else on_named meant words

-- what up to two arguments after the name mean, and up to three
abbrev pub on_two : Bool → (Option Kind → List Text → Meaning) → Option (Bor Text) → Option (Bor Text) → Meaning
on_two auto meant first second = on_words auto meant (optional_argument (text_of first) (optional_argument (text_of
    second) []))

abbrev pub on_three : Bool → (Option Kind → List Text → Meaning) → Option (Bor Text) → Option (Bor Text)
    → Option (Bor Text) → Meaning
on_three auto meant first second third =
    on_words auto meant (optional_argument (text_of first) (optional_argument (text_of second) (optional_argument
    (text_of third) [])))

abbrev pub is_auto : List Row → Bool
is_auto = is_set (codes "auto")

abbrev pub meant_else : Text → List Row → Meaning
meant_else name rows =
    if bytes_eq name (codes "update")
    then on_words (is_auto rows) (change_meant (is_set (codes "z") rows))
    (words_at (codes "KIND" ∷ codes "FILE" ∷ []) rows)
    else Says (InvalidSubcommand ∷ [])

abbrev pub meant_so : Text → Option Reading → Option Writing → List Row → Meaning
meant_so name (Some what) other rows =
    on_words (is_auto rows) (read_meant (is_auto rows) what) (words_at (codes "KIND" ∷ codes "FILE" ∷ []) rows)
meant_so name None (Some what) rows =
    on_words (is_auto rows) (write_meant what) (words_at (codes "KIND" ∷ codes "FILE" ∷ codes "OUT" ∷ []) rows)
meant_so name None None rows = meant_else name rows

abbrev pub meant : Text → List Row → Meaning
meant name rows = meant_so name (reading_named name rows) (writing_named name rows) rows

-- ---- all arguments

abbrev pub unless_faulty : Kinds → Meaning → Meaning
unless_faulty [] meaning = meaning
unless_faulty (kind ∷ kinds) meaning = Says (kind ∷ kinds)

-- `help NAME` is `NAME --help`, and `help` is `--help`
abbrev pub help_words : List Row → List Text
help_words rows = optional_argument (first_of (codes "COMMAND") rows) [] ++ codes "--help" ∷ []

abbrev pub help_meant : List Text → Meaning
help_meant words = unless_faulty (fault_of program words) (Says (InvalidSubcommand ∷ []))

abbrev pub entered_meant : Option (Text × List Row) → Meaning
entered_meant (Some p) =
    if bytes_eq p.0 (codes "help") then help_meant (help_words p.1) else meant p.0 p.1
entered_meant None = Says (MissingSubcommand ∷ [])

-- what the arguments after the program's name mean: what they match, if they have no usage error
abbrev pub meaning : List Text → Meaning
meaning words =
    unless_faulty (fault_of program words) (entered_meant (subcommand_of program words))
