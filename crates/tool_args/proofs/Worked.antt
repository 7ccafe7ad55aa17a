-- What `meaning` makes of arguments that are written out, and of any path that is no option after `list` and `rewrite`.
use Rattle.std.proofs.Common.{◌≡◌, ◌∙◌, ◌∷◌, ◌++◌, [], List, codes, map, Some, None, false, true, refl}
use Rattle.std.specs.Str.{bytes_eq}
use Rattle.index_parts.specs.declared.hash.Kind.{Kind}
use Rattle.index_parts.specs.declared.hash.Kind.TheVariants.{Sha1, Sha256}
use Rattle.clap.specs.Lexer.{long_of, short_of}
use Rattle.clap.specs.Walk.{Text}
use Rattle.clap.specs.declared.error.kind.ErrorKind.TheVariants as kind
use Rattle.clap.proofs.OnLiterals.{clap_on_literals}
use Rattle.tool_args.specs.Commands.{Reads, Writes, changed, file, place_named}
use Rattle.tool_args.specs.Meaning.{Runs, Says, meaning, write_meant}
use Rattle.base_text.specs.declared.lines.Lines.{Lines}
use Rattle.tool_args.specs.declared.command.Reading.{Reading}
use Rattle.tool_args.specs.declared.command.Reading.TheVariants as readings
use Rattle.tool_args.specs.declared.command.Writing.{Writing}
use Rattle.tool_args.specs.declared.command.Writing.TheVariants as writings

abbrev kind_name : Kind → Text
kind_name Sha1 = codes "sha1"
kind_name Sha256 = codes "sha256"

-- the word is no option: it is `-`, or doesn't begin with a hyphen
abbrev IsPath : Text → Type 0
IsPath word = (bytes_eq word (45 ∷ 45 ∷ []) ≡ false) × (long_of word ≡ None) × (short_of word ≡ None)

-- NAME KIND FILE
abbrev IsRead : Text → Reading → Type 0
IsRead name what = (kind : Kind) (path : Text) → IsPath path
    → meaning (name ∷ kind_name kind ∷ path ∷ []) ≡ Runs (Reads what (Some kind) (Some (place_named path)))

-- NAME KIND a OUT, after options
abbrev IsWritten : List Text → Writing → Type 0
IsWritten front what = (kind : Kind) (to : Text) → IsPath to → bytes_eq to (codes "-") ≡ false
    → meaning (front ++ kind_name kind ∷ codes "a" ∷ to ∷ []) ≡ Runs (Writes what (Some kind) (file (codes "a")) to)

abbrev plain : Lines
plain = record { nul = false; quote = false }

list_reads : IsRead (codes "list") (readings.List plain)
unfolding clap_on_literals
list_reads Sha1 path is = rw (is.0, is.1, is.2) refl
list_reads Sha256 path is = rw (is.0, is.1, is.2) refl

-- OUT is a path if it is no hyphen
out_taken : (what : Writing) (kind : Kind) (word to : Text) → bytes_eq to (codes "-") ≡ false
    → write_meant what (Some kind) (word ∷ to ∷ []) ≡ Runs (Writes what (Some kind) (place_named word) to)
out_taken what kind word to other = rw other refl

rewrite_taken : (kind : Kind) (to : Text) → IsPath to → meaning (codes "rewrite" ∷ kind_name kind ∷ codes "a" ∷ to ∷ [])
    ≡ write_meant (writings.Rewrite false) (Some kind) (codes "a" ∷ to ∷ [])
unfolding clap_on_literals
rewrite_taken Sha1 to is = rw is.0 (rw is.1 (rw is.2 refl))
rewrite_taken Sha256 to is = rw is.0 (rw is.1 (rw is.2 refl))

rewrite_writes : IsWritten (codes "rewrite" ∷ []) (writings.Rewrite false)
rewrite_writes kind to is other =
    rewrite_taken kind to is ∙ out_taken (writings.Rewrite false) kind (codes "a") to other

-- each command that prints something
each_reads : map (λ name. meaning (name ∷ codes "sha256" ∷ codes "a" ∷ []))
    (codes "list" ∷ codes "check" ∷ codes "check-trees" ∷ codes "map" ∷ codes "map-svg" ∷ codes "show"
    ∷ codes "show-json" ∷ codes "trees" ∷ [])
    ≡ map (λ what. Runs (Reads what (Some Sha256) (Some (file (codes "a")))))
    (readings.List plain ∷ readings.Check false ∷ readings.CheckTrees false ∷ readings.Map plain ∷ readings.MapSvg ∷ readings.Show
    ∷ readings.ShowJson ∷ readings.Trees plain ∷ [])
unfolding clap_on_literals
each_reads = refl

checks_strictly : map (λ front. meaning (front ++ codes "sha1" ∷ codes "a" ∷ []))
    ((codes "check" ∷ codes "--strict" ∷ []) ∷ (codes "check-trees" ∷ codes "--strict" ∷ []) ∷ [])
    ≡ map (λ what. Runs (Reads what (Some Sha1) (Some (file (codes "a")))))
    (readings.Check true ∷ readings.CheckTrees true ∷ [])
unfolding clap_on_literals
checks_strictly = refl

-- each that writes
each_writes : map (λ front. meaning (front ++ codes "sha1" ∷ codes "a" ∷ codes "b" ∷ []))
    ((codes "rewrite" ∷ []) ∷ (codes "rewrite4" ∷ []) ∷ (codes "rewrite" ∷ codes "--keep" ∷ [])
    ∷ (codes "rewrite4" ∷ codes "--keep" ∷ []) ∷ (codes "rewrite-trees" ∷ [])
    ∷ (codes "rewrite-trees" ∷ codes "--missing-ok" ∷ []) ∷ (codes "salvage" ∷ [])
    ∷ (codes "salvage" ∷ codes "--all" ∷ []) ∷ [])
    ≡ map (λ what. Runs (Writes what (Some Sha1) (file (codes "a")) (codes "b")))
    (writings.Rewrite false ∷ writings.Rewrite4 false ∷ writings.Rewrite true ∷ writings.Rewrite4 true
    ∷ writings.RewriteTrees false ∷ writings.RewriteTrees true ∷ writings.Salvage false
    ∷ writings.Salvage true ∷ [])
unfolding clap_on_literals
each_writes = refl

changes_a_file : meaning (codes "update" ∷ codes "-z" ∷ codes "sha1" ∷ codes "a" ∷ [])
    ≡ Runs (Writes (writings.Update true) (Some Sha1) (changed (codes "a")) (codes "a"))
unfolding clap_on_literals
changes_a_file = refl

changes_no_input : meaning (codes "update" ∷ codes "sha1" ∷ codes "-" ∷ []) ≡ Says (kind.InvalidValue ∷ [])
unfolding clap_on_literals
changes_no_input = refl

-- with `--auto` words may be left out
in_the_work_tree : meaning (codes "list" ∷ codes "--auto" ∷ []) ≡ Runs (Reads (readings.List plain) None None)
unfolding clap_on_literals
in_the_work_tree = refl

without_a_kind : meaning (codes "rewrite" ∷ codes "-a" ∷ codes "a" ∷ codes "b" ∷ [])
    ≡ Runs (Writes (writings.Rewrite false) None (file (codes "a")) (codes "b"))
unfolding clap_on_literals
without_a_kind = refl

-- and none without it
list_alone : meaning (codes "list" ∷ []) ≡ Says (kind.MissingRequiredArgument ∷ [])
unfolding clap_on_literals
list_alone = refl

file_alone : meaning (codes "list" ∷ codes "a" ∷ []) ≡ Says (kind.InvalidValue ∷ [])
unfolding clap_on_literals
file_alone = refl

kind_alone : meaning (codes "list" ∷ codes "sha1" ∷ []) ≡ Says (kind.MissingRequiredArgument ∷ [])
unfolding clap_on_literals
kind_alone = refl

no_kind_rewritten : meaning (codes "rewrite" ∷ codes "a" ∷ codes "b" ∷ []) ≡ Says (kind.InvalidValue ∷ [])
unfolding clap_on_literals
no_kind_rewritten = refl

no_kind_changed : meaning (codes "update" ∷ codes "a" ∷ []) ≡ Says (kind.InvalidValue ∷ [])
unfolding clap_on_literals
no_kind_changed = refl

help_asked_for : meaning (codes "help" ∷ []) ≡ Says (kind.DisplayHelp ∷ [])
unfolding clap_on_literals
help_asked_for = refl

help_of_a_command : meaning (codes "help" ∷ codes "list" ∷ []) ≡ Says (kind.DisplayHelp ∷ [])
unfolding clap_on_literals
help_of_a_command = refl

version_asked_for : meaning (codes "--version" ∷ []) ≡ Says (kind.DisplayVersion ∷ [])
unfolding clap_on_literals
version_asked_for = refl

no_such_kind : meaning (codes "list" ∷ codes "md5" ∷ codes "a" ∷ []) ≡ Says (kind.InvalidValue ∷ [])
unfolding clap_on_literals
no_such_kind = refl

out_missing : meaning (codes "salvage" ∷ codes "sha1" ∷ codes "a" ∷ []) ≡ Says (kind.MissingRequiredArgument ∷ [])
unfolding clap_on_literals
out_missing = refl

nothing_given : meaning [] ≡ Says (kind.DisplayHelpOnMissingArgumentOrSubcommand ∷ [])
unfolding clap_on_literals
nothing_given = refl
