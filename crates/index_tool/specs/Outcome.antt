-- What a command leaves on the output and in files (the program's own).
use Rattle.std.specs.Prelude.{◌≡◌, ℕ, Bool, true, false, codes, List, Option, None, IsSomeAnd}
use Rattle.std.specs.Io.KnownBytes.{Keeps}
use Rattle.gix_index.specs.Kind.{Kind}
use Rattle.gix_index.specs.Disk.{disk_at}
use Rattle.gix_index.specs.DecodeError.{Error}
use Rattle.gix_index.specs.InPlace.Locks.{Restores}
use Rattle.gix_index.specs.Disk.World.{World}
use Rattle.tool_errors.specs.declared.failure.Failure.{Failure}
use Rattle.tool_errors.specs.Outputs.{AnyText, NoText, TextOutput, PartialOutput}
use Rattle.tool_edit.specs.Trees.{AreTrees, FailsToRetree, Retrees}
use Rattle.tool_edit.specs.Checking.{IsPassed}
use Rattle.tool_edit.specs.declared.check.Checks.{Checks}
use Rattle.tool_edit.specs.Listing.{IsListing}
use Rattle.tool_edit.specs.Rewriting.{FailsToRewrite, Rewrites}
use Rattle.tool_edit.specs.Updating.{FailsToStoreUpdate, Updates}
use Rattle.tool_inspect.specs.declared.salvage.Report.{Report}
use Rattle.tool_inspect.specs.Mapping.{IsDamagedMap, IsDamagedPicture, IsMap, IsPicture}
use Rattle.tool_inspect.specs.Salvaging.{FailsToSalvage, Salvages}
use Rattle.tool_inspect.specs.Showing.{IsShown}
use Rattle.tool_inspect.specs.declared.show.ShowFormat.TheVariants as formats
use Rattle.tool_args.specs.declared.command.Reading.{Reading}
use Rattle.tool_args.specs.declared.command.Reading.TheVariants as readings
use Rattle.tool_args.specs.declared.command.Writing.{Writing}
use Rattle.tool_args.specs.declared.command.Writing.TheVariants as writings
use Rattle.tool_edit.specs.declared.rewrite.Form.{Form}
use Rattle.tool_edit.specs.declared.rewrite.Form.TheVariants as forms
use Rattle.tool_edit.specs.declared.rewrite_trees.Counts.{Counts}
use Rattle.tool_edit.specs.declared.rewrite_trees.Counts.TheVariants as counting
use Rattle.index_tool.specs.Command.{ResolvedCommand, Reads, Writes}

-- the checks of `check` and of `check-trees`; with `--strict` each entry is checked too
abbrev pub plain_checks : Bool → Checks
plain_checks strict = record { trees = false; strict = strict }

abbrev pub tree_checks : Bool → Checks
tree_checks strict = record { trees = true; strict = strict }

-- What is printed of a file. This is the listing of an index, or the line of one that passed all checks. Or it is the
-- map or the picture of a file without an error. Or it is the lines or the JSON of what a file holds, or the lines of
-- the trees that an index makes.
abbrev pub IsOutput : Reading → World → Kind → List ℕ → List ℕ → Type 0
IsOutput (readings.List lines) world kind file text = IsListing lines (disk_at world file) kind text
IsOutput (readings.Check strict) world kind file text = IsPassed (plain_checks strict) (disk_at world file) kind text
IsOutput (readings.CheckTrees strict) world kind file text = IsPassed (tree_checks strict) (disk_at world file) kind
    text
IsOutput (readings.Map lines) world kind file text = IsMap lines None (world file) kind text
IsOutput readings.MapSvg world kind file text = IsPicture None (world file) kind text
IsOutput readings.Show world kind file text = IsShown formats.Lines (world file) kind text
IsOutput readings.ShowJson world kind file text = IsShown formats.Json (world file) kind text
IsOutput (readings.Trees lines) world kind file text = AreTrees lines (disk_at world file) kind text

-- what is printed of a file with this first error at this offset: its map or its picture, and otherwise nothing
abbrev pub IsDamagedOutput : Reading → World → Kind → List ℕ → ℕ → Error → List ℕ → Type 0
IsDamagedOutput (readings.Map lines) world kind file offset e text = IsDamagedMap lines (world file) kind offset e text
IsDamagedOutput readings.MapSvg world kind file offset e text = IsDamagedPicture (world file) kind offset e text
IsDamagedOutput what world kind file offset e text = NoText offset e text

-- the options with which an index is written again: the default ones, or with `keep` all extensions that fit
abbrev pub form_of : Bool → Form
form_of true = forms.AsRead
form_of false = forms.Smallest

-- the options with which an index is written again in version 4: the default ones, or with `keep` all extensions that
-- fit
abbrev pub form4_of : Bool → Form
form4_of true = forms.AsReadV4
form4_of false = forms.V4

-- which directories of a rebuilt cache tree get a count: each, if trees may be missing
abbrev pub counts_of : Bool → Counts
counts_of true = counting.All
counts_of false = counting.Known

-- An index was written to a path. It is the one in a file, maybe with a rebuilt cache tree or with the changes on the
-- standard input. Or it is what is saved of a file, which alone has a report.
abbrev pub StoresIndex : Writing → Bool → Bool → Kind → World → World → List ℕ → List ℕ → Option Report → Type 0
StoresIndex (writings.Rewrite keep) alone guards kind before behind file to report =
    Rewrites alone guards (form_of keep) kind before behind file to × (report ≡ None)
StoresIndex (writings.Rewrite4 keep) alone guards kind before behind file to report =
    Rewrites alone guards (form4_of keep) kind before behind file to × (report ≡ None)
StoresIndex (writings.RewriteTrees missing_ok) alone guards kind before behind file to report =
    Retrees alone guards (counts_of missing_ok) kind before behind file to × (report ≡ None)
StoresIndex (writings.Update nul) alone guards kind before behind file to report =
    Updates alone guards nul kind before behind (codes "/dev/stdin") file to × (report ≡ None)
StoresIndex (writings.Salvage all) alone guards kind before behind file to report =
    IsSomeAnd report (Salvages all alone guards kind before behind file to)

-- why none was written
abbrev pub FailsToStore : Writing → Bool → Bool → Kind → World → List ℕ → List ℕ → Failure → Type 0
FailsToStore (writings.Rewrite keep) works guards kind before file to failure =
    FailsToRewrite works guards kind before file to failure
FailsToStore (writings.Rewrite4 keep) works guards kind before file to failure =
    FailsToRewrite works guards kind before file to failure
FailsToStore (writings.RewriteTrees missing_ok) works guards kind before file to failure =
    FailsToRetree works guards kind before file to failure
FailsToStore (writings.Update nul) works guards kind before file to failure =
    FailsToStoreUpdate nul works guards kind before (codes "/dev/stdin") file to failure
FailsToStore (writings.Salvage all) works guards kind before file to failure =
    FailsToSalvage works guards kind before file to failure

-- What a command did that has this report, or none. Either known bytes of the output grew by all that it prints of the
-- files before; or they stayed, and an index was written.
abbrev pub Does : Option Report → Bool → Bool → World → World → ResolvedCommand → Option (List ℕ) → Option (List ℕ)
    → Type 0
Does report alone guards before behind (Reads what kind file) old new =
    TextOutput (IsOutput what before kind file) old new × (behind ≡ before) × (report ≡ None)
Does report alone guards before behind (Writes what kind file to) old new =
    StoresIndex what alone guards kind before behind file to report × Keeps old new

-- what a command that succeeded did
abbrev pub Succeeds : Bool → Bool → World → World → ResolvedCommand → Option (List ℕ) → Option (List ℕ) → Type 0
Succeeds alone guards before behind command old new =
    (report : Option Report) × Does report alone guards before behind command old new

-- What a command that failed did to the known bytes of the output. Nothing; or they grew by a prefix of its text, or by
-- all that is printed of a damaged file.
pub data GivesUp (world : World) (command : ResolvedCommand) (old new : Option (List ℕ)) : Type 0 where
  nothing : Keeps old new → GivesUp world command old new
  some_of : (what : Reading) (kind : Kind) (file : List ℕ) → command ≡ Reads what kind file
      → PartialOutput (AnyText (IsOutput what world kind file) (IsDamagedOutput what world kind file)) old new
      → GivesUp world command old new
  damaged : (what : Reading) (kind : Kind) (file : List ℕ) (offset : ℕ) (e : Error) → command ≡ Reads what kind file
      → TextOutput (IsDamagedOutput what world kind file offset e) old new → GivesUp world command old new

-- What a command that failed did to the files: nothing; or if their folder doesn't work, the lock of what it was to
-- write may be there.
abbrev pub Spares : Bool → Bool → World → World → ResolvedCommand → Type 0
Spares alone works before behind (Reads what kind file) = behind ≡ before
Spares alone works before behind (Writes what kind file to) = alone ≡ true → Restores works before behind to
