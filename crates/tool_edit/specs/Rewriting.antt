-- What the program writes of an index (the program's own).
use Rattle.std.specs.Prelude.{ℕ, Bool, List, Result}
use Rattle.gix_index.specs.Disk.{disk_at}
use Rattle.gix_index.specs.Kind.{Kind}
use Rattle.gix_index.specs.Version.{Version}
use Rattle.gix_index.specs.VersionChoice.TheVariants.{Smallest, V4}
use Rattle.gix_index.specs.State.{contents}
use Rattle.gix_index.specs.File.{state_of, checksum_of}
use Rattle.gix_index.specs.declared.file.File.{File}
use Rattle.gix_index.specs.Disk.World.{World}
use Rattle.gix_index.specs.WriteOptions.{Options}
use Rattle.tool_edit.specs.declared.rewrite.Form.{Form}
use Rattle.tool_edit.specs.declared.rewrite.Form.TheVariants as forms
use Rattle.gix_index.specs.OnDisk.FolderTrait.{Ghosts as Folder}
use Rattle.tool_errors.specs.declared.failure.Failure.{Failure}
use Rattle.tool_errors.specs.Reading.{FailsReading, IsInFileSince, IndexReadCause}
use Rattle.tool_errors.specs.Options.{default_options, kept_options, options_as_read}
use Rattle.tool_errors.specs.Storing.{EndsStoring, FailsStoring, IsReplaced}

-- The options that a form has for an index of a version. These are the default ones; or all extensions that fit, in
-- version 4 if the index has it.
abbrev pub chosen : Form → Version → Options
chosen forms.Smallest version = default_options Smallest
chosen forms.V4 version = default_options V4
chosen forms.AsRead version = options_as_read version
chosen forms.AsReadV4 version = kept_options V4

-- the options that a form has for an index, by the index's version
abbrev pub chosen_options : Form → File → Options
chosen_options form index = chosen form (contents (state_of index)).version

-- The index in a file was read under the lock of the file that is written. It was written there by the options of a
-- form.
abbrev pub Rewrites : Bool → Bool → Form → Kind → World → World → List ℕ → List ℕ → Type 0
Rewrites alone guards form kind old new path to = IsReplaced alone guards old new to
    (λ world index. IsInFileSince (disk_at world path) kind (contents (state_of index)) (checksum_of index))
    (chosen_options form)

-- the index isn't written, or can't be read
abbrev pub FailsToRewrite : Bool → Bool → Kind → World → List ℕ → List ℕ → Failure → Type 0
FailsToRewrite works guards kind old path to failure =
    FailsStoring works guards old to (λ world. FailsReading (IndexReadCause works world kind path) path) failure

-- the index in the file at one path of a folder is written to another path, or why it isn't
abbrev pub RewritesIndex : {S F M : Type 0} → Form → Folder S F M → S → S → Kind → List ℕ → List ℕ
    → Result (Unit {0}) Failure → Type 0
RewritesIndex form folder old new kind path to answer = EndsStoring folder old new to
    (λ done. Rewrites (folder.alone old) (folder.guards old) form kind (folder.known old) (folder.known new) path to)
    (FailsToRewrite (folder.works old) (folder.guards old) kind (folder.known old) path to) answer
