-- The trees of an index in a file: their lines, and the index that is written with them (the program's own).
use Rattle.std.specs.Prelude.{◌≡◌, ◌⊎◌, ℕ, Bool, false, List, [], Option, Result}
use Rattle.gix_index.specs.Cached.{IsCached}
use Rattle.gix_index.specs.Contents.{Contents}
use Rattle.gix_index.specs.Disk.{Disk, disk_at}
use Rattle.gix_index.specs.Edits.{with_cached_tree}
use Rattle.gix_index.specs.File.{state_of}
use Rattle.gix_index.specs.FileTime.{FileTime}
use Rattle.gix_index.specs.Hashing.Out.{Ghosts as Output}
use Rattle.gix_index.specs.Kind.{Kind}
use Rattle.gix_index.specs.Linked.{IsOnDisk}
use Rattle.gix_index.specs.ObjectId.{ObjectId}
use Rattle.gix_index.specs.Order.{IsStrictlyOrdered}
use Rattle.gix_index.specs.Refusals.{AreRefused, TreesFaultCause}
use Rattle.gix_index.specs.SoundState.{OrderCause}
use Rattle.gix_index.specs.Staged.{staged_in}
use Rattle.gix_index.specs.State.{PathsInStorage, contents}
use Rattle.gix_index.specs.StateType.{State}
use Rattle.gix_index.specs.declared.file.File.{File}
use Rattle.gix_index.specs.Tree.{Node}
use Rattle.gix_index.specs.TreeDirectory.{DirectoryItems, IsTreeOf}
use Rattle.gix_index.specs.TreeIds.{any_name}
use Rattle.gix_index.specs.Trees.Kept.{KeepsCounts}
use Rattle.gix_index.specs.Disk.World.{World}
use Rattle.view_list.specs.Directories.{subtree_lines}
use Rattle.base_text.specs.declared.lines.Lines.{Lines}
use Rattle.tool_errors.specs.Calls.{GivesIndex}
use Rattle.gix_index.specs.OnDisk.FolderTrait.{Ghosts as Folder}
use Rattle.tool_errors.specs.declared.failure.Failure.{Failure}
use Rattle.tool_errors.specs.declared.failure.Failure.TheVariants as failures
use Rattle.tool_errors.specs.Options.{unlimited_options}
use Rattle.tool_errors.specs.Reading.{FailsReading, IsInFile, IsInFileSince, IndexReadCause}
use Rattle.tool_errors.specs.Storing.{EndsStoring, FailsStoring, IsReplaced}
use Rattle.tool_errors.specs.Outputs.{EndsOutput, NoText}
use Rattle.tool_edit.specs.Rewriting.{chosen_options}
use Rattle.tool_edit.specs.declared.rewrite.Form.TheVariants.{AsRead}
use Rattle.tool_edit.specs.declared.rewrite_trees.Counts.{Counts}
use Rattle.tool_edit.specs.declared.rewrite_trees.Counts.TheVariants as counting

-- the entries of an index are in order, and this is the cache tree of what they stage
pub record IsTreeOfIndex (value : Contents) (tree : Node) : Type 0 where
  pub ordered : IsStrictlyOrdered value.records
  pub items : DirectoryItems
  pub is_tree : IsTreeOf value.kind (staged_in value.records) items
  pub is_cached : IsCached value.kind [] items tree

-- an index in a file, and the cache tree of what it stages
pub record IsTreeInFile (disk : Disk) (kind : Kind) (value : Contents) (tree : Node) : Type 0 where
  pub checksum : Option ObjectId
  pub read : IsInFile disk kind value checksum
  pub is_tree : IsTreeOfIndex value tree

-- the lines of the trees of an index in a file, in a style
pub record AreTrees (style : Lines) (disk : Disk) (kind : Kind) (text : List ℕ) : Type 0 where
  pub value : Contents
  pub tree : Node
  pub is_tree : IsTreeInFile disk kind value tree
  pub is : text ≡ subtree_lines style [] tree

-- A failure of an index that has no trees names its file, and has the reason. Its entries aren't in order, or there are
-- too many. Or it is the error of the first entry that no tree may name, if every name is allowed in one.
abbrev pub IsOfTrees : Contents → List ℕ → Failure → Type 0
IsOfTrees value path (failures.Entries file fault) = (file.now ≡ path) × OrderCause value.records fault
IsOfTrees value path (failures.Trees file fault) =
    (file.now ≡ path) × TreesFaultCause fault (λ number. ⊥) (AreRefused any_name value.kind value.records)
IsOfTrees value path failure = ⊥

-- a failure of the index in a file that has no trees, at whatever time that was changed
pub record IsOfTreesIn (disk : Disk) (kind : Kind) (path : List ℕ) (failure : Failure) : Type 0 where
  pub value : Contents
  pub checksum : Option ObjectId
  pub time : FileTime
  pub read : IsOnDisk disk false kind time unlimited_options value checksum
  pub is : IsOfTrees value path failure

-- the index can't be read, or has no trees
abbrev pub FailsToTree : Bool → World → Kind → List ℕ → Failure → Type 0
FailsToTree works world kind path failure =
    FailsReading (IndexReadCause works world kind path) path failure ⊎ IsOfTreesIn (disk_at world path) kind path
    failure

-- an index with a rebuilt cache tree: with all its counts, or with those that the one before has too
abbrev pub IsTreePut : Counts → Contents → Node → Contents → Type 0
IsTreePut counting.All old tree new = new ≡ with_cached_tree old tree
IsTreePut counting.Known old tree new =
    (kept : Node) × KeepsCounts old.kind [] old.extensions.tree tree kept × (new ≡ with_cached_tree old kept)

-- an index in a file, with the cache tree of what it stages
pub record IsMadeInFile (counts : Counts) (disk : Disk) (kind : Kind) (value : Contents) : Type 0 where
  pub read : Contents
  pub checksum : Option ObjectId
  pub in_file : IsInFileSince disk kind read checksum
  pub tree : Node
  pub is_tree : IsTreeOfIndex read tree
  pub put : IsTreePut counts read tree value

-- the index was read under the lock of the file that is written, and was written there with its cache tree
abbrev pub Retrees : Bool → Bool → Counts → Kind → World → World → List ℕ → List ℕ → Type 0
Retrees alone guards counts kind old new path to = IsReplaced alone guards old new to
    (λ world index. IsMadeInFile counts (disk_at world path) kind (contents (state_of index))) (chosen_options AsRead)

-- the index isn't written, or can't be read, or has no trees
abbrev pub FailsToRetree : Bool → Bool → Kind → World → List ℕ → List ℕ → Failure → Type 0
FailsToRetree works guards kind old path to failure =
    FailsStoring works guards old to (λ world. FailsToTree works world kind path) failure

-- ---- what each call returns

-- the lines of the trees are printed for the index in the file at a path of a folder, or why they aren't
abbrev pub ListsTrees : {S F M T : Type 0} → Lines → Folder S F M → S → Kind → List ℕ → Output T → T → T
    → Result (Unit {0}) Failure → Type 0
ListsTrees style folder now kind path writer old new answer = EndsOutput writer old new
    (AreTrees style (disk_at (folder.known now) path) kind) NoText
    (FailsToTree (folder.works now) (folder.known now) kind path) path answer

-- the state has the cache tree that was made, and its paths are in its storage if they were before
pub record PutsTree (counts : Counts) (tree : Node) (old new : State) : Type 0 where
  pub put : IsTreePut counts (contents old) tree (contents new)
  pub placed : PathsInStorage old → PathsInStorage new

-- the index in the file at a path of a folder with the cache tree of what it stages; or why there is none
abbrev pub GivesWithTrees : {S F M : Type 0} → Counts → Folder S F M → S → Kind → List ℕ → Result File Failure → Type 0
GivesWithTrees counts folder now kind path answer = GivesIndex
    (λ index. IsMadeInFile counts (disk_at (folder.known now) path) kind (contents (state_of index)))
    (FailsToTree (folder.works now) (folder.known now) kind path) answer

-- the index is written with its cache tree to another path, or why it isn't
abbrev pub RewritesTrees : {S F M : Type 0} → Counts → Folder S F M → S → S → Kind → List ℕ → List ℕ
    → Result (Unit {0}) Failure → Type 0
RewritesTrees counts folder old new kind path to answer = EndsStoring folder old new to
    (λ done. Retrees (folder.alone old) (folder.guards old) counts kind (folder.known old) (folder.known new) path to)
    (FailsToRetree (folder.works old) (folder.guards old) kind (folder.known old) path to) answer
