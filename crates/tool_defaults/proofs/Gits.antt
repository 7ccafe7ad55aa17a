-- What is known of a `.git` that was opened.
use Rattle.std.proofs.Common.{◌≡◌, ◌∙◌, ℕ, List, Bool, true, false, Option, Some, sym, subst, ap}
use Rattle.std.specs.Prelude.{IfSome}
use Rattle.std.specs.IoError.{error_kind}
use Rattle.std.specs.declared.io.Error.{Error as IoError}
use Rattle.gix_index.specs.Disk.World.{Absent, Directory, Holds, IsFaultOf, Known, Leads, MayBe, Special, Stored}
use Rattle.gix_index.specs.Disk.World.{Unknown}
use Rattle.tool_defaults.specs.Faults.{IsOfFault}
use Rattle.tool_defaults.specs.Place.{MayBeFile, MayBeFolder, MayBeOpened}
use Rattle.tool_defaults.specs.PlaceFaults.{GitFileCause}
use Rattle.tool_defaults.specs.declared.error.Error.{Error}
use Rattle.tool_defaults.specs.declared.error.Error.TheVariants as errors

-- a link that leads to no regular file
pub opened_folder : (k : Known) (stored : Option Stored) (plain : Bool) (Told : Stored → Type 0) → MayBeOpened k
    → MayBe k (λ there. stored ≡ Some there) → IfSome stored Told → ((file : Stored) → Told file → plain ≡ true)
    → plain ≡ false → MayBeFolder k
opened_folder Unknown stored plain Told opened is told says other = tt
opened_folder Absent stored plain Told opened is told says other = absurd opened
opened_folder (Holds file) stored plain Told opened is told says other =
    let h : plain ≡ true = says file (subst (λ (s : Option Stored). IfSome s Told) is told) in
    absurd cc
opened_folder (Leads to) stored plain Told opened is told says other = tt
opened_folder Directory stored plain Told opened is told says other = absurd opened
opened_folder Special stored plain Told opened is told says other = absurd opened

-- all bytes of the file that was opened
pub opened_file : (k : Known) (stored : Option Stored) (text : List ℕ) → MayBeOpened k
    → MayBe k (λ there. stored ≡ Some there) → IfSome stored (λ file. text ≡ file.bytes) → MayBeFile k text
opened_file Unknown stored text opened is held = tt
opened_file Absent stored text opened is held = absurd opened
opened_file (Holds file) stored text opened is held =
    subst (λ (s : Option Stored). IfSome s (λ f. text ≡ f.bytes)) is held
opened_file (Leads to) stored text opened is held = tt
opened_file Directory stored text opened is held = absurd opened
opened_file Special stored text opened is held = absurd opened

-- a fault of the disk for a `.git`
pub git_fault : (works : Bool) (k : Known) (git : List ℕ) (e : IoError) (error : Error) → (works ≡ true → IsFaultOf k e)
    → IsOfFault git e error → GitFileCause works k git error
git_fault works k git e (errors.Io fault) fails of =
    (of.0, λ x. of.2 (ap error_kind (sym of.1) ∙ x), λ w. subst (IsFaultOf k) (sym of.1) (fails w))
git_fault works k git e (errors.NotRegular at) fails of = absurd of
git_fault works k git e (errors.Empty at) fails of = absurd of
git_fault works k git e (errors.NoIndex at start) fails of = absurd of
git_fault works k git e (errors.KindNotTold at) fails of = absurd of
git_fault works k git e (errors.OtherKind at) fails of = absurd of
git_fault works k git e (errors.NoCommonDir at) fails of = absurd of
git_fault works k git e (errors.NoGitDir at) fails of = absurd of
git_fault works k git e errors.NoRepository fails of = absurd of
git_fault works k git e errors.Memory fails of = tt
