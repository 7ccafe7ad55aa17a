-- Which error an error of the system becomes.
use Rattle.std.proofs.Common.{◌≡◌, ◌∙◌, ℕ, List, Bool, true, subst, sym, ap}
use Rattle.std.specs.IoError.{error_kind}
use Rattle.std.specs.declared.io.Error.{Error as IoError}
use Rattle.gix_index.specs.Disk.World.{IsFaultOf, World}
use Rattle.tool_defaults.specs.Faults.{IsOfFault, IsUnreadable}
use Rattle.tool_defaults.specs.KindAt.{IsFaultAt, KindCause, of_common, of_index, of_repository}
use Rattle.tool_defaults.specs.Repository.{IsConfigOf, IsInGitFolder, common_beside}
use Rattle.tool_defaults.specs.declared.error.Error.{Error}
use Rattle.tool_defaults.specs.declared.error.Error.TheVariants as errors

-- a fault of one of the files that are looked at
pub kind_fault : (works : Bool) (world : World) (path at : List ℕ) (e : IoError) (error : Error)
    → IsFaultAt works world path e at → IsOfFault at e error → KindCause works world path error
kind_fault works world path at e (errors.Io fault) h of = (
  λ x. of.2 (ap error_kind (sym of.1) ∙ x),
  subst (λ (p : List ℕ). IsFaultAt works world path fault.error p) (sym of.0)
      (subst (λ (x : IoError). IsFaultAt works world path x at) (sym of.1) h),
)
kind_fault works world path at e (errors.NotRegular where_at) h of = absurd of
kind_fault works world path at e (errors.Empty where_at) h of = absurd of
kind_fault works world path at e (errors.NoIndex where_at start) h of = absurd of
kind_fault works world path at e (errors.KindNotTold where_at) h of = absurd of
kind_fault works world path at e (errors.OtherKind where_at) h of = absurd of
kind_fault works world path at e (errors.NoCommonDir where_at) h of = absurd of
kind_fault works world path at e (errors.NoGitDir where_at) h of = absurd of
kind_fault works world path at e errors.NoRepository h of = absurd of
kind_fault works world path at e errors.Memory h of = tt

-- of the file itself, by a name for its path
pub index_fault : (works : Bool) (world : World) (path named at : List ℕ) (e : IoError) (error : Error) → named ≡ path
    → at ≡ path → (works ≡ true → IsFaultOf (world at) e) → IsOfFault named e error
    → KindCause works world path error
index_fault works world path named at e error is same fails of =
    kind_fault works world path named e error
    (of_index named is (λ w. subst (λ (p : List ℕ). IsFaultOf (world p) e) (same ∙ sym is) (fails w))) of

-- of the `commondir` next to it
pub common_fault : (works : Bool) (world : World) (path named at : List ℕ) (e : IoError) (error : Error)
    → named ≡ common_beside path → at ≡ named → IsInGitFolder world path
    → (works ≡ true → IsUnreadable (world at) e) → IsOfFault named e error → KindCause works world path error
common_fault works world path named at e error is same inside fails of =
    kind_fault works world path named e error (of_common named is inside
    (λ w. subst (λ (p : List ℕ). IsUnreadable (world p) e) same (fails w))) of

-- of the repository's `config`
pub repository_fault : (works : Bool) (world : World) (path config at : List ℕ) (e : IoError) (error : Error)
    → IsConfigOf world path config → at ≡ config → IsInGitFolder world path
    → (works ≡ true → IsUnreadable (world at) e) → IsOfFault config e error → KindCause works world path error
repository_fault works world path config at e error counts same inside fails of =
    kind_fault works world path config e error (of_repository config counts inside
    (λ w. subst (λ (p : List ℕ). IsUnreadable (world p) e) same (fails w))) of
