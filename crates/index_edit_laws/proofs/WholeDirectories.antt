-- Directories that are one entry, and the entries that changes put next to them.
use Rattle.std.proofs.Common.{◌≡◌, ℕ, suc, ◌-◌, ◌==◌, Bool, true, false, cond, List, [], ◌∷◌, ◌++◌, length, get_or}
use Rattle.std.proofs.Common.{Option, Some, None, refl, sym, ap, subst, ◌∙◌, arith, length-append, All}
use Rattle.std.specs.List.{Contains}
use Rattle.std.proofs.lemmas.List.Folds.{list_any_at}
use Rattle.std.proofs.lemmas.List.Sums.{fails_before_first}
use Rattle.index_parts.specs.declared.hash.Kind.{Kind}
use Rattle.index_parts.specs.Mode.{commit_mode, directory_mode, executable_mode, file_mode, link_mode, named_kind}
use Rattle.index_parts.specs.declared.object.tree.EntryKind.{EntryKind}
use Rattle.index_parts.specs.declared.object.tree.EntryKind.TheVariants as kinds
use Rattle.entry_list.specs.Record.{Record}
use Rattle.entry_list.specs.declared.Pathless.{Pathless}
use Rattle.entry_edit.specs.Changes.{change_path}
use Rattle.entry_edit.specs.Refusals.{Check, fault_as, staged_entry_fault, path_fault}
use Rattle.entry_edit.specs.Wholes.{first_in_whole, is_around, lies_in_whole}
use Rattle.entry_edit.specs.declared.change.Change.{Change}
use Rattle.entry_edit.specs.declared.change.Change.TheVariants as changes
use Rattle.entry_edit.specs.declared.error.Error.TheVariants as errors
use Rattle.entry_edit.proofs.Whys.{neither}
use Rattle.entry_edit.proofs.Swaps.{IsNew}
use Rattle.tree_encode.specs.Refusals.{IsTreePath, of_file, of_directory, beneath}
use Rattle.index_edit_laws.proofs.FirstNames.{nowhere}
use Rattle.index_edit_laws.specs.Faultless.{StagesFaultless}

pub false_from : (b : Bool) → (b ≡ true → ⊥) → b ≡ false
false_from true h = absurd (h refl)
false_from false h = refl

-- ---- the mode of one

pub whole_mode : (mode : ℕ) → named_kind mode ≡ Some kinds.Tree → (mode == directory_mode) ≡ true
whole_mode mode h = by (mode == directory_mode) (mode == file_mode) (mode == executable_mode) (mode == link_mode)
    (mode == commit_mode) h
  where
    by : (d f x l c : Bool) → cond d (Some kinds.Tree) (cond f (Some kinds.Blob) (cond x (Some kinds.BlobExecutable)
        (cond l (Some kinds.Link) (cond c (Some kinds.Commit) None)))) ≡ Some kinds.Tree → d ≡ true
    by true f x l c e = refl
    by false true x l c e = absurd cc
    by false false true l c e = absurd cc
    by false false false true c e = absurd cc
    by false false false false true e = absurd cc
    by false false false false false e = absurd cc

pub whole_kind : (mode : ℕ) → (mode == directory_mode) ≡ true → named_kind mode ≡ Some kinds.Tree
whole_kind mode h = rw h refl

-- ---- its path

last_behind : (front : List ℕ) (b : ℕ) (back : List ℕ) → get_or (front ++ b ∷ back) (length (front ++ b ∷ back) - 1) 0
    ≡ get_or (b ∷ back) (length (b ∷ back) - 1) 0
last_behind [] b back = refl
last_behind (x ∷ front) b back =
    let ys = front ++ b ∷ back in
    let e : length (x ∷ ys) - 1 ≡ suc (length ys - 1) = omega (arith, length-append front (b ∷ back)) in
    ap (λ n. get_or (x ∷ ys) n 0) e ∙ last_behind front b back

slash_behind : (rest : List ℕ) → get_or rest (length rest - 1) 0 ≡ 47
    → get_or (47 ∷ rest) (length (47 ∷ rest) - 1) 0 ≡ 47
slash_behind [] h = refl
slash_behind (b ∷ bs) h =
    let e : length (47 ∷ b ∷ bs) - 1 ≡ suc (length (b ∷ bs) - 1) = omega arith in
    ap (λ n. get_or (47 ∷ b ∷ bs) n 0) e ∙ h

-- it has a slash at the end
pub slash_end : (check : Check) (levels : ℕ) (k : EntryKind) (p : List ℕ) → IsTreePath check levels k p → k ≡ kinds.Tree
    → get_or p (length p - 1) 0 ≡ 47
slash_end check levels k p (of_file l j name o n r) e = absurd (o e)
slash_end check levels k p (of_directory l name n r) e = last_behind name 47 []
slash_end check levels k p (beneath l j name rest n r t) e =
    last_behind name 47 rest ∙ slash_behind rest (slash_end check l j rest t e)

-- ---- what is staged

no_tree : (check : Check) (kind : Kind) (entry : Pathless) (path : List ℕ) (o : Option EntryKind)
    → fault_as check kind entry path o ≡ None → o ≡ Some kinds.Tree → ⊥
no_tree check kind entry path o h e =
    let clash : Some errors.WholeDirectory ≡ None = subst (λ x. fault_as check kind entry path x ≡ None) e h in
    absurd cc

never_whole : (check : Check) (kind : Kind) (entry : Pathless) (path : List ℕ)
    → staged_entry_fault check kind entry path ≡ None
    → named_kind entry.mode.0 ≡ Some kinds.Tree → ⊥
unfolding staged_entry_fault
never_whole check kind entry path h e =
    no_tree check kind entry path (named_kind entry.mode.0)
    (neither (path_fault path) (fault_as check kind entry path (named_kind entry.mode.0)) h).1 e

-- none is a whole directory
pub whole_new : (check : Check) (kind : Kind) (c : Change) (r : Record) → StagesFaultless check kind c → IsNew c r
    → named_kind r.mode ≡ Some kinds.Tree → ⊥
whole_new check kind (changes.Stage entry path) r f n e =
    never_whole check kind entry path.now f.granted (ap (λ (q : Record). named_kind q.mode) (sym n) ∙ e)
whole_new check kind (changes.Unstage path) r f n e = n

-- ---- what is in none

pub not_around : (path : List ℕ) (rs : List Record) → lies_in_whole path rs ≡ false → (r : Record) → Contains rs r
    → is_around path r ≡ true → ⊥
not_around path rs out r c t =
    let here : is_around path (get_or rs c.0 r) ≡ true = subst (λ (q : Record). is_around path q ≡ true) (sym c.2) t in
    let clash : true ≡ false = sym (list_any_at (is_around path) rs c.0 r c.1 here) ∙ out in
    cc

pub all_outside : (cs : List Change) (rs : List Record) → first_in_whole cs rs ≡ None
    → All (λ c. lies_in_whole (change_path c) rs ≡ false) cs
all_outside cs rs h k d within =
    let p = λ (c : Change). lies_in_whole (change_path c) rs in
    fails_before_first p cs k d (omega (arith, nowhere p cs h, within))
