-- What is kept of entries of which git works with all; and that an entry without a path is none of these.
use Rattle.std.proofs.Common.{◌≡◌, ◌≢◌, ℕ, ◌-◌, ◌<◌, Bool, true, false, not, List, [], ◌∷◌, cond, length}
use Rattle.std.proofs.Common.{All, Option, Some, None, refl, sym, ap, subst, ◌∙◌, arith}
use Rattle.std.specs.Prelude.{◌==◌, filter, is_some, if◌then◌else◌}
use Rattle.std.proofs.lemmas.List.Elements.{All-head, All-tail, All-weaker}
use Rattle.gix_index.specs.Kind.{Kind}
use Rattle.gix_index.specs.Pathless.{Pathless}
use Rattle.gix_index.specs.Record.{Record}
use Rattle.entry_edit.specs.Refusals.{staged_entry_fault}
use Rattle.view_salvage.specs.Accepted.{AreAcceptable, directory_fault, entry_fault, pathless_of, record_fault}
use Rattle.view_salvage.specs.Accepted.{staging_fault}
use Rattle.view_salvage.specs.Choice.{IsKept, IsSortedSelection, IsUnfitAt, IsFirstUnfitOrNone, fit_of, records_before}
use Rattle.view_salvage.specs.Choice.{is_nameless, is_unfit, named_of}
use Rattle.view_salvage.specs.declared.chosen.FirstUnfit.{FirstUnfit}
use Rattle.view_salvage.specs.declared.chosen.Keep.{Keep}
use Rattle.view_salvage.specs.declared.chosen.Keep.TheVariants as keeps
use Rattle.view_salvage.specs.declared.chosen.Unfit.{Unfit}
use Rattle.view_salvage.specs.declared.chosen.Unfit.TheVariants as faults
use Rattle.view_salvage.proofs.Saving.{first_at, no_path}
use Rattle.view_salvage.proofs.Sameness.{one_saving, saved_itself}

-- ---- an entry without a path

nothing_by : (kind : Kind) (entry : Pathless) (b : Bool)
    → is_some (if b then directory_fault kind entry [] else staging_fault kind entry []) ≡ true
unfolding staged_entry_fault
nothing_by kind entry true = refl
nothing_by kind entry false = refl

nothing_fits : (kind : Kind) (entry : Pathless) → is_some (entry_fault kind entry []) ≡ true
unfolding entry_fault
nothing_fits kind entry = nothing_by kind entry _

pub nameless_unfit : (kind : Kind) (r : Record) → r.path ≡ [] → is_unfit kind r ≡ true
nameless_unfit kind r e =
    ap (λ (p : List _). is_some (entry_fault kind (pathless_of r) p)) e ∙ nothing_fits kind (pathless_of r)

both_by : (kind : Kind) (r : Record) (rs : List Record) (nameless : Bool) → is_nameless r ≡ nameless
    → filter (λ q. not (is_unfit kind q)) (cond (not nameless) (r ∷ named_of rs) (named_of rs))
    ≡ cond (not (is_unfit kind r)) (r ∷ fit_of kind (named_of rs)) (fit_of kind (named_of rs))
both_by kind r rs true e =
    let unfit = nameless_unfit kind r (no_path r.path e) in
    sym (ap (λ (b : Bool). cond (not b) (r ∷ fit_of kind (named_of rs)) (fit_of kind (named_of rs))) unfit)
both_by kind r rs false e = refl

-- those that fit have a path
pub fit_named : (kind : Kind) (rs : List Record) → fit_of kind (named_of rs) ≡ fit_of kind rs
fit_named kind [] = refl
fit_named kind (r ∷ rs) = both_by kind r rs (is_nameless r) refl
    ∙ ap (λ (l : List Record). cond (not (is_unfit kind r)) (r ∷ l) l) (fit_named kind rs)

-- ---- entries of which git works with all

none_some : {A : Type 0} (o : Option A) → o ≡ None → is_some o ≡ false
none_some o e = ap is_some e

clash : (b : Bool) → b ≡ true → b ≡ false → ⊥
clash b t f = absurd cc

fit_by : (kind : Kind) (r : Record) → record_fault kind r ≡ None → r.path ≢ []
fit_by kind r e empty = clash (is_unfit kind r) (nameless_unfit kind r empty) (none_some (record_fault kind r) e)

pub all_named : (kind : Kind) (rs : List Record) → AreAcceptable kind rs → All (λ r. r.path ≢ []) rs
all_named kind rs h = All-weaker (λ r. record_fault kind r ≡ None) (λ r. r.path ≢ []) (fit_by kind) rs h.accepted

stays_by : {A : Type 0} (b : Bool) (x : A) (xs ys : List A) → b ≡ false → ys ≡ xs → cond (not b) (x ∷ ys) ys ≡ x ∷ xs
stays_by b x xs ys e same = ap (λ (c : Bool). cond (not c) (x ∷ ys) ys) e ∙ ap (λ (l : List _). x ∷ l) same

none_out : {A : Type 0} (test : A → Bool) (xs : List A) → All (λ x. test x ≡ false) xs
    → filter (λ x. not (test x)) xs ≡ xs
none_out test [] h = refl
none_out test (x ∷ xs) h =
    stays_by (test x) x xs (filter (λ y. not (test y)) xs) (All-head (λ y. test y ≡ false) x xs h)
    (none_out test xs (All-tail (λ y. test y ≡ false) x xs h))

named_by : (path : List ℕ) (b : Bool) → (length path == 0) ≡ b → path ≢ [] → (length path == 0) ≡ false
named_by path true e h = absurd (h (no_path path e))
named_by path false e h = e

pub all_fit : (kind : Kind) (rs : List Record) → AreAcceptable kind rs → fit_of kind rs ≡ rs
all_fit kind rs h = none_out (is_unfit kind) rs (All-weaker (λ r. record_fault kind r ≡ None)
    (λ r. is_unfit kind r ≡ false) (λ r e. none_some (record_fault kind r) e) rs h.accepted)

pub all_have_paths : (kind : Kind) (rs : List Record) → AreAcceptable kind rs → named_of rs ≡ rs
all_have_paths kind rs h = none_out is_nameless rs (All-weaker (λ r. r.path ≢ []) (λ r. is_nameless r ≡ false)
    (λ r n. named_by r.path _ refl n) rs (all_named kind rs h))

none_unfit : (kind : Kind) (rs : List Record) (i : _) (fault : Unfit) → i < length rs → AreAcceptable kind rs
    → IsUnfitAt kind rs i fault → ⊥
none_unfit kind rs i (faults.Entry e) lt h at =
    let d = first_at rs i lt in
    let clash : None ≡ Some e = sym (h.accepted i d lt) ∙ at d in
    absurd cc
none_unfit kind rs i faults.Order lt h at =
    let d = first_at rs i lt in
    at.1.falls d (h.ordered.less (i - 1) i d (let p = at.1.behind_one in omega arith) lt)

pub whole_front : (kind : Kind) (rs : List Record) (first : Option FirstUnfit) → AreAcceptable kind rs
    → IsFirstUnfitOrNone kind rs first → records_before first rs ≡ rs
whole_front kind rs None h t = refl
whole_front kind rs (Some first) h t =
    absurd (none_unfit kind rs first.before first.fault (omega (arith, t.count)) h t.fault)

-- all of them are kept
pub whole_kept : (keep : Keep) (kind : Kind) (rs kept : List Record) (first : Option FirstUnfit) → AreAcceptable kind rs
    → IsFirstUnfitOrNone kind rs first → IsKept keep kind rs first kept → kept ≡ rs
whole_kept keeps.Front kind rs kept first h t k = k ∙ whole_front kind rs first h t
whole_kept keeps.All kind rs kept first h t k = one_saving rs kept rs
    (subst (λ (l : List Record). IsSortedSelection l kept) (all_fit kind rs h) k)
    (saved_itself rs h.ordered (all_named kind rs h))
