-- The monitor's answer about entries after changes.
use Rattle.std.proofs.Common.{◌≡◌, ◌⊎◌, inl, inr, ℕ, List, [], ◌++◌, All, take, Option, length, ap, subst, sym, ◌∙◌}
use mathlib.Core.List.{append-nil}
use Rattle.std.proofs.Math.Seq.{take-append_seam}
use Rattle.entry_edit.specs.Changes.{IsAppliedTo, applied}
use Rattle.entry_edit.specs.declared.change.Change.{Change}
use Rattle.entry_list.proofs.Storing.{records_grow}
use Rattle.entry_list.specs.Order.{IsStrictlyOrdered}
use Rattle.entry_list.specs.Record.{IsPlaced, Record, records_in}
use Rattle.entry_list.specs.declared.Entry.{Entry}
use Rattle.index_edit.specs.Dirty.{monitor_after}
use Rattle.ext_small.specs.FsMonitor.{Monitor}

-- the old entries by the storage that has grown, and the new ones
pub told_of : (cs : List Change) (s t : List ℕ) (old new : List Entry) (rs qs : List Record) (before made : Option Monitor)
    → All (IsPlaced (length s)) old → (more : List ℕ) × (t ≡ s ++ more) → rs ≡ records_in t old → qs ≡ records_in t new
    → IsAppliedTo cs (records_in s old) (records_in t new)
    → (IsStrictlyOrdered qs → made ≡ monitor_after cs rs qs before)
    → made ≡ monitor_after cs (records_in s old) (applied cs (records_in s old)) before
told_of cs s t old new rs qs before made placed grown first second a told =
    let same : rs ≡ records_in s old =
    first ∙ ap (λ l. records_in l old) grown.1 ∙ records_grow s grown.0 old placed in
    told (subst IsStrictlyOrdered (sym second) a.ordered)
    ∙ ap (λ l. monitor_after cs l qs before) same
    ∙ ap (λ l. monitor_after cs (records_in s old) l before) (second ∙ a.is)

-- a path was appended to a storage, or none was
pub grown_by : (s t path : List ℕ) → (t ≡ s) ⊎ (t ≡ s ++ path) → (more : List ℕ) × (t ≡ s ++ more)
grown_by s t path (inl e) = ([], e ∙ sym (append-nil s))
grown_by s t path (inr e) = (path, e)

-- as many bytes as a storage had are that storage
pub cut_back : (s t u : List ℕ) (n : ℕ) → n ≡ length s → (more : List ℕ) × (t ≡ s ++ more) → u ≡ take n t → u ≡ s
cut_back s t u n len grown e =
    e ∙ ap (λ k. take k t) len ∙ ap (take (length s)) grown.1 ∙ take-append_seam s grown.0

pub none_grown : (s : List ℕ) → (more : List ℕ) × (s ≡ s ++ more)
none_grown s = ([], sym (append-nil s))
