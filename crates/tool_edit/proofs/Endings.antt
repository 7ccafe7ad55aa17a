-- What the checks show about the index.
use Rattle.std.proofs.Common.{ℕ, Result, Ok, Err, length, sym, subst}
use Rattle.std.specs.Prelude.{None, OnOk}
use Rattle.std.proofs.lemmas.List.{length-map}
use Rattle.gix_index.specs.Record.{record_in}
use Rattle.gix_index.specs.State.{contents, entries_of, storage_of}
use Rattle.gix_index.specs.StateType.{State as StateType}
use Rattle.gix_index.specs.Refusals.{Refusal, TreesFaultCause}
use Rattle.gix_index.specs.SoundState.{AreSoundExtensions, extensions_fault}
use Rattle.gix_index.specs.TreeError.{Error as TreeError}
use Rattle.gix_index.specs.TreeFaults.{NodeCause}
use Rattle.gix_index.specs.WriteTreesError.{Error}
use Rattle.gix_index.specs.WriteTreesError.TheVariants as errors

-- the entries are as many as the records
pub sound_counted : (s : StateType) → AreSoundExtensions (length (entries_of s)) (contents s).extensions.tree
    → AreSoundExtensions (length (contents s).records) (contents s).extensions.tree
sound_counted s h = subst (λ (n : ℕ). AreSoundExtensions n (contents s).extensions.tree)
    (sym (length-map (entries_of s) (record_in (storage_of s)))) h

pub fault_counted : (s : StateType) (e : TreeError)
    → NodeCause e (extensions_fault (length (entries_of s)) None (contents s).extensions.tree)
    → NodeCause e (extensions_fault (length (contents s).records) None (contents s).extensions.tree)
fault_counted s e h = subst (λ (n : ℕ). NodeCause e (extensions_fault n None (contents s).extensions.tree))
    (sym (length-map (entries_of s) (record_in (storage_of s)))) h

-- a sink that never refuses gives no fault
pub refused_by_entries : (e : Error) (S : ℕ → Type 0) (P Q : Refusal → Type 0) → ((n : ℕ) → S n → ⊥)
    → ((f : Refusal) → P f → Q f) → TreesFaultCause e S P → TreesFaultCause e (λ n. ⊥) Q
refused_by_entries errors.TooManyEntries S P Q none h s = h _ s
refused_by_entries (errors.Unmerged path) S P Q none h s = h _ s
refused_by_entries (errors.Mode path mode) S P Q none h s = h _ s
refused_by_entries (errors.Path path fault) S P Q none h s = h _ s
refused_by_entries (errors.OtherKind path) S P Q none h s = h _ s
refused_by_entries (errors.NullId path) S P Q none h s = h _ s
refused_by_entries (errors.Both one other) S P Q none h s = h _ s
refused_by_entries (errors.Sink number) S P Q none h s = none number s
refused_by_entries errors.Memory S P Q none h s = s

-- what holds also holds if a step passes
pub kept_on_ok : {T E P : Type 0} (r : Result T E) → P → OnOk r P
kept_on_ok (Ok x) h = h
kept_on_ok (Err e) h = tt
