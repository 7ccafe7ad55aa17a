-- The entry at a place that a search of the records gave.
use Rattle.std.proofs.Common.{◌≡◌, ℕ, ◌<◌, List, length, get_or, Option, Some, sym, ap, ◌∙◌, subst, arith}
use Rattle.std.proofs.lemmas.List.{length-map}
use Rattle.std.specs.List.{HoldsAt}
use Rattle.std.specs.Prelude.{option_and_then, slice_get}
use Rattle.entry_list.specs.Record.{Record, record_in, records_in}
use Rattle.entry_list.specs.declared.Entry.{Entry}
use Rattle.index_state.specs.State.{entries_of, records, storage_of}
use Rattle.index_state.specs.StateSearches.{IsEntryWith}
use Rattle.index_state.specs.declared.State.{State}
use Rattle.entry_lookup.proofs.Closest.{entry_given, holds_entry}

module _ (storage : List ℕ) (es : List Entry) (i : ℕ) (e : Entry) (read : e ≡ get_or es i e) where
  pub given_holds : (P : Record → Type 0) → (i < length (records_in storage es)) × HoldsAt P (records_in storage es) i
      → P (record_in storage e)
  given_holds P h = subst (λ (x : Entry). P (record_in storage x)) (sym read) (holds_entry P storage es i e h)

  pub given_place : (o : Option ℕ) → i < length (records_in storage es) → Some i ≡ o
      → Some e ≡ option_and_then (slice_get es) o
  given_place o within same = ap Some read ∙ entry_given storage es i e o within same

-- it is one of the state's, and such as the record at that place
pub entry_with : (P : Record → Type 0) (s : State) (i : ℕ) (e : Entry) → e ≡ get_or (entries_of s) i e
    → (i < length (records s)) × HoldsAt P (records s) i → IsEntryWith P s e
entry_with P s i e read h =
    let inside : i < length (entries_of s) = omega (arith, h.0, length-map (entries_of s) (record_in (storage_of s))) in
    record { found = (i, inside, sym read); key = given_holds (storage_of s) (entries_of s) i e read P h }
