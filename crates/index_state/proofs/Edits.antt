-- A state with other entries.
use Rattle.std.proofs.Common.{◌≡◌, List, length, sym, ap, ◌∙◌, All}
use Rattle.std.proofs.lemmas.List.{with_items_is}
use Rattle.entry_list.specs.declared.Entry.{Entry}
use Rattle.index_state.specs.declared.State.{State}
use Rattle.index_state.specs.Edits.{edited, with_entries}
use Rattle.entry_list.specs.Record.{IsPlaced, records_in}
use Rattle.index_state.specs.State.{PathsInStorage, contents, entries_of, storage_of}

pub entries_of-with_entries : (s : State) (es : List Entry) → length es ≡ length (entries_of s)
    → entries_of (with_entries s es) ≡ es
entries_of-with_entries s es h = with_items_is s.parts.entries es (h ∙ sym s.parts.entries.ok.0)

pub contents-with_entries : (s : State) (es : List Entry) → length es ≡ length (entries_of s)
    → contents (with_entries s es) ≡ edited (contents s) (records_in (storage_of s) es)
contents-with_entries s es h =
    ap (λ (items : List Entry). edited (contents s) (records_in (storage_of s) items))
    (entries_of-with_entries s es h)

pub stored-with_entries : (s : State) (es : List Entry) → length es ≡ length (entries_of s)
    → All (IsPlaced (length (storage_of s))) es → PathsInStorage (with_entries s es)
stored-with_entries s es h placed = rw (entries_of-with_entries s es h) placed
