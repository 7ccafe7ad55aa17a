-- The ids of entries, and of the records that they are.
use Rattle.std.proofs.Common.{◌≡◌, ℕ, List, [], ◌∷◌, All, arith}
use Rattle.std.proofs.lemmas.List.Elements.{All-head, All-tail, All-cons, All-map}
use Rattle.index_parts.specs.Id.{id_kind}
use Rattle.index_parts.specs.declared.hash.Kind.{Kind}
use Rattle.entry_list.specs.declared.Entry.{Entry}
use Rattle.entry_list.specs.Record.{Record, IdsAreOf, record_in, records_in}

pub records_of : (kind : Kind) (storage : List ℕ) (es : List Entry) → IdsAreOf kind es
    → All (λ r. id_kind r.id ≡ kind) (records_in storage es)
records_of kind storage es h = All-map (λ (r : Record). id_kind r.id ≡ kind) (record_in storage) es h

pub entries_have : (kind : Kind) (storage : List ℕ) (es : List Entry)
    → All (λ r. id_kind r.id ≡ kind) (records_in storage es) → IdsAreOf kind es
entries_have kind storage [] h = λ k d l. absurd (omega arith)
entries_have kind storage (e ∷ es) h =
    let P : Record → Type 0 = λ r. id_kind r.id ≡ kind in
    All-cons (λ (x : Entry). id_kind x.id ≡ kind) e es (All-head P (record_in storage e) (records_in storage es) h)
    (entries_have kind storage es (All-tail P (record_in storage e) (records_in storage es) h))
