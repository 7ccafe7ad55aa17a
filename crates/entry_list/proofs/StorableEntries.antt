-- Entries are storable one by one, and each id has one of two forms.
use Rattle.std.proofs.Common.{◌≡◌, ◌⊎◌, inl, inr, refl, ℕ, ◌+◌, ◌<◌, List, All, length, take, get_or, sym, subst, arith}
use Rattle.std.proofs.lemmas.List.{get_or-map, length-map, map_more}
use Rattle.std.proofs.lemmas.List.Elements.{All-push}
use Rattle.index_parts.specs.declared.hash.Kind.{Kind}
use Rattle.index_parts.specs.declared.hash.ObjectId.{ObjectId}
use Rattle.index_parts.specs.declared.hash.ObjectId.TheVariants as ids
use Rattle.entry_list.specs.declared.Entry.{Entry}
use Rattle.entry_list.specs.Record.{record_in, records_in}
use Rattle.entry_list.specs.Storable.{IsStorableIn}

-- an id is of the one kind or of the other
pub variant_of : (id : ObjectId)
    → ((bytes : List ℕ) × (id ≡ ids.Sha1 bytes)) ⊎ ((bytes : List ℕ) × (id ≡ ids.Sha256 bytes))
variant_of (ids.Sha1 bytes) = inl (bytes, refl)
variant_of (ids.Sha256 bytes) = inr (bytes, refl)

module _ (kind : Kind) (storage : List ℕ) (es : List Entry) (i : ℕ) (d : Entry) (path : List ℕ) (within : i < length es)
    (is : path ≡ (record_in storage (get_or es i d)).path) where
  -- the entry at a place, with its path
  abbrev IsStorableHere : List ℕ → Type 0
  IsStorableHere p = IsStorableIn kind (record (record_in storage (get_or es i d)) { path = p })

  -- if all are, the one at index i is too
  pub storable_at : All (IsStorableIn kind) (records_in storage es) → IsStorableHere path
  storable_at all =
      let r = record_in storage (get_or es i d) in
      let here : IsStorableIn kind (get_or (records_in storage es) i r) =
      all i r (omega (arith, length-map es (record_in storage))) in
      subst IsStorableHere (sym is) (subst (IsStorableIn kind) (get_or-map (record_in storage) es i d r within) here)

  -- those before a place, and the one there
  pub storable_push : All (IsStorableIn kind) (records_in storage (take i es)) → IsStorableHere path
      → All (IsStorableIn kind) (records_in storage (take (i + 1) es))
  storable_push all here =
      let r = record_in storage (get_or es i d) in
      subst (All (IsStorableIn kind)) (sym (map_more (record_in storage) es i d within))
      (All-push (IsStorableIn kind) (records_in storage (take i es)) r all (subst IsStorableHere is here))
