-- The records after one entry is appended to others whose paths are in the storage.
use Rattle.std.proofs.Common.{◌≡◌, ℕ, List, [], ◌∷◌, ◌++◌, All, length, refl, ap, ◌∙◌, arith}
use Rattle.std.proofs.lemmas.List.{length-append, map-append}
use Rattle.std.proofs.lemmas.List.Elements.{All-push, All-weaker}
use Rattle.entry_list.specs.Held.{Appends}
use Rattle.entry_list.specs.Record.{Record, record_in, records_in, IsPlaced}
use Rattle.entry_list.specs.declared.Entry.{Entry}
use Rattle.entry_list.proofs.Storing.{records_grow}

module _ (s : List ℕ) (es : List Entry) (r : Record) (t : List ℕ) (fs : List Entry)
    (placed : All (IsPlaced (length s)) es) (a : Appends s es r t fs) where
  pub appended_records : records_in t fs ≡ records_in s es ++ r ∷ []
  appended_records =
      let grown : records_in t fs ≡ records_in (s ++ r.path) (es ++ a.entry ∷ []) = rw (a.storage, a.entries) refl in
      let is : record_in (s ++ r.path) a.entry ≡ r = rw a.storage at a.is in
      grown
      ∙ map-append (record_in (s ++ r.path)) es (a.entry ∷ [])
      ∙ ap (λ (rs : List Record). rs ++ record_in (s ++ r.path) a.entry ∷ []) (records_grow s r.path es placed)
      ∙ ap (λ (x : Record). records_in s es ++ x ∷ []) is

  wider : (x : Entry) → IsPlaced (length s) x → IsPlaced (length t) x
  wider x p =
      record { inside = omega (arith, p.inside, ap length a.storage, length-append s r.path) }

  pub appended_placed : All (IsPlaced (length t)) fs
  appended_placed = rw a.entries (All-push (IsPlaced (length t)) es a.entry
      (All-weaker (IsPlaced (length s)) (IsPlaced (length t)) wider es placed) a.placed)
