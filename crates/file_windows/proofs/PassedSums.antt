-- What entries come to that are passed one after another.
use Rattle.std.proofs.Common.{◌≡◌, ◌∙◌, ℕ, ◌+◌, ◌≤◌, eqb, Bool, true, false, List, [], ◌∷◌, ◌++◌, length, Option, None}
use Rattle.std.proofs.Common.{option_map, unwrap_or, refl, sym, ap}
use Rattle.std.specs.Prelude.{◌||◌}
use Rattle.std.proofs.lemmas.List.Folds.{list_any-append}
use Rattle.std.proofs.lemmas.List.Sums.{sum_by_push}
use Rattle.entry_list.specs.Entries.{last_path}
use Rattle.entry_list.specs.Record.{Record, has_directory}
use Rattle.entry_decode.proofs.Readers.{lent_len}
use Rattle.entry_decode.specs.Lent.{borrowed_record}
use Rattle.entry_decode.specs.declared.entry.Lent.{Lent}
use Rattle.file_windows.specs.Passed.{paths_len}

or_false : (b : Bool) → (b || false) ≡ b
or_false true = refl
or_false false = refl

directory_more : (rs : List Record) (r : Record)
    → has_directory (rs ++ r ∷ []) ≡ (has_directory rs || eqb r.mode 0o040000)
directory_more rs r = list_any-append (λ (x : Record). eqb x.mode 0o040000) rs (r ∷ [])
    ∙ ap (λ (b : Bool). has_directory rs || b) (or_false (eqb r.mode 0o040000))

pub sparse_more : (rs : List Record) (r : Record) (a b : Bool) → a ≡ has_directory rs → b ≡ eqb r.mode 0o040000
    → (a || b) ≡ has_directory (rs ++ r ∷ [])
sparse_more rs r a b e f = rw (e, f) (sym (directory_more rs r))

pub paths_more : (rs : List Record) (room : Option ℕ) (lent : Lent) → option_map length (last_path None rs) ≡ room
    → lent.shared ≤ unwrap_or room 0
    → paths_len (rs ++ borrowed_record (last_path None rs) lent ∷ [])
    ≡ paths_len rs + (lent.shared + length lent.path.now)
paths_more rs room lent e le =
    let previous = last_path None rs in
    sum_by_push (λ (r : Record). length r.path) rs (borrowed_record previous lent)
    ∙ ap (λ (n : ℕ). paths_len rs + n) (lent_len previous room lent.shared lent.path.now e le)
