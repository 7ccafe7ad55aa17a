use Rattle.std.proofs.Common.{◌≡◌, ◌∙◌, sym, ap, refl, Bool, true, false, eqb, List, [], ◌∷◌, ◌++◌, None, length, arith}
use Rattle.std.specs.Prelude.{◌||◌}
use Rattle.std.proofs.lemmas.List.{length-append}
use Rattle.std.proofs.lemmas.List.Elements.{All-push}
use Rattle.std.proofs.lemmas.List.Folds.{list_any-append}
use Rattle.index_parts.specs.Id.{id_kind}
use Rattle.entry_list.specs.Entries.{last_path}
use Rattle.entry_list.specs.Held.{Held}
use Rattle.entry_decode.specs.Lent.{borrowed_record}
use Rattle.entry_list.specs.Record.{Record, has_directory}
use Rattle.entry_list.proofs.Growing.{entry_end, end_before}
use Rattle.entry_list.proofs.Storing.{entries_push}
use Rattle.entry_decode.proofs.Readers.{behind_lent, lent_entry}
use Rattle.entry_decode.proofs.entries.entries_in.Goals as goal

or_false : (b : Bool) → (b || false) ≡ b
or_false true = refl
or_false false = refl

folder_push : (rs : List Record) (r : Record) → has_directory (rs ++ r ∷ []) ≡ (has_directory rs || eqb r.mode 0o040000)
folder_push rs r = list_any-append (λ (x : Record). eqb x.mode 0o040000) rs (r ∷ [])
    ∙ ap (λ (b : Bool). has_directory rs || b) (or_false (eqb r.mode 0o040000))

ap2or : {a b x y : Bool} → a ≡ b → x ≡ y → (a || x) ≡ (b || y)
ap2or p q = rw (p, q) refl

pub entries-preserved : goal.entries-preserved
entries-preserved c =
    let h = c.entries.invariant in
    let before = c.entries.first.list.records in
    let last = last_path None before in
    let left = c.entries.reader in
    let after = c.next.new.self in
    let found = lent_entry c.args.version c.args.kind last left c.in-Some.lent after h.behind c.in-Some.ensures.lent in
    let r = borrowed_record last c.in-Some.lent in
    let stored : c.push_after.new.self.records ≡ before ++ r ∷ [] =
    ap (λ (h : Held). h.records) c.in_ok-push_after.ensures.pushed in
    record {
      read = λ all given. rw stored (entries_push c.args.version c.args.kind None all before r left.rest
          after.rest (h.read all given) found);
      end = end_before c.args.bytes.now h.end.0 left.rest after.rest h.end.1
          (entry_end c.args.version c.args.kind last left.rest r after.rest found);
      behind = rw stored (behind_lent c.args.version c.args.kind before left c.in-Some.lent after h.behind
          c.in-Some.ensures.lent c.in-Some.ensures.shared);
      count = ap length stored ∙ omega (arith, length-append before (r ∷ []), h.count);
      ids = rw stored (All-push (λ (x : Record). id_kind x.id ≡ c.args.kind) before r h.ids
          (c.in-Some.ensures.kind ∙ h.behind.kind_is));
      sparse = ap2or h.sparse c.is_sparse.ensures ∙ sym (ap has_directory stored ∙ folder_push before r);
    }
