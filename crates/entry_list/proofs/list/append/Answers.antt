use Rattle.std.proofs.Common.{◌≡◌, ◌+◌, ◌++◌, ◌∷◌, [], ℕ, List, length, ap, sym, ◌∙◌}
use Rattle.std.proofs.lemmas.List.{length-append}
use Rattle.entry_list.specs.PathRange.{range_end, range_start}
use Rattle.entry_list.specs.Record.{made_entry}
use Rattle.entry_list.specs.declared.Entry.{Entry}
use Rattle.entry_list.specs.declared.path_range.PathRange.{PathRange}
use Rattle.entry_list.proofs.Storing.{own_place, own_record, packed_start}
use Rattle.entry_list.proofs.list.append.Goals as goal

pub returns-clause-appended : goal.returns-clause-appended
returns-clause-appended c =
    let s = c.args.storage.now.items in
    let path = c.args.path.now in
    let range = c.in-Some.range in
    let e : Entry = made_entry c.args.entry range in
    let grown : c.extend_from_slice.new.self.items ≡ s ++ path =
    c.in_ok-extend_from_slice.ensures.items ∙ ap (λ (l : List ℕ). l ++ path) c.reserve.ensures.items in
    let added : c.push_reserved.new.self.items ≡ c.args.entries.now.items ++ e ∷ [] =
    c.push_reserved.ensures.items ∙ ap (λ (x : Entry). c.reserve-2.new.self.items ++ x ∷ []) c.make_entry.ensures
    ∙ ap (λ (l : List Entry). l ++ e ∷ []) c.reserve-2.ensures.items in
    let start : range_start range ≡ length s = ap range_start c.in-Some.ensures.some
    ∙ packed_start c.len.result (length path) ∙ c.len.ensures ∙ c.args.storage.now.ok.0 in
    let len : range.len ≡ length path = ap (λ (p : PathRange). p.len) c.in-Some.ensures.some in
    let end : range_end range ≡ length (s ++ path) =
    ap (λ (n : ℕ). range_start range + n) len ∙ ap (λ (n : ℕ). n + length path) start ∙ sym (length-append s path) in
    record {
      entry = e;
      entries = added;
      storage = grown;
      placed = rw grown (own_place s path e start end);
      is = rw grown (own_record s path e start end);
    }
