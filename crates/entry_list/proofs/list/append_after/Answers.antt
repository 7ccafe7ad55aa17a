use Rattle.std.proofs.Common.{◌≡◌, ◌+◌, ◌-◌, ◌++◌, ◌∷◌, [], ℕ, List, drop, length, ap, sym}
use Rattle.std.proofs.Common.{◌∙◌, append_assoc, arith, length-take-le}
use Rattle.std.proofs.lemmas.List.{length-append, length-drop}
use Rattle.std.specs.Prelude.{slice_range}
use Rattle.entry_list.specs.PathRange.{range_end, range_start}
use Rattle.entry_list.specs.Record.{made_entry}
use Rattle.entry_list.specs.declared.Entry.{Entry}
use Rattle.entry_list.specs.declared.path_range.PathRange.{PathRange}
use Rattle.entry_list.proofs.Storing.{own_place, own_record, packed_start}
use Rattle.entry_list.proofs.list.append_after.Goals as goal

pub returns-clause-appended : goal.returns-clause-appended
returns-clause-appended c =
    let s = c.args.storage.now.items in
    let shared = slice_range s c.args.shared.start c.args.shared.end in
    let path = shared ++ c.args.path.now in
    let range = c.in-Some.range in
    let e : Entry = made_entry c.args.entry range in
    let grown : c.extend_from_slice.new.self.items ≡ s ++ path = c.in_ok-extend_from_slice.ensures.items
    ∙ ap (λ (l : List ℕ). l ++ c.args.path.now) c.in_ok-copy_to_end.ensures.copied
    ∙ ap (λ (l : List ℕ). l ++ slice_range l c.args.shared.start c.args.shared.end ++ c.args.path.now)
    c.reserve.ensures.items ∙ append_assoc s shared c.args.path.now in
    let added : c.push_reserved.new.self.items ≡ c.args.entries.now.items ++ e ∷ [] =
    c.push_reserved.ensures.items ∙ ap (λ (x : Entry). c.reserve-2.new.self.items ++ x ∷ []) c.make_entry.ensures
    ∙ ap (λ (l : List Entry). l ++ e ∷ []) c.reserve-2.ensures.items in
    let start : range_start range ≡ length s = ap range_start c.in-Some.ensures.some
    ∙ packed_start c.len.result range.len ∙ c.len.ensures ∙ c.args.storage.now.ok.0 in
    let from = c.args.shared.start in
    let count : length shared ≡ c.args.shared.end - from = length-take-le (c.args.shared.end - from) (drop from s)
    (omega (arith, length-drop from s, c.requires.inside)) in
    let len : range.len ≡ length path = ap (λ (p : PathRange). p.len) c.in-Some.ensures.some
    ∙ ap (λ (n : ℕ). n + length c.args.path.now) (sym count) ∙ sym (length-append shared c.args.path.now) in
    let end : range_end range ≡ length (s ++ path) =
    ap (λ (n : ℕ). range_start range + n) len ∙ ap (λ (n : ℕ). n + length path) start ∙ sym (length-append s path) in
    record {
      entry = e;
      entries = added;
      storage = grown;
      placed = rw grown (own_place s path e start end);
      is = rw grown (own_record s path e start end);
    }
