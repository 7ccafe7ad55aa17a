use Rattle.std.proofs.Common.{◌≡◌, ◌∙◌, All, ap, arith, drop, false, length, length-take, not, refl, subst, sym, take}
use Rattle.std.proofs.lemmas.List.{length-append, length-drop}
use Rattle.std.proofs.lemmas.List.Elements.{All-append, All-drop, All-filter, All-take}
use Rattle.std.proofs.lemmas.List.Filters.{length-filter_both}
use Rattle.std.specs.List.{AllWithin}
use Rattle.entry_list.specs.Order.{IsStrictlyOrdered}
use Rattle.entry_list.specs.Record.{IsPlaced, record_in, records_in, with_path}
use Rattle.entry_list.specs.declared.Entry.{Entry}
use Rattle.entry_edit.specs.EditSteps.{is_other, staying}
use Rattle.entry_edit.proofs.Firsts.{left_behind}
use Rattle.entry_edit.proofs.others.remove_others.Goals as goal

pub returns : goal.returns
returns c =
    let s = c.args.storage.now in
    let es = c.args.entries.now.items in
    let start = c.first_other-start.result in
    let new = with_path c.args.path.now c.args.entry in
    let goes = λ (e : Entry). is_other new (record_in s e) in
    let stay = λ (e : Entry). not (is_other new (record_in s e)) in
    let there : c.new.result ≡ records_in s es = c.new.ensures ∙ ap (records_in s) c.deref.ensures.value in
    let front = subst (λ rs. IsStrictlyOrdered rs → AllWithin (λ r. is_other new r ≡ false) rs 0 start) there
    c.first_other-start.ensures.front in
    record {
      left = λ o. left_behind s new es c.remove_from.new.entries.items start c.remove_from.ensures (front o);
      fewer = omega (
        arith,
        ap length c.remove_from.ensures,
        length-append (take start es) (staying s new (drop start es)),
        length-take start es,
        length-drop start es,
        length-filter_both goes stay (λ e. refl) (drop start es),
      );
      placed = λ placed. subst (All (IsPlaced (length s))) (sym c.remove_from.ensures)
          (All-append (IsPlaced (length s)) (take start es) (staying s new (drop start es))
          (All-take (IsPlaced (length s)) start es placed)
          (All-filter stay (IsPlaced (length s)) (drop start es) (All-drop (IsPlaced (length s)) start es placed)));
    }
