use Rattle.std.proofs.Common.{rules, ◌∙◌, ◌≡◌, ap, arith}
use Rattle.std.proofs.lemmas.List.{with_items_is}
use Rattle.entry_list.specs.Record.{records_in, with_path}
use Rattle.entry_list.proofs.Appended.{appended_placed}
use Rattle.entry_fields.specs.Flags.{stage_code}
use Rattle.entry_edit.proofs.Puts.{placed_more, put_more, put_replaced}
use Rattle.entry_edit.proofs.Stages.{stage_is}
use Rattle.entry_edit.proofs.put.put.Goals as goal

pub returns-in-Ok-clause-put : goal.returns-in-Ok-clause-put
returns-in-Ok-clause-put c =
    let es = c.args.entries.now.items in
    let s = c.args.storage.now.items in
    let there : c.new-there.result ≡ records_in s es =
    c.new-there.ensures ∙ ap (λ x. records_in x c.deref.result.now) c.deref-2.ensures.value
    ∙ ap (records_in s) c.deref.ensures.value in
    record {
      made = λ _ o. put_replaced c.args.entry c.args.path.now s es c.index_mut.result.now c.overwrite.new.slot c.in-Ok.place _
          c.new-there.result c.key_place.result c.in-Ok.is there (ap stage_code c.stage.ensures ∙ stage_is _)
          c.key_place.ensures.found c.index_mut.ensures.value c.overwrite.ensures o;
      placed = search rules;
      storage = search rules;
      err_entries = search rules;
      err_storage = search rules;
    }

pub returns-in_ok-append-in-Err-clause-put : goal.returns-in_ok-append-in-Err-clause-put
returns-in_ok-append-in-Err-clause-put c =
    let es = c.args.entries.now.items in
    let s = c.args.storage.now.items in
    let a = c.in_ok-append-in-Err.ensures.appended in
    let v = c.append.new.entries in
    let new = with_path c.args.path.now c.args.entry in
    let there : c.new-there.result ≡ records_in s es =
    c.new-there.ensures ∙ ap (λ x. records_in x c.deref.result.now) c.deref-2.ensures.value
    ∙ ap (records_in s) c.deref.ensures.value in
    let stage = ap stage_code c.stage.ensures ∙ stage_is c.args.entry.flags.0 in
    let is = with_items_is v c.move_last.new.entries (omega (arith, c.move_last.auto.entries, c.as_mut_slice.ensures.len))
    ∙ c.move_last.ensures es a.entry (c.as_mut_slice.ensures.value ∙ a.entries) in
    record {
      made = λ placed o. put_more new s c.append.new.storage.items es v.items _ c.in-Err.place
          placed a is c.key_place.result c.in-Err.is
          (rw there at c.key_place.ensures.in_range)
          (rw (there, stage) at c.key_place.ensures.answer) o;
      placed = λ placed. placed_more new s c.append.new.storage.items es v.items _ c.in-Err.place
          placed a is (appended_placed s es _ c.append.new.storage.items v.items placed a);
      storage = search rules;
      err_entries = search rules;
      err_storage = search rules;
    }
