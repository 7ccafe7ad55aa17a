use Rattle.std.proofs.Common.{rules, arith, ◌≡◌, ◌<◌, length, Some, sym, ap, ◌∙◌}
use Rattle.std.specs.Prelude.{slice_get}
use Rattle.ext_split.specs.MergeSteps.{changed_at}
use Rattle.ext_split.specs.Merge.{replaced}
use Rattle.entry_list.specs.Record.{record_in, records_in}
use Rattle.ext_split.proofs.Merging.{fault_there, record_there, record_past}
use Rattle.ext_split.proofs.merge.replace_at.Goals as goal

pub returns-then-taken-split : goal.returns-then-taken-split
returns-then-taken-split c =
    let storage = c.args.storage.now in
    let es = c.args.shared.now.items in
    let p = c.args.place in
    let x = c.index.result.now in
    let inside : p < length es = omega (arith, c.if-place-len.false, c.len.ensures, c.args.shared.now.ok.0) in
    let there : slice_get (records_in storage es) p ≡ Some (record_in storage x) =
    record_there storage es p x inside ∙ ap (λ e. Some (record_in storage e)) (sym c.index.ensures) in
    record {
      sound = search rules;
      in_range = search rules;
      replaced = search rules;
      placed = search rules;
      fault = rw (there, record_past c.args.split_storage.now c.args.split.now c.args.taken c.if-taken-split.true)
          (c.fault_alone.ensures storage);
    }

pub returns-in-Some : goal.returns-in-Some
returns-in-Some c =
    let inside : c.args.place < length c.args.shared.now.items =
    omega (arith, c.if-place-len.false, c.len.ensures, c.args.shared.now.ok.0) in
    record {
      sound = search rules;
      in_range = search rules;
      replaced = search rules;
      placed = search rules;
      fault = fault_there c.args.storage.now c.args.split_storage.now c.args.shared.now.items c.args.split.now c.args.place
          c.args.taken c.index-2.result.now _ inside c.index-2.ensures c.if-taken-split.false _ c.in-Some.ensures;
    }

pub returns : goal.returns
returns c =
    let inside : c.args.place < length c.args.shared.now.items =
    omega (arith, c.if-place-len.false, c.len.ensures, c.args.shared.now.ok.0) in
    record {
      sound = fault_there c.args.storage.now c.args.split_storage.now c.args.shared.now.items c.args.split.now c.args.place
          c.args.taken c.index-2.result.now _ inside c.index-2.ensures c.if-taken-split.false _ c.in_default.ensures;
      in_range = search rules;
      replaced = c.take_at.ensures.replaced c.args.storage.now c.args.split_storage.now
          ∙ ap (λ o. changed_at (λ r. replaced r o) c.args.place (records_in c.args.storage.now c.args.shared.now.items))
          (sym (record_there c.args.split_storage.now c.args.split.now c.args.taken _ c.if-taken-split.false));
      placed = c.take_at.ensures.placed;
      fault = search rules;
    }
