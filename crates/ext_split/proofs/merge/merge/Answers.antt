use Rattle.std.proofs.Common.{rules, arith, ◌≡◌, ◌+◌, ◌++◌, length, drop, sym, ap, ◌∙◌}
use Rattle.std.proofs.lemmas.List.{drop-map, length-map}
use Rattle.std.proofs.lemmas.Result.{err_from_is_err_and}
use Rattle.std.proofs.lemmas.List.Sorted.{All-permutation, IsPermutation-map}
use Rattle.entry_list.specs.Record.{IsPlaced, record_in, records_in}
use Rattle.ext_split.proofs.Merging.{says_weaker, delete_is_fault, replace_is_fault, merged_all}
use Rattle.ext_split.proofs.merge.merge.Goals as goal

pub returns-in_err-taken : goal.returns-in_err-taken
returns-in_err-taken c =
    let h = rw c.deref.ensures.value at c.in_err-taken.ensures.fault in
    let p = err_from_is_err_and c.from_residual.result c.from_residual.ensures.1 in
    record {
      merged = rw p.1 tt;
      placed = rw p.1 tt;
      fault = rw (p.1, p.2)
          (says_weaker c.in_err-taken.field-0.0 _ _ (λ fault f. replace_is_fault _ _ _ _ fault f) h);
    }

pub returns-in_err-keep_others : goal.returns-in_err-keep_others
returns-in_err-keep_others c =
    let storage = c.append_entries.new.storage.items in
    let split_storage = c.args.split_storage.now in
    let taken = c.in_ok-taken.taken in
    let shared = c.replace_entries.new.shared.items in
    let es = c.append_entries.new.entries.items in
    let split = c.args.split.now in
    let rep = rw c.deref.ensures.value at c.in_ok-taken.ensures.replaced in
    let back : length c.split_at.result.1.now ≡ length (drop taken (records_in split_storage split)) =
    ap length c.split_at.ensures.back ∙ sym (length-map (drop taken split) (record_in split_storage))
    ∙ ap length (sym (drop-map (record_in split_storage) taken split)) in
    let mid = records_in c.args.storage.now.items shared in
    let count : length (records_in storage es) ≡ length mid + length (drop taken (records_in split_storage split)) =
    omega (
      arith,
      c.in_ok-append_entries.ensures.count,
      back,
      length-map es (record_in storage),
      length-map shared (record_in c.args.storage.now.items),
    ) in
    let p = err_from_is_err_and c.from_residual-in_err-keep_others.result c.from_residual-in_err-keep_others.ensures.1 in
    record {
      merged = rw p.1 tt;
      placed = rw p.1 tt;
      fault = rw (p.1, p.2) (says_weaker c.in_err-keep_others.field-0.0 _ _
          (λ fault f. delete_is_fault _ _ _ _ _ taken rep (length (records_in storage es)) count fault f)
          (rw c.deref-2.ensures.value at c.in_err-keep_others.ensures.fault));
    }

pub returns : goal.returns
returns c =
    let storage = c.append_entries.new.storage.items in
    let split_storage = c.args.split_storage.now in
    let taken = c.in_ok-taken.taken in
    let mid = records_in c.args.storage.now.items c.replace_entries.new.shared.items in
    let rep = rw c.deref.ensures.value at c.in_ok-taken.ensures.replaced in
    let others = ap (records_in split_storage) c.split_at.ensures.back
    ∙ sym (drop-map (record_in split_storage) taken c.args.split.now) in
    let keeps = rw c.deref-2.ensures.value at c.in_ok-keep_others.ensures.retained in
    let permutation = IsPermutation-map
    (record_in storage) c.keep_others.new.entries.items c.sort.new.entries.items c.in_ok-sort.ensures.permutation in
    let sorted = rw c.deref-3.ensures.value at c.in_ok-sort.ensures.ordered in
    let stable = rw c.deref-3.ensures.value at c.in_ok-sort.ensures.stable_records in
    let len = length c.append_entries.new.storage.items in
    let replaced = c.in_ok-taken.ensures.placed (length c.args.storage.now.items) in
    let joins = c.in_ok-append_entries.ensures in
    record {
      merged = λ placed. merged_all _ _ (records_in c.args.storage.now.items c.args.entries.now.items)
          (records_in split_storage c.args.split.now) mid taken rep
          (records_in storage c.append_entries.new.entries.items)
          (joins.appended (replaced placed) ∙ ap (λ l. mid ++ l) others)
          (records_in storage c.keep_others.new.entries.items)
          (records_in storage c.sort.new.entries.items) keeps permutation sorted stable;
      placed = λ placed. All-permutation (IsPlaced len) c.keep_others.new.entries.items c.sort.new.entries.items
          c.in_ok-sort.ensures.permutation (c.in_ok-keep_others.ensures.placed len (joins.placed (replaced placed)));
      fault = search rules;
    }
