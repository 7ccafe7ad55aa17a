use Rattle.std.proofs.Common.{◌≡◌, ◌+◌, ◌++◌, ◌∙◌, ap, arith, drop, length, sym, take}
use Rattle.std.proofs.lemmas.List.{length-append, with_items_is}
use Rattle.entry_list.specs.Record.{with_path}
use Rattle.entry_edit.specs.EditSteps.{staying}
use Rattle.entry_edit.proofs.Firsts.{front_kept}
use Rattle.entry_edit.proofs.others.remove_from.Goals as goal

pub returns : goal.returns
returns c =
    let v = c.args.entries.now in
    let parts = c.split_at_mut-back.ensures in
    let front = c.split_at_mut-back.result.0.now in
    let behind = c.gather-kept.new.entries in
    let kept = c.gather-kept.result in
    let new = with_path c.args.path.now c.args.entry in
    let len : length (front ++ behind) ≡ v.len = omega (
      arith,
      length-append front behind,
      c.gather-kept.auto.entries,
      parts.back_len,
      parts.front_len,
      c.as_mut_slice.ensures.len,
    ) in
    let whole = c.as_mut_slice.ensures.value in
    c.truncate.ensures.items ∙ ap (take (c.args.start + kept)) (with_items_is v (front ++ behind) len)
    ∙ ap (λ n. take (n + kept) (front ++ behind)) (sym parts.front_len) ∙ front_kept front behind kept
    ∙ ap (λ l. l ++ take kept behind) (parts.front ∙ ap (take c.args.start) whole)
    ∙ ap (λ l. take c.args.start v.items ++ l) (c.gather-kept.ensures.stay
    ∙ ap (staying c.args.storage.now new) (parts.back ∙ ap (drop c.args.start) whole))
