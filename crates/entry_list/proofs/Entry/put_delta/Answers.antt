use Rattle.std.proofs.Common.{◌≡◌, ◌-◌, ◌++◌, [], ◌∷◌, length, drop, ap, ◌∙◌}
use Rattle.index_parts.proofs.Puts.{puts_from, puts_after, puts_is, puts_stopped}
use Rattle.index_parts.specs.Offset.{offset_bytes}
use Rattle.entry_list.specs.Entry.{head_bytes}
use Rattle.entry_list.specs.EntryImage.{head_of}
use Rattle.entry_list.specs.Record.{record_in}
use Rattle.entry_list.specs.Shared.{shared_len}
use Rattle.entry_list.proofs.Lengths.{delta_is}
use Rattle.entry_list.proofs.Entry.put_delta.Goals as goal

pub returns-in_err-put_head : goal.returns-in_err-put_head
returns-in_err-put_head g c =
    let r = record_in c.args.storage.now c.args.self.now in
    let previous = c.args.previous.now in
    let n = shared_len previous r.path in
    puts_stopped c.from_residual.result (offset_bytes (length previous - n) ++ (drop n r.path ++ 0 ∷ []))
    c.from_residual.ensures.0 (delta_is previous r) c.in_err-put_head.ensures

pub returns : goal.returns
returns g c =
    let r = record_in c.args.storage.now c.args.self.now in
    let previous = c.args.previous.now in
    let shared : c.shared_len-shared.result ≡ shared_len previous r.path =
    c.shared_len-shared.ensures.value ∙ ap (shared_len previous) c.path_in-path.ensures in
    let number = c.split_at-2.ensures.back ∙ c.offset-start.ensures.bytes in
    let pieces = ap (λ l. l ++ (c.split_at.result.1.now ++ 0 ∷ [])) number
    ∙ ap (λ l. offset_bytes (length previous - c.shared_len-shared.result) ++ (l ++ 0 ∷ []))
    (c.split_at.ensures.back ∙ ap (drop c.shared_len-shared.result) c.path_in-path.ensures)
    ∙ ap (λ n. offset_bytes (length previous - n) ++ (drop n r.path ++ 0 ∷ [])) shared in
    let whole = ap (λ l. head_bytes (head_of r) ++ l) pieces ∙ delta_is previous r in
    puts_is c.put_each.result whole (puts_after c.put_each.result c.in_ok-put_head.ensures
    (puts_from c.put_each.result c.put_each.ensures.bytes c.put_each.ensures.has_failed c.put_each.ensures.loan))
