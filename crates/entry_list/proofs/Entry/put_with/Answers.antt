use Rattle.std.proofs.Common.{◌++◌, ap, ◌∙◌}
use Rattle.std.proofs.lemmas.List.{append-nil}
use Rattle.index_parts.proofs.Puts.{puts_from, puts_after, puts_is, puts_stopped}
use Rattle.entry_list.specs.Entry.{head_bytes}
use Rattle.entry_list.specs.EntryImage.{head_of}
use Rattle.entry_list.specs.Record.{record_in}
use Rattle.entry_list.proofs.Lengths.{unpadded_is}
use Rattle.entry_list.proofs.Entry.put_with.Goals as goal

pub returns-in_err-put_head : goal.returns-in_err-put_head
returns-in_err-put_head g c =
    let r = record_in c.args.storage.now c.args.self.now in
    puts_stopped c.from_residual.result (r.path ++ c.args.end.now) c.from_residual.ensures.0
    (unpadded_is r c.args.end.now) c.in_err-put_head.ensures

pub returns : goal.returns
returns g c =
    let r = record_in c.args.storage.now c.args.self.now in
    let pieces = ap (λ l. c.path_in.result.now ++ l) (append-nil c.args.end.now)
    ∙ ap (λ p. p ++ c.args.end.now) c.path_in.ensures in
    let whole = ap (λ l. head_bytes (head_of r) ++ l) pieces ∙ unpadded_is r c.args.end.now in
    puts_is c.put_each.result whole (puts_after c.put_each.result c.in_ok-put_head.ensures
    (puts_from c.put_each.result c.put_each.ensures.bytes c.put_each.ensures.has_failed c.put_each.ensures.loan))
