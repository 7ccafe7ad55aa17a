use Rattle.std.proofs.Common.{◌∙◌}
use Rattle.index_parts.proofs.Puts.{puts_from, puts_is}
use Rattle.index_extensions.specs.Encoding.{heads_bytes}
use Rattle.index_extensions.proofs.WrittenItems.{marker_is}
use Rattle.index_extensions.proofs.end_of_index_entry.write_to.Goals as goal

pub returns : goal.returns
returns g c =
    puts_is c.put_each.result (c.two-pieces.ensures
    ∙ marker_is c.args.object_hash c.args.offset_to_extensions (heads_bytes c.args.prior_extensions.now) _ _
    c.before_digest-start.ensures (c.as_bytes.ensures.bytes ∙ c.digest_of_pairs-id.ensures))
    (puts_from c.put_each.result c.put_each.ensures.bytes c.put_each.ensures.has_failed c.put_each.ensures.loan)
