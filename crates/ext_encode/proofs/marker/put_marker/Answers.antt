use Rattle.std.proofs.Common.{◌∙◌, ap}
use Rattle.index_parts.proofs.Puts.{puts_is}
use Rattle.index_extensions.specs.Encoding.{heads_bytes, item_bytes, marker_item}
use Rattle.ext_encode.proofs.marker.put_marker.Goals as goal

pub returns : goal.returns
returns g c = record {
  written = puts_is c.write_to.result (ap (λ list. item_bytes (marker_item c.args.kind c.args.offset (heads_bytes list)))
      (c.split_at.ensures.front ∙ c.heads_of-heads.ensures.list)) c.write_to.ensures;
}
