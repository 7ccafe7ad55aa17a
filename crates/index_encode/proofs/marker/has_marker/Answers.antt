use Rattle.std.proofs.Common.{◌∙◌, ap, length, sym}
use Rattle.std.specs.List.{flat_map}
use Rattle.ext_encode.specs.Chosen.{Extensions as Chosen, items}
use Rattle.index_extensions.specs.Encoding.{item_bytes}
use Rattle.index_model.specs.Contents.{parts_contents}
use Rattle.index_encode.proofs.Bodies.{marker_told}
use Rattle.index_encode.proofs.marker.has_marker.Goals as goal

pub returns : goal.returns
returns c =
    let v = parts_contents c.args.parts.now in
    marker_told v c.args.options c.total.result (sym c.is_kept.ensures ∙ c.if-is_kept.false)
    (sym c.wants_marker.ensures ∙ c.if-not-wants_marker.false)
    (c.total.ensures.len ∙ ap (λ (e : Chosen). length (flat_map item_bytes (items v.kind e))) c.requires.list)
    c.requires.small
