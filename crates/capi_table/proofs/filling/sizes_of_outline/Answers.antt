use Rattle.std.proofs.Common.{◌≡◌, rules}
use Rattle.std.specs.Option.{option_map}
use Rattle.gix_index.specs.Link.{link_of}
use Rattle.capi_table.specs.Reading.{link_id}
use Rattle.capi_table.proofs.OutlinedTables.{outline_tells}
use Rattle.capi_table.proofs.filling.sizes_of_outline.Goals as goal

pub returns : goal.returns
returns c = λ v h.
    let o = c.args.outline.now in
    let link : c.linked_id.result ≡ link_id (option_map link_of o.extensions.link) = search rules in
    rw link (outline_tells v o h)
