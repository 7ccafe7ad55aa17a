use Rattle.std.proofs.Common.{refl, rules}
use Rattle.gix_index.specs.File.{checksum_of, state_of}
use Rattle.tool_inspect.proofs.SharedIndex.{shared_read}
use Rattle.tool_inspect.proofs.shared.shared_in.Goals as goal

pub returns-in-Ok : goal.returns-in-Ok
returns-in-Ok c =
    let default = c.default.ensures in
    record {
      read = λ known held. shared_read known c.args.kind c.args.id c.args.bytes.now _ _ (state_of c.in-Ok.file) _
          (checksum_of c.in-Ok.file) (refl, refl) default.0 default.1.0 refl default.1.1.1
          c.into_parts.ensures.state c.in-Ok.ensures.answer held;
      placed = search rules;
      storable = search rules;
    }
