use Rattle.std.proofs.Common.{rules, ◌≡◌, ◌∙◌, []}
use Rattle.std.specs.Prelude.{◌↔◌, IsTrue}
use Rattle.gix_index.specs.Disk.World.{whole_of}
use Rattle.gix_index.specs.Id.{id_bytes}
use Rattle.tool_defaults.proofs.Trailers.{compared}
use Rattle.tool_defaults.proofs.trailer.is_digest_of.Goals as goal

pub returns : goal.returns
returns g c =
    let stored = g.S.Source.stored c.args.file.now in
    let start : g.S.Source.remaining c.go_to.new.self ≡ whole_of stored = search rules in
    let empty : c.in_ok-window.window.items ≡ [] = search rules in
    let same : IsTrue c.eq.result ↔ (id_bytes c.in_ok-digest.digest ≡ c.read_hashed.new.bytes.items) = search rules in
    record {
      told = compared c.args.kind stored _ _ c.in_ok-digest.digest c.eq.result
          (rw empty at c.in_ok-digest.ensures.hashed) start (search rules) same;
      stored = c.read_hashed.ensures.stored ∙ c.go_to.ensures.stored;
      works = c.read_hashed.ensures.works ∙ c.go_to.ensures.works;
      fault = λ _. tt;
    }
