use Rattle.std.proofs.Common.{◌∙◌, ap, arith, suc, [], rules}
use Rattle.std.proofs.lemmas.Grind.{common_steps}
use Rattle.index_parts.specs.Digest.{digest}
use Rattle.index_parts.specs.Id.{make_id}
use Rattle.index_parts.specs.declared.hash.Kind.{Kind}
use Rattle.index_model.specs.Image.{body}
use Rattle.index_state.specs.State.{contents}
use Rattle.gix_index.proofs.Files.{hashed_id}
use Rattle.gix_index.proofs.file.image.put_body.Goals as goal

pub returns : goal.returns
returns g c =
    let v = contents c.args.state.now in
    let h = c.in_ok-version.ensures.hashed 0 c.object_hash-kind.result []
    (c.new-hashing.ensures.kind, c.new-hashing.ensures.empty) in
    record {
      answer = record {
        version = search rules;
        id = hashed_id v c.args.options _ c.if-options.false (c.finalize.ensures _ h.1
            ∙ ap (λ (k : Kind). make_id k (digest k (body v c.args.options))) (h.0 ∙ c.object_hash-kind.ensures));
        bytes = search rules;
        too_many = search rules;
        nul_in_path = search rules;
        too_large = search rules;
      };
      hashed = λ depth k m held.
          let grown = c.in_ok-version.ensures.hashed (suc depth) k m (rw c.new-hashing.ensures.inner held) in
          search (rules, grown);
      loan = grind (arith, common_steps);
      writable = search rules;
    }
