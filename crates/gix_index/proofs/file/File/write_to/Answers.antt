use Rattle.std.proofs.Common.{◌∙◌, ap, rules}
use Rattle.std.proofs.lemmas.Result.{err_from_is_err_and}
use Rattle.index_parts.proofs.Ids.{id_bytes-make_id}
use Rattle.index_parts.specs.Id.{id_bytes}
use Rattle.index_model.specs.Image.{body, trailer}
use Rattle.index_state.specs.State.{contents}
use Rattle.gix_index.specs.File.{state_of}
use Rattle.gix_index.proofs.Files.{fails_more, front_then}
use Rattle.gix_index.proofs.file.File.write_to.Goals as goal

pub returns-in_err-version : goal.returns-in_err-version
returns-in_err-version g c =
    let v = contents (state_of c.args.self.now) in
    let p = err_from_is_err_and c.from_residual.result c.from_residual.ensures.1 in
    rw (p.1, p.2) (record {
      version = search rules;
      id = search rules;
      bytes = fails_more g.W.Out.taken g.W.Out.failed c.args.out.now c.put_body.new.out c.in_err-version.field-0.0
          (body v c.args.options) (trailer v c.args.options) c.in_err-version.ensures.answer.bytes;
      too_many = c.in_err-version.ensures.answer.too_many;
      nul_in_path = c.in_err-version.ensures.answer.nul_in_path;
      too_large = c.in_err-version.ensures.answer.too_large;
      hashed = search rules;
      loan = search rules;
      writable = search rules;
    })

pub returns-in_err-put : goal.returns-in_err-put
returns-in_err-put g c =
    let v = contents (state_of c.args.self.now) in
    let p = err_from_is_err_and c.from_residual-in_err-put.result c.from_residual-in_err-put.ensures.1 in
    rw (p.1, p.2) (record {
      version = search rules;
      id = search rules;
      bytes = (
        front_then g.W.Out.taken c.args.out.now c.put_body.new.out c.put.new.self (body v c.args.options)
            (trailer v c.args.options) c.as_bytes.result.now (c.as_bytes.ensures.bytes
            ∙ ap id_bytes c.in_ok-version.ensures.answer.id ∙ id_bytes-make_id v.kind (trailer v c.args.options))
            c.in_ok-version.ensures.answer.bytes.0 c.in_err-put.ensures.bytes,
        c.in_err-put.ensures.has_failed,
      );
      too_many = search rules;
      nul_in_path = search rules;
      too_large = search rules;
      hashed = search rules;
      loan = search rules;
      writable = search rules;
    })
