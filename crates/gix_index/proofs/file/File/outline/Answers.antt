use Rattle.std.proofs.Common.{Err, Ok}
use Rattle.std.proofs.lemmas.Result.{err_from_is_err_and}
use Rattle.index_model.specs.Answer.{IsAnswer, IsBehindHeader}
use Rattle.index_model.proofs.Answers.{body_late}
use Rattle.gix_index.proofs.Checks.{error_says, to_file}
use Rattle.index_state.proofs.OutlineFaults.{says_weaker}
use Rattle.index_state.proofs.Outlines.{read_storable}
use Rattle.gix_index.proofs.file.File.outline.Goals as goal

pub returns-in_err-declared-clause-fault : goal.returns-in_err-declared-clause-fault
returns-in_err-declared-clause-fault c =
    let p = err_from_is_err_and c.from_residual-in_err-declared.result c.from_residual-in_err-declared.ensures.1 in
    rw (p.1, p.2) (error_says c.args.skip_hash c.args.object_hash c.args.timestamp c.args.options c.args.data.now
    c.in_err-declared.field-0.0 c.in_ok-check.ensures.ok (c.in_err-declared.ensures.fault c.args.timestamp))

pub returns-in_err-outline_behind_header-clause-fault : goal.returns-in_err-outline_behind_header-clause-fault
returns-in_err-outline_behind_header-clause-fault c =
    let behind = c.in_ok-declared.ensures.behind c.args.timestamp in
    let e = c.in_err-outline_behind_header.field-0.0 in
    let p =
    err_from_is_err_and c.from_residual-in_err-outline_behind_header.result
    c.from_residual-in_err-outline_behind_header.ensures.1 in
    rw (p.1, p.2) (error_says c.args.skip_hash c.args.object_hash c.args.timestamp c.args.options c.args.data.now e
    c.in_ok-check.ensures.ok (says_weaker e
    (IsBehindHeader c.args.object_hash c.args.timestamp c.args.options c.in_ok-declared.declared.version c.in_ok-declared.declared.count
    c.in_ok-declared.declared.rest.now)
    (IsAnswer c.args.object_hash c.args.timestamp c.args.options c.args.data.now)
    (λ f b. (behind (Err f)).0 b)
    (λ f early a. body_late c.args.object_hash c.args.timestamp c.args.options c.in_ok-declared.declared.version
    c.in_ok-declared.declared.count c.in_ok-declared.declared.rest.now f early ((behind (Err f)).1 a))
    c.in_err-outline_behind_header.ensures.fault))

pub returns-clause-outlined : goal.returns-clause-outlined
returns-clause-outlined c =
    let h = c.in_ok-outline_behind_header.ensures.outlined in
    let o = c.in_ok-outline_behind_header.field-0 in
    let answer = (c.in_ok-declared.ensures.behind c.args.timestamp (Ok (h.0, o.checksum))).0 h.2 in
    record {
      value = h.0;
      read = to_file c.args.skip_hash c.args.object_hash c.args.timestamp c.args.options c.args.data.now _
          c.in_ok-check.ensures.ok answer;
      storable = read_storable c.args.object_hash c.args.timestamp c.args.options c.args.data.now h.0 o.checksum
          c.type_inv.data answer;
      outlines = h.1;
    }
