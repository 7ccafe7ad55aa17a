use Rattle.std.proofs.Common.{Bool, None, false, inl, inr, refl, subst, sym, rules}
use Rattle.std.proofs.lemmas.Result.{IfOk-weaker}
use Rattle.gix_index.specs.Contents.{Contents}
use Rattle.gix_index.specs.State.{contents}
use Rattle.capi_table.specs.Fitting.{IsFitTable, IsUnfitTable}
use Rattle.capi_table.specs.Overwriting.{IsUnwrittenOver, TakesPlaceOf, WritesOver, full_options}
use Rattle.capi_table.specs.Writing.{HasImage, IfTableRejected, PassesLimit, PassesRoom}
use Rattle.capi_table.specs.declared.over.Replacement.{Replacement}
use Rattle.capi_table.specs.declared.write.Fault.{Fault}
use Rattle.capi_table.specs.declared.write.Image.{Image}
use Rattle.capi_table.proofs.Refusals.{lacks_from}
use Rattle.capi_table.proofs.Results.{passed_weaker, refused_weaker, unwritten_of}
use Rattle.capi_table.proofs.over.write_over.Goals as goal

pub returns-in-Some : goal.returns-in-Some
returns-in-Some c =
    record {
      done = search rules;
      refused = subst (λ (r : Replacement). IfTableRejected r.written (IsUnwrittenOver c.args.format.now
          c.args.index.now
          c.args.paths.now c.args.rows.now r.tree)) (sym c.not_written.ensures)
          (inl
          (record {
            read = record {
              value = contents c.in-Ok.state;
              checksum = c.in-Ok.ensures.read.0;
              read = c.in-Ok.ensures.read.1;
              holds = subst (λ (b : Bool). IsUnfitTable c.args.format.now.kind b c.args.paths.now c.args.rows.now
                  c.in-Some.fault) c.is_sparse.ensures c.in-Some.ensures.fault;
            };
            absent = refl;
          }));
      memory = search rules;
      no_room = search rules;
      unread = search rules;
      room = search rules;
      kept = search rules;
    }

pub put_fit-requires : goal.put_fit-requires
put_fit-requires c =
    subst (λ (b : Bool). IsFitTable c.args.format.now.kind b c.args.paths.now c.args.rows.now) c.is_sparse.ensures
    (c.in_default.ensures.fit refl)

pub returns : goal.returns
returns c =
    record {
      done = let over = c.put_fit.result in
          let Holds : Image → Contents → Type 0 = λ x. HasImage (full_options c.args.format.now) x c.args.room.now
          c.put_fit.new.room in
          IfOk-weaker over.written
          (λ (x : Image). TakesPlaceOf c.args.format.now.kind c.args.paths.now c.args.rows.now over.tree (Holds x)
          (contents c.in-Ok.state))
          (λ (x : Image). WritesOver c.args.format.now.kind c.args.index.now c.args.paths.now c.args.rows.now
          over.tree
          (Holds x))
          (λ x h. (record {
            value = contents c.in-Ok.state;
            checksum = c.in-Ok.ensures.read.0;
            read = c.in-Ok.ensures.read.1;
            holds = h;
          }))
          c.put_fit.ensures.done;
      refused = let over = c.put_fit.result in
          let Holds : Fault → Contents → Type 0 = λ x. PassesLimit (full_options c.args.format.now) x in
          refused_weaker over.written
          (λ (x : Fault). TakesPlaceOf c.args.format.now.kind c.args.paths.now c.args.rows.now over.tree (Holds x)
          (contents c.in-Ok.state))
          (λ (x : Fault). IsUnwrittenOver c.args.format.now c.args.index.now c.args.paths.now c.args.rows.now
          over.tree x)
          (λ x h. inr (record {
            value = contents c.in-Ok.state;
            checksum = c.in-Ok.ensures.read.0;
            read = c.in-Ok.ensures.read.1;
            holds = h;
          }))
          c.put_fit.ensures.refused;
      memory = unwritten_of c.put_fit.result.written _
          (lacks_from None false c.args.format.now.kind c.args.index.now _ _ c.in-Ok.ensures.read.1);
      no_room = let over = c.put_fit.result in
          let Holds : Image → Contents → Type 0 = λ x. PassesRoom (full_options c.args.format.now) x c.args.room.now
          in
          passed_weaker over.written
          (λ (x : Image). TakesPlaceOf c.args.format.now.kind c.args.paths.now c.args.rows.now over.tree (Holds x)
          (contents c.in-Ok.state))
          (λ (x : Image). WritesOver c.args.format.now.kind c.args.index.now c.args.paths.now c.args.rows.now
          over.tree
          (Holds x))
          (λ x h. (record {
            value = contents c.in-Ok.state;
            checksum = c.in-Ok.ensures.read.0;
            read = c.in-Ok.ensures.read.1;
            holds = h;
          }))
          c.put_fit.ensures.no_room;
      unread = search rules;
      room = search rules;
      kept = search rules;
    }
