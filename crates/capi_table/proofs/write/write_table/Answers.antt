use Rattle.std.proofs.Common.{inr, refl, subst, rules}
use Rattle.std.proofs.lemmas.Result.{IfOk-weaker}
use Rattle.gix_index.specs.Contents.{Contents}
use Rattle.gix_index.specs.State.{contents}
use Rattle.gix_index.specs.WriteOptions.{Options}
use Rattle.capi_table.specs.Writing.{HasImage, IsUnwritable, IsUnwritten, PassesLimit, PassesRoom, Spells, plain_options}
use Rattle.capi_table.specs.declared.write.Fault.{Fault}
use Rattle.capi_table.specs.declared.write.Image.{Image}
use Rattle.capi_table.proofs.Results.{passed_weaker, refused_weaker, unwritten_of}
use Rattle.capi_table.proofs.Writes.{can_encode, limit_only, spells}
use Rattle.capi_table.proofs.write.write_table.Goals as goal

pub returns-in-Ok-clause-written : goal.returns-in-Ok-clause-written
returns-in-Ok-clause-written c =
    record {
      done = let value : Contents = contents c.in-Ok.state in
          let Holds : Options → Image → Contents → Type 0 = λ options x. HasImage options x c.args.room.now
          c.put_state.new.room in
          IfOk-weaker c.put_state.result (λ (x : Image). Holds c.options_of.result x value)
          (λ (x : Image). Spells c.args.format.now.kind c.args.paths.now c.args.rows.now
          (Holds (plain_options c.args.format.now) x))
          (λ x h. spells c.args.format.now.kind c.args.paths.now c.args.rows.now value
          (Holds (plain_options c.args.format.now) x) (c.in_default.ensures.fit refl) c.in-Ok.ensures.spelled
          (subst (λ (o : Options). Holds o x value) c.options_of.ensures h))
          c.put_state.ensures.done;
      refused = let value : Contents = contents c.in-Ok.state in
          let Holds : Options → Fault → Contents → Type 0 = λ options x. PassesLimit options x in
          let fit = c.in_default.ensures.fit refl in
          let can = can_encode c.options_of.result.version c.args.format.now.kind _ c.args.paths.now c.args.rows.now
          value
          fit.fit c.in-Ok.ensures.spelled.records_are in
          refused_weaker c.put_state.result (λ (x : Fault). IsUnwritable c.options_of.result x value)
          (λ (x : Fault). IsUnwritten c.args.format.now c.args.paths.now c.args.rows.now x)
          (λ x h. inr (spells c.args.format.now.kind c.args.paths.now c.args.rows.now value
          (Holds (plain_options c.args.format.now) x) fit c.in-Ok.ensures.spelled
          (subst (λ (o : Options). Holds o x value) c.options_of.ensures (limit_only c.options_of.result x value can
          h))))
          c.put_state.ensures.refused;
      no_room = let value : Contents = contents c.in-Ok.state in
          let Holds : Options → Image → Contents → Type 0 = λ options x. PassesRoom options x c.args.room.now in
          passed_weaker c.put_state.result (λ (x : Image). Holds c.options_of.result x value)
          (λ (x : Image). Spells c.args.format.now.kind c.args.paths.now c.args.rows.now
          (Holds (plain_options c.args.format.now) x))
          (λ x h. spells c.args.format.now.kind c.args.paths.now c.args.rows.now value
          (Holds (plain_options c.args.format.now) x) (c.in_default.ensures.fit refl) c.in-Ok.ensures.spelled
          (subst (λ (o : Options). Holds o x value) c.options_of.ensures h))
          c.put_state.ensures.no_room;
      room = search rules;
    }

pub returns-in-Ok-clause-memory : goal.returns-in-Ok-clause-memory
returns-in-Ok-clause-memory c = unwritten_of c.put_state.result _ (c.in_default.ensures.fit refl)
