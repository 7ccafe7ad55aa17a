use Rattle.std.proofs.Common.{subst, sym, ◌∙◌, rules}
use Rattle.std.proofs.lemmas.Result.{IfOk-weaker}
use Rattle.gix_index.specs.Contents.{Contents}
use Rattle.gix_index.specs.Order.{IsStrictlyOrdered}
use Rattle.gix_index.specs.State.{contents}
use Rattle.gix_index.specs.WriteOptions.{Options}
use Rattle.capi_table.specs.Overwriting.{TakesPlaceOf, full_options}
use Rattle.capi_table.specs.Writing.{HasImage, IsUnwritable, PassesLimit, PassesRoom}
use Rattle.capi_table.specs.declared.write.Fault.{Fault}
use Rattle.capi_table.specs.declared.write.Image.{Image}
use Rattle.capi_table.proofs.Replacements.{kept_records, replaces, written_records}
use Rattle.capi_table.proofs.Results.{passed_weaker, refused_weaker}
use Rattle.capi_table.proofs.Writes.{can_encode, limit_only}
use Rattle.capi_table.proofs.over.put_fit.Goals as goal

pub keep_tree-requires : goal.keep_tree-requires
keep_tree-requires c =
    subst IsStrictlyOrdered (sym (written_records (contents c.args.state) (contents c.replace.new.state)
    c.args.paths.now c.args.rows.now c.in_default.ensures)) c.requires.ordered

pub returns : goal.returns
returns c =
    record {
      done = let value : Contents = contents c.keep_tree.new.state in
          let Holds : Options → Image → Contents → Type 0 = λ options x. HasImage options x c.args.room.now
          c.put_state-written.new.room in
          IfOk-weaker c.put_state-written.result (λ (x : Image). Holds c.options_of.result x value)
          (λ (x : Image). TakesPlaceOf c.args.format.now.kind c.args.paths.now c.args.rows.now c.in-Some.tree
          (Holds (full_options c.args.format.now) x) (contents c.args.state))
          (λ x h. replaces c.args.format.now.kind c.args.paths.now c.args.rows.now (contents c.args.state)
          (contents c.replace.new.state) value c.in-Some.tree (Holds (full_options c.args.format.now) x)
          c.requires c.in_default.ensures c.in-Some.ensures
          (subst (λ (o : Options). Holds o x value) c.options_of.ensures h))
          c.put_state-written.ensures.done;
      refused = let value : Contents = contents c.keep_tree.new.state in
          let Holds : Options → Fault → Contents → Type 0 = λ options x. PassesLimit options x in
          let kept = kept_records (contents c.replace.new.state) value c.in-Some.tree c.in-Some.ensures in
          let can = can_encode c.options_of.result.version c.args.format.now.kind _ c.args.paths.now c.args.rows.now
          value
          c.requires.fit
          (kept ∙ written_records (contents c.args.state) (contents c.replace.new.state) c.args.paths.now
          c.args.rows.now
          c.in_default.ensures) in
          refused_weaker c.put_state-written.result (λ (x : Fault). IsUnwritable c.options_of.result x value)
          (λ (x : Fault). TakesPlaceOf c.args.format.now.kind c.args.paths.now c.args.rows.now c.in-Some.tree
          (Holds (full_options c.args.format.now) x) (contents c.args.state))
          (λ x h. replaces c.args.format.now.kind c.args.paths.now c.args.rows.now (contents c.args.state)
          (contents c.replace.new.state) value c.in-Some.tree (Holds (full_options c.args.format.now) x)
          c.requires c.in_default.ensures c.in-Some.ensures
          (subst (λ (o : Options). Holds o x value) c.options_of.ensures (limit_only c.options_of.result x value can
          h)))
          c.put_state-written.ensures.refused;
      no_room = let value : Contents = contents c.keep_tree.new.state in
          let Holds : Options → Image → Contents → Type 0 = λ options x. PassesRoom options x c.args.room.now in
          passed_weaker c.put_state-written.result (λ (x : Image). Holds c.options_of.result x value)
          (λ (x : Image). TakesPlaceOf c.args.format.now.kind c.args.paths.now c.args.rows.now c.in-Some.tree
          (Holds (full_options c.args.format.now) x) (contents c.args.state))
          (λ x h. replaces c.args.format.now.kind c.args.paths.now c.args.rows.now (contents c.args.state)
          (contents c.replace.new.state) value c.in-Some.tree (Holds (full_options c.args.format.now) x)
          c.requires c.in_default.ensures c.in-Some.ensures
          (subst (λ (o : Options). Holds o x value) c.options_of.ensures h))
          c.put_state-written.ensures.no_room;
      room = search rules;
    }
