use Rattle.std.proofs.Common.{◌∙◌, ℕ, Err, None, ap, false, inl, inr, length, subst, rules}
use Rattle.std.proofs.lemmas.Result.{IfOk-weaker}
use Rattle.gix_index.specs.Contents.{Contents}
use Rattle.gix_index.specs.State.{contents, storage_of}
use Rattle.gix_index.specs.WriteOptions.{Options}
use Rattle.capi_table.specs.Refusing.{IsUnmade, IsUnupdated}
use Rattle.capi_table.specs.Updating.{HasKeptImage, IsUnwritableKept, PassesRoomKept, UpdatesTable, update_options}
use Rattle.capi_table.specs.Writing.{HasImage, IsUnwritable, PassesRoom}
use Rattle.capi_table.specs.declared.write.Fault.{Fault}
use Rattle.capi_table.specs.declared.write.Image.{Image}
use Rattle.capi_table.proofs.Joins.{read_so}
use Rattle.capi_table.proofs.Refusals.{lacks_from}
use Rattle.capi_table.proofs.Results.{passed_weaker, refused_weaker, unwritten_of}
use Rattle.capi_table.proofs.Updates.{made, none_made}
use Rattle.capi_table.proofs.update.update.Goals as goal

pub returns-in-Err-make_changes : goal.returns-in-Err-make_changes
returns-in-Err-make_changes c =
    record {
      done = search rules;
      refused = let before = contents c.in-Ok.state in
          let room : ℕ = length (storage_of c.in-Ok.state) in
          refused_weaker (Err c.in-Err-make_changes.e) (λ (x : Fault). IsUnmade c.args.kind c.args.paths.now
          c.args.rows.now room x before)
          (IsUnupdated c.args.kind c.args.index.now c.args.shared.now c.args.paths.now c.args.rows.now)
          (λ x h. inl (read_so false c.args.kind c.args.index.now c.args.shared.now
          (λ (v : Contents). (n : ℕ) × IsUnmade c.args.kind c.args.paths.now c.args.rows.now n x v) before
          c.in-Ok.ensures.read (room, h)))
          (none_made c.args.kind c.args.paths.now c.args.rows.now room before c.in-Err-make_changes.e
          c.in-Err-make_changes.ensures.why);
      memory = let h = c.in-Ok.ensures.read in
          unwritten_of (Err c.in-Err-make_changes.e) _ (lacks_from None false c.args.kind c.args.index.now h.value
          h.checksum h.read);
      no_room = search rules;
      unread = search rules;
      room = search rules;
      kept = search rules;
    }

pub returns : goal.returns
returns c =
    record {
      done = let before = contents c.in-Ok.state in
          let value : Contents = contents c.make_changes.new.state in
          let Holds : Options → Image → Contents → Type 0 = λ options x. HasImage options x c.args.room.now
          c.put_state.new.room in
          IfOk-weaker c.put_state.result (λ (x : Image). Holds c.kept_options-options.result x value)
          (λ (x : Image). UpdatesTable c.args.kind c.args.index.now c.args.shared.now c.args.paths.now c.args.rows.now
          (HasKeptImage x c.args.room.now c.put_state.new.room))
          (λ x h. made c.args.kind c.args.index.now c.args.shared.now c.args.paths.now c.args.rows.now
          (length (storage_of c.in-Ok.state)) before value
          (HasKeptImage x c.args.room.now c.put_state.new.room) c.in-Ok.ensures.read (c.in_default.ensures.changed c.in-Ok.ensures.placed)
          (subst (λ (o : Options). Holds o x value) (c.kept_options-options.ensures ∙ ap update_options
          c.version.ensures) h))
          c.put_state.ensures.done;
      refused = let before = contents c.in-Ok.state in
          let value : Contents = contents c.make_changes.new.state in
          let Holds : Options → Fault → Contents → Type 0 = λ options x. IsUnwritable options x in
          refused_weaker c.put_state.result (λ (x : Fault). Holds c.kept_options-options.result x value)
          (IsUnupdated c.args.kind c.args.index.now c.args.shared.now c.args.paths.now c.args.rows.now)
          (λ x h. inr (made c.args.kind c.args.index.now c.args.shared.now c.args.paths.now c.args.rows.now
          (length (storage_of c.in-Ok.state)) before value
          (IsUnwritableKept x) c.in-Ok.ensures.read (c.in_default.ensures.changed c.in-Ok.ensures.placed)
          (subst (λ (o : Options). Holds o x value) (c.kept_options-options.ensures ∙ ap update_options
          c.version.ensures) h)))
          c.put_state.ensures.refused;
      memory = let h = c.in-Ok.ensures.read in
          unwritten_of c.put_state.result _ (lacks_from None false c.args.kind c.args.index.now h.value h.checksum
          h.read);
      no_room = let before = contents c.in-Ok.state in
          let value : Contents = contents c.make_changes.new.state in
          let Holds : Options → Image → Contents → Type 0 = λ options x. PassesRoom options x c.args.room.now in
          passed_weaker c.put_state.result (λ (x : Image). Holds c.kept_options-options.result x value)
          (λ (x : Image). UpdatesTable c.args.kind c.args.index.now c.args.shared.now c.args.paths.now c.args.rows.now
          (PassesRoomKept x c.args.room.now))
          (λ x h. made c.args.kind c.args.index.now c.args.shared.now c.args.paths.now c.args.rows.now
          (length (storage_of c.in-Ok.state)) before value
          (PassesRoomKept x c.args.room.now) c.in-Ok.ensures.read (c.in_default.ensures.changed c.in-Ok.ensures.placed)
          (subst (λ (o : Options). Holds o x value) (c.kept_options-options.ensures ∙ ap update_options
          c.version.ensures) h))
          c.put_state.ensures.no_room;
      unread = search rules;
      room = search rules;
      kept = search rules;
    }
