use Rattle.std.proofs.Common.{◌≡◌, false, rules}
use Rattle.gix_index.specs.Kind.{Kind}
use Rattle.index_c.specs.Joined.{LackMemory}
use Rattle.index_c.specs.Updated.{IsRefusedUpdate, as_read}
use Rattle.index_c.specs.Written.{IsImageReported}
use Rattle.capi_table.specs.Updating.{HasKeptImage, PassesRoomKept, UpdatesTable}
use Rattle.capi_table.specs.declared.over.CachedTree.TheVariants.{Absent}
use Rattle.capi_table.specs.declared.write.Image.{Image}
use Rattle.index_c.proofs.Tellings.{with_kind}
use Rattle.index_c.proofs.Updates.{image_reported, kept_told, memory_told, passed_told, refused_told}
use Rattle.index_c.proofs.update.gix_index_update.Goals as goal

pub returns : goal.returns
returns c =
    record {
      says = record {
        at_most = search rules;
        done = λ is. let P : Kind → Image → Type 0 = λ k image. UpdatesTable k c.args.index.now c.args.shared.now
            c.args.paths.now
            c.args.rows.now (HasKeptImage image c.args.bytes.now c.update-updated.new.room) in
            with_kind c.args.kind (λ (k : Kind). IsImageReported c.tell_updated.new.told Absent (P k)) c.in-Some.kind
            c.in-Some.ensures
            (image_reported c.tell_updated.result c.tell_updated.new.told c.update-updated.result (P c.in-Some.kind)
            c.update-updated.ensures.done c.tell_updated.ensures.written.told is);
        refused = λ is. with_kind c.args.kind (λ (k : Kind). IsRefusedUpdate k c.args.index.now c.args.shared.now
            c.args.paths.now
            c.args.rows.now c.tell_updated.new.told) c.in-Some.kind c.in-Some.ensures
            (refused_told c.tell_updated.result c.tell_updated.new.told c.in-Some.kind c.args.index.now
            c.args.shared.now
            c.args.paths.now c.args.rows.now c.update-updated.result c.update-updated.ensures.refused
            c.update-updated.ensures.unread c.tell_updated.ensures.written.told is);
        memory = λ is. with_kind c.args.kind (λ (k : Kind). LackMemory false k c.args.index.now c.args.shared.now
            (as_read c.tell_updated.new.told)) c.in-Some.kind c.in-Some.ensures
            (memory_told c.tell_updated.result c.tell_updated.new.told c.in-Some.kind c.args.index.now
            c.args.shared.now
            c.args.paths.now c.args.rows.now c.update-updated.result c.update-updated.ensures.memory
            c.update-updated.ensures.unread c.tell_updated.ensures.written.told is);
        no_room = λ is. let P : Kind → Image → Type 0 = λ k image. UpdatesTable k c.args.index.now c.args.shared.now
            c.args.paths.now
            c.args.rows.now (PassesRoomKept image c.args.bytes.now) in
            with_kind c.args.kind (λ (k : Kind). IsImageReported c.tell_updated.new.told Absent (P k)) c.in-Some.kind
            c.in-Some.ensures
            (passed_told c.tell_updated.result c.tell_updated.new.told c.update-updated.result (P c.in-Some.kind)
            c.update-updated.ensures.no_room c.tell_updated.ensures.written.told is);
        wrong_number = search rules;
      };
      tree = search rules;
      blank = search rules;
      bytes = λ isnt. kept_told c.tell_updated.result c.tell_updated.new.told c.update-updated.result
          (c.update-updated.new.room ≡ c.args.bytes.now) c.update-updated.ensures.kept c.update-updated.ensures.room
          c.tell_updated.ensures.written.told isnt;
    }
