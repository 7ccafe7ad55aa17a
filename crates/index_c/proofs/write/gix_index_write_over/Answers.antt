use Rattle.std.proofs.Common.{◌≡◌, None, false, rules}
use Rattle.index_c.specs.Written.{IsImageReportedOver, IsRefusedOver}
use Rattle.capi_table.specs.Overwriting.{WritesOver, full_options}
use Rattle.capi_table.specs.Reading.{LacksMemory}
use Rattle.capi_table.specs.Writing.{HasImage, PassesRoom}
use Rattle.capi_table.specs.declared.over.CachedTree.{CachedTree}
use Rattle.capi_table.specs.declared.write.Format.{Format}
use Rattle.capi_table.specs.declared.write.Image.{Image}
use Rattle.index_c.proofs.Writings.{asked, image_over, kept_over, memory_over, passed_over, refused_over}
use Rattle.index_c.proofs.write.gix_index_write_over.Goals as goal

pub returns : goal.returns
returns c =
    record {
      says = record {
        at_most = search rules;
        done = λ is. let P : Format → CachedTree → Image → Type 0 =
            λ f tree image. WritesOver f.kind c.args.index.now c.args.paths.now c.args.rows.now tree
            (HasImage (full_options f) image c.args.bytes.now c.write_over-over.new.room) in
            asked c.args.form.now (λ (f : Format). IsImageReportedOver c.tell_over.new.told (P f)) c.in-Some.format
            c.in-Some.ensures.asks
            (image_over c.tell_over.result c.tell_over.new.told c.write_over-over.result (P c.in-Some.format)
            c.write_over-over.ensures.done c.tell_over.ensures.told is);
        refused = λ is. asked c.args.form.now
            (λ (f : Format). IsRefusedOver f c.args.index.now c.args.paths.now c.args.rows.now c.tell_over.new.told)
            c.in-Some.format c.in-Some.ensures.asks
            (refused_over c.tell_over.result c.tell_over.new.told c.in-Some.format c.args.index.now c.args.paths.now
            c.args.rows.now c.write_over-over.result c.write_over-over.ensures.refused
            c.write_over-over.ensures.unread
            c.tell_over.ensures.told is);
        memory = λ is. asked c.args.form.now (λ (f : Format). LacksMemory None false f.kind c.args.index.now)
            c.in-Some.format
            c.in-Some.ensures.asks
            (memory_over c.tell_over.result c.tell_over.new.told c.in-Some.format.kind c.args.index.now
            c.write_over-over.result
            c.write_over-over.ensures.memory c.write_over-over.ensures.unread c.tell_over.ensures.told is);
        no_room = λ is. let P : Format → CachedTree → Image → Type 0 =
            λ f tree image. WritesOver f.kind c.args.index.now c.args.paths.now c.args.rows.now tree
            (PassesRoom (full_options f) image c.args.bytes.now) in
            asked c.args.form.now (λ (f : Format). IsImageReportedOver c.tell_over.new.told (P f)) c.in-Some.format
            c.in-Some.ensures.asks
            (passed_over c.tell_over.result c.tell_over.new.told c.write_over-over.result (P c.in-Some.format)
            c.write_over-over.ensures.no_room c.tell_over.ensures.told is);
        wrong_number = search rules;
      };
      whose = search rules;
      blank = search rules;
      bytes = λ isnt. kept_over c.tell_over.result c.tell_over.new.told c.write_over-over.result
          (c.write_over-over.new.room ≡ c.args.bytes.now) c.write_over-over.ensures.kept
          c.write_over-over.ensures.room
          c.tell_over.ensures.told isnt;
    }
