use Rattle.std.proofs.Common.{◌≡◌, false, rules}
use Rattle.index_c.specs.Written.{IsWriteErrorReported, IsImageReported}
use Rattle.capi_table.specs.Fitting.{IsFitTable}
use Rattle.capi_table.specs.Writing.{HasImage, IsUnwritten, PassesRoom, Spells, plain_options}
use Rattle.capi_table.specs.declared.over.CachedTree.TheVariants.{Absent}
use Rattle.capi_table.specs.declared.write.Format.{Format}
use Rattle.capi_table.specs.declared.write.Image.{Image}
use Rattle.index_c.proofs.Writings.{asked, error_reported, image_reported, kept_told, memory_told, passed_told}
use Rattle.index_c.proofs.write.gix_index_write.Goals as goal

pub returns : goal.returns
returns c =
    record {
      says = record {
        at_most = search rules;
        done = λ is. let P : Format → Image → Type 0 = λ f image. Spells f.kind c.args.paths.now c.args.rows.now
            (HasImage (plain_options f) image c.args.bytes.now c.write_table-written.new.room) in
            asked c.args.form.now (λ (f : Format). IsImageReported c.tell.new.told Absent (P f)) c.in-Some.format
            c.in-Some.ensures.asks
            (image_reported Absent c.tell.result c.tell.new.told c.write_table-written.result (P c.in-Some.format)
            c.write_table-written.ensures.written.done c.tell.ensures.told is);
        refused = λ is. asked c.args.form.now
            (λ (f : Format). IsWriteErrorReported c.tell.new.told Absent (IsUnwritten f c.args.paths.now
            c.args.rows.now))
            c.in-Some.format c.in-Some.ensures.asks
            (error_reported Absent c.tell.result c.tell.new.told c.write_table-written.result
            (IsUnwritten c.in-Some.format c.args.paths.now c.args.rows.now) c.write_table-written.ensures.written.refused
            c.tell.ensures.told
            is);
        memory = λ is. asked c.args.form.now (λ (f : Format). IsFitTable f.kind false c.args.paths.now
            c.args.rows.now)
            c.in-Some.format c.in-Some.ensures.asks
            (memory_told Absent c.tell.result c.tell.new.told c.write_table-written.result _
            c.write_table-written.ensures.memory
            c.tell.ensures.told is);
        no_room = λ is. let P : Format → Image → Type 0 = λ f image. Spells f.kind c.args.paths.now c.args.rows.now
            (PassesRoom (plain_options f) image c.args.bytes.now) in
            asked c.args.form.now (λ (f : Format). IsImageReported c.tell.new.told Absent (P f)) c.in-Some.format
            c.in-Some.ensures.asks
            (passed_told Absent c.tell.result c.tell.new.told c.write_table-written.result (P c.in-Some.format)
            c.write_table-written.ensures.written.no_room c.tell.ensures.told is);
        wrong_number = search rules;
      };
      tree = search rules;
      whose = search rules;
      blank = search rules;
      bytes = λ isnt. kept_told Absent c.tell.result c.tell.new.told c.write_table-written.result
          (c.write_table-written.new.room ≡
          c.args.bytes.now)
          c.write_table-written.ensures.written.room c.tell.ensures.told isnt;
    }
