use Rattle.std.proofs.Common.{None, refl, rules}
use Rattle.std.proofs.lemmas.Result.{IfOk-weaker}
use Rattle.gix_index.specs.Contents.{Contents}
use Rattle.gix_index.specs.Outlined.{Outlines}
use Rattle.capi_table.specs.Reading.{FailsOwn, Fills, HasSizes, IsReadSo, IsTooSmall}
use Rattle.capi_table.specs.declared.fault.Failure.{Failure}
use Rattle.capi_table.specs.declared.read.Sizes.{Sizes}
use Rattle.capi_table.proofs.Refusals.{fails_by, options_are, read_by}
use Rattle.capi_table.proofs.Results.{failed_weaker, no_room_weaker}
use Rattle.capi_table.proofs.read.read_table.Goals as goal

pub table_of_outline-requires : goal.table_of_outline-requires
table_of_outline-requires c =
    let h = c.in-Ok.ensures.outlined in
    (h.value, h.outlines, h.storable)

pub returns-in-Ok : goal.returns-in-Ok
returns-in-Ok c =
    record {
      done = let d = c.default-options.ensures in
          let o = c.in-Ok.ensures.outlined in
          let Has : Sizes → Contents → Type 0 = λ sizes. HasSizes sizes (λ (v : Contents). Fills v c.args.rows.now
          c.table_of_outline.new.rows c.args.paths.now
          c.table_of_outline.new.paths) in
          IfOk-weaker c.table_of_outline.result
          (λ (sizes : Sizes). (v : Contents) → Outlines v c.in-Ok.outline → Has sizes v)
          (λ (sizes : Sizes). IsReadSo c.args.skip_hash c.args.kind c.args.bytes.now (Has sizes))
          (λ sizes h. record {
            value = o.value;
            checksum = c.in-Ok.outline.checksum;
            read = read_by None c.args.skip_hash c.args.kind c.args.bytes.now _ _ _ refl refl
                (options_are None _ d.0 d.1.0 d.1.1.0 d.1.1.1) o.read;
            holds = h o.value o.outlines;
          })
          c.table_of_outline.ensures.done;
      no_room = let d = c.default-options.ensures in
          let o = c.in-Ok.ensures.outlined in
          let Has : Sizes → Contents → Type 0 = λ sizes. HasSizes sizes (λ (v : Contents). IsTooSmall v
          c.args.rows.now
          c.args.paths.now) in
          no_room_weaker c.table_of_outline.result
          (λ (sizes : Sizes). (v : Contents) → Outlines v c.in-Ok.outline → Has sizes v)
          (λ (sizes : Sizes). IsReadSo c.args.skip_hash c.args.kind c.args.bytes.now (Has sizes))
          (λ sizes h. record {
            value = o.value;
            checksum = c.in-Ok.outline.checksum;
            read = read_by None c.args.skip_hash c.args.kind c.args.bytes.now _ _ _ refl refl
                (options_are None _ d.0 d.1.0 d.1.1.0 d.1.1.1) o.read;
            holds = h o.value o.outlines;
          })
          c.table_of_outline.ensures.no_room;
      failed = failed_weaker c.table_of_outline.result (λ (failure : Failure). ⊥)
          (FailsOwn c.args.skip_hash c.args.kind c.args.bytes.now) (λ failure h. absurd h)
          c.table_of_outline.ensures.failed;
      rows = search rules;
      paths = search rules;
    }

pub returns-in-Err : goal.returns-in-Err
returns-in-Err c =
    record {
      done = search rules;
      no_room = search rules;
      failed = let d = c.default-options.ensures in
          record {
            whose = refl;
            says = fails_by None c.args.skip_hash c.args.kind c.args.bytes.now _ _ _ refl refl
                (options_are None _ d.0 d.1.0 d.1.1.0 d.1.1.1) c.in-Err.ensures.fault c.in-Err.ensures.intact;
          };
      rows = search rules;
      paths = search rules;
    }
