use Rattle.std.proofs.Common.{◌≡◌, rules}
use Rattle.std.proofs.lemmas.Result.{IfOk-weaker}
use Rattle.gix_index.specs.Contents.{Contents}
use Rattle.gix_index.specs.State.{contents}
use Rattle.capi_table.specs.Joining.{AreReadSo, FailBoth}
use Rattle.capi_table.specs.Reading.{Fills, HasSizes, IsTooSmall, IsWantOfMemory}
use Rattle.capi_table.specs.declared.read.Sizes.{Sizes}
use Rattle.capi_table.proofs.Joins.{lack_read, read_so}
use Rattle.capi_table.proofs.Results.{failed_weaker, no_room_weaker}
use Rattle.capi_table.proofs.split.read_split.Goals as goal

pub returns-in-Ok : goal.returns-in-Ok
returns-in-Ok c =
    record {
      done = let Has : Sizes → Contents → Type 0 =
          λ sizes. HasSizes sizes (λ (v : Contents). Fills v c.args.rows.now c.table_of.new.rows c.args.paths.now
          c.table_of.new.paths) in
          IfOk-weaker c.table_of.result (λ (sizes : Sizes). Has sizes (contents c.in-Ok.state))
          (λ (sizes : Sizes). AreReadSo c.args.skip_hash c.args.kind c.args.bytes.now c.args.shared.now (Has sizes))
          (λ sizes h. read_so c.args.skip_hash c.args.kind c.args.bytes.now c.args.shared.now (Has sizes)
          (contents c.in-Ok.state) c.in-Ok.ensures.read h) c.table_of.ensures.done;
      no_room = let Has : Sizes → Contents → Type 0 =
          λ sizes. HasSizes sizes (λ (v : Contents). IsTooSmall v c.args.rows.now c.args.paths.now) in
          no_room_weaker c.table_of.result (λ (sizes : Sizes). Has sizes (contents c.in-Ok.state))
          (λ (sizes : Sizes). AreReadSo c.args.skip_hash c.args.kind c.args.bytes.now c.args.shared.now (Has sizes))
          (λ sizes h. read_so c.args.skip_hash c.args.kind c.args.bytes.now c.args.shared.now (Has sizes)
          (contents c.in-Ok.state) c.in-Ok.ensures.read h) c.table_of.ensures.no_room;
      failed = failed_weaker c.table_of.result IsWantOfMemory
          (FailBoth c.args.skip_hash c.args.kind c.args.bytes.now c.args.shared.now)
          (λ failure h. lack_read c.args.skip_hash c.args.kind c.args.bytes.now c.args.shared.now
          (λ (v : Contents). v ≡ contents c.in-Ok.state) failure c.in-Ok.ensures.read h) c.table_of.ensures.failed;
      rows = search rules;
      paths = search rules;
    }
