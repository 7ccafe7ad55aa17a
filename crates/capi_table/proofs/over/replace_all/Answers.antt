use Rattle.std.proofs.lemmas.Result.{on_ok_weaker}
use Rattle.gix_index.specs.EntryImage.{written}
use Rattle.gix_index.specs.State.{contents}
use Rattle.capi_table.specs.Table.{records_of}
use Rattle.capi_table.proofs.Rows.{put_anew}
use Rattle.capi_table.proofs.over.replace_all.Goals as goal

pub returns : goal.returns
returns c =
    on_ok_weaker c.push_rows.result
    (λ h. put_anew (contents c.args.state.now) (contents c.remove_all.new.state) (contents c.push_rows.new.state)
    (written (records_of c.args.paths.now c.args.rows.now)) c.remove_all.ensures.value (h c.remove_all.ensures.placed)
    c.push_rows.ensures.unfit)
    c.push_rows.ensures.value
