use Rattle.index_decode.proofs.Headed.{looks_at}
use Rattle.index_decode.proofs.decode.declared_in.Goals as goal

pub returns : goal.returns
returns c = looks_at c.args.object_hash c.args.options c.args.data.now c.decode-offset.result c.declared_by.result
    c.decode-offset.ensures c.declared_by.ensures.declared c.declared_by.ensures.fault
