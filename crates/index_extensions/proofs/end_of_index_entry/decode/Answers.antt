use Rattle.index_extensions.proofs.EndMarks.{marked_whole}
use Rattle.index_extensions.proofs.end_of_index_entry.decode.Goals as goal

pub returns : goal.returns
returns c = marked_whole c.args.object_hash c.args.«data».now c.decode_behind.result c.decode_behind.ensures.found
    c.decode_behind.ensures.none
