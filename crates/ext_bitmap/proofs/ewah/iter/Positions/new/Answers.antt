use Rattle.std.proofs.Common.{refl}
use Rattle.ext_bitmap.proofs.Places.{lists_unpacked, listed_ascend}
use Rattle.ext_bitmap.proofs.ewah.iter.Positions.new.Goals as goal

pub returns-clause-places : goal.returns-clause-places
returns-clause-places c = lists_unpacked _ c.args.words.now refl

pub returns-clause-ascending : goal.returns-clause-ascending
returns-clause-ascending c = listed_ascend _ c.args.words.now (returns-clause-places c)
