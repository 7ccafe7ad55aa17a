use Rattle.ext_encode.proofs.CacheAgain.{cache_there}
use Rattle.ext_encode.proofs.CacheRead.{cache_spellable}
use Rattle.ext_encode.proofs.laws.untracked_cache_reads_back.Goals as goal

pub returns-clause-read : goal.returns-clause-read
returns-clause-read c = cache_there

pub returns-clause-spellable : goal.returns-clause-spellable
returns-clause-spellable c = cache_spellable
