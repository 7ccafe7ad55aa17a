use Rattle.index_model.proofs.Canonical.{rewrite_is_canonical}
use Rattle.index_laws.proofs.rewrite_is_canonical.Goals as goal

pub returns : goal.returns
returns c = λ v w options h.
    rewrite_is_canonical h.kind h.time h.time_again h.reading h.reading_again h.bytes v w h.checksum h.checksum_again
    options
    h.are_bytes h.read h.writable h.unmistakable h.takes_all.limit h.takes_all.checksum h.read_again
