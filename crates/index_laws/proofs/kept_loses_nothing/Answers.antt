use Rattle.index_model.proofs.Canonical.{kept_reads_back}
use Rattle.index_laws.proofs.kept_loses_nothing.Goals as goal

pub returns : goal.returns
returns c = λ v w options h all fit well.
    kept_reads_back h.kind h.time h.time_again h.reading h.reading_again h.bytes v w h.checksum h.checksum_again options
    h.are_bytes h.read h.writable h.unmistakable h.takes_all.limit h.takes_all.checksum h.read_again all fit well
