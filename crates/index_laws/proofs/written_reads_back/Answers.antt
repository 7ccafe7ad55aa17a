use Rattle.index_model.proofs.RoundTrip.{written_reads_back}
use Rattle.index_laws.proofs.written_reads_back.Goals as goal

pub returns : goal.returns
returns c = λ v options time reading h all.
    written_reads_back v options time reading h.storable h.keepable h.writable h.unmistakable all.limit all.checksum
