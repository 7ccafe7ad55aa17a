use Rattle.index_model.proofs.Canonical.{version_change_loses_nothing}
use Rattle.index_laws.proofs.version_change_loses_nothing.Goals as goal

pub returns : goal.returns
returns c = λ v w options chosen h same.
    version_change_loses_nothing h.kind h.time h.time_again h.reading h.reading_again h.bytes v w h.checksum
    h.checksum_again options
    h.are_bytes h.read h.writable h.unmistakable h.takes_all.limit h.takes_all.checksum h.read_again chosen same
