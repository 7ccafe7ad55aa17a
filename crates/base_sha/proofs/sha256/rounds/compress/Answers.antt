use Rattle.std.proofs.Common.{List, ℕ, ap, refl}
use Rattle.sha2.specs.Sha256.{add_state, compress, schedule}
use Rattle.base_sha.proofs.sha256.rounds.compress.Goals as goal

pub returns : goal.returns
unfolding compress
returns c = λ b keyed.
    let h : List ℕ = c.args.hash.now in
    ap (λ (v : List ℕ). add_state h v) (c.all_rounds.ensures h (schedule b 48) keyed refl)
