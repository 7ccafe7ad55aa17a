use Rattle.std.proofs.Common.{List, ℕ, ap}
use Rattle.sha1.specs.Sha1.{add_state, compress, schedule}
use Rattle.base_sha.proofs.Steps.{rounds_none}
use Rattle.base_sha.proofs.rounds.compress.Goals as goal

pub returns : goal.returns
unfolding compress
returns c = λ b keyed.
    let h : List ℕ = c.args.hash.now in
    let ws : List ℕ = schedule b 64 in
    let v20 = c.choose_rounds.ensures h ws keyed (rounds_none h ws) in
    let v40 = c.parity_rounds.ensures h ws keyed v20 in
    let v60 = c.majority_rounds.ensures h ws keyed v40 in
    ap (λ (v : List ℕ). add_state h v) (c.parity_rounds-2.ensures h ws keyed v60)
