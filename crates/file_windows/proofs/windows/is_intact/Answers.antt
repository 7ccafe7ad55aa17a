use Rattle.std.proofs.Common.{rules, ◌≡◌, ◌≤◌, ◌-◌, ◌++◌, true, length, take, drop, refl, sym, ap, ◌∙◌}
use Rattle.std.specs.Prelude.{◌||◌}
use Rattle.index_parts.specs.Digest.{digest}
use Rattle.index_parts.specs.Id.{id_len, is_null, make_id}
use Rattle.file_windows.proofs.Endings.{intact_free, intact_same, null_trailer, or_right, trailer_is}
use Rattle.file_windows.proofs.windows.is_intact.Goals as goal

pub returns-then-skip_hash : goal.returns-then-skip_hash
returns-then-skip_hash c = λ e k m h.
    let t = c.args.tail.now in
    let le : id_len c.args.plan.kind ≤ length t = search rules in
    let waived : (c.args.skip_hash || is_null (drop (length t - id_len c.args.plan.kind) t)) ≡ true =
    rw c.if-skip_hash.true refl in
    intact_free c.args.skip_hash c.args.plan.kind m t le waived

pub returns-in_default : goal.returns-in_default
returns-in_default c = λ e k m h.
    let t = c.args.tail.now in
    let le : id_len c.args.plan.kind ≤ length t = search rules in
    let trailer : c.split_at.result.1.now ≡ drop (length t - id_len c.args.plan.kind) t = search rules in
    let null =
    null_trailer c.args.plan.kind c.split_at.result.1.now c.checksum.result c.checksum.ensures c.in_default.is in
    intact_free c.args.skip_hash c.args.plan.kind m t le (or_right c.args.skip_hash _ (ap is_null (sym trailer) ∙ null))

pub returns-then-plan : goal.returns-then-plan
returns-then-plan c = λ e k m h.
    let t = c.args.tail.now in
    let kind = c.args.plan.kind in
    let hashed : c.args.plan.is_hashed ≡ true = search rules in
    let le : id_len kind ≤ length t = search rules in
    let trailer : c.split_at.result.1.now ≡ drop (length t - id_len kind) t = search rules in
    let body : c.split_at.result.0.now ≡ take (length t - id_len kind) t = search rules in
    let same : c.finalize.result ≡ c.in-Some.expected = search (rules, e) in
    let made = c.finalize.ensures (m ++ c.split_at.result.0.now) (c.hash_piece.ensures.more hashed m (h hashed)) in
    let fin : c.finalize.result ≡ make_id kind (digest kind (m ++ take (length t - id_len kind) t)) =
    made ∙ rw (c.hash_piece.ensures.kind, k, body) refl in
    let of : c.in-Some.expected ≡ make_id kind (drop (length t - id_len kind) t) =
    trailer_is kind c.split_at.result.1.now c.checksum.result c.in-Some.expected c.checksum.ensures c.in-Some.is
    ∙ ap (make_id kind) trailer in
    intact_same c.args.skip_hash kind m t le (sym fin ∙ same ∙ of)
