use Rattle.std.proofs.Common.{rules, ◌≡◌, ◌∙◌, ◌++◌, sym, subst}
use Rattle.index_parts.specs.declared.hash.Kind.{Kind}
use Rattle.index_parts.specs.declared.hash.Kind.TheVariants.{Sha1}
use Rattle.index_extensions.specs.EndMarker.{EndsInMarker}
use Rattle.index_extensions.proofs.EndMarks.{marked_from, marked_none, marked_items, marked_digest, bytes_differ}
use Rattle.index_extensions.proofs.EndMarks.{bytes_agree}
use Rattle.index_extensions.proofs.end_of_index_entry.decode_behind.Goals as goal

pub returns-in_err-marker-clause-none : goal.returns-in_err-marker-clause-none
returns-in_err-marker-clause-none c = rw c.from_residual.ensures (λ before place len.
    marked_none before c.args.rest.now c.args.skipped len c.args.object_hash place (sym c.in_err-marker.ensures))

pub returns-in_err-id-clause-none : goal.returns-in_err-id-clause-none
returns-in_err-id-clause-none c =
    let m = c.in_ok-marker.marker in
    rw c.from_residual-in_err-id.ensures
    (λ before place len. marked_items before c.args.rest.now c.args.skipped len c.args.object_hash place
    (m.offset, m.between.now, m.hash.now) (sym c.in_ok-marker.ensures) c.in_err-id.ensures.none)

pub returns-then-ne-2-clause-none : goal.returns-then-ne-2-clause-none
returns-then-ne-2-clause-none c = λ before place len.
    let m = c.in_ok-marker.marker in
    let d = c.in_ok-id.ensures.some in
    marked_digest before c.args.rest.now c.args.skipped len c.args.object_hash place
    (m.offset, m.between.now, m.hash.now) d.0 d.1 (sym c.in_ok-marker.ensures) d.2 (λ same.
    bytes_differ c.as_bytes.result.now m.hash.now (sym c.if-ne-2.ensures) (c.as_bytes.ensures.bytes ∙ d.3 ∙ same))

pub returns-clause-found : goal.returns-clause-found
returns-clause-found c = λ before len.
    let m = c.in_ok-marker.marker in
    let d = c.in_ok-id.ensures.some in
    let whole = before ++ c.args.rest.now in
    let is : EndsInMarker Sha1 whole m.offset = marked_from before c.args.rest.now c.args.skipped len
    (m.offset, m.between.now, m.hash.now) (sym c.in_ok-marker.ensures) d.0 d.1 d.2
    (sym (bytes_agree c.as_bytes.result.now m.hash.now (sym c.if-ne-2.ensures)) ∙ c.as_bytes.ensures.bytes ∙ d.3) in
    let sha1 : c.args.object_hash ≡ Sha1 = search rules in
    subst (λ (k : Kind). EndsInMarker k whole m.offset) (sym sha1) is
