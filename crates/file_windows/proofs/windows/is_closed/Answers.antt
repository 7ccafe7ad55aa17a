use Rattle.std.proofs.Common.{rules, ◌≡◌, ◌∙◌, ◌++◌, ℕ, length, eqb, refl, sym, subst, arith, length-append}
use Rattle.std.proofs.lemmas.Bool.Decides.{Decides-eqb}
use Rattle.std.proofs.lemmas.Slice.Eq.{slice_eq-Decides}
use Rattle.std.specs.Cmp.Lexicographic.{pointwise}
use Rattle.index_parts.specs.declared.hash.Kind.TheVariants.{Sha1}
use Rattle.file_windows.specs.Marked.{EndsAsMarker}
use Rattle.file_windows.proofs.Markers.{marker_fits}
use Rattle.file_windows.proofs.windows.is_closed.Goals as goal

pub returns : goal.returns
returns c = λ e before passed at h len.
    let end = c.args.end.now in
    let hash = c.in-Some.marker.hash.now in
    let sha1 : c.args.plan.kind ≡ Sha1 = search rules in
    let place : c.in-Some.marker.place ≡ c.args.place = search rules in
    let long : length end ≡ 52 = search rules in
    let ends : EndsAsMarker end c.args.place hash =
    subst (λ (n : ℕ). EndsAsMarker end n hash) place c.in-Some.ensures.some in
    let same : c.as_bytes.result.now ≡ hash =
    (slice_eq-Decides Decides-eqb c.as_bytes.result.now hash (pointwise eqb c.as_bytes.result.now hash) refl).0
    (sym c.eq.ensures ∙ e) in
    marker_fits c.args.plan.kind before passed end hash c.args.place c.args.heads c.finalize.result sha1 long
    (omega (arith, c.if-place-lt-HEADER_LEN.false)) ends at
    (λ none. omega (
      arith,
      none,
      at,
      len,
      long,
      length-append before (passed ++ end),
      length-append passed end,
      c.if-saturating_sub-place.false,
      c.saturating_sub.ensures,
    ))
    h c.finalize.ensures (sym c.as_bytes.ensures.bytes ∙ same)
