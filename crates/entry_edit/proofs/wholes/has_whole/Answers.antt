use Rattle.std.proofs.Common.{◌∙◌, ◌==◌, sym, ap, arith}
use Rattle.index_parts.specs.Mode.{directory_mode}
use Rattle.entry_list.specs.Record.{Record}
use Rattle.entry_edit.proofs.Anys.{any_part, none_part}
use Rattle.entry_edit.proofs.wholes.has_whole.Goals as goal

pub returns-then-is_sparse : goal.returns-then-is_sparse
returns-then-is_sparse c =
    let rs = c.args.entries.now in
    let inside = rw c.in-Some.is at c.requires in
    let test = λ (r : Record). r.mode == directory_mode in
    rw c.in-Some.is (sym (any_part test rs c.in-Some.places.start c.in-Some.places.end c.loop-place.place
    c.loop-place.auto.place (omega (arith, c.loop-place-test.true)) inside.1
    (λ d. ap (λ n. n == directory_mode) (c.entry.ensures d).mode ∙ sym c.is_sparse.ensures ∙ c.if-is_sparse.true)))

pub returns : goal.returns
returns c =
    let rs = c.args.entries.now in
    let inside = rw c.in-Some.is at c.requires in
    let test = λ (r : Record). r.mode == directory_mode in
    rw c.in-Some.is (sym (none_part test rs c.in-Some.places.start c.in-Some.places.end inside.1
    (λ k d low high. c.loop-place.invariant k d low (omega (arith, c.loop-place-test.false)))))
