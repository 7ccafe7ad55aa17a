use Rattle.std.proofs.Common.{◌∙◌, ◌++◌, arith, sym, false}
use Rattle.entry_lookup.proofs.RunsFound.{rising_prefixes}
use Rattle.entry_lookup.proofs.Wanted.{within_more}
use Rattle.view_strict.specs.Beside.{lies_in}
use Rattle.view_strict.proofs.Besides.{found, here, none_at_all, none_before, none_behind}
use Rattle.view_strict.proofs.beside.first_in.Goals as goal

pub loop-place-init : goal.loop-place-init
loop-place-init c =
    let front = c.args.path.now ++ c.tail_of.result.now in
    none_before c.args.whole c.args.path.now front c.args.stage c.args.entries.now (c.tail_of.ensures c.args.path.now)
    c.part-low.result.0 (c.part-low.ensures.parts (rising_prefixes front c.args.entries.now c.requires))

pub returns-then-is_ne : goal.returns-then-is_ne
returns-then-is_ne c =
    let front = c.args.path.now ++ c.tail_of.result.now in
    let rs = c.args.entries.now in
    let rising = rising_prefixes front rs c.requires in
    none_behind c.args.whole c.args.path.now front c.args.stage rs (c.tail_of.ensures c.args.path.now) c.loop-place.place
    (omega (arith, c.len-place-end.ensures, c.loop-place-test.true)) c.compare.result c.compare.ensures c.part-low.result.0 (omega arith) rising
    (c.part-low.ensures.parts rising) c.loop-place.invariant (sym c.is_ne.ensures ∙ c.if-is_ne.true)

pub returns-then-counts_in : goal.returns-then-counts_in
returns-then-counts_in c =
    let front = c.args.path.now ++ c.tail_of.result.now in
    let rs = c.args.entries.now in
    found c.args.whole c.args.path.now front c.args.stage rs (c.tail_of.ensures c.args.path.now) c.loop-place.place
    (omega (arith, c.len-place-end.ensures, c.loop-place-test.true)) c.compare.result c.compare.ensures c.loop-place.invariant
    (sym c.is_ne.ensures ∙ c.if-is_ne.false) (λ d. c.counts_in.ensures d ∙ c.if-counts_in.true)

pub loop-place-preserved : goal.loop-place-preserved
loop-place-preserved c =
    let front = c.args.path.now ++ c.tail_of.result.now in
    let rs = c.args.entries.now in
    within_more (lies_in c.args.whole c.args.path.now c.args.stage) rs 0 c.loop-place.place c.loop-place.invariant
    (here c.args.whole c.args.path.now front c.args.stage rs (c.tail_of.ensures c.args.path.now) c.loop-place.place
    (omega (arith, c.len-place-end.ensures, c.loop-place-test.true)) c.compare.result c.compare.ensures false (sym c.is_ne.ensures ∙ c.if-is_ne.false)
    (λ d. c.counts_in.ensures d ∙ c.if-counts_in.false))

pub returns : goal.returns
returns c =
    let front = c.args.path.now ++ c.tail_of.result.now in
    none_at_all c.args.whole c.args.path.now front c.args.stage c.args.entries.now (c.tail_of.ensures c.args.path.now)
    c.loop-place.place (omega (arith, c.len-place-end.ensures, c.loop-place-test.false)) c.loop-place.invariant
