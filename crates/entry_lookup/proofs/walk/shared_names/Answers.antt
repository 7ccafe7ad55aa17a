use Rattle.std.proofs.Common.{Bool, arith, ap, drop, length-drop, inr, sym, true, ◌≡◌, ◌∙◌}
use Rattle.std.specs.Char.{to_ascii_lowercase}
use Rattle.std.proofs.lemmas.List.{length-map}
use Rattle.entry_list.specs.Shared.{shared_len}
use Rattle.entry_list.proofs.SharedFronts.{shared_end}
use Rattle.entry_lookup.specs.Folded.{folded}
use Rattle.entry_lookup.proofs.SharedNames.{shared_folded, shared_more, shared_other}
use Rattle.entry_lookup.proofs.walk.shared_names.Goals as goal

pub loop-len-init : goal.loop-len-init
loop-len-init c = record {
  first = c.shared_len-len.ensures.first;
  second = c.shared_len-len.ensures.second;
  value = shared_folded c.args.a.now c.args.b.now c.shared_len-len.result c.shared_len-len.ensures.value;
}

pub returns-then-to_ascii_lowercase : goal.returns-then-to_ascii_lowercase
returns-then-to_ascii_lowercase c =
    let n = c.loop-len.len in
    let a = c.args.a.now in
    let b = c.args.b.now in
    let none = shared_other a b n c.loop-len-test.true c.if-len-b.true (λ e. c.if-to_ascii_lowercase.true
    (c.to_ascii_lowercase.ensures.value ∙ e ∙ sym c.to_ascii_lowercase-in-loop-len.ensures.value)) in
    let total : shared_len (folded true a) (folded true b) ≡ n = omega (arith, none, c.loop-len.invariant.value) in
    sym total ∙ ap (λ (i : Bool). shared_len (folded i a) (folded i b)) (sym c.if-not-ignore_case.false)

pub loop-len-preserved : goal.loop-len-preserved
loop-len-preserved c =
    let n = c.loop-len.len in
    let a = c.args.a.now in
    let b = c.args.b.now in
    let more = shared_more a b n c.loop-len-test.true c.if-len-b.true (sym c.to_ascii_lowercase.ensures.value
    ∙ c.if-to_ascii_lowercase.false ∙ c.to_ascii_lowercase-in-loop-len.ensures.value) in
    record {
      first = omega (arith, c.loop-len-test.true);
      second = omega (arith, c.if-len-b.true);
      value = omega (arith, more, c.loop-len.invariant.value);
    }

pub returns-else-len-b : goal.returns-else-len-b
returns-else-len-b c =
    let n = c.loop-len.len in
    let a = c.args.a.now in
    let b = c.args.b.now in
    let none = shared_end (drop n (folded true a)) (drop n (folded true b))
    (inr (omega (arith, length-drop n (folded true b), length-map b to_ascii_lowercase))) in
    let total : shared_len (folded true a) (folded true b) ≡ n = omega (arith, none, c.loop-len.invariant.value) in
    sym total ∙ ap (λ (i : Bool). shared_len (folded i a) (folded i b)) (sym c.if-not-ignore_case.false)
