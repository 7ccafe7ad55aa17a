use Rattle.std.proofs.Common.{◌∙◌}
use Rattle.entry_lookup.specs.Folded.{folded}
use Rattle.entry_lookup.proofs.Outer.{order_by_front, sizes_folded}
use Rattle.entry_lookup.proofs.names.compare_names.Goals as goal
use Rattle.entry_lookup.proofs.names.compare_names.Goals.{then-outer, else-outer}

pub returns : goal.returns
returns c =
    let i = c.args.ignore_case in
    let a = c.args.a.now in
    let b = c.args.b.now in
    elim c.if-outer.branch [
      | then-outer w ↦
          order_by_front c.args.outer (folded i a) (folded i b) c.compare_starts.result c.if-outer.sizes c.then.result
          c.compare_starts.ensures c.then.ensures (λ e. w.sizes-is ∙ w.cmp-sizes.ensures ∙ sizes_folded i b a) (λ e. cc)
      | else-outer w ↦ order_by_front c.args.outer (folded i a)
          (folded i b) c.compare_starts.result c.if-outer.sizes c.then.result c.compare_starts.ensures c.then.ensures
          (λ e. cc) (λ e. w.sizes-is ∙ w.cmp-sizes-else-outer.ensures ∙ sizes_folded i a b)
    ]
