use Rattle.entry_lookup.specs.NameSteps.{outer_cmp}
use Rattle.entry_lookup.proofs.TableSearch.{span_at}
use Rattle.entry_lookup.proofs.spans.SpanSearchOrdered.compare.Goals as goal

pub returns : goal.returns
returns c = span_at (λ x. outer_cmp x.name c.args.self.now.name.now) c.args.self.now.spans.now c.args.place _
    c.compare_names.result c.requires c.compare_names.ensures
