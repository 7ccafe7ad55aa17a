use Rattle.std.proofs.Common.{◌||◌, Bool, ap, sym, ◌∙◌, rules, tests}
use Rattle.std.proofs.lemmas.Iterator.{YieldsList-from_slice}
use Rattle.std.proofs.lemmas.Iterator.Search.{any_from_yields_List}
use Rattle.view_salvage.specs.Remains.{is_link_fault, is_link_head}
use Rattle.view_salvage.proofs.remains.has_link.Goals as goal

pub returns-else-any : goal.returns-else-any
returns-else-any c =
    let among = any_from_yields_List (λ p. is_link_head p.what) _ _ c.any.result c.any.ensures.ran
    (YieldsList-from_slice c.args.parts.now cc) (λ x b q k. search (rules, tests)) in
    c.is_link_fault.ensures ∙ ap (λ (b : Bool). b || is_link_fault c.args.error.now) (sym c.if-any.false ∙ among)
