use Rattle.std.proofs.Common.{rules}
use Rattle.tree_encode.proofs.Searches.{hit, none_found, one_found, searched, sorted_kids}
use Rattle.tree_encode.proofs.tree_ids.child_of.Goals as goal

pub returns-in_default-clause-exactly : goal.returns-in_default-clause-exactly
returns-in_default-clause-exactly c = λ below.
    let ts = c.as_slice-children.result.now in
    let sorted = sorted_kids c.args.given c.in_ok-given.given c.in_ok-given.was ts c.as_slice-children.ensures.value
    c.args.name.now below in
    none_found c.args.given c.in_ok-given.given c.in_ok-given.was ts c.as_slice-children.ensures.value c.args.name.now
    c.binary_search_by.result c.in_default.field-0 c.in_default.is
    (searched _ _ c.args.name.now ts c.binary_search_by.result sorted c.binary_search_by.ensures.bound
    c.binary_search_by.ensures.position (λ a o f' k. search rules))

pub returns-clause-found : goal.returns-clause-found
returns-clause-found c =
    let ts = c.as_slice-children.result.now in
    one_found c.args.given c.in_ok-given.given c.in_ok-given.was ts c.as_slice-children.ensures.value c.args.name.now
    c.binary_search_by.result c.in-Ok.at c.index-children-at.result c.in-Ok.is c.index-children-at.is
    (hit _ _ c.args.name.now ts c.binary_search_by.result c.in-Ok.at c.in-Ok.is c.binary_search_by.ensures.bound
    c.binary_search_by.ensures.position (λ a o f' k. search rules))

pub returns-clause-exactly : goal.returns-clause-exactly
returns-clause-exactly c = λ below.
    let ts = c.as_slice-children.result.now in
    one_found c.args.given c.in_ok-given.given c.in_ok-given.was ts c.as_slice-children.ensures.value c.args.name.now
    c.binary_search_by.result c.in-Ok.at c.index-children-at.result c.in-Ok.is c.index-children-at.is
    (hit _ _ c.args.name.now ts c.binary_search_by.result c.in-Ok.at c.in-Ok.is c.binary_search_by.ensures.bound
    c.binary_search_by.ensures.position (λ a o f' k. search rules))
