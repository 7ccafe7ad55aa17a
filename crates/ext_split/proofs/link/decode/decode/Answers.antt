use Rattle.std.proofs.Common.{◌≡◌, ℕ, List, [], refl, sym, subst}
use Rattle.std.specs.Prelude.{◌≢◌}
use Rattle.std.proofs.lemmas.Result.{err_from_is_err_and}
use Rattle.ext_split.specs.Link.{StartsWithId, alone, split, garbage}
use Rattle.ext_split.proofs.LinkErrors.{nil_of, some_of, says_delete, says_replace}
use Rattle.ext_split.proofs.link.decode.decode.Goals as goal

pub returns-then-is_empty-clause-found : goal.returns-then-is_empty-clause-found
returns-then-is_empty-clause-found c =
    let none : c.in-Some.maps.now ≡ [] = nil_of c.in-Some.maps.now (sym c.if-is_empty.ensures) in
    alone c.in-Some.shared_index_checksum (subst (λ (l : List ℕ). StartsWithId c.args.object_hash c.args.data.now
    c.in-Some.shared_index_checksum l) none c.in-Some.ensures.found) refl

pub returns-in_err-delete-clause-fault : goal.returns-in_err-delete-clause-fault
returns-in_err-delete-clause-fault c =
    let some : c.in-Some.maps.now ≢ [] = some_of c.in-Some.maps.now (sym c.if-is_empty.ensures) in
    let p = err_from_is_err_and c.from_residual.result c.from_residual.ensures.1 in
    rw (p.1, p.2) (says_delete c.args.object_hash c.args.data.now c.in-Some.shared_index_checksum c.in-Some.maps.now
    c.in_err-delete.field-0.0 c.in-Some.ensures.found some c.in_err-delete.ensures.fault)

pub returns-in_err-replace-clause-fault : goal.returns-in_err-replace-clause-fault
returns-in_err-replace-clause-fault c =
    let p = err_from_is_err_and c.from_residual-in_err-replace.result c.from_residual-in_err-replace.ensures.1 in
    rw (p.1, p.2) (says_replace c.args.object_hash c.args.data.now c.in-Some.shared_index_checksum c.in-Some.maps.now
    c.in_ok-delete.after.now _ c.in_err-replace.field-0.0 c.in-Some.ensures.found c.in_ok-delete.ensures.found
    c.in_err-replace.ensures.fault)

pub returns-then-not-is_empty-clause-fault : goal.returns-then-not-is_empty-clause-fault
returns-then-not-is_empty-clause-fault c =
    let some : c.in_ok-replace.rest.now ≢ [] = some_of c.in_ok-replace.rest.now (sym c.if-not-is_empty.ensures) in
    garbage c.in-Some.shared_index_checksum c.in-Some.maps.now c.in_ok-delete.after.now c.in_ok-replace.rest.now _
    c.in-Some.ensures.found c.in_ok-delete.ensures.found c.in_ok-replace.ensures.found some refl

pub returns-clause-found : goal.returns-clause-found
returns-clause-found c =
    let none : c.in_ok-replace.rest.now ≡ [] = nil_of c.in_ok-replace.rest.now (sym c.if-not-is_empty.ensures) in
    split c.in-Some.shared_index_checksum c.in-Some.maps.now c.in_ok-delete.after.now _ c.in-Some.ensures.found
    c.in_ok-delete.ensures.found (rw none at c.in_ok-replace.ensures.found) refl
