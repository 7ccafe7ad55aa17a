use Rattle.std.proofs.Common.{ℕ, List, subst}
use Rattle.ext_untracked.specs.CacheBitmaps.{ListsBelow}
use Rattle.ext_untracked.proofs.BitmapPlaces.{one_list}
use Rattle.ext_untracked.proofs.bitmaps.bitmaps_of.Goals as goal

pub returns-in_default-clause-none : goal.returns-in_default-clause-none
returns-in_default-clause-none c = λ m rest p.
    let none = rw c.in_default.is at c.in_ok-valid.ensures.none in
    none m.valid p.behind_valid p.is_valid

pub returns-in_default-2-clause-none : goal.returns-in_default-2-clause-none
returns-in_default-2-clause-none c = λ m rest p.
    let valid = rw c.in-Some.is at c.in_ok-valid.ensures.found in
    let first = one_list c.args.count c.args.bytes.now m.valid c.in-Some.valid.items p.behind_valid c.in-Some.rest.now
    p.is_valid valid in
    let second =
    subst (λ (l : List ℕ). ListsBelow c.args.count l m.check_only p.behind_check_only) first.1 p.is_check_only in
    let none = rw c.in_default-2.is at c.in_ok-check_only.ensures.none in
    none m.check_only p.behind_check_only second

pub returns-in_default-3-clause-none : goal.returns-in_default-3-clause-none
returns-in_default-3-clause-none c = λ m rest p.
    let valid = rw c.in-Some.is at c.in_ok-valid.ensures.found in
    let first = one_list c.args.count c.args.bytes.now m.valid c.in-Some.valid.items p.behind_valid c.in-Some.rest.now
    p.is_valid valid in
    let second =
    subst (λ (l : List ℕ). ListsBelow c.args.count l m.check_only p.behind_check_only) first.1 p.is_check_only in
    let check_only = rw c.in-Some-2.is at c.in_ok-check_only.ensures.found in
    let next = one_list c.args.count c.in-Some.rest.now m.check_only c.in-Some-2.check_only.items p.behind_check_only
    c.in-Some-2.rest.now second check_only in
    let third = subst (λ (l : List ℕ). ListsBelow c.args.count l m.hash_valid rest) next.1 p.is_hash_valid in
    let none = rw c.in_default-3.is at c.in_ok-hash_valid.ensures.none in
    none m.hash_valid rest third
