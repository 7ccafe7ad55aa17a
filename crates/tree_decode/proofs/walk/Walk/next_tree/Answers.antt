use Rattle.std.proofs.Common.{rules, ◌≡◌, ℕ, ◌-◌, ◌∷◌, [], ◌++◌, List, Option, Some, None, length, take, subst, refl}
use Rattle.std.proofs.Common.{sym}
use Rattle.std.proofs.lemmas.Result.{err_from_is_err_and}
use Rattle.tree_decode.proofs.Listings.{says_also}
use Rattle.tree_decode.proofs.Walks.{begun, walk_fails, walk_goes, walk_reaches, within}
use Rattle.tree_decode.specs.LeafSteps.{WalkHasFault, IsSomeTree, ListsOn, ListsAll, ListsFault, ListsUpTo}
use Rattle.tree_decode.specs.declared.walk.Level.{Level}
use Rattle.tree_decode.specs.declared.walk.Next.{Next}
use Rattle.tree_decode.proofs.walk.Walk.next_tree.Goals as goal

pub unlisted-bytes-requires : goal.unlisted-bytes-requires
unlisted-bytes-requires g c =
    (begun (g.C.ComponentCheck.refusal c.args.check.now) c.args.kind c.args.self.now c.loop-level.self c.in-Some.level
    c.pop.new.self.items c.in-Some.ensures.items c.loop-level.invariant.sound).inside

pub list_entries-requires-clause-prefix : goal.list_entries-requires-clause-prefix
list_entries-requires-clause-prefix g c =
    within (g.C.ComponentCheck.refusal c.args.check.now) c.args.kind c.args.self.now c.loop-level.self c.in-Some.level
    c.pop.new.self.items c.in-Some.ensures.items c.loop-level.invariant.sound

pub list_entries-requires-clause-whole : goal.list_entries-requires-clause-whole
list_entries-requires-clause-whole g c =
    let b = begun (g.C.ComponentCheck.refusal c.args.check.now) c.args.kind c.args.self.now c.loop-level.self
    c.in-Some.level c.pop.new.self.items c.in-Some.ensures.items c.loop-level.invariant.sound in
    subst (IsSomeTree c.args.kind) (sym c.unlisted-bytes.ensures) b.whole

pub returns-in_err-next-clause-fault : goal.returns-in_err-next-clause-fault
returns-in_err-next-clause-fault g c =
    let check = g.C.ComponentCheck.refusal c.args.check.now in
    let h = c.loop-level.invariant in
    let l : Level = c.in-Some.level in
    let prefix = take l.prefix_len c.loop-level.self.listed.path.items in
    let p = err_from_is_err_and c.from_residual.result c.from_residual.ensures.1 in
    rw (p.1, p.2) (says_also c.in_err-next.field-0.0 (ListsFault check c.args.kind c.loop-level.self.listed prefix
    c.unlisted-bytes.result.now) (WalkHasFault check c.args.kind c.args.self.now)
    (λ f k. walk_fails check c.args.kind c.args.self.now c.loop-level.self l c.pop.new.self.items
    c.in-Some.ensures.items h.sound h.comes f
    (subst
    (λ (b : List ℕ). ListsFault check c.args.kind c.loop-level.self.listed prefix b f) c.unlisted-bytes.ensures k))
    c.in_err-next.ensures.fault)

pub returns-in-Some-2-clause-steps : goal.returns-in-Some-2-clause-steps
returns-in-Some-2-clause-steps g c =
    let check = g.C.ComponentCheck.refusal c.args.check.now in
    let h = c.loop-level.invariant in
    let l : Level = c.in-Some.level in
    let k : Level =
    record { bytes = l.bytes; at = length l.bytes.items - c.in-Some-2.next.left; prefix_len = l.prefix_len } in
    let prefix = take l.prefix_len c.loop-level.self.listed.path.items in
    let kept : c.push.new.self.items ≡ c.pop.new.self.items ++ k ∷ [] = search rules in
    let lists : ListsOn check c.args.kind c.loop-level.self.listed c.list_entries.new.listed prefix
    c.unlisted-bytes.result.now (Some c.in-Some-2.next) =
    subst (λ (o : Option Next). ListsOn check c.args.kind c.loop-level.self.listed c.list_entries.new.listed prefix
    c.unlisted-bytes.result.now o) c.in-Some-2.is c.in_ok-next.ensures.lists in
    walk_reaches check c.args.kind c.args.self.now c.loop-level.self l c.pop.new.self.items c.in-Some.ensures.items
    h.sound h.comes
    _ c.in_ok-next.ensures.packed c.in_ok-next.ensures.prefix c.in_ok-next.ensures.long k c.in-Some-2.next kept refl
    refl refl
    (subst (λ (b : List ℕ). ListsUpTo check c.args.kind c.loop-level.self.listed c.list_entries.new.listed prefix b
    c.in-Some-2.next) c.unlisted-bytes.ensures lists)

pub loop-level-preserved : goal.loop-level-preserved
loop-level-preserved g c =
    let check = g.C.ComponentCheck.refusal c.args.check.now in
    let h = c.loop-level.invariant in
    let l : Level = c.in-Some.level in
    let prefix = take l.prefix_len c.loop-level.self.listed.path.items in
    let none : c.in_ok-next.field-0 ≡ None = search rules in
    let lists : ListsOn check c.args.kind c.loop-level.self.listed c.list_entries.new.listed prefix
    c.unlisted-bytes.result.now None =
    subst (λ (o : Option Next). ListsOn check c.args.kind c.loop-level.self.listed c.list_entries.new.listed prefix
    c.unlisted-bytes.result.now o) none c.in_ok-next.ensures.lists in
    let w = walk_goes check c.args.kind c.args.self.now c.loop-level.self l c.pop.new.self.items c.in-Some.ensures.items
    h.sound h.comes
    (record { listed = c.list_entries.new.listed; levels = c.pop.new.self }) c.in_ok-next.ensures.packed
    c.in_ok-next.ensures.prefix c.in_ok-next.ensures.long refl
    (subst (λ (b : List ℕ). ListsAll check c.args.kind c.loop-level.self.listed c.list_entries.new.listed prefix b)
    c.unlisted-bytes.ensures lists) in
    record { sound = w.0; comes = w.1 }
