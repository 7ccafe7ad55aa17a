use Rattle.std.proofs.Common.{rules, ◌≡◌, ◌≤◌, ◌+◌, ◌-◌, ◌++◌, ℕ, List, [], length, take, drop, refl, sym, ap, subst}
use Rattle.std.proofs.Common.{◌∙◌, arith, length-drop, take_all}
use Rattle.std.specs.Prelude.{if◌then◌else◌, vec_len}
use Rattle.index_parts.specs.Id.{id_len}
use Rattle.file_windows.specs.Windowed.{Moment, moment_of}
use Rattle.index_parts.specs.Digest.{Holds}
use Rattle.file_windows.proofs.Abridging.{abridged_none, abridged_on, abridged_more, head_of}
use Rattle.file_windows.proofs.Steps.{pass_len}
use Rattle.file_windows.proofs.extensions.pass_extensions.Goals as goal

pub extensions-init : goal.extensions-init
extensions-init g c = record {
  inside = c.requires.inside;
  abridged = (
    0,
    omega arith,
    abridged_none c.args.plan _ c.args.held.now.bytes.items c.args.held.now.heads
        (omega (arith, c.requires.inside, c.args.window.now.ok.0)) c.requires.none_yet c.requires.heads
        c.requires.no_head,
  );
  stored = refl;
  works = refl;
}

pub extensions-preserved : goal.extensions-preserved
extensions-preserved g c =
    let plan = c.args.plan in
    let so-far = c.extensions.invariant.abridged in
    let a : Moment =
    moment_of g.S.Source c.args.file.now c.args.hasher.now c.args.window.now.items c.args.place.start [] in
    let old : Moment =
    moment_of g.S.Source c.extensions.file c.extensions.hasher c.extensions.window.items c.extensions.place.start [] in
    let w = c.read_on.new.window.items in
    let start = c.in-Some-2.next.start in
    let mid : Moment = moment_of g.S.Source c.read_on.new.file c.read_on.new.hasher w start [] in
    let new : Moment =
    moment_of g.S.Source c.pass_extension.new.file c.pass_extension.new.hasher c.pass_extension.new.window.items
    c.in-Some-3.behind.start [] in
    let held = c.extensions.held.bytes.items in
    let heads = c.extensions.held.heads in
    let on = rw c.in-Some-2.is at c.in_ok-next.ensures.passed in
    let is = abridged_on plan a old mid so-far.0 on.0 held heads so-far.2 on.2 in
    let e = c.in-Some-extension_at.ensures in
    let p = rw c.in-Some-3.is at c.in_ok-behind.ensures.passed in
    let lent = c.deref.result.now in
    let undone : take (length lent - start) (drop start lent) ≡ drop start w =
    take_all (length lent - start) (drop start lent) (omega (arith, length-drop start lent))
    ∙ ap (drop start) c.deref.ensures.value in
    let stands : drop start w ≡ e.0 ++ (e.1 ++ e.2) = sym undone ∙ e.3 in
    let head : c.deref-in-extensions.result.now ≡ w = c.deref-in-extensions.ensures.value in
    let slice : take (start + 8 - start) (drop start c.deref-in-extensions.result.now) ≡ e.0 ++ e.1 =
    let same : start + 8 - start ≡ 8 = omega arith in
    ap (λ (n : ℕ). take n (drop start c.deref-in-extensions.result.now)) same
    ∙ ap (λ (l : List ℕ). take 8 (drop start l)) head ∙ ap (take 8) stands ∙ head_of e.0 e.1 e.2 e.4 e.5 in
    let more = abridged_more plan a mid new (so-far.0 + on.0) p.0 held c.pass_extension.new.held.items e.0 e.1 e.2
    p.2 heads c.update.new.self is p.5 stands e.4 e.5 (p.3 ∙ e.6)
    (p.4 ∙ ap (λ b. held ++ (if b then p.2 else [])) e.7) c.if-plan.false c.update.ensures.kind
    (λ m k. subst (λ (l : List ℕ). Holds c.update.new.self (m ++ l)) slice (c.update.ensures.more m k)) in
    record {
      inside = omega (arith, more.is_passed.moved.inside, c.pass_extension.new.window.ok.0);
      abridged = (so-far.0 + on.0 + p.0, omega (arith, so-far.1, on.1, p.1), more);
      stored = c.in_ok-behind.ensures.stored ∙ c.in_ok-next.ensures.stored ∙ c.extensions.invariant.stored;
      works = c.in_ok-behind.ensures.works ∙ c.in_ok-next.ensures.works ∙ c.extensions.invariant.works;
    }

pub returns-then-before-extension : goal.returns-then-before-extension
returns-then-before-extension g c =
    let so-far = c.extensions.invariant.abridged in
    let on = rw c.in-Some-2.is at c.in_ok-next.ensures.passed in
    let next = c.in-Some-2.next in
    let trailer : id_len c.args.plan.kind ≤ vec_len c.read_on.new.window - next.start + next.left =
    omega (
      arith,
      pass_len c.args.plan _ _ on.0 [] on.2,
      on.1,
      c.in-Some.ensures,
      c.extensions.window.ok.0,
      c.read_on.new.window.ok.0,
    ) in
    record {
      abridged = (
        so-far.0 + on.0,
        omega (arith, so-far.1, on.1),
        abridged_on c.args.plan _ _ _ so-far.0 on.0 c.extensions.held.bytes.items c.extensions.held.heads so-far.2
            on.2,
      );
      trailer = trailer;
      stored = search rules;
      works = search rules;
    }

pub extensions-smaller : goal.extensions-smaller
extensions-smaller g c =
    let on = rw c.in-Some-2.is at c.in_ok-next.ensures.passed in
    let p = rw c.in-Some-3.is at c.in_ok-behind.ensures.passed in
    let e = c.in-Some-extension_at.ensures in
    omega (
      arith,
      pass_len c.args.plan _ _ on.0 [] on.2,
      pass_len c.args.plan _ _ p.0 p.2 p.5,
      on.1,
      p.1,
      p.3,
      e.6,
    )
