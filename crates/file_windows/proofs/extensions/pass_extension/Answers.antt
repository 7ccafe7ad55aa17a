use Rattle.std.proofs.Common.{rules, ◌≡◌, ◌≤◌, ◌+◌, ◌-◌, ◌++◌, List, ℕ, [], length, take, drop, refl, ap, ◌∙◌, arith}
use Rattle.std.proofs.Common.{length-append, length-drop, length-take}
use Rattle.std.specs.Prelude.{if◌then◌else◌}
use Rattle.file_windows.specs.Windowed.{Moment, IsPassedOn, moment_of}
use Rattle.file_windows.proofs.Steps.{pass_none, pass_piece, pass_trans, pass_on, held_none, held_more}
use Rattle.file_windows.proofs.extensions.pass_extension.Goals as goal

pub pieces-init : goal.pieces-init
pieces-init g c = record {
  inside = c.requires.inside;
  passed = (
    0,
    omega arith,
    [],
    omega arith,
    held_none c.args.extension.is_held c.args.held.now.items,
    pass_none c.args.plan _ (omega (arith, c.requires.inside, c.args.window.now.ok.0)),
  );
  stored = refl;
  works = refl;
}

pub pieces-preserved : goal.pieces-preserved
pieces-preserved g c =
    let plan = c.args.plan in
    let b = c.args.extension.is_held in
    let so-far = c.pieces.invariant.passed in
    let w = c.pieces.window.items in
    let start = c.pieces.place.start in
    let len = c.min-len.result in
    let xs : List ℕ = so-far.2 in
    let piece : List ℕ = take len (drop start w) in
    let inside : start ≤ length w = omega (arith, c.pieces.invariant.inside, c.pieces.window.ok.0) in
    let least : len ≤ length w - start = search rules in
    let a : Moment =
    moment_of g.S.Source c.args.file.now c.args.hasher.now c.args.window.now.items c.args.place.start [] in
    let old : Moment = moment_of g.S.Source c.pieces.file c.pieces.hasher w start [] in
    let mid : Moment = moment_of g.S.Source c.pieces.file c.pieces.hasher w (start + len) [] in
    let new : Moment =
    moment_of g.S.Source c.read_on.new.file c.read_on.new.hasher c.read_on.new.window.items c.in-Some.next.start [] in
    let took : IsPassedOn plan a mid (so-far.0 + 0) (xs ++ piece) =
    pass_trans plan a old mid so-far.0 0 xs piece so-far.5
    (pass_piece plan old.left old.hasher w start len [] (omega (arith, inside, least))) in
    let next = rw c.in-Some.is at c.in_ok-next.ensures.passed in
    let on = pass_on plan a mid new (so-far.0 + 0) next.0 (xs ++ piece) took next.2 in
    let slice : take (start + len - start) (drop start c.deref.result.now) ≡ piece =
    let same : start + len - start ≡ len = omega arith in
    ap (λ (n : ℕ). take n (drop start c.deref.result.now)) same
    ∙ ap (λ (l : List ℕ). take len (drop start l)) c.deref.ensures.value in
    record {
      inside = omega (arith, on.moved.inside, c.read_on.new.window.ok.0);
      passed = (
        so-far.0 + 0 + next.0,
        omega (arith, so-far.1, next.1),
        xs ++ piece,
        omega (
          arith,
          so-far.3,
          length-append xs piece,
          length-take len (drop start w),
          length-drop start w,
          least,
          c.min-len.ensures,
        ),
        c.in_ok-hold.ensures ∙ ap (λ (l : List ℕ). c.pieces.held.items ++ (if b then l else [])) slice
            ∙ ap (λ (l : List ℕ). l ++ (if b then piece else [])) so-far.4
            ∙ held_more b c.args.held.now.items xs piece,
        on,
      );
      stored = c.in_ok-next.ensures.stored ∙ c.pieces.invariant.stored;
      works = c.in_ok-next.ensures.works ∙ c.pieces.invariant.works;
    }

pub returns-then-rest-eq0 : goal.returns-then-rest-eq0
returns-then-rest-eq0 g c =
    let b = c.args.extension.is_held in
    let so-far = c.pieces.invariant.passed in
    let w = c.pieces.window.items in
    let start = c.pieces.place.start in
    let len = c.min-len.result in
    let xs : List ℕ = so-far.2 in
    let piece : List ℕ = take len (drop start w) in
    let inside : start ≤ length w = omega (arith, c.pieces.invariant.inside, c.pieces.window.ok.0) in
    let least : len ≤ length w - start = search rules in
    let old : Moment = moment_of g.S.Source c.pieces.file c.pieces.hasher w start [] in
    let slice : take (start + len - start) (drop start c.deref.result.now) ≡ piece =
    let same : start + len - start ≡ len = omega arith in
    ap (λ (n : ℕ). take n (drop start c.deref.result.now)) same
    ∙ ap (λ (l : List ℕ). take len (drop start l)) c.deref.ensures.value in
    record {
      passed = (
        so-far.0 + 0,
        omega (arith, so-far.1),
        xs ++ piece,
        omega (
          arith,
          so-far.3,
          length-append xs piece,
          length-take len (drop start w),
          length-drop start w,
          least,
          c.min-len.ensures,
          c.if-rest-eq0.true,
        ),
        c.in_ok-hold.ensures ∙ ap (λ (l : List ℕ). c.pieces.held.items ++ (if b then l else [])) slice
            ∙ ap (λ (l : List ℕ). l ++ (if b then piece else [])) so-far.4
            ∙ held_more b c.args.held.now.items xs piece,
        pass_trans c.args.plan _ old _ so-far.0 0 xs piece so-far.5
            (pass_piece c.args.plan old.left old.hasher w start len [] (omega (arith, inside, least))),
      );
      stored = search rules;
      works = search rules;
    }
