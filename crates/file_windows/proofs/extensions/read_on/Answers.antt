use Rattle.std.proofs.Common.{rules, ◌≡◌, ◌++◌, ℕ, List, length, take, drop, ap, subst, ◌∙◌, arith}
use Rattle.std.proofs.Common.{length-drop}
use Rattle.std.proofs.KnownBytes.{starts_with_rest}
use Rattle.index_parts.specs.Digest.{Holds}
use Rattle.entry_list.specs.Record.{AreBytes}
use Rattle.file_windows.proofs.Steps.{pass_none, pass_window}
use Rattle.file_windows.proofs.extensions.read_on.Goals as goal

pub returns-then-len-start-ge-MIN_SIZE : goal.returns-then-len-start-ge-MIN_SIZE
returns-then-len-start-ge-MIN_SIZE g c = record {
  passed = (
    0,
    omega arith,
    pass_none c.args.plan _ (omega (arith, c.requires.inside, c.args.window.now.ok.0)),
  );
  comes = search rules;
  stored = search rules;
  works = search rules;
}

pub returns : goal.returns
returns g c =
    let w = c.args.window.now.items in
    let done = c.saturating_sub-done.result in
    let start = c.args.place.start in
    let old = c.remove_front.new.bytes.items in
    let grown = c.fill.new.bytes.items in
    let more : List ℕ = drop (length old) grown in
    let size : length more ≡ c.in_ok-came.came = omega (
      arith,
      length-drop (length old) grown,
      c.in_ok-came.ensures.len,
      c.remove_front.new.bytes.ok.0,
      c.fill.new.bytes.ok.0,
    ) in
    let cut : old ≡ drop done w = c.remove_front.ensures in
    let more-is : grown ≡ old ++ more = starts_with_rest grown old c.in_ok-came.ensures.appends in
    record {
      passed = (
        length more,
        omega (arith, size, c.if-came-left.false),
        pass_window c.args.plan (g.S.Source.remaining c.args.file.now) (g.S.Source.remaining c.fill.new.file)
            c.args.hasher.now c.hash_piece.new.hasher w grown more start done _
            (subst (λ (l : List ℕ). AreBytes (take done l)) c.deref.ensures.value c.hash_piece.ensures.are_bytes)
            (omega (arith, c.saturating_sub-done.ensures))
            (omega (arith, c.requires.inside, c.args.window.now.ok.0))
            (more-is ∙ ap (λ (l : List ℕ). l ++ more) cut)
            c.in_ok-came.ensures.consumes c.hash_piece.ensures.kind
            (λ is m k. subst (λ (l : List ℕ). Holds c.hash_piece.new.hasher (m ++ take done l)) c.deref.ensures.value
            (c.hash_piece.ensures.more is m k)),
      );
      comes = search rules;
      stored = search rules;
      works = search rules;
    }
