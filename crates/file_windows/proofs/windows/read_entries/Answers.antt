use Rattle.std.proofs.Common.{rules, ◌≡◌, ◌+◌, ◌++◌, List, ℕ, length, drop, arith, length-drop, refl, ◌∙◌}
use Rattle.std.proofs.KnownBytes.{starts_with_rest}
use Rattle.file_windows.proofs.Steps.{on_none, on_trans, on_fill}
use Rattle.file_windows.proofs.windows.read_entries.Goals as goal

pub windows-init : goal.windows-init
windows-init g c = record {
  fit = c.requires.first;
  stored = refl;
  works = refl;
  read = (0, omega arith, on_none c.args.plan _ (omega (arith, c.requires.header, c.args.window.now.ok.0)));
}

pub returns-then-len-plan : goal.returns-then-len-plan
returns-then-len-plan g c =
    let so-far = c.windows.invariant.read in
    record {
      fit = c.in_ok-start.ensures.fit;
      whole = search rules;
      read = (
        so-far.0 + 0,
        omega (arith, so-far.1),
        on_trans c.args.plan _ _ _ so-far.0 0 so-far.2 (c.in_ok-start.ensures.read _),
      );
      named = search rules;
      stored = search rules;
      works = search rules;
    }

pub windows-preserved : goal.windows-preserved
windows-preserved g c =
    let so-far = c.windows.invariant.read in
    let took = on_trans c.args.plan _ _ _ so-far.0 0 so-far.2
    (c.in_ok-start.ensures.read (g.S.Source.remaining c.windows.file)) in
    let old = c.take_entries.new.window.items in
    let new = c.fill.new.bytes.items in
    let more : List ℕ = drop (length old) new in
    let grown : new ≡ old ++ more = starts_with_rest new old c.in_ok-came.ensures.appends in
    let size : length more ≡ c.in_ok-came.came = omega (
      arith,
      length-drop (length old) new,
      c.in_ok-came.ensures.len,
      c.take_entries.new.window.ok.0,
      c.fill.new.bytes.ok.0,
    ) in
    let came = on_fill c.args.plan (g.S.Source.remaining c.windows.file)
    (g.S.Source.remaining c.fill.new.file) c.take_entries.new.hasher old new more c.in_ok-start.start
    c.take_entries.new.first.list.records took.moved.inside grown c.in_ok-came.ensures.consumes in
    record {
      fit = c.in_ok-start.ensures.fit;
      stored = c.in_ok-came.ensures.stored ∙ c.windows.invariant.stored;
      works = c.in_ok-came.ensures.works ∙ c.windows.invariant.works;
      read = (
        so-far.0 + 0 + length more,
        omega (arith, so-far.1, size, c.if-came-left.false),
        on_trans c.args.plan _ _ _ (so-far.0 + 0) (length more) took came,
      );
    }

pub overflow_sub-len : goal.overflow_sub-len
overflow_sub-len g c =
    let took = c.in_ok-start.ensures.read (g.S.Source.remaining c.windows.file) in
    omega (arith, took.moved.inside, c.take_entries.new.window.ok.0, c.len-then-len-plan.ensures)
