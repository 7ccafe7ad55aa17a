use Rattle.std.proofs.Common.{rules, ◌≡◌, List, ℕ, length, drop, ap, arith, length-drop}
use Rattle.std.proofs.KnownBytes.{starts_with_rest}
use Rattle.std.proofs.lemmas.Bool.{eqb-true}
use Rattle.file_windows.proofs.extensions.read_rest.Goals as goal

pub returns : goal.returns
returns g c = record {
  rest = λ is.
      let w = c.args.window.now.items in
      let grown = c.fill.new.bytes.items in
      let more : List ℕ = drop (length w) grown in
      let all : c.in_ok-came.came ≡ c.args.left = eqb-true c.in_ok-came.came c.args.left is in (
        more,
        starts_with_rest grown w (rw c.in_ok-reserve.ensures.items at c.in_ok-came.ensures.appends),
        omega (
          arith,
          length-drop (length w) grown,
          c.in_ok-came.ensures.len,
          c.fill.new.bytes.ok.0,
          c.reserve.new.self.ok.0,
          ap length c.in_ok-reserve.ensures.items,
          all,
        ),
        rw c.in_ok-reserve.ensures.items at c.in_ok-came.ensures.consumes,
        c.in_ok-came.ensures.end (search rules),
      );
  stored = search rules;
  works = search rules;
}
