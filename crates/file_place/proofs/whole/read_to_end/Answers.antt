use Rattle.std.proofs.Common.{inr, rules}
use Rattle.file_place.proofs.Sizes.{gave_too_long}
use Rattle.file_place.proofs.whole.read_to_end.Goals as goal

pub returns-then-len-most : goal.returns-then-len-most
returns-then-len-most g c = record {
  whole = tt;
  bound = tt;
  stored = search rules;
  works = search rules;
  fault = λ _. inr (
    gave_too_long (g.S.Source.remaining c.args.file.now) (g.S.Source.remaining c.fill.new.file)
        c.fill.new.bytes.items (search rules) (search rules),
    search rules,
  );
}
