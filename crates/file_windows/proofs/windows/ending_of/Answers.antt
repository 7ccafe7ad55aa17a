use Rattle.std.proofs.Common.{rules, ℕ, List, subst}
use Rattle.std.specs.Prelude.{Ok}
use Rattle.index_model.specs.Answer.{IsEnding}
use Rattle.index_model.specs.Contents.{parts_contents}
use Rattle.file_windows.proofs.windows.ending_of.Goals as goal

pub returns-in-Ok : goal.returns-in-Ok
returns-in-Ok c = record {
  ending = subst (λ (l : List ℕ). IsEnding c.args.plan.kind c.args.reading.timestamp c.args.reading.options
      c.args.plan.version c.args.first.list.records l (Ok (parts_contents c.in-Ok.parts, c.in-Ok.checksum)))
      c.deref.ensures.value c.in-Ok.ensures.ending;
  behind = search rules;
  parts = c.in-Ok.ensures.parts;
}
