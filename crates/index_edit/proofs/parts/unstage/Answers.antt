use Rattle.std.proofs.Common.{rules}
use Rattle.index_edit.proofs.PartsAnswers.{unstages}
use Rattle.index_edit.proofs.parts.unstage.Goals as goal

pub returns : goal.returns
returns c =
    unstages c.args.parts.now _ c.args.path c.in_ok-count.count c.in_ok-count.ensures.reason
    (λ here o.
    let kept = c.in_ok-count.ensures.kept.kept here o in
    let monitor = c.in_ok-count.ensures.kept.monitor here o in
    let applied = c.in_ok-count.ensures.made.applied o in
    search rules)
    (search rules) (search rules) (search rules) (search rules)

pub returns-in_err-count : goal.returns-in_err-count
returns-in_err-count c = record {
  reason = search rules;
  updated = search rules;
  unstaged = search rules;
  storable = search rules;
  count = search rules;
  storage = search rules;
  placed = search rules;
  err = search rules;
}
