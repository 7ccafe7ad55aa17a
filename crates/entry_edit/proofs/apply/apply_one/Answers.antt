use Rattle.std.proofs.Common.{rules, [], ap, append-nil, subst, sym}
use Rattle.entry_list.specs.Record.{records_in, with_path}
use Rattle.entry_edit.specs.Changes.{applied_one, takes_out}
use Rattle.entry_edit.specs.ClearSteps.{IsClearFor}
use Rattle.entry_edit.specs.Edits.{IsUnstagedFrom}
use Rattle.entry_edit.specs.EntryEdits.{ChangesOrdered}
use Rattle.entry_edit.proofs.Applied.{one_staged, one_unstaged}
use Rattle.entry_edit.proofs.apply.apply_one.Goals as goal

pub returns-in_ok-settle_clear-in-Stage : goal.returns-in_ok-settle_clear-in-Stage
returns-in_ok-settle_clear-in-Stage c =
    let old = records_in c.args.storage.now.items c.args.entries.now.items in
    record {
      applied = λ placed o clear. one_staged c.args.change.now old _ (with_path c.in-Stage.path.now c.in-Stage.entry)
          (ap (λ x. applied_one x old) c.in-Stage.is) (λ r. ap (λ x. takes_out x r) c.in-Stage.is)
          (c.in_ok-settle_clear-in-Stage.ensures.staged.made placed o
          (subst (λ x. IsClearFor c.args.checked_len x old) c.in-Stage.is clear));
      placed = search rules;
      storage = search rules;
      err_entries = search rules;
      err_storage = search rules;
    }

pub returns-in-Unstage : goal.returns-in-Unstage
returns-in-Unstage c =
    let s = c.args.storage.now.items in
    let es = c.args.entries.now.items in
    let ds = c.unstage.new.entries.items in
    let old = records_in s es in
    let path = c.in-Unstage.path.now in
    record {
      applied = λ _ o clear. one_unstaged c.args.change.now old _ path
          (ap (λ x. applied_one x old) c.in-Unstage.is) (λ r. ap (λ x. takes_out x r) c.in-Unstage.is)
          (subst (λ t. ChangesOrdered (IsUnstagedFrom path) t es t ds) c.deref.ensures.value c.unstage.ensures.unstaged o);
      placed = search rules;
      storage = ([], sym (append-nil s));
      err_entries = search rules;
      err_storage = search rules;
    }
