use Rattle.std.proofs.Common.{subst}
use Rattle.entry_list.specs.Record.{records_in, with_path}
use Rattle.entry_list.specs.declared.Pathless.{Pathless}
use Rattle.entry_edit.specs.Edits.{IsResolvedInto, IsStagedInto, merged}
use Rattle.entry_edit.specs.EntryEdits.{ChangesPlaced, StagesAllowed}
use Rattle.entry_edit.proofs.Resolvings.{no_stage, on_ok, resolved_into}
use Rattle.entry_edit.proofs.resolve.resolve.Goals as goal

pub returns : goal.returns
returns g c =
    let path = c.args.path.now in
    let new = with_path path (merged c.args.entry) in
    let s = c.args.storage.now.items in
    let es = c.args.entries.now.items in
    let t = c.stage.new.storage.items in
    let ds = c.stage.new.entries.items in
    let P : Pathless → Type 0 = λ e. StagesAllowed (g.C.ComponentCheck.refusal c.args.check.now) c.args.kind e path
    c.args.storage.now c.args.entries.now c.stage.new.storage c.stage.new.entries c.stage.result in
    let allowed = subst P c.to_stage_zero.ensures c.stage.ensures in
    let settled = allowed.made in
    record {
      reason = allowed.reason;
      made = record {
        resolved = record {
          made = on_ok c.stage.result (ChangesPlaced (IsStagedInto new) s es t ds)
              (ChangesPlaced (IsResolvedInto new) s es t ds)
              (λ h placed o. resolved_into new (records_in s es) (records_in t ds) (no_stage c.args.entry.flags.0) (h placed o))
              settled.staged.made;
          placed = settled.staged.placed;
          storage = settled.staged.storage;
          err_entries = settled.staged.err_entries;
          err_storage = settled.staged.err_storage;
        };
        told = settled.told;
      };
    }
