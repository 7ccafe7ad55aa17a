use Rattle.std.proofs.Common.{List, inr, length, refl, subst, sym, rules}
use Rattle.gix_index.specs.Changing.Change.{Change}
use Rattle.gix_index.specs.Order.{IsStrictlyOrdered}
use Rattle.gix_index.specs.State.{contents, records, storage_of}
use Rattle.capi_table.specs.Refusing.{MakesNothing}
use Rattle.capi_table.specs.Updating.{AreSaidBy}
use Rattle.capi_table.proofs.Updates.{fallen, granted_among, refused_among}
use Rattle.capi_table.proofs.update.make_changes.Goals as goal

pub returns-in-Err : goal.returns-in-Err
returns-in-Err c =
    record {
      changed = search rules;
      why = subst (MakesNothing c.args.kind c.args.paths.now c.args.rows.now (length (storage_of c.args.state.now))
          (contents c.args.state.now))
          (sym c.unordered.ensures)
          (fallen c.args.kind c.args.paths.now c.args.rows.now (length (storage_of c.args.state.now))
          (contents c.args.state.now) c.in-Err.e
          c.in-Err.ensures.fault);
    }

pub returns-in-Ok-apply : goal.returns-in-Ok-apply
returns-in-Ok-apply c =
    record {
      changed = λ placed.
          let ordered : IsStrictlyOrdered (records c.args.state.now) = c.in_default.ensures.ok.0 refl in
          record {
            ordered = ordered;
            fit = rw (c.in_default-first_unfit.is, c.is_sparse.ensures) at c.first_unfit.ensures;
            changes = c.deref.result.now;
            said = subst (λ (cs : List Change). AreSaidBy c.args.paths.now c.args.rows.now cs) (sym
                c.deref.ensures.value)
                c.in-Ok.ensures;
            granted = granted_among _ c.deref.result.now (contents c.args.state.now).records ordered _
                c.in-Ok-apply.ensures.reason;
            is = c.in-Ok-apply.ensures.updated placed ordered;
            applied = c.in-Ok-apply.ensures.applied placed ordered;
          };
      why = search rules;
    }

pub returns-in-Err-Refused : goal.returns-in-Err-Refused
returns-in-Err-Refused c =
    record {
      changed = search rules;
      why = let ordered : IsStrictlyOrdered (records c.args.state.now) = c.in_default.ensures.ok.0 refl in
          inr (inr (record {
            ordered = ordered;
            fit = rw (c.in_default-first_unfit.is, c.is_sparse.ensures) at c.first_unfit.ensures;
            changes = c.deref.result.now;
            said = subst (λ (cs : List Change). AreSaidBy c.args.paths.now c.args.rows.now cs) (sym
                c.deref.ensures.value)
                c.in-Ok.ensures;
            at = c.in-Err-Refused.at;
            cause = c.in-Err-Refused.cause;
            first = refused_among _ c.deref.result.now (contents c.args.state.now).records ordered c.in-Err-Refused.at
                c.in-Err-Refused.cause (rw c.in-Err-Refused.field-0-is at c.in-Err-Refused.ensures.reason);
            fault_is = c.change_fault.ensures;
          }));
    }
