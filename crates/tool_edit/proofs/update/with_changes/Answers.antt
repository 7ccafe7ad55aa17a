use Rattle.std.proofs.Common.{length, refl, subst, sym}
use Rattle.std.proofs.lemmas.Result.{err_from_is_err_and}
use Rattle.gix_index.specs.File.{state_of}
use Rattle.gix_index.specs.SoundState.{OrderCause}
use Rattle.gix_index.specs.State.{PathsInStorage, contents, storage_of}
use Rattle.gix_index.specs.StateType.{State}
use Rattle.tool_edit.specs.Updated.{IsUpdatedBy}
use Rattle.tool_edit.specs.Updating.{refused, unordered}
use Rattle.tool_edit.proofs.update.with_changes.Goals as goal

pub returns : goal.returns
returns g c = record {
  read = record {
    before = contents (state_of c.in_ok-index.index);
    begun = c.in_ok-index.ensures.read;
    text = c.in_ok-text.text.items;
    held = c.in_ok-text.ensures.held;
    room = length (storage_of (state_of c.in_ok-index.index));
    updated = subst (λ (s : State). IsUpdatedBy c.args.nul c.args.kind c.in_ok-text.text.items
        (length (storage_of (state_of c.in_ok-index.index))) (contents (state_of c.in_ok-index.index)) (contents s)) (sym c.from_state.ensures.state)
        ((rw (c.deref-2.ensures.value, c.into_parts-state.ensures.state) at c.in_ok-change.ensures.updated)
        c.in_ok-index.ensures.placed);
  };
  placed = subst (λ (s : State). PathsInStorage s) (sym c.from_state.ensures.state)
      (c.change.ensures.placed (subst (λ (s : State). PathsInStorage s) (sym c.into_parts-state.ensures.state)
      c.in_ok-index.ensures.placed));
  fault = tt;
}

pub returns-in-Err : goal.returns-in-Err
returns-in-Err g c = record {
  read = tt;
  placed = tt;
  fault = unordered (record {
    value = contents (state_of c.in_ok-index.index);
    begun = c.in_ok-index.ensures.read;
    is = (
      refl,
      subst (λ (s : State). OrderCause (contents s).records c.in-Err.fault) c.deref.ensures c.in-Err.ensures.fault,
    );
  });
}

pub returns-in_err-change : goal.returns-in_err-change
returns-in_err-change g c =
    let p = err_from_is_err_and c.from_residual-in_err-change.result
    c.from_residual-in_err-change.ensures.1 in
    rw (p.1, p.2) (record {
      read = tt;
      placed = tt;
      fault = refused (record {
        before = contents (state_of c.in_ok-index.index);
        begun = c.in_ok-index.ensures.read;
        text = c.in_ok-text.text.items;
        held = c.in_ok-text.ensures.held;
        room = length (storage_of (state_of c.in_ok-index.index));
        is = rw (c.deref-2.ensures.value, c.into_parts-state.ensures.state) at c.in_err-change.ensures.fault;
      });
    })
