use Rattle.std.proofs.Common.{sym, subst}
use Rattle.ext_bitmap.specs.Bitmap.{bitmap}
use Rattle.ext_small.specs.FsMonitor.{TokenValue, IsMonitor}
use Rattle.ext_small.specs.MonitorSteps.{lent_token}
use Rattle.index_extensions.proofs.Errors.{at_err}
use Rattle.ext_small.proofs.Monitors.{no_monitor, monitor_parts, monitor_from, has_monitor}
use Rattle.ext_small.proofs.fs_monitor.decode.Goals as goal

pub returns-in_default-clause-read : goal.returns-in_default-clause-read
returns-in_default-clause-read c = λ m h. no_monitor c.args.data.now m (sym c.in_default.ensures) h

pub returns-in_default-2-clause-read : goal.returns-in_default-2-clause-read
returns-in_default-2-clause-read c = λ m h.
    let parts = c.in-Some.parts in
    let none = rw c.in_default-2.is at c.in_ok-entry_dirty.ensures.read in
    let own =
    monitor_parts c.args.data.now (lent_token parts.token) parts.size parts.rest.now m (sym c.in-Some.ensures) h in
    none m.dirty own.1

pub returns-clause-read : goal.returns-clause-read
returns-clause-read c =
    let parts = c.in-Some.parts in
    let dirty = bitmap c.in-Some-2.entry_dirty in
    let sized = rw c.in-Some-2.is at c.in_ok-entry_dirty.ensures.read in
    let found = monitor_from c.args.data.now (lent_token parts.token) parts.size parts.rest.now dirty
    (sym c.in-Some.ensures) sized in
    subst (λ (t : TokenValue). IsMonitor c.args.data.now (record { token = t; dirty = dirty }))
    (sym c.in_ok-token.ensures) found

pub returns-in_err-entry_dirty-clause-memory : goal.returns-in_err-entry_dirty-clause-memory
returns-in_err-entry_dirty-clause-memory c =
    let parts = c.in-Some.parts in
    let sized = c.in_err-entry_dirty.ensures.memory in
    at_err c.from_residual.result (has_monitor c.args.data.now
    (lent_token parts.token) parts.size parts.rest.now sized.0 (sym c.in-Some.ensures) sized.1)

pub returns-in_err-token-clause-memory : goal.returns-in_err-token-clause-memory
returns-in_err-token-clause-memory c =
    let parts = c.in-Some.parts in
    let sized = rw c.in-Some-2.is at c.in_ok-entry_dirty.ensures.read in
    at_err c.from_residual-in_err-token.result (has_monitor c.args.data.now (lent_token parts.token) parts.size
    parts.rest.now (bitmap c.in-Some-2.entry_dirty) (sym c.in-Some.ensures) sized)
