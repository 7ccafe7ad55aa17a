use Rattle.std.proofs.Common.{◌≡◌, ◌-◌, true, false, sym, ◌∙◌, arith}
use Rattle.std.specs.Prelude.{codes}
use Rattle.std.specs.Str.{bytes_eq}
use Rattle.entry_info.specs.Quoting.{unquoted}
use Rattle.entry_info.proofs.Unquoting.{closed, no_more, one_more, unclosed}
use Rattle.entry_info.proofs.quoting.unquoted.Goals as goal

pub loop-byte-preserved : goal.loop-byte-preserved
loop-byte-preserved c =
    let less = c.in-Some.ensures.less in
    record {
      room = c.loop-byte.invariant.room - 1;
      fits = omega (arith, less, c.loop-byte.invariant.fits);
      comes = rw c.in_ok-push.ensures.items
          (one_more c.loop-byte.invariant.room c.loop-byte.rest.now c.in-Some.behind.now c.loop-byte.path.items
          c.in-Some.byte (unquoted c.args.text.now) (sym c.in-Some.ensures.front) less c.loop-byte.invariant.fits
          c.loop-byte.invariant.comes);
    }

pub returns-then-eq : goal.returns-then-eq
returns-then-eq c =
    let path = c.loop-byte.path.items in
    let e = no_more c.loop-byte.invariant.room c.loop-byte.rest.now path (unquoted c.args.text.now)
    (sym c.in_default.ensures.front) c.loop-byte.invariant.comes in
    let t : bytes_eq c.loop-byte.rest.now (codes "\"") ≡ true = cc in
    sym (closed c.loop-byte.rest.now path t) ∙ e

pub returns : goal.returns
returns c =
    let path = c.loop-byte.path.items in
    let e = no_more c.loop-byte.invariant.room c.loop-byte.rest.now path (unquoted c.args.text.now)
    (sym c.in_default.ensures.front) c.loop-byte.invariant.comes in
    let t : bytes_eq c.loop-byte.rest.now (codes "\"") ≡ false = cc in
    sym (unclosed c.loop-byte.rest.now path t) ∙ e
