use Rattle.std.proofs.Common.{refl}
use Rattle.std.proofs.lemmas.Result.{err_from_is_err_and}
use Rattle.gix_index.specs.File.{state_of}
use Rattle.tool_edit.proofs.Endings.{kept_on_ok, sound_counted}
use Rattle.tool_edit.proofs.check.verify_contents.Goals as goal

pub look_at_each-requires : goal.look_at_each-requires
look_at_each-requires c = rw c.deref.ensures at c.in_default.ensures.by_path

pub returns-in_err-look_at_each : goal.returns-in_err-look_at_each
returns-in_err-look_at_each c =
    let p = err_from_is_err_and c.from_residual.result c.from_residual.ensures.1 in
    rw (p.1, p.2) (record {
      ordered = tt;
      tree = tt;
      right = tt;
      strict = tt;
      fault = c.in_err-look_at_each.ensures.fault;
    })

pub returns : goal.returns
returns c = record {
  ordered = kept_on_ok c.compare_trees.result (rw c.deref.ensures at (c.in_default.ensures.ok.0 refl));
  tree = kept_on_ok c.compare_trees.result (sound_counted (state_of c.args.index.now)
      (rw c.deref-2.ensures at ((c.in_default-verify_extensions.ensures.sound refl).0 refl)));
  right = c.compare_trees.ensures.right;
  strict = kept_on_ok c.compare_trees.result c.in_ok-look_at_each.ensures.sound;
  fault = c.compare_trees.ensures.fault;
}
