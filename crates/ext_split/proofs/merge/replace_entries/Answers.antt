use Rattle.std.proofs.Common.{rules, arith, ◌∷◌, [], refl, sym, ap, ◌∙◌, Result, ℕ}
use Rattle.std.proofs.lemmas.Result.{err_from_is_err_and}
use Rattle.ext_bitmap.specs.UnpackingSteps.{items_left}
use Rattle.ext_bitmap.specs.declared.ewah.iter.Malformed.{Malformed}
use Rattle.ext_split.proofs.MergeLoops.{IsReplacing}
use Rattle.entry_list.specs.Record.{records_in}
use Rattle.ext_split.proofs.Candidates.{no_candidates}
use Rattle.ext_split.proofs.Merging.{says_weaker, replacing_step, replacing_fault, replacing_broken, replacing_done}
use Rattle.ext_split.proofs.merge.replace_entries.Goals as goal

pub loop-position-init : goal.loop-position-init
loop-position-init c =
    let run : IsReplacing c.args.replace.now.words.items (records_in c.args.storage.now c.args.shared.now.items)
    (records_in c.args.split_storage.now c.args.split.now) (items_left c.positions-positions.result) 0
    (records_in c.args.storage.now c.args.shared.now.items) =
    record {
      seen = [];
      listed = c.positions-positions.ensures.places;
      ascending =
          c.positions-positions.ensures.ascending;
      sound = refl;
      number = refl;
      replaced = sym (no_candidates (records_in
          c.args.split_storage.now c.args.split.now) 0 (records_in c.args.storage.now c.args.shared.now.items));
    } in
    (search rules, search rules, run, λ len placed. placed, omega arith)

pub loop-position-preserved : goal.loop-position-preserved
loop-position-preserved c =
    let rest = items_left c.next.new.self in
    let inv = c.loop-position.invariant in
    let step = c.in-Some.ensures.steps ∙ ap (λ (x : Result ℕ Malformed). x ∷ rest) c.in-Ok.is in
    let done = c.in_ok-replace_at.ensures in (
      search rules,
      search rules,
      replacing_step _ _ _ _ rest _ _ inv.2 c.in-Ok.place _ step done.sound done.replaced,
      λ len placed. done.placed len (inv.3 len placed),
      omega (arith, done.in_range),
    )

pub returns : goal.returns
returns c = record {
  replaced = replacing_done _ _ _ _ [] _ _ c.loop-position.invariant.2 c.in_default.ensures.steps.0;
  few = search rules;
  placed = search rules;
  fault = search rules;
}

pub returns-in_default-position : goal.returns-in_default-position
returns-in_default-position c =
    let rest = items_left c.next.new.self in
    let step = c.in-Some.ensures.steps ∙ ap (λ (x : Result ℕ Malformed). x ∷ rest) c.in_default-position.is in
    record {
      replaced = search rules;
      few = search rules;
      placed = search rules;
      fault = replacing_broken _ _ _ _ rest _ _ c.loop-position.invariant.2 _ step;
    }

pub returns-in_err-replace_at : goal.returns-in_err-replace_at
returns-in_err-replace_at c =
    let rest = items_left c.next.new.self in
    let step = c.in-Some.ensures.steps ∙ ap (λ (x : Result ℕ Malformed). x ∷ rest) c.in-Ok.is in
    let p = err_from_is_err_and c.from_residual.result c.from_residual.ensures.1 in
    record {
      replaced = rw p.1 tt;
      few = rw p.1 tt;
      placed = rw p.1 tt;
      fault = rw (p.1, p.2) (says_weaker c.in_err-replace_at.field-0.0 _ _ (λ fault h. replacing_fault _ _ _ _ rest _ _
          c.loop-position.invariant.2 c.in-Ok.place fault step h) c.in_err-replace_at.ensures.fault);
    }
