use Rattle.std.proofs.Common.{◌∙◌, List, ap, map, refl, subst, sym}
use Rattle.ext_small.specs.declared.resolve_undo.ResolvePath.{ResolvePath}
use Rattle.ext_small.specs.ResolveUndo.{path_stages}
use Rattle.entry_edit.specs.EditSteps.{entry_record}
use Rattle.index_edit.specs.Recorded.{with_side}
use Rattle.index_edit.specs.RecordingSteps.{IsHere, IsOther, IsPlaceFor}
use Rattle.index_edit.specs.Rising.{ArePathsRising}
use Rattle.index_edit.proofs.Recordings.{recorded_between, recorded_over}
use Rattle.index_edit.proofs.recording.record_side.Goals as goal

pub place_for-place-requires : goal.place_for-place-requires
place_for-place-requires c = λ t. subst (λ (l : List ResolvePath). ArePathsRising (map path_stages l))
    (sym c.deref.ensures.value) (c.requires.rising t)

pub returns-then-is_there : goal.returns-then-is_there
returns-then-is_there c =
    let path = c.args.path.now in
    let entry = c.args.entry.now in
    let xs = c.args.paths.now.items in
    let i = c.place_for-place.result in
    let d = c.index_mut.result.now in
    let place = subst (λ (l : List ResolvePath). IsPlaceFor path_stages path l i) c.deref.ensures.value c.place_for-place.ensures in
    let there = subst (λ (l : List ResolvePath). IsHere path_stages path l i) c.deref-2.ensures.value
    (c.if-is_there.ensures.there refl) in
    let name = ap (λ (x : ResolvePath). (path_stages x).name) c.index_mut.ensures.value ∙ there.1 d in
    recorded_over path_stages (entry_record path entry) d c.put_side.new.path xs i place there (c.put_side.ensures
    ∙ ap (λ n. with_side (entry_record n entry) (path_stages d)) name
    ∙ ap (λ (x : ResolvePath). with_side (entry_record path entry) (path_stages x)) c.index_mut.ensures.value)

pub returns : goal.returns
returns c =
    let path = c.args.path.now in
    let xs = c.args.paths.now.items in
    let i = c.place_for-place.result in
    let place = subst (λ (l : List ResolvePath). IsPlaceFor path_stages path l i) c.deref.ensures.value c.place_for-place.ensures in
    let made = c.put_side-2.ensures ∙ ap (λ p. with_side (entry_record p.name c.args.entry.now) p) c.in_ok-made.ensures
    in
    let other = subst (λ (l : List ResolvePath). IsOther path_stages path l i) c.deref-2.ensures.value
    (c.if-is_there.ensures.other refl) in
    ap (map path_stages) c.in_ok-insert.ensures.items
    ∙ recorded_between path_stages (entry_record path c.args.entry.now) c.put_side-2.new.path xs i place other made
