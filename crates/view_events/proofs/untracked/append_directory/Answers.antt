use Rattle.std.proofs.Common.{List, ℕ, ◌∙◌, ap, length, sym}
use Rattle.std.proofs.lemmas.List.{length-map}
use Rattle.bstr.specs.Owned.{bstring_bytes}
use Rattle.ext_untracked.specs.Blocks.{directory_value}
use Rattle.view_events.specs.Event.{listed}
use Rattle.view_events.specs.Untracked.{cached_events, name_events, subdirectory_events}
use Rattle.view_events.proofs.Steps.{end_one, then_all, then_one}
use Rattle.view_events.proofs.untracked.append_directory.Goals as goal

pub returns : goal.returns
unfolding cached_events
returns g c =
    let spell = g.P.Printer.spell in
    let r = c.put-7.result in
    let new = c.put-7.new.text.bytes.items in
    let d = directory_value c.args.directory.now in
    let many = sym (length-map c.untracked_entries-names.result.now bstring_bytes)
    ∙ ap (λ (ns : List (List ℕ)). length ns) c.untracked_entries-names.ensures in
    (then_one spell r new c.in_ok-put.ensures
    (then_one spell r new c.in_ok-put-2.ensures
    (then_one spell r new (rw many at c.in_ok-put-3.ensures)
    (then_all spell r new (listed name_events d.untracked)
    (rw c.untracked_entries-names.ensures at c.in_ok-append_names.ensures)
    (then_one spell r new c.in_ok-put-4.ensures
    (then_one spell r new (rw c.sub_directories-places.ensures at c.in_ok-put-5.ensures)
    (then_all spell r new (listed subdirectory_events d.subs)
    (rw c.sub_directories-places.ensures at c.in_ok-append_places.ensures)
    (then_one spell r new c.in_ok-put-6.ensures
    (end_one spell r new _ _ c.put-7.ensures))))))))).is
