use Rattle.std.proofs.Common.{ℕ, Bool, List, Option, ◌++◌, ◌∙◌, ap, codes}
use Rattle.std.proofs.lemmas.Result.{on_ok_weaker}
use Rattle.entry_fields.specs.declared.entry.stat.Stat.{Stat}
use Rattle.index_parts.specs.declared.hash.ObjectId.{ObjectId}
use Rattle.base_text.proofs.Appended.{two_more}
use Rattle.view_events.specs.declared.event.Datum.TheVariants.{Answer, Id}
use Rattle.view_json.specs.Json.{datum_value, directory_members, optional_stat}
use Rattle.view_json.specs.Names.{first, next}
use Rattle.view_json.specs.Values.{begin_of, text_value}
use Rattle.view_json.proofs.untracked.append_facts.Goals as goal

pub returns : goal.returns
unfolding directory_members
returns c =
    let old = c.args.text.now.items in
    let named = c.append_text.new.text.items in
    let dated = c.append_optional_stat.new.text.items in
    let known = c.append_datum.new.text.items in
    let new = c.append_datum-2.new.text.items in
    on_ok_weaker c.append_datum-2.result
    (λ h. two_more old known new _ _
    (two_more old dated known _ _
    (two_more old named dated _ _
    (c.in_ok-append_text.ensures
    ∙ ap (λ (name : List ℕ). old ++ text_value (first (codes "name")) name) c.name.ensures)
    (c.in_ok-append_optional_stat.ensures
    ∙ ap (λ (s : Option Stat). named ++ (begin_of (next (codes "stat")) ++ optional_stat s)) c.stat.ensures))
    (c.in_ok-append_datum.ensures
    ∙ ap (λ (id : Option ObjectId). dated ++ (begin_of (next (codes "exclude_file_oid")) ++ datum_value (Id id)))
    c.exclude_file_oid.ensures))
    (h ∙ ap (λ (b : Bool). known ++ (begin_of (next (codes "check_only")) ++ datum_value (Answer b)))
    c.check_only.ensures))
    c.append_datum-2.ensures
