use Rattle.std.proofs.Common.{ℕ, List, ◌++◌, ◌∙◌, ap, codes}
use Rattle.std.proofs.lemmas.Result.{on_ok_weaker}
use Rattle.view_json.specs.Names.{as_position}
use Rattle.base_text.proofs.Appended.{two_more}
use Rattle.view_json.specs.Values.{begin_of, begin_with, hex_string, json_string}
use Rattle.view_json.proofs.Strings.{bytes_are, text_is}
use Rattle.view_json.proofs.values.append_text.Goals as goal

pub returns-in_ok-append_begin-in-Ok : goal.returns-in_ok-append_begin-in-Ok
returns-in_ok-append_begin-in-Ok c =
    let old = c.args.text.now.items in
    let position = as_position c.args.position in
    on_ok_weaker c.append_string.result
    (λ h. two_more old c.append_begin.new.text.items c.append_string.new.text.items (begin_of position)
    (json_string c.in-Ok.value.now) c.in_ok-append_begin-in-Ok.ensures h ∙ ap (λ (l : List ℕ). old ++ l)
    (text_is position c.args.bytes.now c.in-Ok.value.now c.in-Ok.ensures.cases.0 c.in-Ok.ensures.cases.1))
    c.append_string.ensures

pub returns-in_ok-append_begin-in-Err : goal.returns-in_ok-append_begin-in-Err
returns-in_ok-append_begin-in-Err c =
    let old = c.args.text.now.items in
    let position = as_position c.args.position in
    on_ok_weaker c.append_bytes.result
    (λ h. two_more old c.append_begin-in-Err.new.text.items c.append_bytes.new.text.items
    (begin_with position (codes "_bytes\":")) (hex_string c.args.bytes.now) c.in_ok-append_begin-in-Err.ensures h
    ∙ ap (λ (l : List ℕ). old ++ l) (bytes_are position c.args.bytes.now c.in-Err.ensures.cases.0))
    c.append_bytes.ensures
