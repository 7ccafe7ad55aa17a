use Rattle.std.proofs.Common.{List, [], ◌∷◌, ◌++◌, ◌∙◌, ap}
use Rattle.json.specs.Token.{Token, string}
use Rattle.view_json.proofs.Strings.{string_after}
use Rattle.view_json.proofs.values.append_escaped.Goals as goal

pub returns : goal.returns
returns c =
    string_after c.args.text.now.items c.string.new.self.before c.into_inner.result.items
    c.args.value.now c.string.new.self.tokens
    (c.in_ok-string.ensures.room.0 ∙ c.new-writer.ensures.before ∙ ap (λ v. v.items) c.replace.ensures.value)
    (c.in_ok-string.ensures.ok
    ∙ ap (λ (ts : List Token). ts ++ string c.args.value.now ∷ []) c.new-writer.ensures.tokens)
    c.into_inner.ensures.items
