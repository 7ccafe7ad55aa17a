-- A text is one value at most: its tokens are those of each, and the grammar reads one value of them.
use Rattle.std.proofs.Common.{◌≡◌, ℕ, max, List, [], ◌++◌, append-nil, Option, Some, None, ap, arith, sym, ◌∙◌}
use Rattle.json.proofs.Printed.Trees.{value-json_tokens}
use Rattle.json.proofs.Unique.Spelling.{value-json_tokens_back}
use Rattle.json.specs.Json.{Json, value}
use Rattle.json.specs.Lex.{tokens}
use Rattle.json.specs.Token.{Token}
use Rattle.json.specs.Tree.{depth, json_tokens}
use Rattle.view_json_laws.specs.Reading.{IsJson}

-- the value of an answer
abbrev value_or : Json → Option (Json × List Token) → Json
value_or j None = j
value_or j (Some p) = p.0

same_tokens : (a b : Json) → json_tokens a ≡ json_tokens b → a ≡ b
same_tokens a b e =
    let d = max (depth a) (depth b) in
    ap (value_or a)
    (sym (value-json_tokens a d [] (omega arith)) ∙ ap (λ (ts : List Token). value d (ts ++ [])) e
    ∙ value-json_tokens b d [] (omega arith))

pub one_value : (text : List ℕ) (a b : Json) → IsJson text a → IsJson text b → a ≡ b
one_value text a b x y =
    let p : tokens text ≡ json_tokens a ++ [] = value-json_tokens_back x.0 (tokens text) [] a x.1 in
    let q : tokens text ≡ json_tokens b ++ [] = value-json_tokens_back y.0 (tokens text) [] b y.1 in
    same_tokens a b (sym (append-nil (json_tokens a)) ∙ sym p ∙ q ∙ append-nil (json_tokens b))
