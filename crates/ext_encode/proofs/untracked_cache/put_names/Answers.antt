use Rattle.std.proofs.Common.{◌++◌, ◌∷◌, [], take, drop, suc, ℕ, List, ◌∙◌, sym, ap}
use Rattle.bstr.specs.Owned.{bstring_bytes}
use Rattle.bstr.specs.declared.bstring.BString.{BString}
use Rattle.std.specs.List.{flat_map}
use Rattle.index_parts.proofs.Puts.{puts_is, puts_stopped_after}
use Rattle.index_parts.proofs.Taking.{flat_map_at}
use Rattle.ext_encode.proofs.untracked_cache.put_names.Goals as goal

pub returns-in_err-put_text : goal.returns-in_err-put_text
returns-in_err-put_text g c =
    let names = c.args.names.now in
    let i = c.loop-name.name-index in
    let f : BString → List ℕ = λ name. bstring_bytes name ++ 0 ∷ [] in
    let whole = ap (λ d. (flat_map f (take i names) ++ f d) ++ flat_map f (drop (suc i) names)) c.name-item.is
    ∙ sym (flat_map_at f names i c.name-item.result c.loop-name-test.true) in
    puts_stopped_after c.from_residual.result _ c.from_residual.ensures.0 whole c.loop-name.invariant.so_far
    c.loop-name.invariant.loan
    (puts_is _ (ap (λ l. l ++ 0 ∷ []) c.as_bytes.ensures) c.in_err-put_text.ensures)
