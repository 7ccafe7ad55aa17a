use Rattle.std.proofs.Common.{◌≡◌, ◌∙◌, ap, sym, refl, subst, true, map}
use Rattle.std.proofs.lemmas.Result.{err_from_is_err_and}
use Rattle.clap.proofs.OnLiterals.{clap_on_literals}
use Rattle.clap.specs.Faults.{fault_of, is_simple_and_free}
use Rattle.clap.specs.Kinds.{HasKind}
use Rattle.clap.specs.Simple.{App, app_of, is_simple, subcommand_of}
use Rattle.tool_args.specs.Table.{program}
use Rattle.tool_args.proofs.Answered.{says_fault}
use Rattle.tool_args.proofs.words.match_arguments.Goals as goal

free_program : is_simple_and_free program ≡ true
unfolding clap_on_literals
free_program = refl

simple_program : is_simple program ≡ true
unfolding clap_on_literals
simple_program = refl

pub returns-in_err-try_get_matches_from : goal.returns-in_err-try_get_matches_from
returns-in_err-try_get_matches_from g c =
    let words = map g.S.AsStr.text c.args.words.now in
    let is : app_of c.in_ok-program.field-0 ≡ program = c.in_ok-program.ensures in
    let fault = subst (λ (a : App). HasKind (fault_of a words) c.in_err-try_get_matches_from.field-0.0) is
    (c.in_err-try_get_matches_from.ensures.kinds (ap is_simple_and_free is ∙ free_program)) in
    let p = err_from_is_err_and c.from_residual-in_err-try_get_matches_from.result c.from_residual-in_err-try_get_matches_from.ensures.1 in
    rw (p.1, p.2) (record { fault = tt; matches = tt; answer = says_fault _ _ fault })

pub returns : goal.returns
returns g c =
    let words = map g.S.AsStr.text c.args.words.now in
    let is : app_of c.in_ok-program.field-0 ≡ program = c.in_ok-program.ensures in
    record {
      fault = sym (ap (λ (a : App). fault_of a words) is)
          ∙ c.in_ok-try_get_matches_from.ensures.kinds (ap is_simple_and_free is ∙ free_program);
      matches = (c.in_ok-try_get_matches_from.ensures.matches (ap is_simple is ∙ simple_program)).1
          ∙ ap (λ (a : App). subcommand_of a words) is;
      answer = tt;
    }
