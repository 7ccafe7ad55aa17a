use Rattle.std.proofs.Common.{◌≡◌, ◌∙◌, ◌∷◌, ◌++◌, [], Option, Some, None, ap, codes, option_map, subst, sym}
use Rattle.clap.specs.Matches.{found_of}
use Rattle.clap.specs.Walk.{Text, first_of, rows_of}
use Rattle.tool_args.specs.Answers.{Answers}
use Rattle.tool_args.specs.Meaning.{help_meant, optional_argument}
use Rattle.tool_args.proofs.words.help.Goals as goal

pub returns-in-Some : goal.returns-in-Some
returns-in-Some c =
    let name : Some c.in-Some.name.now ≡ first_of (codes "COMMAND") (rows_of (found_of c.args.given.now)) =
    sym (ap (option_map (λ w. w.now)) c.in-Some.is) ∙ c.word_of.ensures in
    subst (λ (o : Option Text). Answers (help_meant (optional_argument o [] ++ codes "--help" ∷ [])) c.help_by.result) name c.help_by.ensures

pub returns-in-None : goal.returns-in-None
returns-in-None c =
    let name : None ≡ first_of (codes "COMMAND") (rows_of (found_of c.args.given.now)) =
    sym (ap (option_map (λ w. w.now)) c.in-None.is) ∙ c.word_of.ensures in
    subst (λ (o : Option Text). Answers (help_meant (optional_argument o [] ++ codes "--help" ∷ []))
    c.help_by-in-None.result) name
    c.help_by-in-None.ensures
