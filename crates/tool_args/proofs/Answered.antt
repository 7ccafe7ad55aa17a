-- What the answer of an error contains.
use Rattle.std.proofs.Common.{◌≡◌, ◌∙◌, ap, refl, sym, Bool, true, false, inl, inr, true≢false, [], ◌∷◌, subst}
use Rattle.clap.specs.Kinds.{HasKind, IsAmong, Kinds}
use Rattle.clap.specs.Values.{kind_of}
use Rattle.clap.specs.declared.error.Error.{Error}
use Rattle.clap.specs.declared.error.kind.ErrorKind.{ErrorKind}
use Rattle.clap.specs.declared.error.kind.ErrorKind.TheVariants as kind
use Rattle.tool_args.specs.Answers.{Answers, answer_by, answer_of}
use Rattle.tool_args.specs.Meaning.{Meaning, Runs, Says, unless_faulty}
use Rattle.tool_args.specs.declared.answer.Answer.{Answer}
use Rattle.tool_args.specs.declared.answer.Answer.TheVariants as answers

abbrev is_mistake : ErrorKind → Bool
is_mistake kind.DisplayHelp = false
is_mistake kind.DisplayVersion = false
is_mistake kind.OutOfMemory = false
is_mistake _ = true

abbrev is_memory : ErrorKind → Bool
is_memory kind.OutOfMemory = true
is_memory _ = false

-- a usage error has the answer of one
wrong : (k : ErrorKind) (kinds : Kinds) (e : Error) → is_mistake k ≡ true → kind_of e ≡ k → HasKind kinds e
    → Answers (Says kinds) (answers.WrongWords e)
wrong k kinds e mistake is (inl memory) = absurd (true≢false (sym mistake ∙ ap is_mistake (sym is ∙ memory)))
wrong k kinds e mistake is (inr among) =
    (λ help. true≢false (sym mistake ∙ ap is_mistake (sym is ∙ help)), λ version. true≢false (sym mistake ∙ ap is_mistake (sym is ∙ version)), among)

by_kind : (k : ErrorKind) (kinds : Kinds) (e : Error) → kind_of e ≡ k → HasKind kinds e → Answers (Says kinds) (answer_by k e)
by_kind kind.DisplayHelp kinds e is (inl memory) = absurd (true≢false (sym (ap is_memory (sym is ∙ memory))))
by_kind kind.DisplayHelp kinds e is (inr among) = (is, subst (λ k. IsAmong k kinds) is among)
by_kind kind.DisplayVersion kinds e is (inl memory) = absurd (true≢false (sym (ap is_memory (sym is ∙ memory))))
by_kind kind.DisplayVersion kinds e is (inr among) = (is, subst (λ k. IsAmong k kinds) is among)
by_kind kind.OutOfMemory kinds e is h = tt
by_kind kind.InvalidValue kinds e is h = wrong kind.InvalidValue kinds e refl is h
by_kind kind.UnknownArgument kinds e is h = wrong kind.UnknownArgument kinds e refl is h
by_kind kind.InvalidSubcommand kinds e is h = wrong kind.InvalidSubcommand kinds e refl is h
by_kind kind.NoEquals kinds e is h = wrong kind.NoEquals kinds e refl is h
by_kind kind.ValueValidation kinds e is h = wrong kind.ValueValidation kinds e refl is h
by_kind kind.TooManyValues kinds e is h = wrong kind.TooManyValues kinds e refl is h
by_kind kind.TooFewValues kinds e is h = wrong kind.TooFewValues kinds e refl is h
by_kind kind.WrongNumberOfValues kinds e is h = wrong kind.WrongNumberOfValues kinds e refl is h
by_kind kind.ArgumentConflict kinds e is h = wrong kind.ArgumentConflict kinds e refl is h
by_kind kind.MissingRequiredArgument kinds e is h = wrong kind.MissingRequiredArgument kinds e refl is h
by_kind kind.MissingSubcommand kinds e is h = wrong kind.MissingSubcommand kinds e refl is h
by_kind kind.DisplayHelpOnMissingArgumentOrSubcommand kinds e is h = wrong kind.DisplayHelpOnMissingArgumentOrSubcommand kinds e refl is h
by_kind kind.Io kinds e is h = wrong kind.Io kinds e refl is h
by_kind kind.Format kinds e is h = wrong kind.Format kinds e refl is h

-- the answer of a parse's error has the usage error of the arguments
pub says_fault : (kinds : Kinds) (e : Error) → HasKind kinds e → Answers (Says kinds) (answer_of e)
says_fault kinds e h = by_kind (kind_of e) kinds e refl h

-- if there is no usage error, the only answer is that memory ran out
memory_alone : (answer : Answer) (meaning : Meaning) → Answers (Says []) answer → Answers meaning answer
memory_alone answers.OutOfMemory (Runs command) h = refl
memory_alone answers.OutOfMemory (Says kinds) h = tt
memory_alone (answers.Help e) meaning h = absurd h.1
memory_alone (answers.Version e) meaning h = absurd h.1
memory_alone (answers.WrongWords e) meaning h = absurd h.2

pub says_meaning : (kinds : Kinds) (meaning : Meaning) (answer : Answer) → Answers (Says kinds) answer
    → Answers (unless_faulty kinds meaning) answer
says_meaning [] meaning answer h = memory_alone answer meaning h
says_meaning (kind ∷ kinds) meaning answer h = h
