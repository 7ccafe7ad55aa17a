-- What is printed instead of running a command: an answer has what the arguments mean.
use Rattle.std.proofs.Common.{◌≡◌, ◌∙◌, ◌⊎◌, ℕ, Bool, true, false, List, Option, ap, inl, inr, refl, subst, sym, true≢false}
use Rattle.std.specs.Io.KnownBytes.{Keeps}
use Rattle.gix_index.specs.Disk.World.{World}
use Rattle.clap.specs.Values.{kind_of}
use Rattle.tool_defaults.specs.declared.place.Surroundings.{Surroundings}
use Rattle.tool_args.specs.Answers.{Answers, is_asked_for}
use Rattle.tool_args.specs.Meaning.{Meaning, Runs, Says}
use Rattle.tool_args.specs.declared.answer.Answer.{Answer}
use Rattle.tool_args.specs.declared.answer.Answer.TheVariants as answers
use Rattle.index_tool.specs.Ending.{AreAsked, AreWrong, IsDone, IsRefused, IsWrong, told, unread, untold}

-- one that was asked for is what the words ask for
asked_for : (meaning : Meaning) (answer : Answer) → Answers meaning answer → is_asked_for answer ≡ true
    → (P : Meaning → Type 0) → ((kinds : _) → AreAsked kinds → P (Says kinds)) → P meaning
asked_for (Says kinds) (answers.Help e) h asked P so = so kinds (inl h.1)
asked_for (Says kinds) (answers.Version e) h asked P so = so kinds (inr h.1)
asked_for (Says kinds) (answers.WrongWords e) h asked P so = absurd (true≢false (sym asked))
asked_for (Says kinds) answers.OutOfMemory h asked P so = absurd (true≢false (sym asked))
asked_for (Runs command) answer h asked P so = absurd (true≢false (sym asked ∙ ap is_asked_for h))

module _ (around : Surroundings) (alone : Bool) (before behind : World) (old new : Option (List ℕ)) (meaning : Meaning)
    (answer : Answer) (says : Answers meaning answer) (stays : behind ≡ before) where
  pub said_done : (guards : Bool) → is_asked_for answer ≡ true → IsDone around alone guards before behind old new meaning
  said_done guards asked =
      asked_for meaning answer says asked (IsDone around alone guards before behind old new)
      (λ kinds are. told kinds are stays)

  pub said_refused : (works : Bool) → (is_asked_for answer ≡ false → Keeps old new)
      → ((is_asked_for answer ≡ true) ⊎ (answer ≡ answers.OutOfMemory))
      → IsRefused around alone works before behind old new meaning
  said_refused works keeps (inl asked) =
      asked_for meaning answer says asked (IsRefused around alone works before behind old new)
      (λ kinds are. untold kinds are stays)
  said_refused works keeps (inr memory) = unread meaning (keeps (ap is_asked_for memory)) stays

-- the answer to a usage error has one of the arguments' usage errors
pub said_wrong : (meaning : Meaning) (answer : Answer) → Answers meaning answer → IsWrong answer → AreWrong meaning
said_wrong (Says kinds) (answers.WrongWords e) h wrong = (kind_of e, h.2, h.0, h.1)
said_wrong (Says kinds) (answers.Help e) h wrong = absurd wrong
said_wrong (Says kinds) (answers.Version e) h wrong = absurd wrong
said_wrong (Says kinds) answers.OutOfMemory h wrong = absurd wrong
said_wrong (Runs command) answer h wrong = absurd (subst IsWrong h wrong)

-- it isn't what was asked for
pub wrong_unasked : (answer : Answer) → IsWrong answer → is_asked_for answer ≡ false
wrong_unasked (answers.WrongWords e) wrong = refl
wrong_unasked (answers.Help e) wrong = absurd wrong
wrong_unasked (answers.Version e) wrong = absurd wrong
wrong_unasked answers.OutOfMemory wrong = absurd wrong
