-- What was done on the index that was found, as what the words mean.
use Rattle.std.proofs.Common.{◌≡◌, ℕ, Bool, List, Option, refl, subst}
use Rattle.std.proofs.KnownBytes.{Keeps-refl}
use Rattle.gix_index.specs.Disk.World.{World}
use Rattle.gix_index.specs.Kind.{Kind}
use Rattle.tool_defaults.specs.declared.error.Error.{Error}
use Rattle.tool_defaults.specs.declared.place.Surroundings.{Surroundings}
use Rattle.tool_args.specs.Commands as words
use Rattle.tool_args.specs.Meaning.{Meaning, Runs}
use Rattle.index_tool.specs.Command.{IsCommand, IsFileAndKind, given_of, input_of, on_file}
use Rattle.index_tool.specs.Ending.{IsDone, IsRefused, IsUnfound, ran, refused, unfound}
use Rattle.index_tool.specs.Outcome.{GivesUp, Spares, Succeeds}

module _ (around : Surroundings) (before behind : World) (old new : Option (List ℕ)) (meaning : Meaning)
    (meant : words.CommandValue) (is : meaning ≡ Runs meant) (given : Option Kind) (input : Option words.Place)
    (is_given : given ≡ given_of meant) (is_input : input ≡ input_of meant) where
  module _ (kind : Kind) (path : List ℕ) (found : IsFileAndKind before around given input kind path) where
    command_found : IsCommand before around meant (on_file meant kind path)
    command_found = record {
      kind = kind;
      path = path;
      found = subst (λ i. IsFileAndKind before around (given_of meant) i kind path) is_input
          (subst (λ g. IsFileAndKind before around g input kind path) is_given found);
      is = refl;
    }

    -- If the folder is as before, what was done there is what the arguments mean.
    pub done_there : (alone guards : Bool) (a g : Bool) (there : World) → a ≡ alone → g ≡ guards → there ≡ before
        → Succeeds a g there behind (on_file meant kind path) old new
        → IsDone around alone guards before behind old new meaning
    done_there alone guards a g there is_a is_g is_there h =
        rw is (ran meant (on_file meant kind path) command_found
        (subst (λ w. Succeeds alone guards w behind (on_file meant kind path) old new) is_there
        (subst (λ x. Succeeds alone x there behind (on_file meant kind path) old new) is_g
        (subst (λ x. Succeeds x g there behind (on_file meant kind path) old new) is_a h))))

    pub refused_there : (alone works : Bool) (a w : Bool) (there : World) → a ≡ alone → w ≡ works → there ≡ before
        → GivesUp there (on_file meant kind path) old new → Spares a w there behind (on_file meant kind path)
        → IsRefused around alone works before behind old new meaning
    refused_there alone works a w there is_a is_w is_there gives spares =
        rw is (refused meant (on_file meant kind path) command_found
        (subst (λ x. GivesUp x (on_file meant kind path) old new) is_there gives)
        (subst (λ x. Spares alone works x behind (on_file meant kind path)) is_there
        (subst (λ x. Spares alone x there behind (on_file meant kind path)) is_w
        (subst (λ x. Spares x w there behind (on_file meant kind path)) is_a spares))))

  -- nothing was found, and nothing changed
  pub not_found : (alone works : Bool) (e : Error) → IsUnfound works before around given input e → behind ≡ before
      → IsRefused around alone works before behind old old meaning
  not_found alone works e h stays =
      rw is (unfound meant e (subst (λ i. IsUnfound works before around (given_of meant) i e) is_input
      (subst (λ g. IsUnfound works before around g input e) is_given h)) (Keeps-refl old) stays)
