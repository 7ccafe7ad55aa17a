-- What a command states about the output, by the clauses of the call that it makes.
use Rattle.std.proofs.Common.{◌≡◌, ℕ, Bool, false, List, Option, Some, Result, Ok, Err, refl}
use Rattle.std.specs.Prelude.{IfErr, IfOk, OnErr}
use Rattle.std.proofs.KnownBytes.{Keeps-refl}
use Rattle.gix_index.specs.Kind.{Kind}
use Rattle.gix_index.specs.Disk.World.{World}
use Rattle.tool_errors.specs.declared.failure.Failure.{Failure}
use Rattle.tool_errors.specs.Outputs.{FailsOutput, part, untold, whole}
use Rattle.tool_inspect.specs.declared.salvage.Report.{Report}
use Rattle.tool_args.specs.Commands as words
use Rattle.tool_args.specs.declared.command.Reading.{Reading}
use Rattle.tool_args.specs.declared.command.Writing.{Writing}
use Rattle.tool_args.specs.declared.command.Writing.TheVariants as writings
use Rattle.index_tool.specs.Command.{ResolvedCommand, Reads, Writes, on_file}
use Rattle.index_tool.specs.Ending.{reports}
use Rattle.index_tool.specs.Outcome.{Does, GivesUp, IsOutput, IsDamagedOutput, StoresIndex, damaged, nothing, some_of}

module _ (world : World) (Fault : Failure → Type 0) (what : Reading) (kind : Kind) (path : List ℕ)
    (Failed : Type 0) (old new : Option (List ℕ)) where
  telling_gives_up : (f : Failure)
      → FailsOutput (IsOutput what world kind path) (IsDamagedOutput what world kind path) Fault path f Failed old new
      → GivesUp world (Reads what kind path) old new
  telling_gives_up f (part e is cause h) = some_of what kind path refl h
  telling_gives_up f (whole file offset e is names h) = damaged what kind path offset e refl h
  telling_gives_up f (untold h keeps) = nothing keeps

  -- a command that prints, if it failed
  pub telling_refused : (r : Result (Unit {0}) Failure)
      → IfErr r (λ f. FailsOutput (IsOutput what world kind path) (IsDamagedOutput what world kind path) Fault path f Failed old new)
      → OnErr r (GivesUp world (Reads what kind path) old new)
  telling_refused (Ok x) h = tt
  telling_refused (Err f) h = telling_gives_up f h

-- nothing went to the output
pub stored_done : (r : Result (Option Report) Failure) (alone guards : Bool) (before behind : World) (what : Writing)
    (kind : Kind) (path to : List ℕ) (known : Option (List ℕ))
    → IfOk r (StoresIndex what alone guards kind before behind path to)
    → IfOk r (λ report. Does report alone guards before behind (Writes what kind path to) known known)
stored_done (Ok x) alone guards before behind what kind path to known h = (h, Keeps-refl known)
stored_done (Err f) alone guards before behind what kind path to known h = tt

pub stored_refused : (r : Result (Option Report) Failure) (world : World) (command : ResolvedCommand)
    (known : Option (List ℕ)) → OnErr r (GivesUp world command known known)
stored_refused (Ok x) world command known = tt
stored_refused (Err f) world command known = nothing (Keeps-refl known)

-- a report is one of what was saved
pub told_of_saved : (meant : words.CommandValue) (k : Kind) (p : List ℕ) (report : Report) (alone guards : Bool)
    (before behind : World) (old new : Option (List ℕ))
    → Does (Some report) alone guards before behind (on_file meant k p) old new → reports meant ≡ false → ⊥
told_of_saved (words.Reads what given place) k p report alone guards before behind old new does e = absurd cc
told_of_saved (words.Writes (writings.Rewrite keep) given place to) k p report alone guards before behind old new does e =
    absurd cc
told_of_saved (words.Writes (writings.Rewrite4 keep) given place to) k p report alone guards before behind old new does e =
    absurd cc
told_of_saved (words.Writes (writings.RewriteTrees missing_ok) given place to) k p report alone guards before behind old
    new does e = absurd cc
told_of_saved (words.Writes (writings.Update nul) given place to) k p report alone guards before behind old new does e =
    absurd cc
told_of_saved (words.Writes (writings.Salvage all) given place to) k p report alone guards before behind old new does e =
    absurd cc
