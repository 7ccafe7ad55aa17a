use Rattle.std.proofs.Common.{rules, ◌≡◌, ◌≢◌, ◌++◌, Bool, false, true, inr, subst, sym}
use Rattle.std.specs.Path.{path_bytes}
use Rattle.std.specs.Prelude.{codes, is_some}
use Rattle.file_place.specs.World.{Absent, Makes}
use Rattle.file_place.proofs.Worlds.{by_known, made, none_of, some_there}
use Rattle.file_place.specs.Shelf.{kept_at, world_by}
use Rattle.file_place.proofs.shelf.ShelfFolder.make.Goals as goal

pub returns-then-contains_key : goal.returns-then-contains_key
returns-then-contains_key c =
    let kept = kept_at c.args.self.now in
    let path = path_bytes c.args.path in
    let there : is_some (kept path) ≡ true = search rules in
    record {
      made = tt;
      empty = tt;
      unmade = search rules;
      taken = λ _. by_known (λ k. k ≢ Absent) c.args.self.now.is_alone (kept (path ++ codes ".lock")) (kept path)
          (λ e. absurd cc) (some_there (kept path) there);
      fault = λ _. inr (search rules);
      alone = search rules;
      works = search rules;
    }

pub returns : goal.returns
returns c =
    let old = kept_at c.args.self.now in
    let new = kept_at c.keep.new.self in
    let path = path_bytes c.args.path in
    let free : is_some (old path) ≡ false = search rules in
    record {
      made = subst (λ (b : Bool). Makes true (world_by c.args.self.now.is_alone old) (world_by b new) path)
          (sym c.in_ok-keep.ensures.alone)
          (made true c.args.self.now.is_alone old new path _ (none_of (old path) free) c.in_ok-keep.ensures.here
          c.in_ok-keep.ensures.others);
      empty = search rules;
      unmade = tt;
      taken = tt;
      fault = λ _. tt;
      alone = search rules;
      works = search rules;
    }
