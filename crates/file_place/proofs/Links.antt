-- What symbolic links lead to, one after another.
use Rattle.std.proofs.Common.{◌≡◌, ◌≢◌, ◌+◌, ◌<◌, ℕ, List, [], refl, ap, subst, ◌∙◌, arith, inl, inr}
use Rattle.std.specs.Prelude.{◌⊎◌}
use Rattle.std.specs.Path.{path_with_file_name}
use Rattle.file_place.specs.Locks.{IsLinkChain, LeadsTo, MayEnd, Meets, on}
use Rattle.file_place.specs.World.{Absent, Directory, Holds, IsSeen, Known, Leads, MayBeNoLink, MayLead, Special, Unknown}
use Rattle.file_place.specs.World.{World}
use Rattle.file_place.specs.declared.folder.Standing.{Standing}
use Rattle.file_place.specs.declared.folder.Standing.TheVariants as standings

seen_file : (k : Known) → IsSeen k standings.File → MayEnd k
seen_file Unknown e = tt
seen_file Absent e = tt
seen_file (Holds file) e = tt
seen_file (Leads to) e = absurd cc
seen_file Directory e = absurd cc
seen_file Special e = absurd cc

file_is_there : (k : Known) → IsSeen k standings.File → k ≢ Absent
file_is_there Unknown h e = absurd cc
file_is_there Absent h e = absurd cc
file_is_there (Holds file) h e = absurd cc
file_is_there (Leads to) h e = absurd cc
file_is_there Directory h e = absurd cc
file_is_there Special h e = absurd cc

seen_nothing : (k : Known) → IsSeen k standings.Nothing → MayEnd k
seen_nothing Unknown e = tt
seen_nothing Absent e = tt
seen_nothing (Holds file) e = tt
seen_nothing (Leads to) e = absurd cc
seen_nothing Directory e = absurd cc
seen_nothing Special e = absurd cc

-- what is seen as a link, and may be none, isn't known
seen_link : (k : Known) → IsSeen k standings.Link → MayBeNoLink k → k ≡ Unknown
seen_link Unknown e may = refl
seen_link Absent e may = absurd cc
seen_link (Holds file) e may = absurd cc
seen_link (Leads to) e may = absurd (may to refl)
seen_link Directory e may = absurd cc
seen_link Special e may = absurd cc

module _ (world : World) (path target seen : List ℕ) (links : ℕ) (follows : IsLinkChain world path links target)
    (e : seen ≡ target) where
  pub meets : (s standing : Standing) → s ≡ standing → links < 6 → IsSeen (world seen) s
      → Meets world path standing links target
  meets s standing is few h = record {
    few = omega (arith, few);
    follows = follows;
    seen = subst (IsSeen (world target)) is (subst (λ (x : List ℕ). IsSeen (world x) s) e h);
  }

  pub ends_at_file : (s : Standing) → s ≡ standings.File → links < 6 → IsSeen (world seen) s
      → LeadsTo world 5 path target
  ends_at_file s is few h =
      let m = meets s standings.File is few h in
      record {
        links = links;
        few = m.few;
        follows = follows;
        ends = seen_file (world target) m.seen;
        nowhere = λ e. absurd (file_is_there (world target) m.seen e);
      }

  pub ends_at_nothing : (s : Standing) → s ≡ standings.Nothing → links < 6 → links ≡ 0 → IsSeen (world seen) s
      → LeadsTo world 5 path target
  ends_at_nothing s is few none h =
      let m = meets s standings.Nothing is few h in
      record {
        links = links;
        few = m.few;
        follows = follows;
        ends = seen_nothing (world target) m.seen;
        nowhere = λ _. none;
      }

  pub leads_on : (text next : List ℕ) → MayLead (world seen) text → next ≡ path_with_file_name seen text
      → IsLinkChain world path (links + 1) next
  leads_on text next may is =
      subst (λ (n : ℕ). IsLinkChain world path n next) (omega arith) (on links target text next follows
      (subst (λ (x : List ℕ). MayLead (world x) text) e may)
      (is ∙ ap (λ (x : List ℕ). path_with_file_name x text) e))

  -- the text of a link can't be read only if memory runs out, or if others may have changed it
  pub untold : {Memory : Type 0} (s : Standing) → s ≡ standings.Link → links < 6 → IsSeen (world seen) s
      → Memory ⊎ MayBeNoLink (world seen) → Memory ⊎ ((path ≡ []) ⊎ (world target ≡ Unknown))
  untold s is few h (inl m) = inl m
  untold s is few h (inr may) = inr (inr (seen_link (world target) (meets s standings.Link is few h).seen
      (subst (λ (x : List ℕ). MayBeNoLink (world x)) e may)))
