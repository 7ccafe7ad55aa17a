-- Whether a cache tree matches what the entries give, by the result of comparing both.
use Rattle.std.proofs.Common.{◌≡◌, ◌≢◌, ◌<◌, ◌^◌, List, [], ◌∷◌, ◌++◌, All, length, false, Option, Some, None, inl}
use Rattle.std.proofs.Common.{inr, refl, sym, subst}
use Rattle.std.specs.Prelude.{IfSome, MatchOption}
use Rattle.std.proofs.lemmas.List.Elements.{All-head, All-tail}
use Rattle.gix_index.specs.Contents.{Contents}
use Rattle.gix_index.specs.Edits.{with_cached_tree}
use Rattle.gix_index.specs.Kind.{Kind}
use Rattle.gix_index.specs.Record.{Record}
use Rattle.gix_index.specs.Refusals.{AreFit, AreRefused, TreesFaultCause}
use Rattle.gix_index.specs.Staged.{merged_in}
use Rattle.gix_index.specs.Tree.{Node}
use Rattle.gix_index.specs.TreeIds.{AreRight, IsFirstWrongSpot, IsRight, TreeIdsCause, Spot, any_name, spots}
use Rattle.gix_index.specs.TreeIdsError.{Error}
use Rattle.gix_index.specs.TreeIdsError.TheVariants as errors
use Rattle.gix_index.specs.WriteTreesError.{Error as TreesError}
use Rattle.gix_index.specs.WriteTreesError.TheVariants as trees
use Rattle.capi_table.specs.Faults.{wants_memory}
use Rattle.capi_table.specs.Overwriting.{IsWrongTree, KeepsThis, KeepsTree}
use Rattle.capi_table.specs.declared.over.CachedTree.{CachedTree}
use Rattle.capi_table.specs.declared.over.CachedTree.TheVariants.{Kept, LeftOut}

-- by what the cached tree is
pub keeps_by : (o : Option Node) (v w : Contents) (tree : CachedTree) → v.extensions.tree ≡ o → KeepsThis o v tree w
    → KeepsTree v tree w
keeps_by o v w tree e h = subst (λ (x : Option Node). KeepsThis x v tree w) (sym e) h

pub keeps_right : (o : Option Node) (v w : Contents) → o ≢ None
    → MatchOption o (w ≡ v) (λ t. w ≡ with_cached_tree v t) → IfSome o (AreRight v.kind v.records)
    → IfSome o (λ _. AreFit any_name v.kind (merged_in v.records))
    → IfSome o (λ _. length (merged_in v.records) < 2 ^ 31) → KeepsThis o v Kept w
keeps_right None v w some is right fit few = absurd (some refl)
keeps_right (Some t) v w some is right fit few = inl (refl, is, record { few = few; fit = fit; right = right })

in_middle : {X : Type 0} (P : X → Type 0) (before : List X) (x : X) (after : List X) → All P (before ++ x ∷ after) → P x
in_middle P [] x after all = All-head P x after all
in_middle P (b ∷ before) x after all = in_middle P before x after (All-tail P b (before ++ x ∷ after) all)

-- a node that isn't right keeps the tree from being so
wrong_from : (kind : Kind) (rs : List Record) (t : Node) (P : Spot → Type 0)
    → IsFirstWrongSpot kind rs (spots [] t) P → AreRight kind rs t → ⊥
wrong_from kind rs t P h right =
    let all : All (IsRight kind rs) (h.0 ++ h.1 ∷ h.2) =
    subst (λ (ss : List Spot). All (IsRight kind rs) ss) h.3 right in
    h.5 (in_middle (IsRight kind rs) h.0 h.1 h.2 all)

-- an error of entries, which isn't running out of memory, means that they are rejected
refused_from : (e : TreesError) (v : Contents) (t : Node) → wants_memory (errors.Entries e) ≡ false
    → TreesFaultCause e (λ n. ⊥) (AreRefused any_name v.kind (merged_in v.records)) → IsWrongTree v t
refused_from (trees.Sink number) v t e says = absurd says
refused_from trees.TooManyEntries v t e says = inl (_, says)
refused_from (trees.Unmerged path) v t e says = inl (_, says)
refused_from (trees.Mode path mode) v t e says = inl (_, says)
refused_from (trees.Path path fault) v t e says = inl (_, says)
refused_from (trees.OtherKind path) v t e says = inl (_, says)
refused_from (trees.NullId path) v t e says = inl (_, says)
refused_from (trees.Both file below) v t e says = inl (_, says)
refused_from trees.Memory v t e says = absurd cc

is_wrong : (e : Error) (v : Contents) (t : Node) → wants_memory e ≡ false → TreeIdsCause v.kind v.records t e
    → IsWrongTree v t
is_wrong (errors.Other path id count given number) v t e says =
    inr (λ right. wrong_from v.kind v.records t _ says.1 right)
is_wrong (errors.Ungiven path id count) v t e says =
    inr (λ right. wrong_from v.kind v.records t _ says.1 right)
is_wrong (errors.Entries fault) v t e says = refused_from fault v t e says
is_wrong errors.Memory v t e says = absurd cc

pub keeps_wrong : (o : Option Node) (v w : Contents) (e : Error) → wants_memory e ≡ false
    → MatchOption o ⊥ (λ t. TreeIdsCause v.kind v.records t e)
    → w ≡ record v { extensions = record v.extensions { tree = None } } → KeepsThis o v LeftOut w
keeps_wrong None v w e memory says is = absurd says
keeps_wrong (Some t) v w e memory says is = inr (refl, is, is_wrong e v t memory says)
