-- What holds of the value that a table in order spells.
use Rattle.std.proofs.Common.{◌≡◌, ◌≢◌, ℕ, List, [], ◌∷◌, All, Bool, true, false, cond, inl, inr, not, refl, sym, subst}
use Rattle.std.proofs.lemmas.List.Elements.{All-cons, All-filter, All-head, All-nil, All-tail}
use Rattle.gix_index.specs.Contents.{Contents}
use Rattle.gix_index.specs.EntryImage.{is_removed, written}
use Rattle.gix_index.specs.Kind.{Kind}
use Rattle.gix_index.specs.Record.{Record}
use Rattle.gix_index.specs.Storable.{CanEncode}
use Rattle.gix_index.specs.VersionChoice.{VersionChoice}
use Rattle.gix_index.specs.VersionChoice.TheVariants as choices
use Rattle.gix_index.specs.WriteOptions.{Options}
use Rattle.capi_table.specs.Fitting.{IsFitRow, IsFitTable}
use Rattle.capi_table.specs.Table.{records_of, spelled}
use Rattle.capi_table.specs.Writing.{IsSpelledBy, IsUnwritable, PassesLimit, Spells}
use Rattle.capi_table.specs.declared.row.Row.{Row}
use Rattle.capi_table.specs.declared.write.Fault.{Fault}

abbrev LacksNul : Record → Type 0
LacksNul r = All (λ b. b ≢ 0) r.path

-- one more row, if it can be written
no_nul_more : (kind : Kind) (sparse : Bool) (paths : List ℕ) (row : Row) (rows : List Row) (b : Bool)
    → is_removed row.flags ≡ b → IsFitRow kind sparse paths row → All LacksNul (written (records_of paths rows))
    → All LacksNul (written (records_of paths (row ∷ rows)))
no_nul_more kind sparse paths row rows true e fit others =
    subst (λ (b : Bool). All LacksNul
    (cond (not b) (spelled paths row ∷ written (records_of paths rows)) (written (records_of paths rows)))) (sym e)
    others
no_nul_more kind sparse paths row rows false e fit others =
    subst (λ (b : Bool). All LacksNul
    (cond (not b) (spelled paths row ∷ written (records_of paths rows)) (written (records_of paths rows)))) (sym e)
    (All-cons LacksNul (spelled paths row) (written (records_of paths rows)) (fit e).plain others)

no_nul : (kind : Kind) (sparse : Bool) (paths : List ℕ) (rows : List Row) → All (IsFitRow kind sparse paths) rows
    → All LacksNul (written (records_of paths rows))
no_nul kind sparse paths [] fit = All-nil LacksNul
no_nul kind sparse paths (row ∷ rows) fit =
    no_nul_more kind sparse paths row rows (is_removed row.flags) refl
    (All-head (IsFitRow kind sparse paths) row rows fit)
    (no_nul kind sparse paths rows (All-tail (IsFitRow kind sparse paths) row rows fit))

-- no path of rows that are fit keeps them out of version 4
pub can_encode : (choice : VersionChoice) (kind : Kind) (sparse : Bool) (paths : List ℕ) (rows : List Row)
    (v : Contents)
    → All (IsFitRow kind sparse paths) rows → v.records ≡ written (records_of paths rows) → CanEncode choice v
can_encode choices.Smallest kind sparse paths rows v fit e = tt
can_encode choices.V4 kind sparse paths rows v fit e =
    All-filter (λ r. not (is_removed r.flags)) LacksNul v.records
    (subst (λ (rs : List Record). All LacksNul rs) (sym e) (no_nul kind sparse paths rows fit))

-- a value whose paths all can be in the version isn't written for a limit alone
pub limit_only : (options : Options) (fault : Fault) (v : Contents) → CanEncode options.version v
    → IsUnwritable options fault v → PassesLimit options fault v
limit_only options fault v can (inl h) = h
limit_only options fault v can (inr h) = absurd (h.1.1 can)

pub spells : (kind : Kind) (paths : List ℕ) (rows : List Row) (v : Contents) (P : Contents → Type 0)
    → IsFitTable kind false paths rows
    → IsSpelledBy kind paths rows v → P v → Spells kind paths rows P
spells kind paths rows v P fit s h = record { value = v; table = fit; spelled = s; holds = h }
