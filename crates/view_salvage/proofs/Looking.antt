-- The entries that are looked at: of those that fit, and in order, all.
use Rattle.std.proofs.Common.{◌≡◌, List, refl}
use Rattle.gix_index.specs.Kind.{Kind}
use Rattle.gix_index.specs.Record.{Record}
use Rattle.gix_index.specs.Sorted.{IsOrdered}
use Rattle.view_salvage.specs.Accepted.{AreAcceptable}
use Rattle.view_salvage.specs.Choice.{fit_of}
use Rattle.view_salvage.specs.Salvage.{looked_at}
use Rattle.view_salvage.specs.declared.salvage.SharedEntries.{SharedEntries}
use Rattle.view_salvage.specs.declared.salvage.SharedEntries.TheVariants as fates
use Rattle.view_salvage.proofs.Choosing.{filter_ordered}
use Rattle.view_salvage.proofs.KeptEntries.{all_have_paths, fit_named}

pub fit_looked : (kind : Kind) (fate : SharedEntries) (all : List Record)
    → fit_of kind (looked_at fate all) ≡ fit_of kind all
fit_looked kind fates.Missing all = fit_named kind all
fit_looked kind fates.Unlinked all = refl
fit_looked kind fates.Merged all = refl

pub looked_whole : (kind : Kind) (fate : SharedEntries) (all : List Record) → AreAcceptable kind all
    → looked_at fate all ≡ all
looked_whole kind fates.Missing all h = all_have_paths kind all h
looked_whole kind fates.Unlinked all h = refl
looked_whole kind fates.Merged all h = refl

pub looked_ordered : (fate : SharedEntries) (all : List Record) → IsOrdered all → IsOrdered (looked_at fate all)
looked_ordered fates.Missing all up = filter_ordered _ all up
looked_ordered fates.Unlinked all up = up
looked_ordered fates.Merged all up = up
