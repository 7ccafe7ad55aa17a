use Rattle.std.proofs.Common.{ℕ, List, subst}
use Rattle.std.specs.Path.{path_bytes}
use Rattle.gix_index.specs.Disk.World.{Absent, Directory, Holds, IsSeen, Leads, Special, Unknown, World}
use Rattle.tool_defaults.specs.Place.{MayBeFolder, by_folder}
use Rattle.tool_defaults.proofs.place.index_of.Goals as goal

pub returns-in_ok-index_in-in-Ok-Folder : goal.returns-in_ok-index_in-in-Ok-Folder
returns-in_ok-index_in-in-Ok-Folder g c =
    let world : World = g.D.Folder.known c.args.folder.now in
    let is = c.in-Ok-Folder.field-0-is in
    let stands : IsSeen (world (path_bytes c.as_path.result)) c.in-Ok-Folder.field-0
    → MayBeFolder (world (path_bytes c.as_path.result)) =
    elim (world (path_bytes c.as_path.result)) as (λ k. IsSeen k c.in-Ok-Folder.field-0 → MayBeFolder k) [
      | Unknown ↦ λ h. tt
      | Absent ↦ λ h. absurd (cc)
      | Holds file ↦ λ h. absurd (cc)
      | Leads to ↦ λ h. tt
      | Directory ↦ λ h. tt
      | Special ↦ λ h. absurd (cc)
    ] in
    record {
      leads = by_folder _
          (subst (λ (p : List ℕ). MayBeFolder (world p)) c.as_path.ensures (stands c.in-Ok-Folder.ensures.seen))
          c.in_ok-index_in-in-Ok-Folder.ensures;
      passed = tt;
      fault = tt;
    }
