use Rattle.std.proofs.Common.{rules, ◌≡◌, ◌∙◌, ℕ, List, None, ap, codes, subst}
use Rattle.std.specs.Path.{path_buf_bytes, path_with_file_name}
use Rattle.gix_index.specs.Disk.World.{World}
use Rattle.file_place.proofs.Sizes.{own_fault_at}
use Rattle.tool_defaults.specs.Faults.{IsUnreadable}
use Rattle.tool_defaults.specs.KindAt.{IsTrailerKind, of_config}
use Rattle.tool_defaults.specs.Repository.{config_beside}
use Rattle.tool_defaults.proofs.Faults.{index_fault, kind_fault}
use Rattle.tool_defaults.proofs.kind.kind_at.Goals as goal

pub returns-in-Err-clause-fault : goal.returns-in-Err-clause-fault
returns-in-Err-clause-fault g c =
    let world : World = g.D.Folder.known c.args.folder.now in
    let index = path_buf_bytes c.in_ok-index.index in
    index_fault (g.D.Folder.works c.args.folder.now) world c.args.path.now index index c.in-Err.e _
    c.in_ok-index.ensures c.in_ok-index.ensures
    (λ w. own_fault_at (world index) (g.D.File.Source.stored c.in_ok-file.file) c.in-Err.e
    c.in_ok-file.ensures.opened.opened (c.in-Err.ensures.fault (c.in_ok-file.ensures.opened.works w))) c.of.ensures

pub returns-in-Err-format_at-clause-fault : goal.returns-in-Err-format_at-clause-fault
returns-in-Err-format_at-clause-fault g c =
    let world : World = g.D.Folder.known c.args.folder.now in
    let is : path_buf_bytes c.in_ok-config.config ≡ config_beside c.args.path.now = c.in_ok-config.ensures
    ∙ ap (λ (p : List ℕ). path_with_file_name p (codes "config")) c.in_ok-index.ensures in
    let told : IsTrailerKind world c.args.path.now None = search rules in
    kind_fault (g.D.Folder.works c.args.folder.now) world c.args.path.now _ c.in-Err-format_at.e _
    (of_config (path_buf_bytes c.in_ok-config.config) is told
    (λ w. subst (λ (p : List ℕ). IsUnreadable (world p) c.in-Err-format_at.e) c.as_path.ensures
    (c.in-Err-format_at.ensures.fault w))) c.of-in-Err-format_at.ensures
