use Rattle.std.proofs.Common.{◌≡◌, ℕ, List, Some, sym, subst}
use Rattle.std.specs.Path.{path_buf_bytes}
use Rattle.std.proofs.lemmas.Result.{err_from_is_err_and}
use Rattle.gix_index.specs.Disk.World.{MayBe, World}
use Rattle.file_place.proofs.Sizes.{own_fault_at}
use Rattle.tool_defaults.specs.Place.{MayBeFile, by_file, by_folder}
use Rattle.tool_defaults.proofs.Gits.{git_fault, opened_file, opened_folder}
use Rattle.tool_defaults.proofs.place.index_by_opening.Goals as goal

pub returns-in-Ok-2 : goal.returns-in-Ok-2
returns-in-Ok-2 g c =
    record {
      leads = by_folder _ (opened_folder _ _ _ _ c.requires
          (subst (λ (p : List ℕ). MayBe (g.D.Folder.known c.args.folder.now p)
          (λ there. g.D.File.Source.stored c.in-Ok.file ≡ Some there)) c.as_path.ensures c.in-Ok.ensures.opened)
          c.in-Ok-status.ensures.told (λ file is. is.plain) c.if-status.false) c.in_ok-index_in-in-Ok-2.ensures;
      passed = tt;
      fault = tt;
    }

pub returns-in_ok-index_by_text-in-Ok-text_of : goal.returns-in_ok-index_by_text-in-Ok-text_of
returns-in_ok-index_by_text-in-Ok-text_of g c =
    let world : World = g.D.Folder.known c.args.folder.now in
    let leads = c.in_ok-index_by_text-in-Ok-text_of.ensures.leads in
    let opened = subst (λ (p : List ℕ). MayBe (world p) (λ there. g.D.File.Source.stored c.in-Ok.file ≡ Some there))
    c.as_path.ensures c.in-Ok.ensures.opened in
    record {
      leads = by_file c.deref.result.now leads.0 _
          (subst (λ (text : List ℕ). MayBeFile (world (path_buf_bytes c.args.git)) text) (sym c.deref.ensures.value)
          (opened_file _ _ _ c.requires opened c.in-Ok-text_of.ensures.text)) leads.1 leads.2;
      passed = tt;
      fault = tt;
    }

pub returns-in_err-index_by_text-in-Ok-text_of : goal.returns-in_err-index_by_text-in-Ok-text_of
returns-in_err-index_by_text-in-Ok-text_of g c =
    let world : World = g.D.Folder.known c.args.folder.now in
    let p = err_from_is_err_and c.from_residual-in_err-index_by_text-in-Ok-text_of.result
    c.from_residual-in_err-index_by_text-in-Ok-text_of.ensures.1 in
    let opened = subst (λ (p : List ℕ). MayBe (world p) (λ there. g.D.File.Source.stored c.in-Ok.file ≡ Some there))
    c.as_path.ensures c.in-Ok.ensures.opened in
    rw (p.1, p.2) (record {
      leads = tt;
      passed = tt;
      fault = c.in_err-index_by_text-in-Ok-text_of.ensures.fault (g.D.Folder.works c.args.folder.now)
          (world (path_buf_bytes c.args.git))
          (subst (λ (text : List ℕ). MayBeFile (world (path_buf_bytes c.args.git)) text) (sym c.deref.ensures.value)
          (opened_file _ _ _ c.requires opened c.in-Ok-text_of.ensures.text));
    })

pub returns-in-Err-text_of : goal.returns-in-Err-text_of
returns-in-Err-text_of g c =
    let world : World = g.D.Folder.known c.args.folder.now in
    let opened = subst (λ (p : List ℕ). MayBe (world p) (λ there. g.D.File.Source.stored c.in-Ok.file ≡ Some there))
    c.as_path.ensures c.in-Ok.ensures.opened in
    record {
      leads = tt;
      passed = tt;
      fault = git_fault (g.D.Folder.works c.args.folder.now) (world (path_buf_bytes c.args.git))
          (path_buf_bytes c.args.git) _ _
          (λ w. own_fault_at (world (path_buf_bytes c.args.git)) _ c.in-Err-text_of.e opened
          (c.in-Err-text_of.ensures.fault (c.in-Ok.ensures.works w))) c.of-in-Err-text_of.ensures;
    }
