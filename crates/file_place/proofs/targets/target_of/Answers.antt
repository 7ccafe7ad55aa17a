use Rattle.std.proofs.Common.{rules, ◌≡◌, inl}
use Rattle.std.specs.Path.{path_buf_bytes, path_bytes}
use Rattle.file_place.specs.Locks.{here}
use Rattle.file_place.proofs.Links.{leads_on, untold}
use Rattle.file_place.proofs.targets.target_of.Goals as goal

pub loop-links-init : goal.loop-links-init
loop-links-init g c = record { follows = here (path_buf_bytes c.in_ok-target.target) (search rules) }

pub returns-in-Err-follow_link : goal.returns-in-Err-follow_link
returns-in-Err-follow_link g c =
    let world = g.D.Folder.known c.args.folder.now in
    let path = path_buf_bytes c.args.path in
    let links = c.loop-links.links in
    let follows = c.loop-links.invariant.follows in
    let looked = path_bytes c.as_path-in-Ok-Link.result in
    let is : looked ≡ path_bytes c.as_path.result = search rules in
    record {
      leads = tt;
      fault = c.of.ensures.fault (g.D.Folder.works c.args.folder.now) world path (inl (links, follows))
          (λ works. untold world path (path_buf_bytes c.loop-links.target) looked links follows
          c.as_path-in-Ok-Link.ensures _ c.in-Ok-Link.field-0-is (search rules) (search (rules, is))
          (c.in-Err-follow_link.ensures.fault works));
    }

pub returns-in-Err : goal.returns-in-Err
returns-in-Err g c = record {
  leads = tt;
  fault =
      c.of-in-Err.ensures.fault (g.D.Folder.works c.args.folder.now) (g.D.Folder.known c.args.folder.now)
      (path_buf_bytes c.args.path) (inl (c.loop-links.links, c.loop-links.invariant.follows)) (search rules);
}

pub loop-links-preserved : goal.loop-links-preserved
loop-links-preserved g c =
    let f = c.in-Ok.ensures.next in
    record {
      follows = leads_on (g.D.Folder.known c.args.folder.now) (path_buf_bytes c.args.path)
          (path_buf_bytes c.loop-links.target) (path_bytes c.as_path-in-Ok-Link.result) c.loop-links.links
          c.loop-links.invariant.follows c.as_path-in-Ok-Link.ensures f.0 _ f.1 f.2;
    }
