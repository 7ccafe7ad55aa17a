use Rattle.std.proofs.Common.{◌≡◌, take}
use Rattle.ext_encode.specs.UntrackedImage.{valid_id}
use Rattle.std.specs.List.{flat_map}
use Rattle.index_parts.specs.Taking.{Took}
use Rattle.ext_encode.proofs.untracked_cache.put_ids.Given as goal

-- the ones before this one were taken
abbrev pub invariant-loop-directory : goal.invariant-loop-directory
invariant-loop-directory g l = record {
  going : g.W.Out.failed l.out ≡ g.W.Out.failed l.fn.out;
  loan : g.W.Out.loan l.out ≡ g.W.Out.loan l.fn.out;
  so_far : Took g.W.Out.taken g.W.Out.hashed l.fn.out l.out (flat_map (λ d. valid_id d.exclude_file_oid) (take l.directory-index l.directories));
}
