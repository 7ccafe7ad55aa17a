use Rattle.std.proofs.Common.{◌≡◌, ◌<◌, ◌^◌, take, length}
use Rattle.std.specs.List.{flat_map}
use Rattle.ext_untracked.specs.Blocks.{directory_value}
use Rattle.ext_encode.specs.UntrackedImage.{known_bytes}
use Rattle.ext_encode.proofs.untracked_sizes.blocks_len.Given as goal

-- the length of the directories before this one, which 32 bits count
abbrev pub invariant-loop-directory : goal.invariant-loop-directory
invariant-loop-directory l = record {
  so_far : l.len ≡ length (flat_map (λ d. known_bytes (directory_value d)) (take l.directory-index l.directories));
  small : l.len < 2 ^ 32;
}
