use Rattle.std.proofs.Common.{◌≡◌, map, refl}
use Rattle.bstr.specs.Owned.{bstring_bytes}
use Rattle.ext_untracked.specs.Blocks.{directory_value}
use Rattle.ext_untracked.proofs.Clones.{same_values, same_numbers}
use Rattle.ext_untracked.proofs.UntrackedCacheClone.clone.Goals as goal

pub returns : goal.returns
returns c =
    let u = c.args.self.now in
    let identifier : bstring_bytes c.in_ok-clone.field-0 ≡ bstring_bytes u.identifier =
    same_numbers u.identifier.bytes.items c.in_ok-clone.field-0.bytes.items c.in_ok-clone.ensures.cases.0 in
    let name : bstring_bytes c.in_ok-clone-2.field-0 ≡ bstring_bytes u.exclude_filename_per_dir = same_numbers
    u.exclude_filename_per_dir.bytes.items c.in_ok-clone-2.field-0.bytes.items c.in_ok-clone-2.ensures.cases.0 in
    let directories : map directory_value c.in_ok-clone-3.field-0.items ≡ map directory_value u.directories.items =
    same_values _ directory_value
    (λ x y h. h) u.directories.items c.in_ok-clone-3.field-0.items c.in_ok-clone-3.ensures.cases.0 in
    record { cases = rw (identifier, name, directories) refl }
