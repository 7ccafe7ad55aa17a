use Rattle.std.proofs.Common.{◌≡◌, map, refl}
use Rattle.bstr.specs.Owned.{bstring_bytes}
use Rattle.ext_untracked.proofs.Clones.{same_values, same_numbers}
use Rattle.ext_untracked.proofs.DirectoryClone.clone.Goals as goal

pub returns : goal.returns
returns c =
    let d = c.args.self.now in
    let name : bstring_bytes c.in_ok-clone.field-0 ≡ bstring_bytes d.name =
    same_numbers d.name.bytes.items c.in_ok-clone.field-0.bytes.items c.in_ok-clone.ensures.cases.0 in
    let untracked : map bstring_bytes c.in_ok-clone-2.field-0.items ≡ map bstring_bytes d.untracked_entries.items =
    same_values _ bstring_bytes (λ x y h. same_numbers x.bytes.items y.bytes.items h.0) d.untracked_entries.items
    c.in_ok-clone-2.field-0.items c.in_ok-clone-2.ensures.cases.0 in
    let subs = same_numbers d.sub_directories.items c.in_ok-clone-3.field-0.items c.in_ok-clone-3.ensures.cases.0 in
    record { cases = rw (name, untracked, subs) refl }
