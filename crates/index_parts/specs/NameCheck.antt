-- The answer of a check to a name in a tree. A link's name is checked as such too (the library's own).
use Rattle.std.specs.Prelude.{ℕ, List, Bool, true, false, Option, None}
use Rattle.index_parts.specs.declared.object.tree.EntryKind.{EntryKind}
use Rattle.index_parts.specs.declared.object.tree.EntryKind.TheVariants as kinds

-- the answer to a name; for a link's name that is accepted, the answer to it as a symbolic link's
abbrev pub or_as_link : (List ℕ → Bool → Option ℕ) → List ℕ → EntryKind → Option ℕ → Option ℕ
or_as_link check name kinds.Link None = check name true
or_as_link check name kind answer = answer

-- the number with which the name of an entry of this type is rejected, None if it is accepted
abbrev pub refusal_as : (List ℕ → Bool → Option ℕ) → List ℕ → EntryKind → Option ℕ
refusal_as check name kind = or_as_link check name kind (check name false)
