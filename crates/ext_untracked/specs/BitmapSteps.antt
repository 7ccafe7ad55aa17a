-- Changes of single directories of a list, as the readers of an untracked cache make them (gitformat-index, "Untracked
-- cache"). Public clauses cite none of these.
use Rattle.std.specs.Prelude.{◌≡◌, ℕ, zero, suc, ◌==◌, Bool, false, true, List, [], ◌∷◌, map, Option, Some, None}
use Rattle.std.specs.Prelude.{if◌then◌else◌}
use Rattle.std.specs.List.{enumerate_from}
use Rattle.index_parts.specs.Id.{make_id}
use Rattle.index_parts.specs.declared.hash.Kind.{Kind}
use Rattle.ext_untracked.specs.Blocks.{DirectoryValue}
use Rattle.index_extensions.specs.ExtensionValue.{option_or}
use Rattle.ext_untracked.specs.CachedStat.{cached_stat}

-- the list with the directory at an index changed
abbrev pub changed_directory : (DirectoryValue → DirectoryValue) → ℕ → List DirectoryValue → List DirectoryValue
changed_directory f place [] = []
changed_directory f zero (d ∷ ds) = f d ∷ ds
changed_directory f (suc place) (d ∷ ds) = d ∷ changed_directory f place ds

abbrev pub with_subs : List ℕ → DirectoryValue → DirectoryValue
with_subs subs d = record d { subs = subs }

abbrev pub with_stat : List ℕ → DirectoryValue → DirectoryValue
with_stat piece d = record d { stat = Some (cached_stat piece) }

abbrev pub with_exclude : Kind → List ℕ → DirectoryValue → DirectoryValue
with_exclude kind piece d = record d { exclude = Some (make_id kind piece) }

abbrev pub checked : DirectoryValue → DirectoryValue
checked d = record d { check_only = true }

-- the value that was last assigned to an index
abbrev pub last_at : {A : Type 0} → List ℕ → List A → ℕ → Option A
last_at [] values place = None
last_at (p ∷ places) [] place = None
last_at (p ∷ places) (x ∷ values) place = option_or (last_at places values place) (if p == place then Some x else None)

-- the directory changed by a value, if there is one
abbrev pub by_some : {A : Type 0} → (A → DirectoryValue → DirectoryValue) → Option A → DirectoryValue → DirectoryValue
by_some f None d = d
by_some f (Some x) d = f x d

abbrev pub by_true : (DirectoryValue → DirectoryValue) → Bool → DirectoryValue → DirectoryValue
by_true f b d = if b then f d else d

-- the list with each directory changed according to its index
abbrev pub each : (ℕ → DirectoryValue → DirectoryValue) → List DirectoryValue → List DirectoryValue
each f ds = map (λ x. f x.0 x.1) (enumerate_from 0 ds)

abbrev pub IsBare : DirectoryValue → Type 0
IsBare d = (d.stat ≡ None) × (d.exclude ≡ None) × (d.check_only ≡ false)
