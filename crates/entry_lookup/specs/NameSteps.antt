-- Ordered tables of names, each with the index of a record that has it (the library's own). Public clauses don't use
-- these definitions.
use Rattle.std.specs.Prelude.{◌≡◌, ◌≢◌, ℕ, ◌<◌, ◌≤◌, ◌+◌, Bool, true, false, List, [], ◌∷◌, ◌++◌, length, map, All}
use Rattle.std.specs.Prelude.{Contains, Option, Some, None, slice_index_or}
use Rattle.std.specs.Cmp.Lexicographic.{slice_cmp}
use Rattle.std.specs.List.{AllPairs}
use denote.Ref.{Bor}
use Rattle.std.specs.Ordering.{nat_cmp, ordering_then}
use Rattle.std.specs.declared.cmp.Ordering.{Ordering}
use Rattle.std.specs.declared.cmp.Ordering.TheVariants.{Less, Equal, Greater}
use Rattle.entry_list.specs.Order.{path_cmp}
use Rattle.entry_list.specs.Record.{Record}
use Rattle.entry_lookup.specs.Folded.{folded, is_at_folded, stands_in_folded}
use Rattle.entry_lookup.specs.declared.names.Named.{Named}

-- a name and the index of a record that has it
pub record NamedValue : Type 0 where
  pub name : List ℕ
  pub place : ℕ

abbrev pub named_value : Named → NamedValue
named_value n = record { name = n.name.now; place = n.place }

abbrev pub named_at : ℕ → List ℕ → NamedValue
named_at place name = record { name = name; place = place }

-- the comparison of the first bytes of two names, as many as both have
abbrev pub common_cmp : List ℕ → List ℕ → Ordering
common_cmp [] ys = Equal
common_cmp (x ∷ xs) [] = Equal
common_cmp (x ∷ xs) (y ∷ ys) = ordering_then (nat_cmp x y) (common_cmp xs ys)

-- the comparison of two names, in which a name comes after all that continue it
abbrev pub outer_cmp : List ℕ → List ℕ → Ordering
outer_cmp a b = slice_cmp (λ y x. nat_cmp x y) b a

-- the order of paths or, with `outer`, of directories
abbrev pub name_order : Bool → List ℕ → List ℕ → Ordering
name_order false a b = path_cmp a b
name_order true a b = outer_cmp a b

-- the comparison by name in one of these orders, optionally with case ignored, and then by index
abbrev pub named_cmp : Bool → Bool → NamedValue → NamedValue → Ordering
named_cmp outer ignore_case a b =
    ordering_then (name_order outer (folded ignore_case a.name) (folded ignore_case b.name)) (nat_cmp a.place b.place)

-- the comparisons of the names of a table with a name, optionally with case ignored
abbrev pub name_answers : Bool → Bool → List Named → List ℕ → List Ordering
name_answers outer ignore_case names name =
    map (λ k. name_order outer (folded ignore_case k.name) (folded ignore_case name)) (map named_value names)

-- a record's path alone
abbrev pub path_names : Record → List (List ℕ)
path_names r = r.path ∷ []

-- the names of records, the first of which is at i, each with its index
abbrev pub named_from : (Record → List (List ℕ)) → ℕ → List Record → List NamedValue
named_from names i [] = []
named_from names i (r ∷ rs) = map (named_at i) (names r) ++ named_from names (i + 1) rs

-- the paths of records, each with its index, or paths that were sorted
abbrev pub visits : Option (Bor (List Named)) → List Record → List NamedValue
visits None rs = named_from path_names 0 rs
visits (Some names) rs = map named_value names.now

-- a table of the records that pass the test of a name
pub record IsTableOf (outer ignore_case : Bool) (test : List ℕ → Record → Bool) (rs : List Record)
    (ks : List NamedValue) : Type 0 where
  pub within : All (λ k. k.place < length rs) ks
  pub sound : (j : ℕ) (d : NamedValue) (q : Record) → j < length ks
      → test (slice_index_or ks j d).name (slice_index_or rs (slice_index_or ks j d).place q) ≡ true
  pub complete : (name : List ℕ) (i : ℕ) (q : Record) → i < length rs → test name (slice_index_or rs i q) ≡ true
      → (k : NamedValue) × Contains ks k × (folded ignore_case k.name ≡ folded ignore_case name) × (k.place ≤ i)
  pub alike : (a b : List ℕ) (r : Record) → folded ignore_case a ≡ folded ignore_case b → test a r ≡ test b r
  pub ordered : AllPairs (λ a b. named_cmp outer ignore_case a b ≢ Greater) ks

-- the names rise, each once
abbrev pub NamedValuesRise : Bool → Bool → List NamedValue → Type 0
NamedValuesRise outer ignore_case ks =
    AllPairs (λ a b. name_order outer (folded ignore_case a.name) (folded ignore_case b.name) ≡ Less) ks

-- the tables of paths and of directories, with case respected or ignored, that records have
abbrev pub IsPathTable : Bool → List Record → List Named → Type 0
IsPathTable ignore_case rs names =
    IsTableOf false ignore_case (is_at_folded ignore_case) rs (map named_value names) × (length names ≡ length rs)

abbrev pub IsDirectoryTable : Bool → List Record → List Named → Type 0
IsDirectoryTable ignore_case rs names =
    IsTableOf true ignore_case (stands_in_folded ignore_case) rs (map named_value names)
    × NamedValuesRise true ignore_case (map named_value names)

-- the four tables that records have
pub record AreNames (rs : List Record) (paths folded_paths directories folded_directories : List Named) : Type 0 where
  pub paths_is : IsPathTable false rs paths
  pub folded_paths_is : IsPathTable true rs folded_paths
  pub directories_is : IsDirectoryTable false rs directories
  pub folded_directories_is : IsDirectoryTable true rs folded_directories
