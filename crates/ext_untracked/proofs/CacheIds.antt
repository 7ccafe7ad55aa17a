-- All ids of an untracked cache are of one kind.
use Rattle.std.proofs.Common.{◌≡◌, ℕ, zero, suc, ◌+◌, Bool, true, false, cond, List, [], ◌∷◌, map, Option, Some, None}
use Rattle.std.proofs.Common.{sym, subst}
use Rattle.std.specs.Prelude.{IfSome}
use Rattle.std.specs.List.{AllByRecursion, enumerate_from}
use Rattle.std.specs.Option.{option_map}
use Rattle.index_parts.proofs.Ids.{id_kind-make_id}
use Rattle.index_parts.specs.Id.{id_kind, is_null, make_id}
use Rattle.entry_fields.specs.declared.entry.stat.Stat.{Stat}
use Rattle.index_parts.specs.declared.hash.Kind.{Kind}
use Rattle.ext_untracked.specs.Blocks.{DirectoryValue, preorder_directories}
use Rattle.ext_untracked.specs.CacheBitmaps.{DirectoryBitmaps, with_bitmaps, value_at}
use Rattle.ext_untracked.specs.CachedStat.{cached_stat}
use Rattle.ext_untracked.specs.Untracked.{oid_stat, Cache, AreDirectories, IsCache, CacheIdsAreOf}
use Rattle.ext_untracked.specs.declared.OidStat.{OidStat}

pair_by : (kind : Kind) (s : Stat) (id : List ℕ) (t : Bool) → IfSome
    (cond {A = Option OidStat} t None (Some (record { stat = s; id = make_id kind id }))) (λ x. id_kind x.id ≡ kind)
pair_by kind s id true = tt
pair_by kind s id false = id_kind-make_id kind id

pair_kind : (kind : Kind) (stat id : List ℕ) (found : Option OidStat) → found ≡ oid_stat kind stat id
    → IfSome found (λ x. id_kind x.id ≡ kind)
pair_kind kind stat id found e = subst (λ (o : Option OidStat). IfSome o (λ x. id_kind x.id ≡ kind)) (sym e)
    (pair_by kind (cached_stat stat) id (is_null id))

abbrev IdIsOf : Kind → DirectoryValue → Type 0
IdIsOf kind d = IfSome d.exclude (λ id. id_kind id ≡ kind)

made_kind : (kind : Kind) (found : Option (List ℕ)) → IfSome (option_map (make_id kind) found) (λ id. id_kind id ≡ kind)
made_kind kind None = tt
made_kind kind (Some id) = id_kind-make_id kind id

marked_kinds : (kind : Kind) (m : DirectoryBitmaps) (stats ids : List (List ℕ)) (n : ℕ) (ds : List DirectoryValue)
    → AllByRecursion (IdIsOf kind) (map (λ x. with_bitmaps kind m stats ids x.0 x.1) (enumerate_from n ds))
marked_kinds kind m stats ids n [] = tt
marked_kinds kind m stats ids n (d ∷ ds) =
    (made_kind kind (value_at m.hash_valid ids n), marked_kinds kind m stats ids (n + 1) ds)

kinds_of : (kind : Kind) (limit : Option ℕ) (count : ℕ) (bytes : List ℕ) (ds : List DirectoryValue)
    → AreDirectories kind limit count bytes ds → AllByRecursion (IdIsOf kind) ds
kinds_of kind limit zero bytes ds p = subst (AllByRecursion (IdIsOf kind)) (sym p.1) tt
kinds_of kind limit (suc n) bytes ds p =
    let t = p.is_tail in
    subst (AllByRecursion (IdIsOf kind)) (sym t.directories_are)
    (marked_kinds kind t.bitmaps t.stats t.ids 0 (preorder_directories 0 p.root))

-- all ids of a cache are of the kind that its bytes are read by
pub ids_of_cache : (kind : Kind) (limit : Option ℕ) (bytes : List ℕ) (c : Cache) → IsCache kind limit bytes c
    → CacheIdsAreOf kind c
ids_of_cache kind limit bytes c p = record {
  info = pair_kind kind p.is_preamble.info p.is_preamble.info_id c.preamble.info_exclude p.is_preamble.info_is;
  excludes = pair_kind kind p.is_preamble.excludes p.is_preamble.excludes_id c.preamble.excludes_file
      p.is_preamble.excludes_is;
  directories = kinds_of kind limit p.count p.blocks c.directories p.are_directories;
}
