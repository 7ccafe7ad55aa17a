-- All bytes are an untracked cache or are none.
use Rattle.std.proofs.Common.{◌≡◌, ℕ, zero, suc, ◌≤◌, Bool, true, false, ◌⊎◌, inl, inr, List, [], ◌∷◌, Option, Some}
use Rattle.std.proofs.Common.{None, refl}
use Rattle.index_parts.specs.declared.hash.Kind.{Kind}
use Rattle.ext_untracked.specs.Blocks.{Block, IsBlock, block_depth, block_size, preorder_directories}
use Rattle.index_extensions.specs.ExtensionValue.{IsRead}
use Rattle.ext_untracked.specs.CacheBitmaps.{IsTail}
use Rattle.ext_untracked.specs.Untracked.{Preamble, Cache, IsNest, AreDirectories, IsCache}
use Rattle.ext_untracked.specs.CacheSteps.{ends_with_nul, preamble_at, directory_count_at}
use Rattle.ext_untracked.proofs.BlockReadings.{decided_by, IsShallow, block_reading}
use Rattle.ext_untracked.proofs.Caches.{nul_again, root_of, preamble_read, agrees, no_count, cache_from, one_cache}
use Rattle.index_extensions.proofs.Readings.{Decided, read_of, one_read, same_or_not}
use Rattle.ext_untracked.proofs.TailReadings.{tail_reading}

module _ (kind : Kind) (limit : Option ℕ) where
  -- ---- the directories

  abbrev NestAt : ℕ → List ℕ → Type 0
  NestAt count bytes = Decided (IsNest kind limit count bytes)

  nest_sized : (count : ℕ) (bytes rest : List ℕ) (root : Block) → IsBlock limit bytes root rest
      → block_depth root ≤ 2048 → block_size root ≡ count → NestAt count bytes
  nest_sized count bytes rest root p low size =
      decided_by (IsTail kind (preorder_directories 0 root) rest) (IsNest kind limit count bytes)
      (tail_reading kind (preorder_directories 0 root) rest)
      (λ ds t. inl (ds, record { root = root; rest = rest; is_root = p; shallow = low; size = size; is_tail = t }))
      (λ ds q. (ds, (root_of kind limit count bytes root rest ds p q).is_tail))

  nest_with : (count : ℕ) (bytes rest : List ℕ) (root : Block) → IsBlock limit bytes root rest → block_depth root ≤ 2048
      → (block_size root ≡ count) ⊎ (block_size root ≡ count → ⊥) → NestAt count bytes
  nest_with count bytes rest root p low (inl size) = nest_sized count bytes rest root p low size
  nest_with count bytes rest root p low (inr other) =
      inr (λ ds q. other (root_of kind limit count bytes root rest ds p q).size)

  nest_reading : (count : ℕ) (bytes : List ℕ) → NestAt count bytes
  nest_reading count bytes =
      decided_by (λ (x : Block × List ℕ). IsShallow limit 2048 bytes x.0 x.1) (IsNest kind limit count bytes)
      (block_reading limit 2048 bytes)
      (λ x p. nest_with count bytes x.1 x.0 p.is_block p.shallow (same_or_not (block_size x.0) count))
      (λ ds q. ((q.root, q.rest), record { is_block = q.is_root; shallow = q.shallow }))

  abbrev DirectoriesAt : ℕ → List ℕ → Type 0
  DirectoriesAt count bytes = Decided (AreDirectories kind limit count bytes)

  directories_reading : (count : ℕ) (bytes : List ℕ) → DirectoriesAt count bytes
  directories_reading zero [] = inl ([], (refl, refl))
  directories_reading zero (b ∷ bytes) = inr (λ ds q. let none : (b ∷ bytes) ≡ [] = q.0 in absurd cc)
  directories_reading (suc n) bytes = nest_reading (suc n) bytes

  -- ---- the cache

  abbrev CacheAt : List ℕ → Type 0
  CacheAt bytes = Decided (IsCache kind limit bytes)

  count_by : (bytes rest : List ℕ) (f : Preamble) (o : Option (ℕ × List ℕ)) → ends_with_nul bytes ≡ true
      → preamble_at kind bytes ≡ Some (f, rest) → directory_count_at limit rest ≡ o → CacheAt bytes
  count_by bytes rest f None last e g = inr (λ c q. no_count kind limit bytes c f rest e g q)
  count_by bytes rest f (Some n) last e g =
      decided_by (AreDirectories kind limit n.0 n.1) (IsCache kind limit bytes) (directories_reading n.0 n.1)
      (λ ds d.
      inl (record { preamble = f; directories = ds }, cache_from kind limit bytes f rest n.0 n.1 ds last e g d))
      (λ c q. (c.directories, (agrees kind limit bytes c f rest n.0 n.1 e g q).are_directories))

  preamble_by : (bytes : List ℕ) (o : Option (Preamble × List ℕ)) → ends_with_nul bytes ≡ true
      → preamble_at kind bytes ≡ o → CacheAt bytes
  preamble_by bytes None last e = inr (λ c q. let some = preamble_read kind limit bytes c q in cc)
  preamble_by bytes (Some f) last e = count_by bytes f.1 f.0 (directory_count_at limit f.1) last e refl

  cache_by : (bytes : List ℕ) (t : Bool) → ends_with_nul bytes ≡ t → CacheAt bytes
  cache_by bytes true e = preamble_by bytes (preamble_at kind bytes) e refl
  cache_by bytes false e = inr (λ c q. let last = nul_again bytes q.before q.last in cc)

  -- bytes are read as a cache or as none
  pub cache_reading : (bytes : List ℕ) → (v : Option Cache) × IsRead (IsCache kind limit) bytes v
  cache_reading bytes = read_of (IsCache kind limit) bytes (cache_by bytes (ends_with_nul bytes) refl)

  -- and in one way
  pub cache_reading_one : (bytes : List ℕ) (v w : Option Cache) → IsRead (IsCache kind limit) bytes v
      → IsRead (IsCache kind limit) bytes w → v ≡ w
  cache_reading_one bytes = one_read (IsCache kind limit) bytes (one_cache kind limit bytes)
