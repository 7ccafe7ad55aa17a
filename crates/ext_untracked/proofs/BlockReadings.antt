-- Bytes begin with one block of so many levels, with all that is in it, or with none.
use Rattle.std.proofs.Common.{◌≡◌, ℕ, zero, suc, ◌≤◌, inl, inr, List, length, Option, Some, None, refl, sym, ap, subst}
use Rattle.std.proofs.Common.{arith}
use Rattle.ext_untracked.specs.Blocks.{Block, Blocks, block, none, more, how_many_blocks, IsBlockHead, IsBlock}
use Rattle.ext_untracked.specs.Blocks.{AreBlocks, block_depth, blocks_depth}
use Rattle.ext_untracked.specs.CacheSteps.{Start, start_at}
use Rattle.ext_untracked.proofs.BlockHeads.{IsStart, start_takes, one_start}
use Rattle.ext_untracked.proofs.Nests.{one_block, no_block}
use Rattle.index_extensions.proofs.Readings.{Decided}

-- decided by a value that each result begins with: if there is none, there is no result
pub decided_by : {A B : Type 0} (P : A → Type 0) (Q : B → Type 0) → Decided P → ((x : A) → P x → Decided Q)
    → ((y : B) → Q y → (x : A) × P x) → Decided Q
decided_by P Q (inl p) found first = found p.0 p.1
decided_by P Q (inr none_first) found first = inr (λ y q. let p = first y q in none_first p.0 p.1)

module _ (limit : Option ℕ) where
  -- bytes are a block with so many levels below it, and the rest
  pub record IsShallow (levels : ℕ) (bytes : List ℕ) (b : Block) (rest : List ℕ) : Type 0 where
    pub is_block : IsBlock limit bytes b rest
    pub shallow : block_depth b ≤ levels

  -- bytes are so many blocks in one with so many levels below it, and the rest
  record AreShallow (levels number : ℕ) (bytes : List ℕ) (bs : Blocks) (rest : List ℕ) : Type 0 where
    are_blocks : AreBlocks limit bytes bs rest
    counted : how_many_blocks bs ≡ number
    shallow : blocks_depth bs ≤ levels

  abbrev BlockAt : ℕ → List ℕ → Type 0
  BlockAt levels bytes = Decided (λ (x : Block × List ℕ). IsShallow levels bytes x.0 x.1)

  abbrev RowAt : ℕ → ℕ → List ℕ → Type 0
  RowAt levels number bytes = Decided (λ (x : Blocks × List ℕ). AreShallow levels number bytes x.0 x.1)

  -- ---- a row

  row_none : (levels : ℕ) (bytes : List ℕ) → AreShallow levels 0 bytes none bytes
  row_none levels bytes = record { are_blocks = refl; counted = refl; shallow = omega arith }

  row_cons : (level number : ℕ) (bytes middle rest : List ℕ) (b : Block) (bs : Blocks) → IsShallow level bytes b middle
      → AreShallow (suc level) number middle bs rest → AreShallow (suc level) (suc number) bytes (more b bs) rest
  row_cons level number bytes middle rest b bs p q = record {
    are_blocks = (middle, p.is_block, q.are_blocks);
    counted = omega (arith, q.counted);
    shallow = omega (arith, p.shallow, q.shallow);
  }

  row_first : (level number : ℕ) (bytes rest : List ℕ) (bs : Blocks) → AreShallow (suc level) (suc number) bytes bs rest
      → (x : Block × List ℕ) × IsShallow level bytes x.0 x.1
  row_first level number bytes rest none q = absurd (omega (arith, q.counted))
  row_first level number bytes rest (more b bs) q =
      ((b, q.are_blocks.0), record { is_block = q.are_blocks.1; shallow = omega (arith, q.shallow) })

  -- the others follow a first block
  row_behind : (level number : ℕ) (bytes middle rest : List ℕ) (b : Block) (bs : Blocks)
      → IsShallow level bytes b middle → AreShallow (suc level) (suc number) bytes bs rest
      → (x : Blocks × List ℕ) × AreShallow (suc level) number middle x.0 x.1
  row_behind level number bytes middle rest b none p q = absurd (omega (arith, q.counted))
  row_behind level number bytes middle rest b (more c bs) p q =
      let same = one_block limit c b bytes q.are_blocks.0 middle q.are_blocks.1 p.is_block in
      let behind : AreBlocks limit middle bs rest =
      subst (λ (l : List ℕ). AreBlocks limit l bs rest) same.1 q.are_blocks.2 in (
        (bs, rest),
        record { are_blocks = behind; counted = omega (arith, q.counted); shallow = omega (arith, q.shallow) },
      )

  row_with : (level number : ℕ) (bytes middle : List ℕ) (b : Block) → IsShallow level bytes b middle
      → RowAt (suc level) number middle → RowAt (suc level) (suc number) bytes
  row_with level number bytes middle b p behind =
      decided_by (λ (x : Blocks × List ℕ). AreShallow (suc level) number middle x.0 x.1)
      (λ (x : Blocks × List ℕ). AreShallow (suc level) (suc number) bytes x.0 x.1) behind
      (λ x q. inl ((more b x.0, x.1), row_cons level number bytes middle x.1 b x.0 p q))
      (λ y q. row_behind level number bytes middle y.1 b y.0 p q)

  row_below : (level : ℕ) → ((bytes : List ℕ) → BlockAt level bytes) → (number : ℕ) (bytes : List ℕ)
      → RowAt (suc level) number bytes
  row_below level child zero bytes = inl ((none, bytes), row_none (suc level) bytes)
  row_below level child (suc number) bytes =
      decided_by (λ (x : Block × List ℕ). IsShallow level bytes x.0 x.1)
      (λ (x : Blocks × List ℕ). AreShallow (suc level) (suc number) bytes x.0 x.1) (child bytes)
      (λ x p. row_with level number bytes x.1 x.0 p (row_below level child number x.1))
      (λ y q. row_first level number bytes y.1 y.0 q)

  too_deep : (number : ℕ) (bytes rest : List ℕ) (bs : Blocks) → AreShallow 0 (suc number) bytes bs rest → ⊥
  too_deep number bytes rest none q = omega (arith, q.counted)
  too_deep number bytes rest (more b bs) q = omega (arith, q.shallow)

  -- there is nothing below the last level
  row_last : (number : ℕ) (bytes : List ℕ) → RowAt 0 number bytes
  row_last zero bytes = inl ((none, bytes), row_none 0 bytes)
  row_last (suc number) bytes = inr (λ x q. too_deep number bytes x.1 x.0 q)

  -- ---- a block

  block_with : (levels : ℕ) (bytes tail rest : List ℕ) (s : Start) (bs : Blocks) → start_at limit bytes ≡ Some (s, tail)
      → AreShallow levels s.subs tail bs rest → IsShallow levels bytes (block s.name s.untracked bs) rest
  block_with levels bytes tail rest s bs e q =
      let start = start_takes limit bytes (s, tail) e in
      let head : IsBlockHead limit bytes
      (record { untracked = length s.untracked; subs = how_many_blocks bs; name = s.name }) start.names =
      subst (λ (n : ℕ). IsBlockHead limit bytes (record { untracked = length s.untracked; subs = n; name = s.name })
      start.names) (sym q.counted) start.is_head in
      record { is_block = (start.names, tail, head, start.are_names, q.are_blocks); shallow = q.shallow }

  row_of : (levels : ℕ) (bytes tail rest : List ℕ) (s : Start) (b : Block) → start_at limit bytes ≡ Some (s, tail)
      → IsShallow levels bytes b rest → (x : Blocks × List ℕ) × AreShallow levels s.subs tail x.0 x.1
  row_of levels bytes tail rest s (block name untracked bs) e q =
      let p = q.is_block in
      let here : IsStart limit bytes (record { name = name; untracked = untracked; subs = how_many_blocks bs }) p.1 =
      record { names = p.0; is_head = p.2; are_names = p.3 } in
      let same = one_start limit bytes (record { name = name; untracked = untracked; subs = how_many_blocks bs }) s p.1
      tail here (start_takes limit bytes (s, tail) e) in (
        (bs, rest),
        record {
          are_blocks = subst (λ (l : List ℕ). AreBlocks limit l bs rest) same.1 p.4;
          counted = ap (λ (t : Start). t.subs) same.0;
          shallow = q.shallow;
        },
      )

  block_by : (levels : ℕ) (bytes : List ℕ) → ((number : ℕ) (tail : List ℕ) → RowAt levels number tail)
      → (o : Option (Start × List ℕ)) → start_at limit bytes ≡ o → BlockAt levels bytes
  block_by levels bytes row None e = inr (λ x q. no_block limit x.0 bytes x.1 e q.is_block)
  block_by levels bytes row (Some s) e =
      decided_by (λ (x : Blocks × List ℕ). AreShallow levels s.0.subs s.1 x.0 x.1)
      (λ (x : Block × List ℕ). IsShallow levels bytes x.0 x.1) (row s.0.subs s.1)
      (λ x q. inl ((block s.0.name s.0.untracked x.0, x.1), block_with levels bytes s.1 x.1 s.0 x.0 e q))
      (λ y q. row_of levels bytes s.1 y.1 s.0 y.0 e q)

  -- bytes begin with a block of so many levels or with none
  pub block_reading : (levels : ℕ) (bytes : List ℕ) → Decided (λ (x : Block × List ℕ). IsShallow levels bytes x.0 x.1)
  block_reading zero bytes = block_by 0 bytes row_last (start_at limit bytes) refl
  block_reading (suc level) bytes =
      block_by (suc level) bytes (row_below level (λ middle. block_reading level middle)) (start_at limit bytes) refl
