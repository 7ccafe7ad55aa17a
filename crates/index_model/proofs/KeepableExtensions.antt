-- What was read of extensions can be spelled.
use Rattle.std.proofs.Common.{◌≡◌, ℕ, ◌^◌, ◌<◌, Bool, true, false, cond, List, [], ◌∷◌, ◌++◌, length, Option, Some}
use Rattle.std.proofs.Common.{None, subst, arith}
use Rattle.std.specs.Prelude.{IfSome, codes}
use Rattle.std.specs.List.{AllByRecursion}
use Rattle.index_parts.specs.declared.hash.Kind.{Kind}
use Rattle.index_parts.specs.Numbers.{be}
use Rattle.entry_list.specs.Record.{AreBytes}
use Rattle.index_extensions.specs.ExtensionValue.{IsValue, content_named, has_signature, last_content, option_or}
use Rattle.index_extensions.specs.Walk.{AreItems, Item, IsItem, IsWalk}
use Rattle.ext_encode.specs.MonitorImage.{IsSpellableMonitor}
use Rattle.ext_encode.specs.ResolveUndoImage.{AreSpellablePaths}
use Rattle.ext_encode.specs.SpellableCache.{IsSpellableBlock, IsSpellableCache, names_are_some}
use Rattle.ext_encode.proofs.CacheRead.{cache_spellable}
use Rattle.ext_bitmap.proofs.WrittenBitmaps.{be_four, bytes_behind, bytes_first}
use Rattle.ext_encode.proofs.WrittenMonitors.{monitor_spellable}
use Rattle.ext_encode.proofs.WrittenPaths.{paths_spellable}
use Rattle.index_model.specs.Outcome.{IsOutcome, Outcome}
use Rattle.ext_untracked.specs.Blocks.{DirectoryValue}
use Rattle.ext_untracked.specs.Untracked.{Cache, IsCache}
use Rattle.ext_small.specs.FsMonitor.{IsMonitor}
use Rattle.ext_small.specs.ResolveUndo.{IsResolveUndo}
use Rattle.index_model.specs.Keepable.{AreKeepable}

-- ---- contents of extensions that were walked

-- bytes that 32 bits can count
pub record IsContent (bytes : List ℕ) : Type 0 where
  pub are : AreBytes bytes
  pub small : length bytes < 2 ^ 32

content_of : (bytes : List ℕ) (i : Item) (after : List ℕ) → AreBytes bytes → IsItem bytes i after
    → IsContent i.content × AreBytes after
content_of bytes i after h k =
    let whole : AreBytes (i.signature ++ (i.size ++ (i.content ++ after))) = subst AreBytes k.parts h in
    let sized : AreBytes (i.size ++ (i.content ++ after)) =
    bytes_behind i.signature (i.size ++ (i.content ++ after)) whole in
    let behind : AreBytes (i.content ++ after) = bytes_behind i.size (i.content ++ after) sized in
    let size : be i.size < 2 ^ 32 = be_four i.size (bytes_first i.size (i.content ++ after) sized) k.size_len in (
      record { are = bytes_first i.content after behind; small = omega (arith, k.content_len, size) },
      bytes_behind i.content after behind,
    )

contents_of : (bytes : List ℕ) (items : List Item) (tail : List ℕ) → AreBytes bytes → AreItems bytes items tail
    → AllByRecursion (λ i. IsContent i.content) items
contents_of bytes [] tail h k = tt
contents_of bytes (i ∷ items) tail h (after, k, l) =
    let here = content_of bytes i after h k in
    (here.0, contents_of after items tail here.1 l)

or_either : {A : Type 0} (P : A → Type 0) (x y : Option A) → IfSome x P → IfSome y P → IfSome (option_or x y) P
or_either P None y h k = k
or_either P (Some a) y h k = h

if_named : (P : List ℕ → Type 0) (b : Bool) (content : List ℕ) → P content → IfSome (cond b (Some content) None) P
if_named P true content h = h
if_named P false content h = tt

last_is : (s : List ℕ) (items : List Item) → AllByRecursion (λ i. IsContent i.content) items
    → IfSome (last_content s items) IsContent
last_is s [] h = tt
last_is s (i ∷ items) h = or_either IsContent (last_content s items) (content_named s i) (last_is s items h.1)
    (if_named IsContent (has_signature s i) i.content h.0)

-- a value that was read of a content has what each one that is read of such bytes has
read_has : {A : Type 0} (Is : List ℕ → A → Type 0) (P : A → Type 0)
    → ((bytes : List ℕ) (a : A) → IsContent bytes → Is bytes a → P a) → (content : Option (List ℕ)) (value : Option A)
    → IfSome content IsContent → IsValue Is content value → IfSome value P
read_has Is P each content None k h = tt
read_has Is P each None (Some a) k h = absurd cc
read_has Is P each (Some bytes) (Some a) k h = each bytes a k h

-- ---- without a limit

block_unlimited : (limit : Option ℕ) (d : DirectoryValue) → IsSpellableBlock limit d → IsSpellableBlock None d
block_unlimited limit d h = record {
  name = h.name;
  names = h.names;
  untracked = h.untracked;
  subs = h.subs;
  untracked_within = tt;
  subs_within = tt;
}

blocks_unlimited : (limit : Option ℕ) (ds : List DirectoryValue) → AllByRecursion (IsSpellableBlock limit) ds
    → AllByRecursion (IsSpellableBlock None) ds
blocks_unlimited limit [] h = tt
blocks_unlimited limit (d ∷ ds) h = (block_unlimited limit d h.0, blocks_unlimited limit ds h.1)

cache_unlimited : (kind : Kind) (limit : Option ℕ) (c : Cache) → IsSpellableCache kind limit c
    → IsSpellableCache kind None c
cache_unlimited kind limit c h = record {
  preamble = h.preamble;
  few = h.few;
  within = tt;
  tree = h.tree;
  blocks = blocks_unlimited limit c.directories h.blocks;
  known = h.known;
}

-- ---- all extensions

pub keepable : (kind : Kind) (limit : Option ℕ) (bytes : List ℕ) (items : List Item) (tail : List ℕ) (o : Outcome)
    → AreBytes bytes → IsWalk bytes items tail → IsOutcome kind limit items o → AreKeepable kind o
keepable kind limit bytes items tail o h walk is =
    let each = contents_of bytes items tail h walk.items_are in
    record {
      resolve_undo = read_has (IsResolveUndo kind) (AreSpellablePaths kind)
          (λ b paths k r. paths_spellable kind b paths [] r)
          (last_content (codes "REUC") items) o.resolve_undo (last_is (codes "REUC") items each) is.resolve_undo;
      untracked = read_has (IsCache kind limit) (λ c. names_are_some c ≡ true → IsSpellableCache kind None c)
          (λ b c k r names. cache_unlimited kind limit c (cache_spellable kind limit b c k.are k.small r names))
          (last_content (codes "UNTR") items) o.untracked (last_is (codes "UNTR") items each) is.untracked;
      fs_monitor = read_has IsMonitor IsSpellableMonitor (λ b m k r. monitor_spellable b m k.are r)
          (last_content (codes "FSMN") items) o.fs_monitor (last_is (codes "FSMN") items each) is.fs_monitor;
    }
