-- A whole file: its parts, and how many bytes they have.
use Rattle.std.proofs.Common.{◌≡◌, ℕ, ◌+◌, ◌<◌, ◌≤◌, ◌^◌, Bool, true, false, cond, eqb, ltb, List, [], ◌∷◌, ◌++◌}
use Rattle.std.proofs.Common.{length, refl, sym, ap, ◌∙◌, arith, append_assoc, append-nil, length-append}
use Rattle.std.specs.Prelude.{◌&&◌, codes, not}
use Rattle.std.specs.List.{AllByRecursion, flat_map}
use Rattle.std.proofs.lemmas.Bool.{lt-ltb, ne_eqb}
use Rattle.index_parts.specs.declared.hash.Kind.{Kind}
use Rattle.index_extensions.specs.EndMarker.{heads}
use Rattle.index_extensions.specs.Encoding.{item_bytes, marker_item}
use Rattle.index_extensions.specs.Walk.{Item}
use Rattle.index_extensions.proofs.WrittenItems.{IsWhole}
use Rattle.ext_encode.specs.Chosen.{Extensions as Chosen, items}
use Rattle.ext_encode.specs.Marked.{marker_if}
use Rattle.ext_encode.proofs.Wholes.{some_whole}
use Rattle.entry_list.specs.EntryImage.{header_bytes, written}
use Rattle.entry_list.specs.declared.write.Precision.{Precision}
use Rattle.entry_list.specs.declared.write.Precision.TheVariants.{Exact}
use Rattle.entry_list.proofs.Counts.{counted_exact, within_counted}
use Rattle.index_model.specs.declared.write.Options.{Options}
use Rattle.index_model.specs.Image.{asks_for, body, chosen_extensions, entries_bytes, entries_end, has_marker}
use Rattle.index_model.specs.Image.{image_version}
use Rattle.index_model.specs.Image.{is_kept, extension_items, marker_of, unmarked}
use Rattle.index_model.specs.Contents.{Contents}
use Rattle.index_encode.specs.Layout.{counted_unmarked, wants_marker}

abbrev header_and_entries : Contents → Options → List ℕ
header_and_entries v options =
    header_bytes (image_version v options) (length (written v.records)) ++ entries_bytes v options

unmarked_parts : (h es x : List ℕ) → h ++ (es ++ x) ≡ (h ++ es) ++ x
unmarked_parts h es x = sym (append_assoc h es x)

unmarked_is : (v : Contents) (options : Options)
    → unmarked v options ≡ header_and_entries v options ++ flat_map item_bytes (extension_items v options)
unfolding unmarked
unmarked_is v options = unmarked_parts (header_bytes (image_version v options) (length (written v.records)))
    (entries_bytes v options) (flat_map item_bytes (extension_items v options))

-- the pieces that are written make up the body
pub body_pieces : (v : Contents) (options : Options) → header_bytes (image_version v options) (length (written v.records))
    ++ (entries_bytes v options ++ (flat_map item_bytes (extension_items v options) ++ flat_map item_bytes (marker_of v options)))
    ≡ body v options
unfolding body
body_pieces v options =
    let h = header_bytes (image_version v options) (length (written v.records)) in
    let es = entries_bytes v options in
    let x = flat_map item_bytes (extension_items v options) in
    let m = flat_map item_bytes (marker_of v options) in
    sym (ap (λ (u : List ℕ). u ++ m) (unmarked_is v options) ∙ append_assoc (h ++ es) x m ∙ append_assoc h es (x ++ m))

-- ---- how many bytes they have

length_front : (v : Contents) (options : Options) → length (header_and_entries v options) ≡ entries_end v options
length_front v options = omega (
  arith,
  length-append (header_bytes (image_version v options) (length (written v.records))) (entries_bytes v options),
)

pub length_unmarked : (v : Contents) (options : Options) → length (unmarked v options)
    ≡ entries_end v options + length (flat_map item_bytes (extension_items v options))
length_unmarked v options = omega (
  arith,
  ap length (unmarked_is v options),
  length-append (header_and_entries v options) (flat_map item_bytes (extension_items v options)),
  length_front v options,
)

-- they are no more than are counted
pub unmarked_within : (precision : Precision) (v : Contents) (options : Options)
    → length (unmarked v options) ≤ counted_unmarked precision v options
unmarked_within precision v options = omega (
  arith,
  length_unmarked v options,
  within_counted precision (image_version v options) [] (written v.records),
)

-- and equal to it, if the bytes of entries are counted exactly
pub unmarked_exact : (v : Contents) (options : Options)
    → length (unmarked v options) ≡ counted_unmarked Exact v options
unmarked_exact v options = omega (
  arith,
  length_unmarked v options,
  counted_exact (image_version v options) [] (written v.records),
)

pub small_end : (v : Contents) (options : Options) → length (unmarked v options) < 2 ^ 32
    → entries_end v options < 2 ^ 32
small_end v options small = omega (arith, length_unmarked v options, small)

-- ---- the end marker

marker_one : (b : Bool) (kind : Kind) (offset : ℕ) (e : Chosen) → b ≡ true
    → item_bytes (marker_item kind offset (heads (items kind e))) ≡ flat_map item_bytes (marker_if b kind offset e)
marker_one true kind offset e h = sym (append-nil (item_bytes (marker_item kind offset (heads (items kind e)))))
marker_one false kind offset e h = absurd cc

-- if there is a marker, it is written
pub marker_is : (v : Contents) (options : Options) (end : ℕ) → end ≡ entries_end v options → has_marker v options ≡ true
    → item_bytes (marker_item v.kind end (heads (extension_items v options))) ≡ flat_map item_bytes (marker_of v
    options)
marker_is v options end e b =
    ap (λ (n : ℕ). item_bytes (marker_item v.kind n (heads (extension_items v options)))) e
    ∙ marker_one (has_marker v options) v.kind (entries_end v options) (chosen_extensions v options) b

none_by : (b : Bool) (kind : Kind) (offset : ℕ) (e : Chosen) → b ≡ false
    → [] ≡ flat_map item_bytes (marker_if b kind offset e)
none_by true kind offset e h = absurd cc
none_by false kind offset e h = refl

pub no_marker : (v : Contents) (options : Options) → has_marker v options ≡ false
    → [] ≡ flat_map item_bytes (marker_of v options)
no_marker v options b = none_by (has_marker v options) v.kind (entries_end v options) (chosen_extensions v options) b

-- complete extensions have bytes if there is at least one
pub some_bytes : (is : List Item) (n : ℕ) → n ≡ length (flat_map item_bytes is) → AllByRecursion IsWhole is
    → ltb 0 n ≡ not (eqb (length is) 0)
some_bytes [] n e h = rw e refl
some_bytes (i ∷ is) n e h =
    let some : 0 < n = omega (
      arith,
      e,
      length-append (item_bytes i) (flat_map item_bytes is),
      length-append i.signature (i.size ++ i.content),
      h.0.signature,
    ) in
    lt-ltb 0 n some ∙ sym (ap not (ne_eqb (length (i ∷ is)) 0 (λ k. omega (arith, k))))

-- if not all extensions are preserved, a requested marker follows extensions that have bytes
pub marker_told : (v : Contents) (options : Options) (n : ℕ) → is_kept options.extensions ≡ false
    → wants_marker v options ≡ true → n ≡ length (flat_map item_bytes (extension_items v options))
    → length (unmarked v options) < 2 ^ 32 → ltb 0 n ≡ has_marker v options
marker_told v options n k w h small =
    let each = some_whole v.kind (chosen_extensions v options) (omega (arith, length_unmarked v options, small)) in
    some_bytes (extension_items v options) n h each ∙ told (is_kept options.extensions) (not (eqb (length v.records) 0))
    (asks_for options.extensions (codes "EOIE")) v.extensions.had_end_marker (not (eqb (length (extension_items v
    options)) 0))
    k w
  where
    told : (kept some asked had more : Bool) → kept ≡ false → (some && asked) ≡ true
        → more ≡ cond kept had (some && (asked && more))
    told true some asked had more k w = absurd cc
    told false true true had more k w = refl
    told false true false had more k w = absurd cc
    told false false asked had more k w = absurd cc
