-- The layout of a file that is written (gitformat-index). Public clauses cite none of these.
use Rattle.std.specs.Prelude.{◌≡◌, ℕ, ◌+◌, ◌<◌, ◌^◌, ◌==◌, ◌&&◌, not, Bool, [], codes, length}
use Rattle.std.specs.List.{flat_map}
use Rattle.entry_list.specs.Counted.{counted_in}
use Rattle.entry_list.specs.EntryImage.{written}
use Rattle.entry_list.specs.Header.{header_len}
use Rattle.entry_list.specs.declared.Version.{Version}
use Rattle.entry_list.specs.declared.write.Precision.{Precision}
use Rattle.ext_encode.specs.Chosen.{Extensions as Chosen}
use Rattle.ext_encode.specs.Listing.{AreLens}
use Rattle.ext_encode.specs.declared.lens.Lens.{Lens}
use Rattle.index_extensions.specs.Encoding.{item_bytes}
use Rattle.index_model.specs.Contents.{Contents}
use Rattle.index_model.specs.Image.{asks_for, chosen_extensions, image_version, extension_items, unmarked}
use Rattle.index_model.specs.declared.write.Options.{Options}

-- an end marker is requested, and there are entries
abbrev pub wants_marker : Contents → Options → Bool
wants_marker v options = not (length v.records == 0) && asks_for options.extensions (codes "EOIE")

-- the number of bytes before the end marker, with those of entries counted by this precision
abbrev pub counted_unmarked : Precision → Contents → Options → ℕ
counted_unmarked precision v options =
    header_len + counted_in precision (image_version v options) [] (written v.records)
    + length (flat_map item_bytes (extension_items v options))

-- the version, the number of entries, the extensions and their lengths; all before the end marker fits 32 bits
pub record IsLayout (version : Version) (count : ℕ) (list : Chosen) (lens : Lens) (v : Contents) (options : Options)
    : Type 0 where
  pub is_version : version ≡ image_version v options
  pub is_count : count ≡ length (written v.records)
  pub is_list : list ≡ chosen_extensions v options
  pub are_lens : AreLens v.kind list lens
  pub small : length (unmarked v options) < 2 ^ 32
