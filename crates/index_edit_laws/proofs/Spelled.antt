-- An untracked cache and a monitor's answer can be encoded after changes, if they could be before.
use Rattle.std.proofs.Common.{◌≡◌, ◌^◌, ◌<◌, ◌&&◌, Bool, true, false, List, [], ◌∷◌, Option, Some, None, arith, length, map}
use Rattle.std.proofs.Common.{nat_lt, refl, subst, sym}
use Rattle.std.proofs.lemmas.Bool.{ltb-true}
use Rattle.std.proofs.lemmas.List.{length-map}
use Rattle.std.specs.Prelude.{IfSome, if◌then◌else◌}
use Rattle.std.specs.Option.{option_map}
use Rattle.ext_bitmap.proofs.EncodedBits.{bits_spellable, encoded_len, last_len, words_len}
use Rattle.ext_bitmap.proofs.WrittenBitmaps.{bitmap_len}
use Rattle.ext_bitmap.specs.EncodedBitmap.{encoded, up_to_last, words_of}
use Rattle.ext_bitmap.specs.Bitmap.{Bitmap}
use Rattle.ext_bitmap.specs.Ranges.{set_places}
use Rattle.entry_edit.specs.declared.change.Change.{Change}
use Rattle.entry_list.specs.Record.{Record}
use Rattle.ext_encode.specs.MonitorImage.{IsSpellableMonitor}
use Rattle.ext_encode.specs.SpellableCache.{IsSpellableCache}
use Rattle.ext_encode.specs.MonitorPlaces.{monitor_is_within}
use Rattle.index_edit.specs.Dirty.{is_dirty, monitor_after}
use Rattle.index_parts.specs.declared.hash.Kind.{Kind}
use Rattle.ext_small.specs.FsMonitor.{Monitor}
use Rattle.ext_untracked.specs.Untracked.{Cache}
use Rattle.index_edit.proofs.Invalidations.{cache_stays}
use Rattle.index_edit.proofs.SpellableCaches.{spellable_stays}
use Rattle.index_edit.specs.Invalidated.{all_unlisted}

pub cache_spellable : (kind : Kind) (cs : List Change) (cache : Option Cache)
    → IfSome cache (IsSpellableCache kind None) → IfSome (option_map (all_unlisted cs) cache) (IsSpellableCache kind None)
cache_spellable kind cs None h = tt
cache_spellable kind cs (Some c) h = cache_stays (IsSpellableCache kind None) (spellable_stays kind None) cs c h

module _ (m : Monitor) (bits : List Bool) (before : IsSpellableMonitor m) where
  -- with new bits, of which there are so few that each place has 32 bits
  renewed : length bits < 2 ^ 32 → IsSpellableMonitor (record { token = m.token; dirty = encoded bits })
  renewed few =
      let kept : List Bool = up_to_last bits in
      record {
        token = before.token;
        dirty = bits_spellable bits few;
        size = omega (arith, bitmap_len (encoded bits), encoded_len (words_of kept), words_len kept, last_len bits, few);
      }

pub monitor_spellable : (cs : List Change) (old now : List Record) (monitor : Option Monitor)
    → IfSome monitor IsSpellableMonitor → IfSome (monitor_after cs old now monitor) IsSpellableMonitor
monitor_spellable cs old now None h = tt
monitor_spellable [] old now (Some m) h = h
monitor_spellable (c ∷ cs) old now (Some m) h = go (monitor_is_within (length old) m) (nat_lt (length now) (2 ^ 32)) (λ e. e)
  where
    bits : List Bool
    bits = map (is_dirty (c ∷ cs) old (set_places m.dirty)) now

    few : nat_lt (length now) (2 ^ 32) ≡ true → length bits < 2 ^ 32
    few e = subst (λ n. n < 2 ^ 32) (sym (length-map now (is_dirty (c ∷ cs) old (set_places m.dirty))))
        (ltb-true (length now) (2 ^ 32) e)

    go : (within fits : Bool) → (fits ≡ true → nat_lt (length now) (2 ^ 32) ≡ true)
        → IfSome (option_map (λ (dirty : Bitmap). record { token = m.token; dirty = dirty })
        (if within && fits then Some (encoded bits) else None)) IsSpellableMonitor
    go true true e = renewed m bits h (few (e refl))
    go true false e = tt
    go false fits e = tt
