-- Bytes are one link or have one first fault: there is one of the two, and no second.
use Rattle.std.proofs.Common.{◌≡◌, ℕ, ◌<◌, ◌≤◌, ◌⊎◌, inl, inr, List, [], ◌∷◌, length, take, drop, Option, Some, None}
use Rattle.std.proofs.Common.{refl, sym, ap, ◌∙◌, arith}
use Rattle.std.specs.Prelude.{◌≢◌, codes}
use Rattle.std.proofs.lemmas.List.{length-take, take-append-drop}
use Rattle.std.proofs.lemmas.Bool.{cases_lt}
use Rattle.ext_bitmap.specs.Bitmap.{Bitmap, IsBitmap, HasBitmap, Lacks}
use Rattle.index_parts.specs.Id.{id_len, make_id}
use Rattle.ext_bitmap.specs.declared.ewah.reading.Error.{Error as BitmapError}
use Rattle.index_parts.specs.declared.hash.Kind.{Kind}
use Rattle.index_parts.specs.declared.hash.ObjectId.{ObjectId}
use Rattle.ext_bitmap.proofs.BitmapFaults.{bitmap_or_fault}
use Rattle.ext_bitmap.proofs.Bitmaps.{one_bitmap}
use Rattle.index_extensions.specs.ExtensionValue.{IsRead}
use Rattle.ext_split.specs.Link.{LinkFault, Corrupt, BitmapDecode, BitmapPair, LinkValue, StartsWithId, IsLink, alone}
use Rattle.ext_split.specs.Link.{split, IsLinkFault, short, no_delete, no_replace, garbage, HasLink}
use Rattle.ext_split.proofs.Links.{one_id, no_bitmap, moved, no_link_fault}

-- ---- there is one

abbrev LinkOrFault : Kind → List ℕ → Type 0
LinkOrFault kind bytes = HasLink kind bytes ⊎ ((f : LinkFault) × IsLinkFault kind bytes f)

behind_replace : (kind : Kind) (bytes : List ℕ) (id : ObjectId) (maps after rest : List ℕ) (b : BitmapPair)
    → StartsWithId kind bytes id maps → IsBitmap maps b.delete after → IsBitmap after b.replace rest
    → LinkOrFault kind bytes
behind_replace kind bytes id maps after [] b s m n =
    inl (record { value = record { shared = id; bitmaps = Some b }; is_link = split id maps after b s m n refl })
behind_replace kind bytes id maps after (c ∷ rest) b s m n = inr
    (Corrupt (codes "garbage trailing link extension"), garbage id maps after (c ∷ rest) b s m n (λ e. absurd cc) refl)

behind_delete : (kind : Kind) (bytes : List ℕ) (id : ObjectId) (maps after : List ℕ) (delete : Bitmap)
    → StartsWithId kind bytes id maps → IsBitmap maps delete after
    → HasBitmap after ⊎ ((error : BitmapError) × Lacks error after) → LinkOrFault kind bytes
behind_delete kind bytes id maps after delete s m (inl h) =
    behind_replace kind bytes id maps after h.rest (record { delete = delete; replace = h.value }) s m h.is_bitmap
behind_delete kind bytes id maps after delete s m (inr h) =
    inr (BitmapDecode h.0 (codes "replace"), no_replace id maps after delete h.0 s m h.1 refl)

behind_id : (kind : Kind) (bytes : List ℕ) (id : ObjectId) (maps : List ℕ) → StartsWithId kind bytes id maps → maps ≢ []
    → HasBitmap maps ⊎ ((error : BitmapError) × Lacks error maps) → LinkOrFault kind bytes
behind_id kind bytes id maps s some (inl h) =
    behind_delete kind bytes id maps h.rest h.value s h.is_bitmap (bitmap_or_fault h.rest)
behind_id kind bytes id maps s some (inr h) =
    inr (BitmapDecode h.0 (codes "delete"), no_delete id maps h.0 s some h.1 refl)

from_id : (kind : Kind) (bytes : List ℕ) (id : ObjectId) (maps : List ℕ) → StartsWithId kind bytes id maps
    → LinkOrFault kind bytes
from_id kind bytes id [] s = inl (record { value = record { shared = id; bitmaps = None }; is_link = alone id s refl })
from_id kind bytes id (c ∷ maps) s = behind_id kind bytes id (c ∷ maps) s (λ e. absurd cc) (bitmap_or_fault (c ∷ maps))

long_or_short : (kind : Kind) (bytes : List ℕ) → (length bytes < id_len kind) ⊎ (id_len kind ≤ length bytes)
    → LinkOrFault kind bytes
long_or_short kind bytes (inl lt) =
    inr (Corrupt (codes "link extension too short to read share index checksum"), short lt refl)
long_or_short kind bytes (inr le) =
    let n = id_len kind in
    from_id kind bytes (make_id kind (take n bytes)) (drop n bytes) (record {
      spelling = take n bytes;
      parts = sym (take-append-drop n bytes);
      size = omega (arith, length-take n bytes);
      value = refl;
    })

pub link_or_fault : (kind : Kind) (bytes : List ℕ) → LinkOrFault kind bytes
link_or_fault kind bytes = long_or_short kind bytes (cases_lt (length bytes) (id_len kind))

read_by : (kind : Kind) (bytes : List ℕ) → LinkOrFault kind bytes
    → (v : Option LinkValue) × IsRead (IsLink kind) bytes v
read_by kind bytes (inl h) = (Some h.value, h.is_link)
read_by kind bytes (inr h) = (None, λ l k. no_link_fault kind bytes l h.0 k h.1)

pub link_reading : (kind : Kind) (bytes : List ℕ) → (v : Option LinkValue) × IsRead (IsLink kind) bytes v
link_reading kind bytes = read_by kind bytes (link_or_fault kind bytes)

-- ---- and no second link

same_pair : (b c : BitmapPair) → b.delete ≡ c.delete → b.replace ≡ c.replace → b ≡ c
same_pair b c e f = rw (e, f) refl

same_link : (id id' : ObjectId) (b c : BitmapPair) → id ≡ id' → b ≡ c
    → ◌≡◌ {A = LinkValue} (record { shared = id; bitmaps = Some b }) (record { shared = id'; bitmaps = Some c })
same_link id id' b c e f = rw (e, f) refl

pub one_link : (kind : Kind) (bytes : List ℕ) (l m : LinkValue) → IsLink kind bytes l → IsLink kind bytes m → l ≡ m
one_link kind bytes l m (alone id s e) (alone id' t f) =
    e ∙ ap (λ (x : ObjectId). record { shared = x; bitmaps = None }) (one_id kind bytes id id' [] [] s t).0 ∙ sym f
one_link kind bytes l m (alone id s e) (split id' maps after b t p q f) =
    absurd (no_bitmap after b.delete (moved maps [] b.delete after (sym (one_id kind bytes id id' [] maps s t).1) p))
one_link kind bytes l m (split id maps after b s p q e) (alone id' t f) =
    absurd (no_bitmap after b.delete (moved maps [] b.delete after (one_id kind bytes id id' maps [] s t).1 p))
one_link kind bytes l m (split id maps after b s p q e) (split id' maps' after' c t u v f) =
    let starts = one_id kind bytes id id' maps maps' s t in
    let first = one_bitmap maps' b.delete c.delete after after' (moved maps maps' b.delete after starts.1 p) u in
    let second = one_bitmap after' b.replace c.replace [] [] (moved after after' b.replace [] first.1 q) v in
    e ∙ same_link id id' b c starts.0 (same_pair b c first.0 second.0) ∙ sym f
