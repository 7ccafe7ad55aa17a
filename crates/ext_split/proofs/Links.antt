-- Bytes are one link or have one first fault.
use Rattle.std.proofs.Common.{◌≡◌, ℕ, ◌<◌, List, [], length, Some, sym, ap, subst, ◌∙◌, arith}
use Rattle.std.proofs.lemmas.List.{length-append}
use Rattle.std.proofs.lemmas.Option.{same_Some}
use Rattle.ext_bitmap.specs.Bitmap.{Bitmap, IsBitmap, Lacks}
use Rattle.index_parts.specs.Id.{id_len, make_id}
use Rattle.index_parts.specs.ReadingSteps.{piece_at}
use Rattle.ext_bitmap.specs.declared.ewah.reading.Error.{Error as BitmapError}
use Rattle.ext_bitmap.specs.declared.ewah.reading.Error.TheVariants as bitmaps
use Rattle.index_parts.specs.declared.hash.Kind.{Kind}
use Rattle.index_parts.specs.declared.hash.ObjectId.{ObjectId}
use Rattle.ext_bitmap.proofs.BitmapFaults.{no_fault}
use Rattle.ext_bitmap.proofs.Bitmaps.{one_bitmap}
use Rattle.index_parts.proofs.Splits.{piece_again}
use Rattle.ext_split.specs.Link.{LinkFault, LinkValue, StartsWithId, IsLink, alone, split, IsLinkFault, short}
use Rattle.ext_split.specs.Link.{no_delete, no_replace, garbage}

-- ---- the id at the front

pub one_id : (kind : Kind) (bytes : List ℕ) (id id' : ObjectId) (rest rest' : List ℕ) → StartsWithId kind bytes id rest
    → StartsWithId kind bytes id' rest' → (id ≡ id') × (rest ≡ rest')
one_id kind bytes id id' rest rest' h k =
    let a : piece_at (id_len kind) bytes ≡ Some (h.spelling, rest) =
    ap (piece_at (id_len kind)) h.parts ∙ piece_again (id_len kind) h.spelling rest h.size in
    let b : piece_at (id_len kind) bytes ≡ Some (k.spelling, rest') =
    ap (piece_at (id_len kind)) k.parts ∙ piece_again (id_len kind) k.spelling rest' k.size in
    let same : ◌≡◌ {A = List ℕ × List ℕ} (h.spelling, rest) (k.spelling, rest') = same_Some _ _ (sym a ∙ b) in (
      h.value ∙ ap (λ (x : List ℕ × List ℕ). make_id kind x.0) same ∙ sym k.value,
      ap (λ (x : List ℕ × List ℕ). x.1) same,
    )

pub long_enough : (kind : Kind) (bytes : List ℕ) (id : ObjectId) (rest : List ℕ) → StartsWithId kind bytes id rest
    → length bytes < id_len kind → ⊥
long_enough kind bytes id rest h lt = omega (arith, ap length h.parts, length-append h.spelling rest, h.size)

pub no_bitmap : (rest : List ℕ) (b : Bitmap) → IsBitmap [] b rest → ⊥
no_bitmap rest b h = no_fault [] bitmaps.NumBits (record { value = b; rest = rest; is_bitmap = h }) (omega arith)

-- a bitmap in the place of bytes that are equal
pub moved : (a c : List ℕ) (b : Bitmap) (rest : List ℕ) → a ≡ c → IsBitmap a b rest → IsBitmap c b rest
moved a c b rest e h = subst (λ (l : List ℕ). IsBitmap l b rest) e h

pub lacks_moved : (a c : List ℕ) (error : BitmapError) → a ≡ c → Lacks error a → Lacks error c
lacks_moved a c error e h = subst (λ (l : List ℕ). Lacks error l) e h

pub lacking : (a c rest : List ℕ) (b : Bitmap) (error : BitmapError) → a ≡ c → IsBitmap a b rest → Lacks error c → ⊥
lacking a c rest b error e h k =
    no_fault c error (record { value = b; rest = rest; is_bitmap = moved a c b rest e h }) k

-- ---- a link has no fault

pub no_link_fault : (kind : Kind) (bytes : List ℕ) (l : LinkValue) (f : LinkFault) → IsLink kind bytes l
    → IsLinkFault kind bytes f → ⊥
no_link_fault kind bytes l f (alone id s e) (short lt g) = long_enough kind bytes id [] s lt
no_link_fault kind bytes l f (alone id s e) (no_delete id' maps error t some k g) =
    some (sym (one_id kind bytes id id' [] maps s t).1)
no_link_fault kind bytes l f (alone id s e) (no_replace id' maps after delete error t m k g) =
    no_bitmap after delete (moved maps [] delete after (sym (one_id kind bytes id id' [] maps s t).1) m)
no_link_fault kind bytes l f (alone id s e) (garbage id' maps after rest b t m n some g) =
    no_bitmap after b.delete (moved maps [] b.delete after (sym (one_id kind bytes id id' [] maps s t).1) m)
no_link_fault kind bytes l f (split id maps after b s m n e) (short lt g) = long_enough kind bytes id maps s lt
no_link_fault kind bytes l f (split id maps after b s m n e) (no_delete id' maps' error t some k g) =
    lacking maps maps' after b.delete error (one_id kind bytes id id' maps maps' s t).1 m k
no_link_fault kind bytes l f (split id maps after b s m n e) (no_replace id' maps' after' delete error t p k g) =
    let q = moved maps maps' b.delete after (one_id kind bytes id id' maps maps' s t).1 m in
    lacking after after' [] b.replace error (one_bitmap maps' b.delete delete after after' q p).1 n k
no_link_fault kind bytes l f (split id maps after b s m n e) (garbage id' maps' after' rest c t p r some g) =
    let q = moved maps maps' b.delete after (one_id kind bytes id id' maps maps' s t).1 m in
    let u = moved after after' b.replace [] (one_bitmap maps' b.delete c.delete after after' q p).1 n in
    some (sym (one_bitmap after' b.replace c.replace [] rest u r).1)
