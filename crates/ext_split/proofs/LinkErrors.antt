-- What an error of a part implies about the link.
use Rattle.std.proofs.Common.{◌≡◌, ℕ, true, false, eqb, List, [], ◌∷◌, length, refl, ap, arith}
use Rattle.std.specs.Prelude.{◌≢◌, codes}
use Rattle.std.proofs.lemmas.Bool.{eqb-true, eqb-false}
use Rattle.ext_bitmap.specs.Bitmap.{Bitmap, IsBitmap}
use Rattle.index_parts.specs.declared.hash.Kind.{Kind}
use Rattle.index_parts.specs.declared.hash.ObjectId.{ObjectId}
use Rattle.ext_split.specs.Link.{BitmapDecode, StartsWithId, no_delete, no_replace, LinkCause, LinkBitmapCause}
use Rattle.ext_split.specs.declared.link.decode.Error.{Error}
use Rattle.ext_split.specs.declared.link.decode.Error.TheVariants as errors

pub nil_of : (l : List ℕ) → eqb (length l) 0 ≡ true → l ≡ []
nil_of [] e = refl
nil_of (b ∷ l) e = let none : length (b ∷ l) ≡ 0 = eqb-true (length (b ∷ l)) 0 e in absurd (omega (arith, none))

pub some_of : (l : List ℕ) → eqb (length l) 0 ≡ false → l ≢ []
some_of l e = λ k. eqb-false (length l) 0 e (ap length k)

pub says_delete : (kind : Kind) (bytes : List ℕ) (id : ObjectId) (maps : List ℕ) (e : Error)
    → StartsWithId kind bytes id maps → maps ≢ [] → LinkBitmapCause (codes "delete") maps e → LinkCause kind bytes e
says_delete kind bytes id maps (errors.Corrupt text) starts some h = absurd h
says_delete kind bytes id maps (errors.BitmapDecode error name) starts some h =
    no_delete id maps error starts some h.0 (ap (λ (n : List ℕ). BitmapDecode error n) h.1)
says_delete kind bytes id maps errors.Memory starts some h =
    record { id = id; maps = maps; starts = starts; has_bitmap = h }

pub says_replace : (kind : Kind) (bytes : List ℕ) (id : ObjectId) (maps after : List ℕ) (delete : Bitmap) (e : Error)
    → StartsWithId kind bytes id maps → IsBitmap maps delete after → LinkBitmapCause (codes "replace") after e
    → LinkCause kind bytes e
says_replace kind bytes id maps after delete (errors.Corrupt text) starts first h = absurd h
says_replace kind bytes id maps after delete (errors.BitmapDecode error name) starts first h =
    no_replace id maps after delete error starts first h.0 (ap (λ (n : List ℕ). BitmapDecode error n) h.1)
says_replace kind bytes id maps after delete errors.Memory starts first h = record {
  id = id;
  maps = maps;
  starts = starts;
  has_bitmap = record { value = delete; rest = after; is_bitmap = first };
}
