-- What is read of a file system monitor is spelled so, and what is spelled so is read; and bytes are one monitor, or
-- none.
use Rattle.std.proofs.Common.{◌≡◌, ℕ, ◌+◌, ◌*◌, ◌≤◌, Bool, true, false, cond, leb, eqb, ◌⊎◌, List, [], ◌∷◌, ◌++◌}
use Rattle.std.proofs.Common.{length, take, drop, Option, Some, None, inl, inr, refl, sym, ap, subst, ◌∙◌, append_assoc}
use Rattle.std.proofs.Common.{arith}
use Rattle.std.proofs.lemmas.Bool.{eqb-true, eqb-false, eq-eqb, le-leb, and_parts, and_from}
use Rattle.std.proofs.lemmas.List.{length-append, take_at, drop_at, nil_from_length}
use Rattle.ext_bitmap.proofs.BitmapFaults.{no_fault, bitmap_or_fault}
use Rattle.ext_bitmap.proofs.Bitmaps.{one_bitmap}
use Rattle.index_parts.proofs.Splits.{split_takes, split_again}
use Rattle.index_parts.proofs.Readers.{number_takes, number_again}
use Rattle.index_parts.proofs.Steps.{bind_some}
use Rattle.ext_bitmap.specs.Bitmap.{Bitmap, IsBitmap, HasBitmap, Lacks, BitmapCause}
use Rattle.index_parts.specs.Numbers.{be, number}
use Rattle.index_parts.specs.ReadingSteps.{◌>>=◌, split_at_byte, number_at}
use Rattle.ext_bitmap.specs.declared.ewah.reading.Error.{Error}
use Rattle.ext_bitmap.specs.declared.ewah.reading.Error.TheVariants as errors
use Rattle.index_extensions.specs.ExtensionValue.{IsRead}
use Rattle.ext_small.specs.FsMonitor.{TokenValue, nanoseconds, opaque, Monitor, IsToken, version_1}
use Rattle.ext_small.specs.FsMonitor.{version_2, IsMonitor, HasMonitor}
use Rattle.ext_small.specs.MonitorSteps.{token_at, parts_at, has_bitmap_len, IsSizedBitmap}
use Rattle.index_extensions.proofs.Readings.{one_read}

-- ---- numbers

spelled_again : (size : ℕ) (spelling rest : List ℕ) → length spelling ≡ size
    → number_at size (spelling ++ rest) ≡ Some (be spelling, rest)
spelled_again size spelling rest len = number_again size (spelling ++ rest) (be spelling) rest
    (record { spelling = spelling; parts = refl; size = len; value = refl })

-- ---- a token

-- bytes are a token of the version, and the rest
record StartsWithToken (version : ℕ) (bytes : List ℕ) (token : TokenValue) (rest : List ℕ) : Type 0 where
  spelling : List ℕ
  parts : bytes ≡ spelling ++ rest
  is_token : IsToken version spelling token

time_takes : (version : ℕ) (bytes : List ℕ) (x : TokenValue × List ℕ) → version ≡ 1
    → (number_at 8 bytes >>= λ time. Some (nanoseconds time.0, time.1)) ≡ Some x → StartsWithToken version bytes x.0 x.1
time_takes version bytes x v e =
    let n = bind_some (number_at 8 bytes) (λ time. Some (nanoseconds time.0, time.1)) x e in
    let s = number_takes 8 bytes n.0 n.1 in
    let made : TokenValue × List ℕ = (nanoseconds n.0.0, n.0.1) in
    let is : made ≡ x = cc (n.2) in
    subst (λ (y : TokenValue × List ℕ). StartsWithToken version bytes y.0 y.1) is
    (record { spelling = s.spelling; parts = s.parts; is_token = version_1 v s.size (ap nanoseconds s.value) })

text_takes : (version : ℕ) (bytes : List ℕ) (x : TokenValue × List ℕ) → version ≡ 2
    → (split_at_byte 0 bytes >>= λ text. Some (opaque text.0, text.1)) ≡ Some x → StartsWithToken version bytes x.0 x.1
text_takes version bytes x v e =
    let t = bind_some (split_at_byte 0 bytes) (λ text. Some (opaque text.0, text.1)) x e in
    let up = split_takes 0 bytes t.0 t.1 in
    let made : TokenValue × List ℕ = (opaque t.0.0, t.0.1) in
    let is : made ≡ x = cc (t.2) in
    subst (λ (y : TokenValue × List ℕ). StartsWithToken version bytes y.0 y.1) is (record {
      spelling = t.0.0 ++ 0 ∷ [];
      parts = up.parts ∙ sym (append_assoc t.0.0 (0 ∷ []) t.0.1);
      is_token = version_2 t.0.0 v refl up.apart refl;
    })

token_by : (version : ℕ) (bytes : List ℕ) (x : TokenValue × List ℕ) (t u : Bool) → eqb version 1 ≡ t → eqb version 2 ≡ u
    → cond t (number_at 8 bytes >>= λ time. Some (nanoseconds time.0, time.1))
    (cond u (split_at_byte 0 bytes >>= λ text. Some (opaque text.0, text.1)) None) ≡ Some x
    → StartsWithToken version bytes x.0 x.1
token_by version bytes x true u f g e = time_takes version bytes x (eqb-true version 1 f) e
token_by version bytes x false true f g e = text_takes version bytes x (eqb-true version 2 g) e
token_by version bytes x false false f g e = absurd cc

token_takes : (version : ℕ) (bytes : List ℕ) (x : TokenValue × List ℕ) → token_at version bytes ≡ Some x
    → StartsWithToken version bytes x.0 x.1
unfolding token_at
token_takes version bytes x e = token_by version bytes x (eqb version 1) (eqb version 2) refl refl e

token_again : (version : ℕ) (spelling rest : List ℕ) (token : TokenValue) → 1 ≤ length rest
    → IsToken version spelling token → token_at version (spelling ++ rest) ≡ Some (token, rest)
unfolding token_at
token_again version spelling rest token more (version_1 v len is) = rw (v, is, spelled_again 8 spelling rest len) refl
token_again version spelling rest token more (version_2 text v parts apart is) =
    let regrouped : spelling ++ rest ≡ text ++ 0 ∷ rest =
    ap (λ (l : List ℕ). l ++ rest) parts ∙ append_assoc text (0 ∷ []) rest in
    let len : length (text ++ 0 ∷ rest) ≡ length text + length (0 ∷ rest) = length-append text (0 ∷ rest) in
    let up = split_again 0 (text ++ 0 ∷ rest) text rest (record { parts = refl; apart = apart; two = omega arith }) in
    rw (v, is, regrouped, up) refl

-- ---- the parts before the bitmap

-- bytes are a version, a token, the size of a bitmap, and the rest
pub record StartsWithParts (bytes : List ℕ) (value : TokenValue) (count : ℕ) (rest : List ℕ) : Type 0 where
  pub version : List ℕ
  pub token : List ℕ
  pub size : List ℕ
  pub parts : bytes ≡ version ++ (token ++ (size ++ rest))
  pub version_len : length version ≡ 4
  pub is_token : IsToken (be version) token value
  pub size_len : length size ≡ 4
  pub count_is : count ≡ be size

joined : (bytes version rest1 token rest2 size rest : List ℕ) → bytes ≡ version ++ rest1 → rest1 ≡ token ++ rest2
    → rest2 ≡ size ++ rest → bytes ≡ version ++ (token ++ (size ++ rest))
joined bytes version rest1 token rest2 size rest e f g = rw (e, f, g) refl

pub parts_takes : (bytes : List ℕ) (x : TokenValue × ℕ × List ℕ) → parts_at bytes ≡ Some x
    → StartsWithParts bytes x.0 x.1 x.2
unfolding parts_at
parts_takes bytes x e =
    let v = bind_some (number_at 4 bytes) _ x e in
    let t = bind_some (token_at v.0.0 v.0.1) _ x v.2 in
    let s = bind_some (number_at 4 t.0.1) _ x t.2 in
    let version = number_takes 4 bytes v.0 v.1 in
    let token = token_takes v.0.0 v.0.1 t.0 t.1 in
    let size = number_takes 4 t.0.1 s.0 s.1 in
    let made : TokenValue × ℕ × List ℕ = (t.0.0, s.0.0, s.0.1) in
    let is : made ≡ x = cc (s.2) in
    subst (λ (y : TokenValue × ℕ × List ℕ). StartsWithParts bytes y.0 y.1 y.2) is (record {
      version = version.spelling;
      token = token.spelling;
      size = size.spelling;
      parts = joined bytes version.spelling v.0.1 token.spelling t.0.1 size.spelling s.0.1 version.parts token.parts
          size.parts;
      version_len = version.size;
      is_token = subst (λ (n : ℕ). IsToken n token.spelling t.0.0) version.value token.is_token;
      size_len = size.size;
      count_is = size.value;
    })

pub parts_again : (bytes : List ℕ) (token : TokenValue) (count : ℕ) (rest : List ℕ)
    → StartsWithParts bytes token count rest → parts_at bytes ≡ Some (token, count, rest)
unfolding parts_at
parts_again bytes token count rest h =
    let sized : List ℕ = h.size ++ rest in
    let len : length sized ≡ length h.size + length rest = length-append h.size rest in
    let more : 1 ≤ length sized = omega (arith, h.size_len) in
    let one = spelled_again 4 h.version (h.token ++ sized) h.version_len in
    let two = token_again (be h.version) h.token sized token more h.is_token in
    let three = spelled_again 4 h.size rest h.size_len in
    rw (h.parts, one, two, three, h.count_is) refl

-- ---- the bitmap

says_lacks : (error : Error) (bytes : List ℕ) → BitmapCause error bytes → (error ≡ errors.Memory → ⊥)
    → Lacks error bytes
says_lacks errors.NumBits bytes h other = h
says_lacks errors.Length bytes h other = h
says_lacks errors.Words bytes h other = h
says_lacks errors.LastRun bytes h other = h
says_lacks errors.Memory bytes h other = absurd (other refl)

-- bytes with a fault are no bitmap
pub no_bitmap : (error : Error) (size : ℕ) (bytes : List ℕ) (b : Bitmap) → BitmapCause error bytes
    → (error ≡ errors.Memory → ⊥) → IsSizedBitmap size bytes b → ⊥
no_bitmap error size bytes b says other s =
    no_fault bytes error (record { value = b; rest = []; is_bitmap = s.is_bitmap }) (says_lacks error bytes says other)

-- ---- the length of a bitmap

word_count : (bytes : List ℕ) (b : Bitmap) (rest : List ℕ) (h : IsBitmap bytes b rest) → number bytes 1 ≡ be h.len
word_count bytes b rest h =
    let behind : List ℕ = h.words ++ (h.last ++ rest) in
    ap be (ap (λ (l : List ℕ). take 4 (drop 4 l)) h.parts ∙ ap (take 4) (drop_at h.bits (h.len ++ behind) 4 h.bits_size)
    ∙ take_at h.len behind 4 h.len_size)

bitmap_len : (bytes : List ℕ) (b : Bitmap) (rest : List ℕ) → IsBitmap bytes b rest
    → length bytes ≡ 12 + 8 * number bytes 1 + length rest
bitmap_len bytes b rest h =
    let a = length-append h.bits (h.len ++ (h.words ++ (h.last ++ rest))) in
    let l = length-append h.len (h.words ++ (h.last ++ rest)) in
    let w = length-append h.words (h.last ++ rest) in
    let e = length-append h.last rest in
    omega (
      arith,
      ap length h.parts,
      a,
      l,
      w,
      e,
      word_count bytes b rest h,
      h.bits_size,
      h.len_size,
      h.words_size,
      h.last_size,
    )

-- bytes of another length than a bitmap declares are none
pub no_len : (size : ℕ) (bytes : List ℕ) (b : Bitmap) → has_bitmap_len bytes ≡ false → IsSizedBitmap size bytes b → ⊥
no_len size bytes b e s =
    let len = bitmap_len bytes b [] s.is_bitmap in
    let t : has_bitmap_len bytes ≡ true =
    and_from (leb 12 (length bytes)) (eqb (length bytes) (12 + 8 * number bytes 1))
    (le-leb 12 (length bytes) (omega arith)) (eq-eqb (length bytes) (12 + 8 * number bytes 1) (omega arith)) in
    absurd (cc (t, e))

-- and nothing follows a bitmap of its length
pub sized_from : (size : ℕ) (bytes : List ℕ) (b : Bitmap) (rest : List ℕ) → length bytes ≡ size
    → has_bitmap_len bytes ≡ true → IsBitmap bytes b rest → IsSizedBitmap size bytes b
sized_from size bytes b rest len e h =
    let whole : length bytes ≡ 12 + 8 * number bytes 1 = eqb-true _ _ (and_parts (leb 12 (length bytes)) _ e).1 in
    let none : length rest ≡ 0 = omega (arith, bitmap_len bytes b rest h) in
    record { len = len; is_bitmap = subst (λ (l : List ℕ). IsBitmap bytes b l) (nil_from_length rest none) h }

-- if allocating memory for a bitmap of its length fails, the bytes are one
pub wanted : (error : Error) (size : ℕ) (bytes : List ℕ) → BitmapCause error bytes → error ≡ errors.Memory
    → length bytes ≡ size → has_bitmap_len bytes ≡ true → (b : Bitmap) × IsSizedBitmap size bytes b
wanted error size bytes says e len whole =
    let has : HasBitmap bytes = subst (λ (x : Error). BitmapCause x bytes) e says in
    (has.value, sized_from size bytes has.value has.rest len whole has.is_bitmap)

-- ---- the whole

pub front_of : (bytes : List ℕ) (m : Monitor) (h : IsMonitor bytes m)
    → StartsWithParts bytes m.token (be h.size) h.dirty
front_of bytes m h = record {
  version = h.version;
  token = h.token;
  size = h.size;
  parts = h.parts;
  version_len = h.version_len;
  is_token = h.is_token;
  size_len = h.size_len;
  count_is = refl;
}

pub monitor_from : (bytes : List ℕ) (token : TokenValue) (count : ℕ) (rest : List ℕ) (dirty : Bitmap)
    → parts_at bytes ≡ Some (token, count, rest) → IsSizedBitmap count rest dirty
    → IsMonitor bytes (record { token = token; dirty = dirty })
monitor_from bytes token count rest dirty e s =
    let f = parts_takes bytes (token, count, rest) e in
    record {
      version = f.version;
      token = f.token;
      size = f.size;
      dirty = rest;
      parts = f.parts;
      version_len = f.version_len;
      is_token = f.is_token;
      size_len = f.size_len;
      dirty_len = s.len ∙ f.count_is;
      is_dirty = s.is_bitmap;
    }

pub has_monitor : (bytes : List ℕ) (token : TokenValue) (count : ℕ) (rest : List ℕ) (dirty : Bitmap)
    → parts_at bytes ≡ Some (token, count, rest) → IsSizedBitmap count rest dirty → HasMonitor bytes
has_monitor bytes token count rest dirty e s = record {
  monitor = record { token = token; dirty = dirty };
  is_monitor = monitor_from bytes token count rest dirty e s;
}

-- the parts that are read are a monitor's own
pub monitor_parts : (bytes : List ℕ) (token : TokenValue) (count : ℕ) (rest : List ℕ) (m : Monitor) → parts_at bytes
    ≡ Some (token, count, rest) → IsMonitor bytes m → (m.token ≡ token) × IsSizedBitmap count rest m.dirty
monitor_parts bytes token count rest m e h =
    let f = parts_again bytes m.token (be h.size) h.dirty (front_of bytes m h) in
    let same : ◌≡◌ {A = TokenValue × ℕ × List ℕ} (m.token, be h.size, h.dirty) (token, count, rest) = cc in
    let sized : IsSizedBitmap (be h.size) h.dirty m.dirty = record { len = h.dirty_len; is_bitmap = h.is_dirty } in (
      ap (λ (x : TokenValue × ℕ × List ℕ). x.0) same,
      subst (λ (x : TokenValue × ℕ × List ℕ). IsSizedBitmap x.1 x.2 m.dirty) same sized,
    )

pub no_monitor : (bytes : List ℕ) (m : Monitor) → parts_at bytes ≡ None → IsMonitor bytes m → ⊥
no_monitor bytes m e h = let f = parts_again bytes m.token (be h.size) h.dirty (front_of bytes m h) in cc

same_monitor : (a b : Monitor) → a.token ≡ b.token → a.dirty ≡ b.dirty → a ≡ b
same_monitor a b p q =
    let with_token : TokenValue → Monitor = λ t. record { token = t; dirty = a.dirty } in
    let with_dirty : Bitmap → Monitor = λ d. record { token = b.token; dirty = d } in
    ap with_token p ∙ ap with_dirty q

-- bytes are one monitor
pub one_monitor : (bytes : List ℕ) (a b : Monitor) → IsMonitor bytes a → IsMonitor bytes b → a ≡ b
one_monitor bytes a b h k =
    let p = monitor_parts bytes b.token (be k.size) k.dirty a
    (parts_again bytes b.token (be k.size) k.dirty (front_of bytes b k)) h in
    same_monitor a b p.0 (one_bitmap k.dirty a.dirty b.dirty [] [] p.1.is_bitmap k.is_dirty).0

-- ---- bytes are a monitor or none

sized_by : (size : ℕ) (bytes : List ℕ) (t : Bool) → has_bitmap_len bytes ≡ t → length bytes ≡ size
    → (HasBitmap bytes ⊎ ((e : Error) × Lacks e bytes)) → (v : Option Bitmap) × IsRead (IsSizedBitmap size) bytes v
sized_by size bytes false e len h = (None, λ b s. no_len size bytes b e s)
sized_by size bytes true e len (inl has) =
    (Some has.value, sized_from size bytes has.value has.rest len e has.is_bitmap)
sized_by size bytes true e len (inr lacks) =
    (None, λ b s. no_fault bytes lacks.0 (record { value = b; rest = []; is_bitmap = s.is_bitmap }) lacks.1)

sized_reading : (size : ℕ) (bytes : List ℕ) → (v : Option Bitmap) × IsRead (IsSizedBitmap size) bytes v
sized_reading size bytes = elim (eqb (length bytes) size) as
    (λ t. eqb (length bytes) size ≡ t → (v : Option Bitmap) × IsRead (IsSizedBitmap size) bytes v) [
      | false ↦ λ e. (None, λ b s. eqb-false _ _ e s.len)
      | true ↦ λ e. sized_by size bytes (has_bitmap_len bytes) refl (eqb-true _ _ e) (bitmap_or_fault bytes)
    ] refl

monitor_by : (bytes : List ℕ) (token : TokenValue) (count : ℕ) (rest : List ℕ) (v : Option Bitmap) → parts_at bytes
    ≡ Some (token, count, rest) → IsRead (IsSizedBitmap count) rest v → (m : Option Monitor) × IsRead IsMonitor bytes m
monitor_by bytes token count rest None e none =
    (None, λ m h. none m.dirty (monitor_parts bytes token count rest m e h).1)
monitor_by bytes token count rest (Some dirty) e s =
    (Some (record { token = token; dirty = dirty }), monitor_from bytes token count rest dirty e s)

parts_by : (bytes : List ℕ) (o : Option (TokenValue × ℕ × List ℕ)) → parts_at bytes ≡ o
    → (m : Option Monitor) × IsRead IsMonitor bytes m
parts_by bytes None e = (None, λ m h. no_monitor bytes m e h)
parts_by bytes (Some x) e = let v = sized_reading x.1 x.2 in monitor_by bytes x.0 x.1 x.2 v.0 e v.1

pub monitor_reading : (bytes : List ℕ) → (m : Option Monitor) × IsRead IsMonitor bytes m
monitor_reading bytes = parts_by bytes (parts_at bytes) refl

pub monitor_reading_one : (bytes : List ℕ) (v w : Option Monitor) → IsRead IsMonitor bytes v → IsRead IsMonitor bytes w
    → v ≡ w
monitor_reading_one bytes = one_read IsMonitor bytes (one_monitor bytes)
