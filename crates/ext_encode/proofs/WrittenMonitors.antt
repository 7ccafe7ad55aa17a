-- What was written of a file system monitor is read again, and what was read can be written.
use Rattle.std.proofs.Common.{◌≡◌, ℕ, ◌+◌, ◌*◌, ◌<◌, List, [], ◌++◌, length, All, refl, sym, ap, subst}
use Rattle.std.proofs.Common.{append-nil, length-append, arith}
use Rattle.ext_bitmap.specs.Bitmap.{Bitmap, IsBitmap}
use Rattle.index_extensions.proofs.WrittenItems.{be_be32}
use Rattle.index_parts.specs.Numbers.{be, be32}
use Rattle.ext_small.specs.FsMonitor.{TokenValue, nanoseconds, opaque, Monitor, IsToken, version_1}
use Rattle.ext_small.specs.FsMonitor.{version_2, IsMonitor}
use Rattle.ext_bitmap.specs.BitmapImage.{bitmap_bytes}
use Rattle.ext_encode.specs.MonitorImage.{token_version, token_bytes, sized_bitmap_bytes, monitor_bytes}
use Rattle.ext_encode.specs.MonitorImage.{IsSpellableToken, IsSpellableMonitor}
use Rattle.ext_bitmap.proofs.WrittenBitmaps.{be_be64, be_four, be_eight, bytes_first, bytes_behind}
use Rattle.ext_bitmap.proofs.WrittenBitmaps.{bitmap_there, bitmap_len, bitmap_spellable, words_size}

-- ---- lengths

pub monitor_len : (m : Monitor)
    → length (monitor_bytes m) ≡ 8 + length (token_bytes m.token) + length (bitmap_bytes m.dirty)
unfolding monitor_bytes sized_bitmap_bytes
monitor_len m = omega (
  arith,
  length-append (token_bytes m.token) (be32 (length (bitmap_bytes m.dirty)) ++ bitmap_bytes m.dirty),
)

-- ---- parts

pub monitor_pieces : (m : Monitor) (version size : ℕ) → version ≡ token_version m.token
    → size ≡ length (bitmap_bytes m.dirty)
    → be32 version ++ (token_bytes m.token ++ (be32 size ++ bitmap_bytes m.dirty)) ≡ monitor_bytes m
unfolding monitor_bytes sized_bitmap_bytes
monitor_pieces m version size e f = rw (e, f) refl

-- ---- what is written is read

token_there : (token : TokenValue) → IsSpellableToken token
    → IsToken (be (be32 (token_version token))) (token_bytes token) token
token_there (nanoseconds n) lt =
    version_1 (be_be32 1 (omega arith)) refl (ap (λ (m : ℕ). nanoseconds m) (sym (be_be64 n lt)))
token_there (opaque text) apart = version_2 text (be_be32 2 (omega arith)) refl apart refl

pub monitor_there : (m : Monitor) → IsSpellableMonitor m → IsMonitor (monitor_bytes m) m
unfolding monitor_bytes sized_bitmap_bytes
monitor_there m h = record {
  version = be32 (token_version m.token);
  token = token_bytes m.token;
  size = be32 (length (bitmap_bytes m.dirty));
  dirty = bitmap_bytes m.dirty;
  parts = refl;
  version_len = refl;
  is_token = token_there m.token h.token;
  size_len = refl;
  dirty_len = sym (be_be32 (length (bitmap_bytes m.dirty)) h.size);
  is_dirty = subst (λ (l : List ℕ). IsBitmap l m.dirty []) (append-nil (bitmap_bytes m.dirty))
      (bitmap_there m.dirty [] h.dirty);
}

-- ---- what is read can be written

token_spellable : (version : ℕ) (bytes : List ℕ) (token : TokenValue) → All (λ n. n < 256) bytes
    → IsToken version bytes token → IsSpellableToken token
token_spellable version bytes token h (version_1 v len is) =
    subst IsSpellableToken (sym is) (be_eight bytes h len)
token_spellable version bytes token h (version_2 text v parts apart is) = subst IsSpellableToken (sym is) apart

-- a bitmap with nothing after it is as long as the bytes that are written for it
same_len : (bytes : List ℕ) (b : Bitmap) → IsBitmap bytes b [] → length bytes ≡ length (bitmap_bytes b)
same_len bytes b s =
    let number : length s.words ≡ 8 * length b.words = words_size s.words b.words s.are_words in
    omega (
      arith,
      ap length s.parts,
      length-append s.bits (s.len ++ (s.words ++ (s.last ++ []))),
      length-append s.len (s.words ++ (s.last ++ [])),
      length-append s.words (s.last ++ []),
      length-append s.last [],
      s.bits_size,
      s.len_size,
      s.last_size,
      number,
      bitmap_len b,
    )

pub monitor_spellable : (bytes : List ℕ) (m : Monitor) → All (λ n. n < 256) bytes → IsMonitor bytes m
    → IsSpellableMonitor m
monitor_spellable bytes m h s =
    let behind_token : List ℕ = s.size ++ s.dirty in
    let behind_version : List ℕ = s.token ++ behind_token in
    let whole : All (λ n. n < 256) (s.version ++ behind_version) = subst (All (λ n. n < 256)) s.parts h in
    let second = bytes_behind s.version behind_version whole in
    let third = bytes_behind s.token behind_token second in
    let size = be_four s.size (bytes_first s.size s.dirty third) s.size_len in
    record {
      token = token_spellable (be s.version) s.token m.token (bytes_first s.token behind_token second) s.is_token;
      dirty = bitmap_spellable s.dirty m.dirty [] (bytes_behind s.size s.dirty third) s.is_dirty;
      size = omega (arith, same_len s.dirty m.dirty s.is_dirty, s.dirty_len, size);
    }
