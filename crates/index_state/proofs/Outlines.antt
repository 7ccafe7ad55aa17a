-- An ending that was read after no entries is also one after the entries that were skipped.
use Rattle.std.proofs.Common.{◌≡◌, ◌∙◌, ℕ, ltb, Bool, true, false, List, [], length, Option, Some, None, Ok, Err, inl}
use Rattle.std.proofs.Common.{inr, ◌<◌, Fits, w8, get_or, refl, sym, ap, arith}
use Rattle.std.specs.Prelude.{◌^◌, ◌||◌, if◌then◌else◌}
use Rattle.std.proofs.lemmas.List.Elements.{All-from_get_or}
use Rattle.std.proofs.lemmas.Option.{same_Some}
use Rattle.index_parts.specs.declared.hash.Kind.{Kind}
use Rattle.index_parts.specs.declared.hash.ObjectId.{ObjectId}
use Rattle.entry_fields.specs.declared.entry.stat.FileTime.{FileTime}
use Rattle.index_extensions.specs.Walk.{Item}
use Rattle.entry_list.specs.declared.Version.{Version}
use Rattle.entry_list.specs.Entries.{AreEntries}
use Rattle.entry_list.specs.Record.{Record, has_directory}
use Rattle.index_model.specs.declared.decode.Options.{Options}
use Rattle.index_model.specs.Answer.{Answer, Fault, IsAnswer, IsBehindHeader, IsClosed, IsEnding, IsVerified, faulty}
use Rattle.index_model.specs.Answer.{has, left, short, speak_of_own, trailer_checksum, answer_contents, walked, whole}
use Rattle.index_model.specs.Contents.{Contents}
use Rattle.index_model.specs.Outcome.{Outcome}
use Rattle.index_model.specs.Storable.{IsStorable}
use Rattle.index_model.proofs.ReadValues.{answer_read, same_value}
use Rattle.index_state.specs.Outlines.{Outlines, outlined_value}
use Rattle.file_windows.specs.Passed.{in_64_bits, paths_len}
use Rattle.index_state.specs.declared.outline.Outline.{Outline}

-- ---- the trailer

same_id : (v w : Contents) (c d : Option ObjectId) → ◌≡◌ {A = Answer} (Ok (v, c)) (Ok (w, d)) → c ≡ d
same_id v w c d e =
    let pair : ◌≡◌ {A = Contents × Option ObjectId} (v, c) (w, d) = cc in
    ap (λ (p : Contents × Option ObjectId). p.1) pair

verified_fault : (expected actual : Option ObjectId) (v w : Contents) (d : Option ObjectId) (f : Fault)
    → IsVerified expected actual (Ok (v, d)) (Err f) → IsVerified expected actual (Ok (w, d)) (Err f)
verified_fault None actual v w d f h = absurd cc
verified_fault (Some x) None v w d f h = absurd cc
verified_fault (Some x) (Some y) v w d f (inl h) = let e = h.1 in absurd cc
verified_fault (Some x) (Some y) v w d f (inr h) = inr h

-- a value that was verified is the whole one, and another in its place is verified too
verified_anew : (expected actual : Option ObjectId) (v w u : Contents) (c d : Option ObjectId)
    → IsVerified expected actual (Ok (w, d)) (Ok (v, c))
    → (v ≡ w) × IsVerified expected actual (Ok (u, d)) (Ok (u, c))
verified_anew None actual v w u c d h =
    (same_value v w c d h, ap (λ (x : Option ObjectId). Ok (u, x)) (same_id v w c d h))
verified_anew (Some x) None v w u c d h =
    (same_value v w c d h, ap (λ (x : Option ObjectId). Ok (u, x)) (same_id v w c d h))
verified_anew (Some x) (Some y) v w u c d (inl h) =
    (same_value v w c d h.1, inl (h.0, ap (λ (x : Option ObjectId). Ok (u, x)) (same_id v w c d h.1)))
verified_anew (Some x) (Some y) v w u c d (inr h) = let e = h.1 in absurd cc

-- ---- the ending

module _ (kind : Kind) (time : FileTime) (options : Options) (version : Version) (rs : List Record) where
  -- a value without records, and the same with these
  pub record IsReadBare (rest : List ℕ) (v : Contents) (c : Option ObjectId) : Type 0 where
    pub outcome : Outcome
    pub is : v ≡ answer_contents kind time version [] outcome
    pub ending : IsEnding kind time options version rs rest (Ok (answer_contents kind time version rs outcome, c))

  closed_fault : (items : List Item) (tail trailer : List ℕ) (f : Fault)
      → IsClosed kind time options version [] items tail trailer (Err f)
      → IsClosed kind time options version rs items tail trailer (Err f)
  closed_fault items tail trailer f (faulty fault h e) = faulty fault h e
  closed_fault items tail trailer f (left s n e) = left s n e
  closed_fault items tail trailer f (whole o s z out h) =
      whole o s z out (verified_fault options.expected_checksum (trailer_checksum kind trailer)
      (answer_contents kind time version [] o) (answer_contents kind time version rs o) (trailer_checksum kind trailer)
      f h)

  pub ending_fault : (rest : List ℕ) (f : Fault) → IsEnding kind time options version [] rest (Err f)
      → IsEnding kind time options version rs rest (Err f)
  ending_fault rest f (short lt e) = short lt e
  ending_fault rest f (walked xs trailer items tail parts len walk h) =
      walked xs trailer items tail parts len walk (closed_fault items tail trailer f h)

  closed_value : (rest xs trailer : List ℕ) (items : List Item) (tail : List ℕ) (v : Contents) (c : Option ObjectId)
      → ((a : Answer) → IsClosed kind time options version rs items tail trailer a
      → IsEnding kind time options version rs rest a)
      → IsClosed kind time options version [] items tail trailer (Ok (v, c)) → IsReadBare rest v c
  closed_value rest xs trailer items tail v c to (faulty f h e) = absurd cc
  closed_value rest xs trailer items tail v c to (left s n e) = absurd cc
  closed_value rest xs trailer items tail v c to (whole o s z out h) =
      let anew = verified_anew options.expected_checksum (trailer_checksum kind trailer) v
      (answer_contents kind time version [] o) (answer_contents kind time version rs o) c (trailer_checksum kind
      trailer) h in
      record { outcome = o; is = anew.0; ending = to _ (whole o s z out anew.1) }

  pub ending_value : (rest : List ℕ) (v : Contents) (c : Option ObjectId)
      → IsEnding kind time options version [] rest (Ok (v, c)) → IsReadBare rest v c
  ending_value rest v c (short lt e) = absurd cc
  ending_value rest v c (walked xs trailer items tail parts len walk h) =
      closed_value rest xs trailer items tail v c (λ a k. walked xs trailer items tail parts len walk k) h

-- ---- the value without its records

abbrev pub without_records : Contents → Contents
without_records v = record v { records = [] }

-- without its records, and with the mark of a sparse index if it had that or this says so
abbrev pub marked_value : Bool → Contents → Contents
marked_value sparse v =
    record v { records = []; extensions = record v.extensions { sparse = v.extensions.sparse || sparse } }

or_none : (a b : Bool) → ((a || false) || b) ≡ (a || b)
or_none true b = refl
or_none false b = refl

bare_value : (kind : Kind) (time : FileTime) (version : Version) (rs : List Record) (o : Outcome)
    → marked_value (has_directory rs) (answer_contents kind time version [] o)
    ≡ without_records (answer_contents kind time version rs o)
bare_value kind time version rs o =
    let with_mark : Bool → Contents = λ b. record {
      kind = kind;
      time = time;
      version = version;
      records = [];
      extensions = record o { sparse = b };
      fit = speak_of_own o.link;
    } in
    ap with_mark (or_none o.sparse (has_directory rs))

-- the outline of a value that was read so
pub outline_from : (kind : Kind) (time : FileTime) (options : Options) (version : Version) (rs : List Record)
    (rest : List ℕ) (v : Contents) (o : Outline) → AreEntries version kind None o.entries.now rs rest
    → length rs ≡ o.count → o.path_bytes ≡ paths_len rs
    → outlined_value o [] ≡ marked_value (has_directory rs) v
    → IsEnding kind time options version [] rest (Ok (v, o.checksum))
    → (w : Contents) × Outlines w o
    × IsBehindHeader kind time options version o.count o.entries.now (Ok (w, o.checksum))
outline_from kind time options version rs rest v o entries count path_bytes bare ending =
    let read = ending_value kind time options version rs rest v o.checksum ending in (
      answer_contents kind time version rs read.outcome,
      record {
        value = ap (λ (w : Contents). record w { records = rs }) (sym (bare
            ∙ ap (marked_value (has_directory rs)) read.is ∙ bare_value kind time version rs read.outcome));
        count = sym count;
        path_bytes = path_bytes;
        after = rest;
        entries = entries;
      },
      has rs rest entries count read.ending,
    )

-- ---- sums of lengths

some_in_64 : (b : Bool) (n m : ℕ) → (if b then Some n else None) ≡ Some m → m ≡ n
some_in_64 true n m e = sym (same_Some n m e)
some_in_64 false n m e = absurd cc

pub fits_is : (n m : ℕ) → in_64_bits n ≡ Some m → m ≡ n
fits_is n m e = some_in_64 (ltb n (2 ^ 64)) n m e

-- ---- a value that was read of bytes

pub read_storable : (kind : Kind) (time : FileTime) (options : Options) (bytes : List ℕ) (v : Contents)
    (c : Option ObjectId) → ((i : ℕ) → Fits w8 (get_or bytes i 0)) → IsAnswer kind time options bytes (Ok (v, c))
    → IsStorable v
read_storable kind time options bytes v c small h =
    (answer_read kind time options bytes v c h).storable
    (All-from_get_or (λ b. b < 256) bytes 0 (λ i lt. omega (arith, small i)))
