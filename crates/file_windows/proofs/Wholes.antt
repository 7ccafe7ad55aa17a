-- What reading in windows comes to: the answer of all bytes.
use Rattle.std.proofs.Common.{◌≡◌, ℕ, ◌+◌, ◌≤◌, Bool, true, false, cond, ltb, List, [], ◌∷◌, ◌++◌, length, take, drop}
use Rattle.std.proofs.Common.{Option, None, refl, sym, ap, ◌∙◌, append_assoc, arith}
use Rattle.std.specs.Prelude.{Result, Ok, Err, Some, IfSome, nat_eq}
use Rattle.std.specs.Io.KnownBytes.{Consumes, IsAtEnd}
use Rattle.std.proofs.KnownBytes.{Consumes-trans, Consumes-whole}
use Rattle.std.specs.List.{starts_with}
use Rattle.std.proofs.lemmas.Bool.{le-ltb, ltb-false}
use Rattle.std.proofs.lemmas.List.{length-append, length-drop, drop-append-le, take-append-le}
use Rattle.index_parts.specs.Id.{id_len}
use Rattle.index_parts.specs.declared.hash.Kind.{Kind}
use Rattle.index_parts.specs.declared.hash.ObjectId.{ObjectId}
use Rattle.entry_fields.specs.declared.entry.stat.FileTime.{FileTime}
use Rattle.index_extensions.specs.EndMarker.{IsMarker}
use Rattle.entry_list.specs.declared.Version.{Version}
use Rattle.entry_list.specs.Entries.{AreEntries}
use Rattle.entry_list.specs.Header.{HeaderFault, header_of, count_of, signature}
use Rattle.entry_list.specs.Limits.{most_entries, is_too_large}
use Rattle.entry_list.proofs.Growing.{entries_grow}
use Rattle.index_model.specs.declared.Parts.{Parts}
use Rattle.index_model.specs.declared.decode.Options.{Options}
use Rattle.index_model.specs.Answer.{IsAnswer, IsEnding, IsBehindHeader, has}
use Rattle.index_model.specs.Contents.{parts_contents}
use Rattle.index_model.proofs.Answers.{answer_from}
use Rattle.index_decode.specs.Behind.{FollowEntries}
use Rattle.file_windows.specs.Windowed.{Moment, IsPassedOn, IsReadOn}
use Rattle.file_windows.specs.declared.plan.Plan.{Plan}

-- four bytes at an index stay if bytes are appended
number_grows : (bytes more : List ℕ) (at : ℕ) → at + 4 ≤ length bytes
    → take 4 (drop at (bytes ++ more)) ≡ take 4 (drop at bytes)
number_grows bytes more at le = ap (take 4) (drop-append-le at bytes more (omega arith))
    ∙ take-append-le 4 (drop at bytes) more (omega (arith, length-drop at bytes))

signed_grows : (bytes more : List ℕ) → 12 ≤ length bytes
    → starts_with nat_eq (bytes ++ more) signature ≡ starts_with nat_eq bytes signature
signed_grows [] more h = absurd (omega arith)
signed_grows (a ∷ []) more h = absurd (omega arith)
signed_grows (a ∷ b ∷ []) more h = absurd (omega arith)
signed_grows (a ∷ b ∷ c ∷ []) more h = absurd (omega arith)
signed_grows (a ∷ b ∷ c ∷ d ∷ l) more h = refl

pub header_grows : (kind : Kind) (bytes more : List ℕ) → 12 + id_len kind ≤ length bytes
    → header_of kind (bytes ++ more) ≡ header_of kind bytes
header_grows kind bytes more le =
    let a : ltb (length (bytes ++ more)) (12 + id_len kind) ≡ false =
    le-ltb _ _ (omega (arith, length-append bytes more)) in
    let b : ltb (length bytes) (12 + id_len kind) ≡ false = le-ltb _ _ le in
    rw (a, b, signed_grows bytes more (omega arith), number_grows bytes more 4 (omega arith)) refl

guarded : (t : Bool) (e : HeaderFault) (r : Result Version HeaderFault) (v : Version) → cond t (Err e) r ≡ Ok v
    → t ≡ false
guarded true e r v h = absurd cc
guarded false e r v h = refl

-- a header that can be read is as long as one, with a trailer
pub header_long : (kind : Kind) (bytes : List ℕ) (v : Version) → header_of kind bytes ≡ Ok v
    → 12 + id_len kind ≤ length bytes
header_long kind bytes v h = ltb-false _ _ (guarded (ltb (length bytes) (12 + id_len kind)) _ _ v h)

module _ (plan : Plan) (a b : Moment) (n : ℕ) (tail more : List ℕ) where
  parts_of : (r : IsReadOn plan a b n) → tail ≡ b.window ++ more → r.moved.taken ++ tail ≡ a.window ++ (r.moved.more ++ more)
  parts_of r tail-is = ap (λ (l : List ℕ). r.moved.taken ++ l) tail-is ∙ sym (append_assoc r.moved.taken b.window more)
      ∙ ap (λ (l : List ℕ). l ++ more) (sym r.moved.bytes) ∙ append_assoc a.window r.moved.more more

  -- the bytes are those that a reader with known bytes had left
  pub whole_of_windows : (all end : Option (List ℕ)) → (r : IsReadOn plan a b n) → tail ≡ b.window ++ more
      → Consumes all a.left a.window → Consumes b.left end more → IsAtEnd end
      → IfSome all (λ left. r.moved.taken ++ tail ≡ left)
  whole_of_windows all end r tail-is front rest at-end =
      let parts : r.moved.taken ++ tail ≡ a.window ++ (r.moved.more ++ more) = parts_of r tail-is in
      Consumes-whole all end (a.window ++ (r.moved.more ++ more)) (λ left. r.moved.taken ++ tail ≡ left)
      (Consumes-trans all a.left end a.window (r.moved.more ++ more) front
      (Consumes-trans a.left b.left end r.moved.more more r.moved.consumed rest)) at-end parts

  -- the header of all bytes is that of the first window
  header_of_windows : header_of plan.kind a.window ≡ Ok plan.version → (r : IsReadOn plan a b n)
      → tail ≡ b.window ++ more → header_of plan.kind (r.moved.taken ++ tail) ≡ Ok plan.version
  header_of_windows header r tail-is =
      ap (header_of plan.kind) (parts_of r tail-is)
      ∙ header_grows plan.kind a.window (r.moved.more ++ more) (header_long plan.kind a.window plan.version header) ∙ header

  -- so is the count
  count_of_windows : header_of plan.kind a.window ≡ Ok plan.version → plan.count ≡ count_of a.window
      → (r : IsReadOn plan a b n) → tail ≡ b.window ++ more → count_of (r.moved.taken ++ tail) ≡ plan.count
  count_of_windows header counted r tail-is =
      let long = header_long plan.kind a.window plan.version header in
      ap count_of (parts_of r tail-is) ∙ rw (number_grows a.window (r.moved.more ++ more) 8 (omega arith)) refl ∙ sym counted

  -- the entries follow it
  entries_of_windows : header_of plan.kind a.window ≡ Ok plan.version → a.decoded ≡ 12 → a.records ≡ []
      → (r : IsReadOn plan a b n) → tail ≡ b.window ++ more
      → AreEntries plan.version plan.kind None (drop 12 (r.moved.taken ++ tail)) b.records (drop b.decoded tail)
  entries_of_windows header at none r tail-is =
      let first : List ℕ = a.window in
      let long = header_long plan.kind first plan.version header in
      let body : drop 12 (r.moved.taken ++ tail) ≡ (drop 12 first ++ r.moved.more) ++ more = ap (drop 12) (parts_of r tail-is)
      ∙ drop-append-le 12 first (r.moved.more ++ more) (omega arith) ∙ sym (append_assoc (drop 12 first) r.moved.more more) in
      let rest : drop b.decoded tail ≡ drop b.decoded b.window ++ more =
      ap (drop b.decoded) tail-is ∙ drop-append-le b.decoded b.window more r.moved.inside in
      let start : AreEntries plan.version plan.kind None (drop 12 first) a.records (drop a.decoded first) =
      rw (none, at) refl in
      rw (body, rest) (entries_grow plan.version plan.kind None (drop 12 first ++ r.moved.more) b.records
      (drop b.decoded b.window) more (r.read (drop 12 first) start))

  -- what follows them
  pub ending_of_windows : header_of plan.kind a.window ≡ Ok plan.version → plan.count ≡ count_of a.window
      → a.decoded ≡ 12 → a.records ≡ [] → length b.records ≡ plan.count
      → (r : IsReadOn plan a b n) → tail ≡ b.window ++ more
      → FollowEntries plan.kind (r.moved.taken ++ tail) (drop b.decoded tail)
  ending_of_windows header counted at none all-read r tail-is = record {
    version = plan.version;
    header = header_of_windows header r tail-is;
    records = b.records;
    entries = entries_of_windows header at none r tail-is;
    count = all-read ∙ sym (count_of_windows header counted r tail-is);
  }

  -- the answer to all bytes
  pub answer_of_windows : (time : FileTime) (options : Options) (offset : Option ℕ) (len : ℕ)
      (x : Parts × Option ObjectId)
      → header_of plan.kind a.window ≡ Ok plan.version → plan.count ≡ count_of a.window
      → ltb (most_entries len offset plan.kind plan.version) plan.count ≡ false
      → is_too_large options.alloc_limit_bytes plan.count len offset plan.kind plan.version ≡ false
      → a.decoded ≡ 12 → a.records ≡ [] → length b.records ≡ plan.count
      → (r : IsReadOn plan a b n) → tail ≡ b.window ++ more → length a.window + n + length more ≡ len
      → IsMarker plan.kind (r.moved.taken ++ tail) offset
      → IsEnding plan.kind time options plan.version b.records (drop b.decoded tail)
      (Ok (parts_contents x.0, x.1))
      → IsAnswer plan.kind time options (r.moved.taken ++ tail) (Ok (parts_contents x.0, x.1))
  answer_of_windows time options offset len x header counted few small at none all-read r tail-is len-is marker ending =
      let bytes : List ℕ = r.moved.taken ++ tail in
      let size : length bytes ≡ len =
      omega (
        arith,
        ap length (parts_of r tail-is),
        length-append a.window (r.moved.more ++ more),
        length-append r.moved.more more,
        r.moved.len,
        len-is,
      ) in
      let total : count_of bytes ≡ plan.count = count_of_windows header counted r tail-is in
      let is-behind : IsBehindHeader plan.kind time options plan.version (count_of bytes) (drop 12 bytes)
      (Ok (parts_contents x.0, x.1)) =
      has b.records (drop b.decoded tail) (entries_of_windows header at none r tail-is) (all-read ∙ sym total) ending in
      answer_from plan.kind time options bytes plan.version offset (Ok x)
      (header_of_windows header r tail-is) marker (rw (size, total) few) (rw (size, total) small) is-behind

-- the entries, if extensions were passed after them
module _ (plan : Plan) (b c : Moment) (n : ℕ) (passed tail more : List ℕ) (p : IsPassedOn plan b c n passed)
    (tail-is : tail ≡ c.window ++ more) where
  pub bytes_of_passed : b.window ++ (p.moved.more ++ more) ≡ p.moved.taken ++ tail
  bytes_of_passed = sym (append_assoc b.window p.moved.more more) ∙ ap (λ (l : List ℕ). l ++ more) p.moved.bytes
      ∙ append_assoc p.moved.taken c.window more ∙ ap (λ (l : List ℕ). p.moved.taken ++ l) (sym tail-is)

  pub behind_passed : b.decoded ≤ length b.window
      → drop b.decoded (b.window ++ (p.moved.more ++ more)) ≡ passed ++ drop c.decoded tail
  behind_passed inside =
      let rest : drop c.decoded tail ≡ drop c.decoded c.window ++ more =
      ap (drop c.decoded) tail-is ∙ drop-append-le c.decoded c.window more p.moved.inside in
      drop-append-le b.decoded b.window (p.moved.more ++ more) inside
      ∙ sym (append_assoc (drop b.decoded b.window) p.moved.more more)
      ∙ ap (λ (l : List ℕ). l ++ more) p.behind ∙ append_assoc passed (drop c.decoded c.window) more
      ∙ ap (λ (l : List ℕ). passed ++ l) (sym rest)

-- ---- facts about a value, if there is one

pub some_then : {A : Type 0} (o : Option A) (P Q : A → Type 0) → ((x : A) → P x → Q x) → IfSome o P → IfSome o Q
some_then None P Q f h = tt
some_then (Some x) P Q f h = f x h

pub some_two : {A : Type 0} (o : Option A) (P Q R : A → Type 0) → IfSome o P → IfSome o Q → ((x : A) → P x → Q x → R x)
    → IfSome o R
some_two None P Q R p q f = tt
some_two (Some x) P Q R p q f = f x p q
