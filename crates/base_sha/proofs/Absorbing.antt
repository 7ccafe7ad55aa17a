-- How the hash value and the bytes that wait follow a message as it grows.
use Rattle.std.proofs.Common.{◌≡◌, ℕ, ◌+◌, ◌-◌, ◌*◌, ◌/◌, ◌%◌, ◌^◌, ◌<◌, List, [], ◌∷◌, ◌++◌, length, take, drop, replicate, refl, sym, ap, ◌∙◌, arith, zero-add, length-append, length-drop}
use Rattle.std.proofs.lemmas.List.{append_assoc, append-nil, drop-append-le, drop_all, length-take-le, take-append-drop, take_at, length-replicate}
use Rattle.std.proofs.lemmas.Slice.{take-put_mid}
use borrow.Rule.Slice.PartMut.{put_mid, post_of}
use Rattle.std.specs.Int.{w64, to_be_bytes}
use Rattle.sha2.specs.Sha256.{padded_message, padding}
use Rattle.sha2.proofs.Absorbing256.{padding-take}
use Rattle.base_sha.specs.Blocks.{compressed, hash_of}
use Rattle.base_sha.specs.Hasher.{IsAbsorbed, HasAbsorbed}
use Rattle.base_sha.specs.declared.hasher.Hasher.{Hasher}
use Rattle.base_sha.proofs.Compressing.{compressed-append, compressed_behind, compressed_none, compressed_part}

length_padded : (m : List ℕ) → length (padded_message m) % 64 ≡ 0
length_padded m =
    let zeros : ℕ = (119 - length m % 64) % 64 in
    omega (arith, length-append m (padding (length m)), length-append (replicate zeros 0) (to_be_bytes w64 (length m * 8 % 2 ^ 64)), length-replicate {A = ℕ} zeros 0)

module _ (compress : List ℕ → List ℕ → List ℕ) (initial : List ℕ) where
  -- complete groups that are in the hash value, and the bytes after them, which are buffered
  pub absorbed : (hash waiting whole rest : List ℕ) (n : ℕ) → length whole ≡ n * 256 → length rest < 256 → hash ≡ compressed compress initial whole (n * 4)
      → take (length rest) waiting ≡ rest → IsAbsorbed compress initial hash waiting (whole ++ rest)
  absorbed hash waiting whole rest n lw lr eh ew =
      let len : length (whole ++ rest) ≡ length whole + length rest = length-append whole rest in
      let count : length (whole ++ rest) / 256 ≡ n = omega arith in
      let left : length (whole ++ rest) % 256 ≡ length rest = omega arith in
      let past : drop (n * 256) (whole ++ rest) ≡ rest = drop-append-le (n * 256) whole rest (omega arith) ∙ rw (drop_all (n * 256) whole (omega arith)) refl in
      (rw count (eh ∙ sym (compressed-append compress initial whole rest (n * 4) (omega arith))), rw (left, count) (ew ∙ sym past))

  -- the hash value of the whole groups alone
  pub hash_of_groups : (hash waiting message : List ℕ) (n : ℕ) → n ≡ length message / 256 → IsAbsorbed compress initial hash waiting message
      → hash ≡ compressed compress initial (take (n * 256) message) (n * 4)
  hash_of_groups hash waiting message n en held =
      let whole : List ℕ = take (n * 256) message in
      let lw : length whole ≡ n * 256 = length-take-le (n * 256) message (omega arith) in
      let same : whole ++ drop (n * 256) message ≡ message = take-append-drop (n * 256) message in
      let own : compressed compress initial (whole ++ drop (n * 256) message) (n * 4) ≡ compressed compress initial whole (n * 4) = compressed-append compress initial whole (drop (n * 256) message) (n * 4) (omega arith) in
      rw (← en) at held.0 ∙ ap (λ (m : List ℕ). compressed compress initial m (n * 4)) (sym same) ∙ own

  -- more groups after complete ones
  pub more_groups : (hash whole groups : List ℕ) (n k : ℕ) → length whole ≡ n * 256 → length groups ≡ k * 256 → hash ≡ compressed compress initial whole (n * 4)
      → compressed compress hash groups (length groups / 64) ≡ compressed compress initial (whole ++ groups) ((n + k) * 4)
  more_groups hash whole groups n k lw lg eh =
      let count : length groups / 64 ≡ k * 4 = omega arith in
      let at : (n + k) * 4 ≡ n * 4 + k * 4 = omega arith in
      rw (count, at, eh) (compressed_behind compress initial whole groups (n * 4) (k * 4) (omega arith) (omega arith))

  -- a piece that leaves the group short
  pub absorbed_short : (hash waiting message piece put : List ℕ) (used k : ℕ) → IsAbsorbed compress initial hash waiting message → length waiting ≡ 256 → used ≡ length message % 256
      → used + length piece < 256 → put ≡ piece → IsAbsorbed compress initial hash (put_mid used k waiting put) (message ++ piece)
  absorbed_short hash waiting message piece put used k held lw eu short ep =
      let n : ℕ = length message / 256 in
      let whole : List ℕ = take (n * 256) message in
      let rest : List ℕ = drop (n * 256) message in
      let wait : take used waiting ≡ rest = rw eu held.1 in
      let lr : length rest ≡ used = omega (arith, length-drop (n * 256) message) in
      let ld : length (rest ++ piece) ≡ used + length piece = length-append rest piece ∙ ap (λ (x : ℕ). x + length piece) lr in
      let placed : take (length (rest ++ piece)) (put_mid used k waiting put) ≡ rest ++ piece =
      rw (ld, ep) (take-put_mid used k waiting piece (used + length piece) refl (omega arith) ∙ ap (λ (x : List ℕ). x ++ piece) wait) in
      let joined : whole ++ (rest ++ piece) ≡ message ++ piece = sym (append_assoc whole rest piece) ∙ ap (λ (x : List ℕ). x ++ piece) (take-append-drop (n * 256) message) in
      rw joined at (absorbed hash (put_mid used k waiting put) whole (rest ++ piece) n (length-take-le (n * 256) message (omega arith)) (omega arith)
      (hash_of_groups hash waiting message n refl held) placed)

  -- a piece that fills the group: its start, whole groups, and what is left
  pub absorbed_filled : (hash waiting message filling groups rest full first second left : List ℕ) (used k j : ℕ) → IsAbsorbed compress initial hash waiting message → length waiting ≡ 256
      → used ≡ length message % 256 → used + length filling ≡ 256 → length groups % 256 ≡ 0 → length rest < 256
      → full ≡ put_mid used k waiting filling → k ≡ length filling → first ≡ compressed compress hash full (length full / 64) → second ≡ compressed compress first groups (length groups / 64)
      → left ≡ rest → IsAbsorbed compress initial second (left ++ post_of 0 j full) (message ++ (filling ++ (groups ++ rest)))
  absorbed_filled hash waiting message filling groups rest full first second left used k j held lw eu lf lg lr ef ek e1 e2 el =
      let n : ℕ = length message / 256 in
      let g : ℕ = length groups / 256 in
      let whole : List ℕ = take (n * 256) message in
      let before : List ℕ = drop (n * 256) message in
      let wait : take used waiting ≡ before = rw eu held.1 in
      let none : post_of used k waiting ≡ [] = drop_all k (drop used waiting) (omega (arith, length-drop used waiting)) in
      let same : full ≡ before ++ filling = ef ∙ rw (none, append-nil, wait) refl in
      let lfull : length full ≡ 1 * 256 = omega (arith, ap length same, length-append before filling, length-drop (n * 256) message) in
      let lwhole : length whole ≡ n * 256 = length-take-le (n * 256) message (omega arith) in
      let one : first ≡ compressed compress initial (whole ++ full) ((n + 1) * 4) = e1 ∙ more_groups hash whole full n 1 lwhole lfull (hash_of_groups hash waiting message n refl held) in
      let lone : length (whole ++ full) ≡ (n + 1) * 256 = omega (arith, length-append whole full) in
      let lgroups : length groups ≡ g * 256 = omega arith in
      let two : second ≡ compressed compress initial ((whole ++ full) ++ groups) ((n + 1 + g) * 4) = e2 ∙ more_groups first (whole ++ full) groups (n + 1) g lone lgroups one in
      let ltwo : length ((whole ++ full) ++ groups) ≡ (n + 1 + g) * 256 = omega (arith, length-append (whole ++ full) groups) in
      let start : whole ++ full ≡ message ++ filling =
      ap (λ (x : List ℕ). whole ++ x) same ∙ sym (append_assoc whole before filling) ∙ ap (λ (x : List ℕ). x ++ filling) (take-append-drop (n * 256) message) in
      let joined : ((whole ++ full) ++ groups) ++ rest ≡ message ++ (filling ++ (groups ++ rest)) =
      append_assoc (whole ++ full) groups rest ∙ ap (λ (x : List ℕ). x ++ (groups ++ rest)) start ∙ append_assoc message filling (groups ++ rest) in
      rw joined at (absorbed second (left ++ post_of 0 j full) ((whole ++ full) ++ groups) rest (n + 1 + g) ltwo lr two
      (rw el (take_at rest (post_of 0 j full) (length rest) refl)))

  -- a message of whole blocks: those that wait, compressed into the hash value of its groups
  pub absorbed_end : (hash waiting message : List ℕ) (left : ℕ) → IsAbsorbed compress initial hash waiting message → length message % 64 ≡ 0
      → left ≡ length message % 256 / 64 → compressed compress hash waiting left ≡ compressed compress initial message (length message / 64)
  absorbed_end hash waiting message left held whole_blocks el =
      let n : ℕ = length message / 256 in
      let whole : List ℕ = take (n * 256) message in
      let rest : List ℕ = drop (n * 256) message in
      let at : left * 64 ≡ length message % 256 = omega arith in
      let count : n * 4 + left ≡ length message / 64 = omega arith in
      let wait : rest ≡ take (left * 64) (drop (0 * 64) waiting) = rw at (sym held.1) in
      let lr : length rest ≡ left * 64 = omega (arith, length-drop (n * 256) message) in
      let alone : compressed compress hash rest left ≡ compressed compress hash waiting left =
      rw (compressed_none compress hash waiting, zero-add) at (compressed_part compress hash waiting rest 0 left (left * 64) wait (omega arith)) in
      let behind : compressed compress (compressed compress initial whole (n * 4)) rest left ≡ compressed compress initial (whole ++ rest) (n * 4 + left) =
      compressed_behind compress initial whole rest (n * 4) left (omega (arith, length-take-le (n * 256) message (omega arith))) (omega arith) in
      sym alone ∙ ap (λ (h : List ℕ). compressed compress h rest left) (hash_of_groups hash waiting message n refl held) ∙ behind
      ∙ rw (take-append-drop (n * 256) message, count) refl

  -- the hash value of a message, if some blocks are buffered after its padding
  pub finished : {V : Type 0} (words : V → List ℕ) (s t : Hasher V) (m b hash : List ℕ) (left : ℕ) → HasAbsorbed words compress initial s m
      → HasAbsorbed words compress initial t ((m ++ take ((119 - s.taken % 64) % 64 + 1) (0x80 ∷ replicate 63 0)) ++ b)
      → b ≡ to_be_bytes w64 (s.taken * 8 % 2 ^ 64) → left ≡ t.taken % 256 / 64
      → hash ≡ compressed compress (words t.hash) t.waiting left → hash ≡ hash_of compress initial m
  unfolding HasAbsorbed
  finished words s t m b hash left before held eb el eh =
      let taken : s.taken ≡ length m % 2 ^ 64 = before.0 in
      let zeros : ℕ = (119 - s.taken % 64) % 64 in
      let same : zeros ≡ (119 - length m % 64) % 64 = omega arith in
      let bits : s.taken * 8 % 2 ^ 64 ≡ length m * 8 % 2 ^ 64 = omega arith in
      let p : List ℕ = take (zeros + 1) (0x80 ∷ replicate 63 0) in
      let ep : p ≡ 0x80 ∷ replicate ((119 - length m % 64) % 64) 0 = padding-take 0x80 0 zeros (omega arith) ∙ ap (λ (z : ℕ). 0x80 ∷ replicate z 0) same in
      let e : (m ++ p) ++ b ≡ padded_message m = rw (append_assoc m p b, ep, eb, bits) refl in
      let all : t.taken ≡ length (padded_message m) % 2 ^ 64 = rw e at held.0 in
      eh ∙ absorbed_end (words t.hash) t.waiting (padded_message m) left (rw e at held.1) (length_padded m) (omega arith)
