-- What a reader gave in several reads.
use Rattle.std.proofs.Common.{◌≡◌, ◌≤◌, ◌+◌, ℕ, List, [], ◌++◌, length, take, drop, ap, ◌∙◌, sym, subst, drop_at}
use Rattle.std.proofs.Common.{length-take-le}
use Rattle.std.proofs.lemmas.List.{drop-take, take-append-le}
use Rattle.std.proofs.Transfers.{starts_with_length}
use Rattle.std.specs.Prelude.{Option, Result, Ok, Err}
use Rattle.std.specs.Io.{StartsWith, appended_bytes}
use Rattle.std.specs.Io.KnownBytes.{Consumes, IsAtEnd, Keeps, ReadConsumes}
use Rattle.file_place.specs.Sources.{AppendsFrom}
use Rattle.file_place.specs.declared.folder.Source.{Ghosts}
use Rattle.std.proofs.KnownBytes.{Consumes-kept, Consumes-nil, Consumes-trans, Keeps-trans, starts_with_rest}

-- a read after others that returned nothing
pub read_after_none : {E : Type 0} (a b c : Option (List ℕ)) (r : Result ℕ E) (room : List ℕ) → Keeps a b
    → ReadConsumes b c r room → ReadConsumes a c r room
read_after_none a b c (Ok n) room kept h =
    (Consumes-trans a b c [] (take n room) (Consumes-kept a a b [] (Consumes-nil a) kept) h.0, h.1)
read_after_none a b c (Err e) room kept h = Keeps-trans a b c kept h

-- a piece after what was read before
pub read_more : (a b c : Option (List ℕ)) (old new : List ℕ) → StartsWith new old → Consumes a b old
    → Consumes b c (appended_bytes old new) → Consumes a c new
read_more a b c old new grows before h = subst (Consumes a c) (sym (starts_with_rest new old grows))
    (Consumes-trans a b c old (appended_bytes old new) before h)

-- what was read into the part of a list from an index on, and cut off after the bytes that the read returned
pub piece_read : (old xs room rest : List ℕ) (at n : ℕ) → length old ≡ at → at ≤ length xs → n ≤ length room
    → appended_bytes old (take (at + n) (take at xs ++ (room ++ rest))) ≡ take n room
piece_read old xs room rest at n is within fits =
    let all = take at xs ++ (room ++ rest) in
    ap (λ k. drop k (take (at + n) all)) is ∙ drop-take at n all
    ∙ ap (take n) (drop_at (take at xs) (room ++ rest) at (length-take-le at xs within))
    ∙ take-append-le n room rest fits

-- what begins with what begins with a list
pub starts_trans : (old mid new : List ℕ) → StartsWith mid old → StartsWith new mid → StartsWith new old
starts_trans old mid new p q =
    ap (take (length old)) (starts_with_rest new mid q)
    ∙ take-append-le (length old) mid (drop (length mid) new) (starts_with_length mid old p) ∙ p

-- this number of bytes that a file returned follow what was there
pub came_behind : {S : Type 0} {source : Ghosts S} {old new : S} {before after : List ℕ} {Ends : ℕ → Type 0} (count : ℕ)
    → StartsWith after before → length after ≡ length before + count
    → Consumes (source.remaining old) (source.remaining new) (appended_bytes before after)
    → (Ends count → IsAtEnd (source.remaining new)) → source.stored new ≡ source.stored old
    → source.works new ≡ source.works old → AppendsFrom source old new before after Ends (Ok count)
came_behind count appends len consumes end stored works = record {
  appends = appends;
  len = len;
  consumes = consumes;
  end = end;
  stored = stored;
  works = works;
  fault = λ _. tt;
}
