-- One piece taken after another.
use Rattle.std.proofs.Common.{◌≡◌, ℕ, suc, ◌+◌, ◌<◌, List, [], ◌∷◌, ◌++◌, Option, None, Some, Result, Ok, Err, sym, ap}
use Rattle.std.proofs.Common.{subst, ◌∙◌, append_assoc, append-nil, take, drop, length, map, get_or, drop-cons}
use Rattle.std.proofs.Common.{take-append-drop}
use Rattle.std.specs.Prelude.{IsErr, OnErr}
use Rattle.std.specs.List.{flat_map, concat}
use Rattle.std.proofs.lemmas.List.{map-append}
use Rattle.std.proofs.lemmas.List.Concat.{flat_map-cons, concat_is}
use Rattle.std.proofs.lemmas.List.Folds.{flat_map-map}
use Rattle.std.proofs.lemmas.Grind.{flat_map-append}
use Rattle.std.proofs.Math.Seq.{take-add}
use Rattle.std.specs.Io.KnownBytes.{Appends, Keeps}
use Rattle.index_parts.specs.declared.hash.Kind.{Kind}
use Rattle.index_parts.specs.Taking.{AppendsPrefix, Took, Takes, Breaks, Hashes, KeepsHashed}

pub Appends-nil : (a : Option (List ℕ)) → Appends a a []
Appends-nil None = tt
Appends-nil (Some x) = sym (append-nil x)

pub Appends-trans : (a b c : Option (List ℕ)) (bs cs : List ℕ) → Appends a b bs → Appends b c cs
    → Appends a c (bs ++ cs)
Appends-trans None b c bs cs p q = tt
Appends-trans (Some x) None c bs cs p q = absurd p
Appends-trans (Some x) (Some y) None bs cs p q = absurd q
Appends-trans (Some x) (Some y) (Some z) bs cs p q = q ∙ ap (λ l. l ++ cs) p ∙ append_assoc x bs cs

pub Appends-kept : (a b c : Option (List ℕ)) (bs : List ℕ) → Appends a b bs → Keeps b c → Appends a c bs
Appends-kept None b c bs p q = tt
Appends-kept (Some x) None c bs p q = absurd p
Appends-kept (Some x) (Some y) None bs p q = absurd q
Appends-kept (Some x) (Some y) (Some z) bs p q = q ∙ p

pub Appends-taken : (a b c : Option (List ℕ)) (i n : ℕ) (xs rest : List ℕ) → rest ≡ drop i xs → Appends a b (take i xs)
    → Appends b c (take n rest) → Appends a c (take (i + n) xs)
Appends-taken a b c i n xs rest e p q =
    subst (λ (l : List ℕ). Appends a c l) (sym (take-add i n xs)) (Appends-trans a b c _ _ p (rw e at q))

pub prefix_of_take : (a b : Option (List ℕ)) (n : ℕ) (xs : List ℕ) → Appends a b (take n xs) → AppendsPrefix a b xs
prefix_of_take a b n xs p =
    record { prefix = take n xs; rest = drop n xs; parts = sym (take-append-drop n xs); taken = p }

-- a prefix of what follows what was taken
pub prefix_after : (a b c : Option (List ℕ)) (xs ys : List ℕ) → Appends a b xs → AppendsPrefix b c ys
    → AppendsPrefix a c (xs ++ ys)
prefix_after a b c xs ys p q = record {
  prefix = xs ++ q.prefix;
  rest = q.rest;
  parts = ap (λ (l : List ℕ). xs ++ l) q.parts ∙ sym (append_assoc xs q.prefix q.rest);
  taken = Appends-trans a b c xs q.prefix p q.taken;
}

-- a prefix of more bytes
pub prefix_before : {a b : Option (List ℕ)} {xs : List ℕ} → AppendsPrefix a b xs → (ys : List ℕ)
    → AppendsPrefix a b (xs ++ ys)
prefix_before {a} {b} {xs} p ys = record {
  prefix = p.prefix;
  rest = p.rest ++ ys;
  parts = ap (λ (l : List ℕ). l ++ ys) p.parts ∙ append_assoc p.prefix p.rest ys;
  taken = p.taken;
}

pub Took-nil : {S : Type 0} (taken : S → Option (List ℕ)) (hashed : S → ℕ → Kind → List ℕ → Type 0) (a : S)
    → Took taken hashed a a []
Took-nil taken hashed a =
    record { grew = Appends-nil (taken a); into_hash = λ n k m h. subst (hashed a n k) (sym (append-nil m)) h }

pub Took-trans : {S : Type 0} {taken : S → Option (List ℕ)} {hashed : S → ℕ → Kind → List ℕ → Type 0} {a b c : S}
    {xs ys : List ℕ} → Took taken hashed a b xs → Took taken hashed b c ys → Took taken hashed a c (xs ++ ys)
Took-trans {S} {taken} {hashed} {a} {b} {c} {xs} {ys} p q = record {
  grew = Appends-trans (taken a) (taken b) (taken c) xs ys p.grew q.grew;
  into_hash = λ n k m h. subst (hashed c n k) (append_assoc m xs ys) (q.into_hash n k (m ++ xs) (p.into_hash n k m h));
}

-- what was read of a list up to a place, the item there, and the rest
pub flat_map_at : {X : Type 0} (f : X → List ℕ) (xs : List X) (i : ℕ) (d : X) → i < length xs
    → flat_map f xs ≡ (flat_map f (take i xs) ++ f (get_or xs i d)) ++ flat_map f (drop (suc i) xs)
flat_map_at f xs i d h =
    ap (flat_map f) (sym (take-append-drop i xs) ∙ ap (λ l. take i xs ++ l) (drop-cons xs i d h))
    ∙ flat_map-append f (take i xs) (get_or xs i d ∷ drop (suc i) xs)
    ∙ ap (λ l. flat_map f (take i xs) ++ l) (flat_map-cons f (get_or xs i d) (drop (suc i) xs))
    ∙ sym (append_assoc (flat_map f (take i xs)) (f (get_or xs i d)) (flat_map f (drop (suc i) xs)))

-- the items before a place were taken, and a prefix of the item there
pub prefix_at : {X : Type 0} (f : X → List ℕ) (xs : List X) (i : ℕ) (d : X) {a b c : Option (List ℕ)} → i < length xs
    → Appends a b (flat_map f (take i xs)) → AppendsPrefix b c (f (get_or xs i d)) → AppendsPrefix a c (flat_map f xs)
prefix_at f xs i d {a} {b} {c} h p q =
    subst (λ (l : List ℕ). AppendsPrefix a c l) (sym (flat_map_at f xs i d h))
    (prefix_before (prefix_after a b c _ _ p q) _)

-- a piece of a list of pieces, and those before and after it
pieces_at : {X : Type 0} (f : X → List ℕ) (xs : List X) (i : ℕ) (d : X) → i < length xs
    → map f xs ≡ map f (take i xs) ++ f (get_or xs i d) ∷ map f (drop (suc i) xs)
pieces_at f xs i d h = ap (map f) (sym (take-append-drop i xs) ∙ ap (λ l. take i xs ++ l) (drop-cons xs i d h))
    ∙ map-append f (take i xs) (get_or xs i d ∷ drop (suc i) xs)

-- the items before a place were taken whole, and of the item there a prefix
pub breaks_at : {X : Type 0} (f : X → List ℕ) (xs : List X) (i : ℕ) (d : X) {S : Type 0} {taken : S
    → Option (List ℕ)} {hashed : S → ℕ → Kind → List ℕ → Type 0} {a b c : S} → i < length xs
    → Took taken hashed a b (flat_map f (take i xs)) → AppendsPrefix (taken b) (taken c) (f (get_or xs i d))
    → KeepsHashed hashed b c → Breaks taken hashed a c (map f xs)
breaks_at f xs i d {S} {taken} {hashed} {a} {b} {c} h p q kept =
    let joined : concat (map f (take i xs)) ≡ flat_map f (take i xs) =
    concat_is (map f (take i xs)) ∙ flat_map-map (λ (l : List ℕ). l) f (take i xs) in
    record {
      whole = map f (take i xs);
      prefix = q.prefix;
      rest = q.rest;
      after = map f (drop (suc i) xs);
      parts = pieces_at f xs i d h ∙ ap (λ (l : List ℕ). map f (take i xs) ++ l ∷ map f (drop (suc i) xs)) q.parts;
      grew = subst (λ (l : List ℕ). Appends (taken a) (taken c) (l ++ q.prefix)) (sym joined)
          (Appends-trans (taken a) (taken b) (taken c) (flat_map f (take i xs)) q.prefix p.grew q.taken);
      into_hash = subst (Hashes hashed a c) (sym joined)
          (λ n k m held. kept n k (m ++ flat_map f (take i xs)) (p.into_hash n k m held));
    }

pub on_err : {T E P : Type 0} (r : Result T E) → P → OnErr r P
on_err (Ok x) p = tt
on_err (Err e) p = p

-- at the exit of a `?`
pub Takes-err : {S T E : Type 0} (taken : S → Option (List ℕ)) (hashed : S → ℕ → Kind → List ℕ → Type 0) (old new : S)
    (r : Result T E) (bytes : List ℕ) → IsErr r → AppendsPrefix (taken old) (taken new) bytes
    → Takes taken hashed old new r bytes
Takes-err taken hashed old new (Ok x) bytes h p = absurd cc
Takes-err taken hashed old new (Err e) bytes h p = p

-- what was taken whole, and what comes after it
pub takes_after : {S T E : Type 0} {taken : S → Option (List ℕ)} {hashed : S → ℕ → Kind → List ℕ
    → Type 0} {a b : S} {xs : List ℕ} (c : S) (ys : List ℕ) (r : Result T E) → Took taken hashed a b xs
    → Takes taken hashed b c r ys → Takes taken hashed a c r (xs ++ ys)
takes_after c ys (Ok x) p q = Took-trans p q
takes_after {taken = taken} {a = a} {b = b} {xs = xs} c ys (Err e) p q =
    prefix_after (taken a) (taken b) (taken c) xs ys p.grew q
