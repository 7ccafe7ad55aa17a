-- Lines that are written in blocks after other text, one for each item with its index.
use Rattle.std.proofs.Common.{◌≡◌, ℕ, suc, ◌+◌, ◌<◌, ◌≤◌, List, [], ◌∷◌, ◌++◌, length, take, drop, get_or, Result, Ok}
use Rattle.std.proofs.Common.{Err}
use Rattle.std.proofs.Common.{true, refl, sym, ap, ◌∙◌, append-nil, append_assoc, subst, take-append-drop, arith}
use Rattle.std.proofs.lemmas.List.{take_all}
use Rattle.std.proofs.lemmas.List.Concat.{flat_map-cons}
use Rattle.std.specs.List.{enumerate_from, flat_map}
use Rattle.std.specs.IoError.{error_kind}
use Rattle.std.specs.declared.io.Error.{Error}
use Rattle.std.specs.declared.io.ErrorKind.TheVariants.{OutOfMemory}
use Rattle.index_parts.specs.declared.hash.io.Out.{Ghosts}
use Rattle.index_parts.specs.Taking.{AppendsPrefix}
use Rattle.base_text.specs.Blocks.{Passes, PutsBlocks}
use Rattle.base_text.proofs.Blocks.{block_broken, block_out, blocks_broken, blocks_then, more_waits, no_memory}
use Rattle.base_text.proofs.Blocks.{none_out}
use Rattle.base_text.proofs.Placed.{placed_more}

placed_append : {X : Type 0} (f : ℕ × X → List ℕ) (k : ℕ) (xs ys : List X)
    → flat_map f (enumerate_from k (xs ++ ys))
    ≡ flat_map f (enumerate_from k xs) ++ flat_map f (enumerate_from (k + length xs) ys)
placed_append f k [] ys = let e : k ≡ k + 0 = omega arith in ap (λ (n : ℕ). flat_map f (enumerate_from n ys)) e
placed_append f k (x ∷ xs) ys =
    let e : k + 1 + length xs ≡ k + suc (length xs) = omega arith in
    let front = flat_map f (enumerate_from (k + 1) xs) in
    flat_map-cons f (k, x) (enumerate_from (k + 1) (xs ++ ys))
    ∙ ap (λ (l : List ℕ). f (k, x) ++ l)
    (placed_append f (k + 1) xs ys ∙ ap (λ (n : ℕ). front ++ flat_map f (enumerate_from n ys)) e)
    ∙ sym (append_assoc (f (k, x)) front (flat_map f (enumerate_from (k + suc (length xs)) ys)))

-- text, and the lines of items
abbrev behind : {X : Type 0} → (ℕ × X → List ℕ) → List ℕ → List X → List ℕ
behind f base es = base ++ flat_map f (enumerate_from 0 es)

-- the lines from a place on
abbrev lines_from : {X : Type 0} → (ℕ × X → List ℕ) → ℕ → List X → List ℕ
lines_from f i es = flat_map f (enumerate_from (0 + length (take i es)) (drop i es))

next_line : {X : Type 0} (f : ℕ × X → List ℕ) (base : List ℕ) (es : List X) (i : ℕ) (d : X) → i < length es
    → behind f base (take i es) ++ f (i, get_or es i d) ≡ behind f base (take (i + 1) es)
next_line f base es i d lt = placed_more f es i d base (behind f base (take i es))
    (behind f base (take i es) ++ f (i, get_or es i d)) lt refl refl

all_lines : {X : Type 0} (f : ℕ × X → List ℕ) (base : List ℕ) (es : List X) (i : ℕ)
    → behind f base (take i es) ++ lines_from f i es ≡ behind f base es
all_lines f base es i = append_assoc base (flat_map f (enumerate_from 0 (take i es))) (lines_from f i es)
    ∙ ap (λ (t : List ℕ). base ++ t) (sym (placed_append f 0 (take i es) (drop i es))
    ∙ ap (λ (l : List _). flat_map f (enumerate_from 0 l)) (take-append-drop i es))

-- no line yet
pub none_placed : {S X : Type 0} {w : Ghosts S} {a : S} (f : ℕ × X → List ℕ) (base : List ℕ) (es : List X)
    → PutsBlocks {T = Unit {0}} w a a (Ok tt) base (base ++ flat_map f (enumerate_from 0 (take 0 es)))
none_placed f base es = none_out (sym (append-nil base))

-- one line more comes into the buffer, and the buffer's front goes out
pub placed_out : {S X U : Type 0} {w : Ghosts S} {a b c : S} {x : U} (f : ℕ × X → List ℕ) (base : List ℕ)
    (es : List X) (i : ℕ) (d : X) {old mid new : List ℕ} → i < length es
    → PutsBlocks w a b (Ok x) old (base ++ flat_map f (enumerate_from 0 (take i es)))
    → mid ≡ old ++ f (i, get_or es i d) → Passes (w.taken b) (w.taken c) new mid
    → w.failed c ≡ w.failed b → w.loan c ≡ w.loan b
    → PutsBlocks {T = Unit {0}} w a c (Ok tt) new (base ++ flat_map f (enumerate_from 0 (take (i + 1) es)))
placed_out {w = w} {a = a} {c = c} f base es i d {new = new} lt before line out going loan =
    subst (λ (l : List ℕ). PutsBlocks {T = Unit {0}} w a c (Ok tt) new l) (next_line f base es i d lt)
    (block_out (more_waits (f (i, get_or es i d)) before line) out going loan)

-- the same by a call of this library
pub placed_then : {S X T U : Type 0} {w : Ghosts S} {a b c : S} {x : U} (r : Result T Error) (f : ℕ × X → List ℕ)
    (base : List ℕ) (es : List X) (i : ℕ) (d : X) {old new : List ℕ} → i < length es
    → PutsBlocks w a b (Ok x) old (base ++ flat_map f (enumerate_from 0 (take i es)))
    → PutsBlocks w b c r new (old ++ f (i, get_or es i d))
    → PutsBlocks w a c r new (base ++ flat_map f (enumerate_from 0 (take (i + 1) es)))
placed_then {w = w} {a = a} {c = c} r f base es i d {new = new} lt before then =
    subst (λ (l : List ℕ). PutsBlocks w a c r new l) (next_line f base es i d lt)
    (blocks_then r (f (i, get_or es i d)) before then)

-- which broke off
pub placed_stopped : {S X T U V : Type 0} {w : Ghosts S} {a b c : S} {x : U} (r : Result T Error) {e : Error}
    (f : ℕ × X → List ℕ) (base : List ℕ) (es : List X) (i : ℕ) (d : X) {old new later text : List ℕ} → r ≡ Err e
    → i < length es → PutsBlocks w a b (Ok x) old (base ++ flat_map f (enumerate_from 0 (take i es)))
    → PutsBlocks {T = V} w b c (Err e) new (old ++ f (i, get_or es i d))
    → base ++ flat_map f (enumerate_from 0 es) ≡ text → PutsBlocks w a c r later text
placed_stopped r {e = e} f base es i d is lt before then all =
    blocks_broken r (lines_from f (i + 1) es) is (placed_then (Err e) f base es i d lt before then)
    (all_lines f base es (i + 1) ∙ all)

-- there is no memory for the next line
pub no_placed : {S X T U : Type 0} {w : Ghosts S} {a b : S} {x : U} (r : Result T Error) {e : Error}
    (f : ℕ × X → List ℕ) (base : List ℕ) (es : List X) (i : ℕ) {old later text : List ℕ} → r ≡ Err e
    → error_kind e ≡ OutOfMemory → PutsBlocks w a b (Ok x) old (base ++ flat_map f (enumerate_from 0 (take i es)))
    → base ++ flat_map f (enumerate_from 0 es) ≡ text → PutsBlocks w a b r later text
no_placed r f base es i is kind before all =
    no_memory r (lines_from f i es) is kind before (all_lines f base es i ∙ all)

-- a prefix of the buffer goes out, with the line of this place in it
pub placed_broken : {S X T U : Type 0} {w : Ghosts S} {a b c : S} {x : U} (r : Result T Error) {e : Error}
    (f : ℕ × X → List ℕ) (base : List ℕ) (es : List X) (i : ℕ) (d : X) {old mid later text : List ℕ} → r ≡ Err e
    → i < length es → PutsBlocks w a b (Ok x) old (base ++ flat_map f (enumerate_from 0 (take i es)))
    → mid ≡ old ++ f (i, get_or es i d) → AppendsPrefix (w.taken b) (w.taken c) mid
    → w.failed c ≡ true → w.loan c ≡ w.loan b
    → base ++ flat_map f (enumerate_from 0 es) ≡ text → PutsBlocks w a c r later text
placed_broken r f base es i d is lt before line front failed loan all =
    block_broken r (lines_from f (i + 1) es) is (more_waits (f (i, get_or es i d)) before line) front failed loan
    (ap (λ (l : List ℕ). l ++ lines_from f (i + 1) es) (next_line f base es i d lt) ∙ all_lines f base es (i + 1) ∙ all)

-- all lines went through the buffer
pub all_placed : {S X U : Type 0} {w : Ghosts S} {a b : S} {x : U} (f : ℕ × X → List ℕ) (base : List ℕ) (es : List X)
    (i : ℕ) {old text : List ℕ} → length es ≤ i
    → PutsBlocks w a b (Ok x) old (base ++ flat_map f (enumerate_from 0 (take i es)))
    → base ++ flat_map f (enumerate_from 0 es) ≡ text → PutsBlocks w a b (Ok x) old text
all_placed {w = w} {a = a} {b = b} {x = x} f base es i {old = old} le before all =
    subst (λ (l : List ℕ). PutsBlocks w a b (Ok x) old l)
    (ap (λ (l : List _). base ++ flat_map f (enumerate_from 0 l)) (take_all i es le) ∙ all) before
