-- Lines that go out block by block, one for each item.
use Rattle.std.proofs.Common.{◌≡◌, ℕ, ◌+◌, ◌<◌, ◌≤◌, List, [], ◌++◌, length, take, drop, get_or, Result, Ok, Err}
use Rattle.std.proofs.Common.{true, sym, ap, ◌∙◌, subst, take-append-drop}
use Rattle.std.proofs.lemmas.Grind.{flat_map-append}
use Rattle.std.proofs.lemmas.List.{take_more, flat_map_more, take_all}
use Rattle.std.specs.Prelude.{flat_map}
use Rattle.std.specs.IoError.{error_kind}
use Rattle.std.specs.declared.io.Error.{Error}
use Rattle.std.specs.declared.io.ErrorKind.TheVariants.{OutOfMemory}
use Rattle.index_parts.specs.declared.hash.io.Out.{Ghosts}
use Rattle.index_parts.specs.Puts.{Puts}
use Rattle.index_parts.specs.Taking.{AppendsPrefix}
use Rattle.base_text.specs.Blocks.{Passes, PutsBlocks, PutsText}
use Rattle.base_text.proofs.Blocks.{block_broken, block_out, more_waits, no_memory, none_out, text_broken, text_out}

-- the lines up to a place, and that of the item there
next_lines : {X : Type 0} (f : X → List ℕ) (es : List X) (i : ℕ) (d : X) → i < length es
    → flat_map f (take i es) ++ f (get_or es i d) ≡ flat_map f (take (i + 1) es)
next_lines f es i d lt = flat_map_more f [] (take i es) (get_or es i d) ∙ ap (flat_map f) (sym (take_more es i d lt))

-- the lines up to a place, and those from there on
all_lines : {X : Type 0} (f : X → List ℕ) (es : List X) (i : ℕ)
    → flat_map f (take i es) ++ flat_map f (drop i es) ≡ flat_map f es
all_lines f es i = sym (flat_map-append f (take i es) (drop i es)) ∙ ap (flat_map f) (take-append-drop i es)

-- no line yet
pub first_lines : {S X : Type 0} {w : Ghosts S} {a : S} (f : X → List ℕ) (es : List X) {lines : List ℕ}
    → lines ≡ [] → PutsBlocks {T = Unit {0}} w a a (Ok tt) lines (flat_map f (take 0 es))
first_lines f es e = none_out e

-- one line more comes into the buffer, and the buffer's front goes out
pub line_more : {S X U : Type 0} {w : Ghosts S} {a b c : S} {x : U} (f : X → List ℕ) (es : List X) (i : ℕ) (d : X)
    {old mid new : List ℕ} → i < length es → PutsBlocks w a b (Ok x) old (flat_map f (take i es))
    → mid ≡ old ++ f (get_or es i d) → Passes (w.taken b) (w.taken c) new mid
    → w.failed c ≡ w.failed b → w.loan c ≡ w.loan b
    → PutsBlocks {T = Unit {0}} w a c (Ok tt) new (flat_map f (take (i + 1) es))
line_more {w = w} {a = a} {c = c} f es i d {new = new} lt before line out going loan =
    subst (λ (l : List ℕ). PutsBlocks {T = Unit {0}} w a c (Ok tt) new l) (next_lines f es i d lt)
    (block_out (more_waits (f (get_or es i d)) before line) out going loan)

-- there is no memory for the next line
pub no_line : {S X T U : Type 0} {w : Ghosts S} {a b : S} {x : U} (r : Result T Error) {e : Error} (f : X → List ℕ)
    (es : List X) (i : ℕ) {old : List ℕ} → r ≡ Err e → error_kind e ≡ OutOfMemory
    → PutsBlocks w a b (Ok x) old (flat_map f (take i es)) → PutsText w a b r (flat_map f es)
no_line r f es i {old = old} is kind before =
    text_broken r {waiting = old} is (no_memory r (flat_map f (drop i es)) is kind before (all_lines f es i))

-- a prefix of the buffer goes out, with the line of this place in it
pub line_broken : {S X T U : Type 0} {w : Ghosts S} {a b c : S} {x : U} (r : Result T Error) {e : Error}
    (f : X → List ℕ) (es : List X) (i : ℕ) (d : X) {old mid : List ℕ} → r ≡ Err e → i < length es
    → PutsBlocks w a b (Ok x) old (flat_map f (take i es)) → mid ≡ old ++ f (get_or es i d)
    → AppendsPrefix (w.taken b) (w.taken c) mid → w.failed c ≡ true → w.loan c ≡ w.loan b
    → PutsText w a c r (flat_map f es)
line_broken r f es i d {old = old} is lt before line front failed loan =
    text_broken r {waiting = old} is (block_broken r (flat_map f (drop (i + 1) es)) is
    (more_waits (f (get_or es i d)) before line) front failed loan
    (ap (λ (l : List ℕ). l ++ flat_map f (drop (i + 1) es)) (next_lines f es i d lt) ∙ all_lines f es (i + 1)))

-- the rest of the buffer goes out
pub lines_out : {S X T U : Type 0} {w : Ghosts S} {a b c : S} {x : U} (r : Result T Error) (f : X → List ℕ)
    (es : List X) (i : ℕ) {old all : List ℕ} → length es ≤ i → PutsBlocks w a b (Ok x) old (flat_map f (take i es))
    → all ≡ old → Puts w b c r all → PutsText w a c r (flat_map f es)
lines_out {w = w} {a = a} {c = c} r f es i le before e rest =
    subst (λ (l : List ℕ). PutsText w a c r l) (ap (flat_map f) (take_all i es le)) (text_out r before e rest)
