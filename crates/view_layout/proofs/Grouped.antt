-- One part more after groups.
use Rattle.std.proofs.Common.{◌≡◌, ℕ, ◌+◌, ◌<◌, ◌≤◌, List, [], ◌∷◌, ◌++◌, Bool, true, false, length, take, get_or, refl}
use Rattle.std.proofs.Common.{sym, ap, ◌∙◌, append_assoc, arith}
use Rattle.std.proofs.lemmas.List.{take_all, take_more}
use Rattle.std.proofs.lemmas.Bool.{false≢true}
use Rattle.std.specs.Prelude.{min}
use Rattle.view_layout.specs.declared.part.Part.{Part}
use Rattle.view_layout.specs.declared.part.What.{What}
use Rattle.view_layout.specs.declared.part.What.TheVariants as whats
use Rattle.view_layout.specs.Groups.{go_together, group_before, group_shade, grouped, stretched, reaches_over}
use Rattle.view_layout.specs.GroupSteps.{grown}
use Rattle.view_layout.specs.declared.shade.Shade.{Shade}
use Rattle.view_layout.specs.declared.shade.Shade.TheVariants as shades

-- what a group reaches over belongs to it
shade_kept : (s : Shade) (what : What) → reaches_over s what ≡ true → group_shade what ≡ s
shade_kept shades.Header what e = absurd (false≢true e)
shade_kept shades.Padding what e = absurd (false≢true e)
shade_kept shades.ExtensionContent what e = absurd (false≢true e)
shade_kept shades.LeftOver what e = absurd (false≢true e)
shade_kept shades.Trailer what e = absurd (false≢true e)
shade_kept shades.Unread what e = absurd (false≢true e)
shade_kept shades.Entry whats.Header e = absurd (false≢true e)
shade_kept shades.Entry (whats.Entry n) e = refl
shade_kept shades.Entry whats.Padding e = refl
shade_kept shades.Entry (whats.ExtensionHead s) e = absurd (false≢true e)
shade_kept shades.Entry (whats.ExtensionContent s) e = absurd (false≢true e)
shade_kept shades.Entry whats.LeftOver e = absurd (false≢true e)
shade_kept shades.Entry whats.Trailer e = absurd (false≢true e)
shade_kept shades.Entry whats.Unread e = absurd (false≢true e)
shade_kept shades.ExtensionHead whats.Header e = absurd (false≢true e)
shade_kept shades.ExtensionHead (whats.Entry n) e = absurd (false≢true e)
shade_kept shades.ExtensionHead whats.Padding e = absurd (false≢true e)
shade_kept shades.ExtensionHead (whats.ExtensionHead s) e = absurd (false≢true e)
shade_kept shades.ExtensionHead (whats.ExtensionContent s) e = refl
shade_kept shades.ExtensionHead whats.LeftOver e = absurd (false≢true e)
shade_kept shades.ExtensionHead whats.Trailer e = absurd (false≢true e)
shade_kept shades.ExtensionHead whats.Unread e = absurd (false≢true e)

-- what goes with the second of two that go together goes with the first
together_as : (a b c : What) → go_together a b ≡ true → go_together a c ≡ go_together b c
together_as a b c e = ap (λ s. reaches_over s c) (sym (shade_kept (group_shade a) b e))

stretched_twice : (x g z : Part) → stretched x (stretched g z) ≡ stretched (stretched x g) z
stretched_twice x g z =
    let e : min (x.len + min (g.len + z.len) 0xffffffffffffffff) 0xffffffffffffffff
    ≡ min (min (x.len + g.len) 0xffffffffffffffff + z.len) 0xffffffffffffffff = omega arith in
    ap (λ (n : ℕ). record { offset = x.offset; len = n; what = x.what }) e

two_more : (x g z : Part) (b c : Bool) → go_together x.what g.what ≡ b → go_together g.what z.what ≡ c
    → group_before x (grown (g ∷ []) z) ≡ grown (group_before x (g ∷ [])) z
two_more x g z true true e f =
    let h : go_together x.what z.what ≡ true = together_as x.what g.what z.what e ∙ f in
    rw (e, f) (rw (e, h) (ap (λ (p : Part). p ∷ []) (stretched_twice x g z)))
two_more x g z true false e f =
    let h : go_together x.what z.what ≡ false = together_as x.what g.what z.what e ∙ f in
    rw (e, f) (rw (e, h) refl)
two_more x g z false true e f = rw (e, f) (rw e refl)
two_more x g z false false e f = rw (e, f) (rw e refl)

many_more : (x g h z : Part) (gs : List Part) (b : Bool) → go_together x.what g.what ≡ b
    → group_before x (grown (g ∷ h ∷ gs) z) ≡ grown (group_before x (g ∷ h ∷ gs)) z
many_more x g h z gs true e = rw e refl
many_more x g h z gs false e = rw e refl

before_more : (x z : Part) (gs : List Part) → group_before x (grown gs z) ≡ grown (group_before x gs) z
before_more x z [] = refl
before_more x z (g ∷ []) = two_more x g z (go_together x.what g.what) (go_together g.what z.what) refl refl
before_more x z (g ∷ h ∷ gs) = many_more x g h z gs (go_together x.what g.what) refl

pub grouped_more : (parts : List Part) (z : Part) → grouped (parts ++ z ∷ []) ≡ grown (grouped parts) z
grouped_more [] z = refl
grouped_more (x ∷ parts) z = ap (group_before x) (grouped_more parts z) ∙ before_more x z (grouped parts)

-- only the last group grows
pub grown_last : (groups : List Part) (g z : Part) → grown (groups ++ g ∷ []) z ≡ groups ++ grown (g ∷ []) z
grown_last [] g z = refl
grown_last (a ∷ []) g z = refl
grown_last (a ∷ b ∷ groups) g z = ap (λ (l : List Part). a ∷ l) (grown_last (b ∷ groups) g z)

-- the last group reaches over one part more
pub last_stretched : (groups : List Part) (g z : Part) → go_together g.what z.what ≡ true
    → groups ++ (stretched g z ∷ []) ≡ grown (groups ++ (g ∷ [])) z
last_stretched groups g z e =
    let one : grown (g ∷ []) z ≡ stretched g z ∷ [] = rw e refl in
    sym (grown_last groups g z ∙ ap (λ (l : List Part). groups ++ l) one)

-- a part comes after the last group
pub last_apart : (groups : List Part) (g z : Part) → go_together g.what z.what ≡ false
    → (groups ++ (g ∷ [])) ++ (z ∷ []) ≡ grown (groups ++ (g ∷ [])) z
last_apart groups g z e =
    let two : grown (g ∷ []) z ≡ g ∷ z ∷ [] = rw e refl in
    append_assoc groups (g ∷ []) (z ∷ []) ∙ sym (grown_last groups g z ∙ ap (λ (l : List Part). groups ++ l) two)

-- groups of parts up to a place, and of the next part too
pub groups_more : (first : Part) (others : List Part) (i : ℕ) (d : Part) (old new : List Part) → i < length others
    → old ≡ grouped (first ∷ take i others) → new ≡ grown old (get_or others i d)
    → new ≡ grouped (first ∷ take (i + 1) others)
groups_more first others i d old new lt before step =
    step ∙ ap (λ (l : List Part). grown l (get_or others i d)) before
    ∙ sym (grouped_more (first ∷ take i others) (get_or others i d))
    ∙ ap (λ (l : List Part). grouped (first ∷ l)) (sym (take_more others i d lt))

-- groups of all
pub groups_all : (first : Part) (others : List Part) (i : ℕ) (old new : List Part) → length others ≤ i
    → old ≡ grouped (first ∷ take i others) → new ≡ old → new ≡ grouped (first ∷ others)
groups_all first others i old new le before e =
    e ∙ before ∙ ap (λ (l : List Part). grouped (first ∷ l)) (take_all i others le)
