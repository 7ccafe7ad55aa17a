-- The last link among parts, and its position.
use Rattle.std.proofs.Common.{◌≡◌, ℕ, ◌+◌, ◌≤◌, ◌<◌, Bool, true, false, List, [], ◌∷◌, ◌++◌, length, take, get_or}
use Rattle.std.proofs.Common.{Option, Some, None, refl, sym, ap, subst, ◌∙◌, arith}
use Rattle.std.specs.Option.{option_map}
use Rattle.std.specs.Prelude.{if◌then◌else◌}
use Rattle.std.proofs.lemmas.List.{take_more}
use Rattle.gix_index.specs.ExtensionValue.{IsValue, option_or}
use Rattle.gix_index.specs.Kind.{Kind}
use Rattle.gix_index.specs.Link.{IsLink}
use Rattle.view_layout.specs.Piece.{LieBetween}
use Rattle.view_salvage.specs.Remains.{is_link_content, last_link, link_content, part_bytes}
use Rattle.view_layout.specs.declared.part.Part.{Part}

-- the part, if it is the content of a link
abbrev own_link : Part → Option Part
own_link p = if is_link_content p.what then Some p else None

pub or_else_assoc : {A : Type 0} (x y z : Option A) → option_or (option_or x y) z ≡ option_or x (option_or y z)
or_else_assoc None y z = refl
or_else_assoc (Some a) y z = refl

pub or_else_none : {A : Type 0} (x : Option A) → option_or x None ≡ x
or_else_none None = refl
or_else_none (Some a) = refl

-- the last link of parts and others after them
pub last_append : (ps qs : List Part) → last_link (ps ++ qs) ≡ option_or (last_link qs) (last_link ps)
last_append [] qs = sym (or_else_none (last_link qs))
last_append (p ∷ ps) qs =
    ap (λ (o : Option Part). option_or o (own_link p)) (last_append ps qs)
    ∙ or_else_assoc (last_link qs) (last_link ps) (own_link p)

last_more : (ps : List Part) (i : ℕ) (d : Part) → i < length ps
    → last_link (take (i + 1) ps) ≡ option_or (own_link (get_or ps i d)) (last_link (take i ps))
last_more ps i d lt = ap last_link (take_more ps i d lt) ∙ last_append (take i ps) (get_or ps i d ∷ [])

last_by : (ps : List Part) (i : ℕ) (d : Part) (b : Bool) → i < length ps → b ≡ is_link_content (get_or ps i d).what
    → last_link (take (i + 1) ps) ≡ option_or (if b then Some (get_or ps i d) else None) (last_link (take i ps))
last_by ps i d b lt is =
    let x = get_or ps i d in
    last_more ps i d lt ∙ ap (λ (t : Bool). option_or (if t then Some x else None) (last_link (take i ps))) (sym is)

-- one part more: a link, or another
pub last_then : (ps : List Part) (i : ℕ) (d : Part) (b : Bool) (new : Option Part) → i < length ps
    → b ≡ is_link_content (get_or ps i d).what → b ≡ true → new ≡ Some (get_or ps i d)
    → new ≡ last_link (take (i + 1) ps)
last_then ps i d b new lt is t e =
    let x = get_or ps i d in
    e ∙ sym (last_by ps i d b lt is
    ∙ ap (λ (c : Bool). option_or (if c then Some x else None) (last_link (take i ps))) t)

pub last_else : (ps : List Part) (i : ℕ) (d : Part) (b : Bool) (old new : Option Part) → i < length ps
    → b ≡ is_link_content (get_or ps i d).what → b ≡ false → old ≡ last_link (take i ps) → new ≡ old
    → new ≡ last_link (take (i + 1) ps)
last_else ps i d b old new lt is t h e =
    let x = get_or ps i d in
    e ∙ h ∙ sym (last_by ps i d b lt is
    ∙ ap (λ (c : Bool). option_or (if c then Some x else None) (last_link (take i ps))) t)

-- ---- its position

lie_up : (place end : ℕ) (ps : List Part) → LieBetween place ps end → place ≤ end
lie_up place end [] h = omega arith
lie_up place end (p ∷ ps) h = omega (arith, lie_up (place + p.len) end ps h.1)

-- the last link is before the end of parts
pub link_within : (place end : ℕ) (ps : List Part) (p : Part) → LieBetween place ps end → last_link ps ≡ Some p
    → p.offset + p.len ≤ end
link_within place end [] p h e = absurd cc
link_within place end (q ∷ ps) p h e =
    by (last_link ps) (is_link_content q.what) (λ same. link_within (place + q.len) end ps p h.1 same) refl e
  where
    by : (o : Option Part) (t : Bool) → (last_link ps ≡ Some p → p.offset + p.len ≤ end) → last_link ps ≡ o
        → option_or o (if t then Some q else None) ≡ Some p → p.offset + p.len ≤ end
    by (Some r) t more is same = more (is ∙ same)
    by None true more is same =
        let own : q ≡ p = cc in
        let here : q.offset + q.len ≤ end = omega (arith, h.0, lie_up (place + q.len) end ps h.1) in
        subst (λ (r : Part). r.offset + r.len ≤ end) own here
    by None false more is same = absurd cc

-- a part that is the last content of a link and spells none
pub none_spelled : (kind : Kind) (bytes content : List ℕ) (parts : List Part) (p : Part)
    → content ≡ part_bytes bytes p → last_link parts ≡ Some p → IsValue (IsLink kind) (Some content) None
    → IsValue (IsLink kind) (link_content bytes parts) None
none_spelled kind bytes content parts p is last none =
    let whole : Some content ≡ link_content bytes parts =
    ap Some is ∙ sym (ap (option_map (part_bytes bytes)) last) in
    subst (λ (o : Option (List ℕ)). IsValue (IsLink kind) o None) whole none
