-- Bytes that are no link have one first fault.
use Rattle.std.proofs.Common.{◌≡◌, ℕ, List, sym, ap, ◌∙◌}
use Rattle.std.specs.Prelude.{codes}
use Rattle.ext_bitmap.specs.Bitmap.{Lacks}
use Rattle.ext_bitmap.specs.declared.ewah.reading.Error.{Error as BitmapError}
use Rattle.index_parts.specs.declared.hash.Kind.{Kind}
use Rattle.ext_bitmap.proofs.BitmapFaults.{one_fault}
use Rattle.ext_bitmap.proofs.Bitmaps.{one_bitmap}
use Rattle.ext_split.specs.Link.{LinkFault, BitmapDecode, IsLinkFault, short, no_delete, no_replace, garbage}
use Rattle.ext_split.proofs.Links.{one_id, long_enough, moved, lacking, lacks_moved}

-- one fault of a bitmap, by its name
same_fault : (a c : List ℕ) (error other : BitmapError) (name : List ℕ) (f g : LinkFault) → a ≡ c → Lacks error a
    → Lacks other c → f ≡ BitmapDecode error name → g ≡ BitmapDecode other name → f ≡ g
same_fault a c error other name f g e h k p q =
    p ∙ ap (λ (x : BitmapError). BitmapDecode x name) (one_fault c error other (lacks_moved a c error e h) k) ∙ sym q

pub one_link_fault : (kind : Kind) (bytes : List ℕ) (f g : LinkFault) → IsLinkFault kind bytes f
    → IsLinkFault kind bytes g → f ≡ g
one_link_fault kind bytes f g (short lt e) (short lt' e') = e ∙ sym e'
one_link_fault kind bytes f g (short lt e) (no_delete id maps error s some k e') =
    absurd (long_enough kind bytes id maps s lt)
one_link_fault kind bytes f g (short lt e) (no_replace id maps after delete error s m k e') =
    absurd (long_enough kind bytes id maps s lt)
one_link_fault kind bytes f g (short lt e) (garbage id maps after rest b s m n some e') =
    absurd (long_enough kind bytes id maps s lt)
one_link_fault kind bytes f g (no_delete id maps error s some k e) (short lt e') =
    absurd (long_enough kind bytes id maps s lt)
one_link_fault kind bytes f g (no_delete id maps error s some k e) (no_delete id' maps' other t some' l e') =
    same_fault maps maps' error other (codes "delete") f g (one_id kind bytes id id' maps maps' s t).1 k l e e'
one_link_fault kind bytes f g (no_delete id maps error s some k e) (no_replace id' maps' after delete other t m l e') =
    absurd (lacking maps' maps after delete error (one_id kind bytes id' id maps' maps t s).1 m k)
one_link_fault kind bytes f g (no_delete id maps error s some k e) (garbage id' maps' after rest b t m n some' e') =
    absurd (lacking maps' maps after b.delete error (one_id kind bytes id' id maps' maps t s).1 m k)
one_link_fault kind bytes f g (no_replace id maps after delete error s m k e) (short lt e') =
    absurd (long_enough kind bytes id maps s lt)
one_link_fault kind bytes f g (no_replace id maps after delete error s m k e) (no_delete id' maps' other t some l e') =
    absurd (lacking maps maps' after delete other (one_id kind bytes id id' maps maps' s t).1 m l)
one_link_fault kind bytes f g (no_replace id maps after delete error s m k e)
    (no_replace id' maps' after' delete' other t n l e') =
    let first = one_bitmap maps' delete delete' after after'
    (moved maps maps' delete after (one_id kind bytes id id' maps maps' s t).1 m) n in
    same_fault after after' error other (codes "replace") f g first.1 k l e e'
one_link_fault kind bytes f g (no_replace id maps after delete error s m k e)
    (garbage id' maps' after' rest b t n l some e') =
    let first = one_bitmap maps' delete b.delete after after'
    (moved maps maps' delete after (one_id kind bytes id id' maps maps' s t).1 m) n in
    absurd (lacking after' after rest b.replace error (sym first.1) l k)
one_link_fault kind bytes f g (garbage id maps after rest b s m n some e) (short lt e') =
    absurd (long_enough kind bytes id maps s lt)
one_link_fault kind bytes f g (garbage id maps after rest b s m n some e) (no_delete id' maps' other t some' l e') =
    absurd (lacking maps maps' after b.delete other (one_id kind bytes id id' maps maps' s t).1 m l)
one_link_fault kind bytes f g (garbage id maps after rest b s m n some e)
    (no_replace id' maps' after' delete other t p l e') =
    let first = one_bitmap maps' b.delete delete after after'
    (moved maps maps' b.delete after (one_id kind bytes id id' maps maps' s t).1 m) p in
    absurd (lacking after after' rest b.replace other first.1 n l)
one_link_fault kind bytes f g (garbage id maps after rest b s m n some e)
    (garbage id' maps' after' rest' c t p q some' e') = e ∙ sym e'
