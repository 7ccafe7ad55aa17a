-- What is read as a path of resolve-undo is spelled so, and what is spelled so is read.
use Rattle.std.proofs.Common.{◌≡◌, ℕ, ◌+◌, ◌<◌, ◌≤◌, Bool, true, false, cond, eqb, List, [], ◌∷◌, ◌++◌, length, Option}
use Rattle.std.proofs.Common.{Some, None, All, refl, sym, ap, subst, ◌∙◌, arith}
use Rattle.std.specs.Prelude.{◌≢◌, IfSome}
use Rattle.std.proofs.lemmas.Bool.{eqb-true, eqb-false, ne_eqb}
use Rattle.std.proofs.lemmas.List.{length-append}
use Rattle.std.proofs.lemmas.List.Elements.{All-nil, All-cons}
use Rattle.std.proofs.lemmas.Option.{same_Some}
use Rattle.index_parts.proofs.Ids.{id_kind-make_id}
use Rattle.index_parts.proofs.Splits.{split_takes, split_again}
use Rattle.index_parts.proofs.Readers.{id_takes, id_again}
use Rattle.index_parts.specs.declared.hash.ObjectId.{ObjectId}
use Rattle.index_parts.proofs.Steps.{bind_some}
use Rattle.index_parts.specs.Id.{id_len, id_kind, make_id}
use Rattle.index_parts.specs.ReadingSteps.{◌>>=◌, split_at_byte, object_id_at}
use Rattle.index_parts.specs.declared.hash.Kind.{Kind}
use Rattle.ext_small.specs.ModeDigits.{IsMode}
use Rattle.ext_small.specs.ResolveUndoSteps.{mode_of, mode_at, stage_at, resolve_path_at}
use Rattle.ext_small.specs.ResolveUndo.{PathStages, IsStage, absent, present, IsResolvePath}
use Rattle.ext_small.specs.declared.resolve_undo.Stage.{Stage}
use Rattle.ext_small.proofs.Octals.{mode_takes, mode_again, mode_apart, mode_some}

-- ---- a mode

-- bytes are the text of a mode, a NUL, and the rest
record IsModeAt (bytes text : List ℕ) (mode : ℕ) (rest : List ℕ) : Type 0 where
  parts : bytes ≡ text ++ 0 ∷ rest
  is_mode : IsMode text mode

mode_at_takes : (bytes : List ℕ) (x : ℕ × List ℕ) → mode_at bytes ≡ Some x
    → (text : List ℕ) × IsModeAt bytes text x.0 x.1
unfolding mode_at
mode_at_takes bytes x e =
    let s = bind_some (split_at_byte 0 bytes) _ x e in
    let m = bind_some (mode_of s.0.0) _ x s.2 in
    let made : ℕ × List ℕ = (m.0, s.0.1) in
    let is : made ≡ x = cc (m.2) in
    let up = split_takes 0 bytes s.0 s.1 in
    subst (λ (y : ℕ × List ℕ). (text : List ℕ) × IsModeAt bytes text y.0 y.1) is
    (s.0.0, record { parts = up.parts; is_mode = mode_takes s.0.0 m.0 m.1 })

mode_at_again : (text : List ℕ) (mode : ℕ) (rest : List ℕ) → IsMode text mode
    → mode_at (text ++ 0 ∷ rest) ≡ Some (mode, rest)
unfolding mode_at
mode_at_again text mode rest h =
    let bytes : List ℕ = text ++ 0 ∷ rest in
    let some : 1 ≤ length text = mode_some text mode h in
    let len : length bytes ≡ length text + length (0 ∷ rest) = length-append text (0 ∷ rest) in
    let up =
    split_again 0 bytes text rest (record { parts = refl; apart = mode_apart text mode h; two = omega arith }) in
    rw (up, mode_again text mode h) refl

-- ---- a stage

-- bytes are the id of the stage with this mode
abbrev IsIdOf : Kind → ℕ → List ℕ → Option Stage → Type 0
IsIdOf kind mode id stage = (text : List ℕ) → IsMode text mode → IsStage kind text id stage

stage_by : (kind : Kind) (mode : ℕ) (bytes : List ℕ) (x : Option Stage × List ℕ) (t : Bool) → eqb mode 0 ≡ t
    → cond t (Some (None, bytes))
    (object_id_at kind bytes >>= λ id. Some (Some (record { mode = mode; id = id.0 }), id.1)) ≡ Some x
    → (id : List ℕ) × (bytes ≡ id ++ x.1) × IsIdOf kind mode id x.0
stage_by kind mode bytes x true z e =
    let none : mode ≡ 0 = eqb-true mode 0 z in
    let is : ◌≡◌ {A = Option Stage × List ℕ} (None, bytes) x = cc (e) in
    subst (λ (y : Option Stage × List ℕ). (id : List ℕ) × (bytes ≡ id ++ y.1) × IsIdOf kind mode id y.0) is
    ([], refl, λ text m. absent (subst (IsMode text) none m) refl refl)
stage_by kind mode bytes x false z e =
    let p = bind_some (object_id_at kind bytes) (λ id. Some (Some (record { mode = mode; id = id.0 }), id.1)) x e in
    let t = id_takes kind bytes p.0 p.1 in
    let with_id : ObjectId → Option Stage = λ id. Some (record { mode = mode; id = id }) in
    let made : Option Stage × List ℕ = (with_id p.0.0, p.0.1) in
    let is : made ≡ x = cc (p.2) in
    subst (λ (y : Option Stage × List ℕ). (id : List ℕ) × (bytes ≡ id ++ y.1) × IsIdOf kind mode id y.0) is
    (t.spelling, t.parts, λ text m. present mode m (eqb-false mode 0 z) t.size (ap with_id t.value))

stage_takes : (kind : Kind) (mode : ℕ) (bytes : List ℕ) (x : Option Stage × List ℕ) → stage_at kind mode bytes ≡ Some x
    → (id : List ℕ) × (bytes ≡ id ++ x.1) × IsIdOf kind mode id x.0
unfolding stage_at
stage_takes kind mode bytes x e = stage_by kind mode bytes x (eqb mode 0) refl e

-- the mode that the text of a stage spells, and what is read of its id
record IsRereadAs (kind : Kind) (text id : List ℕ) (stage : Option Stage) : Type 0 where
  mode : ℕ
  is_mode : IsMode text mode
  again : (rest : List ℕ) → stage_at kind mode (id ++ rest) ≡ Some (stage, rest)

none_again : (kind : Kind) (rest : List ℕ) → stage_at kind 0 ([] ++ rest) ≡ Some (None, rest)
unfolding stage_at
none_again kind rest = refl

some_again : (kind : Kind) (mode : ℕ) (id rest : List ℕ) → mode ≢ 0 → length id ≡ id_len kind
    → stage_at kind mode (id ++ rest) ≡ Some (Some (record { mode = mode; id = make_id kind id }), rest)
unfolding stage_at
some_again kind mode id rest other len =
    let no : eqb mode 0 ≡ false = ne_eqb mode 0 other in
    rw (no, id_again kind id rest len) refl

stage_again : (kind : Kind) (text id : List ℕ) (stage : Option Stage) → IsStage kind text id stage
    → IsRereadAs kind text id stage
stage_again kind text id stage (absent m none is) =
    record { mode = 0; is_mode = m; again = λ rest. rw (none, is) (none_again kind rest) }
stage_again kind text id stage (present mode m other len is) =
    record { mode = mode; is_mode = m; again = λ rest. rw is (some_again kind mode id rest other len) }

-- ---- a path

joined : (bytes name rest0 base rest1 ours rest2 theirs rest3 id1 rest4 id2 rest5 id3 rest : List ℕ)
    → bytes ≡ name ++ 0 ∷ rest0 → rest0 ≡ base ++ 0 ∷ rest1 → rest1 ≡ ours ++ 0 ∷ rest2
    → rest2 ≡ theirs ++ 0 ∷ rest3 → rest3 ≡ id1 ++ rest4 → rest4 ≡ id2 ++ rest5 → rest5 ≡ id3 ++ rest
    → bytes ≡ name ++ 0 ∷ (base ++ 0 ∷ (ours ++ 0 ∷ (theirs ++ 0 ∷ (id1 ++ (id2 ++ (id3 ++ rest))))))
joined bytes name rest0 base rest1 ours rest2 theirs rest3 id1 rest4 id2 rest5 id3 rest e f g h i j k =
    rw (e, f, g, h, i, j, k) refl

pub path_takes : (kind : Kind) (bytes : List ℕ) (x : PathStages × List ℕ) → resolve_path_at kind bytes ≡ Some x
    → IsResolvePath kind bytes x.0 x.1
unfolding resolve_path_at
path_takes kind bytes x e =
    let n = bind_some (split_at_byte 0 bytes) _ x e in
    let a = bind_some (mode_at n.0.1) _ x n.2 in
    let b = bind_some (mode_at a.0.1) _ x a.2 in
    let c = bind_some (mode_at b.0.1) _ x b.2 in
    let i = bind_some (stage_at kind a.0.0 c.0.1) _ x c.2 in
    let j = bind_some (stage_at kind b.0.0 i.0.1) _ x i.2 in
    let k = bind_some (stage_at kind c.0.0 j.0.1) _ x j.2 in
    let name = split_takes 0 bytes n.0 n.1 in
    let base = mode_at_takes n.0.1 a.0 a.1 in
    let ours = mode_at_takes a.0.1 b.0 b.1 in
    let theirs = mode_at_takes b.0.1 c.0 c.1 in
    let base_id = stage_takes kind a.0.0 c.0.1 i.0 i.1 in
    let ours_id = stage_takes kind b.0.0 i.0.1 j.0 j.1 in
    let theirs_id = stage_takes kind c.0.0 j.0.1 k.0 k.1 in
    let made : PathStages × List ℕ = (record { name = n.0.0; stages = i.0.0 ∷ j.0.0 ∷ k.0.0 ∷ [] }, k.0.1) in
    let is : made ≡ x = same_Some {A = PathStages × List ℕ} made x k.2 in
    subst (λ (y : PathStages × List ℕ). IsResolvePath kind bytes y.0 y.1) is (record {
      base = base.0;
      ours = ours.0;
      theirs = theirs.0;
      base_id = base_id.0;
      ours_id = ours_id.0;
      theirs_id = theirs_id.0;
      parts = joined bytes n.0.0 n.0.1 base.0 a.0.1 ours.0 b.0.1 theirs.0 c.0.1 base_id.0 i.0.1 ours_id.0 j.0.1
          theirs_id.0 k.0.1 name.parts base.1.parts ours.1.parts theirs.1.parts base_id.1 ours_id.1 theirs_id.1;
      name_apart = name.apart;
      base_stage = i.0.0;
      ours_stage = j.0.0;
      theirs_stage = k.0.0;
      is_base = base_id.2 base.0 base.1.is_mode;
      is_ours = ours_id.2 ours.0 ours.1.is_mode;
      is_theirs = theirs_id.2 theirs.0 theirs.1.is_mode;
      stages_are = refl;
    })

pub path_again : (kind : Kind) (bytes : List ℕ) (p : PathStages) (rest : List ℕ) → IsResolvePath kind bytes p rest
    → resolve_path_at kind bytes ≡ Some (p, rest)
unfolding resolve_path_at
path_again kind bytes p rest h =
    let base = stage_again kind h.base h.base_id h.base_stage h.is_base in
    let ours = stage_again kind h.ours h.ours_id h.ours_stage h.is_ours in
    let theirs = stage_again kind h.theirs h.theirs_id h.theirs_stage h.is_theirs in
    let ids1 : List ℕ = h.theirs_id ++ rest in
    let ids2 : List ℕ = h.ours_id ++ ids1 in
    let ids3 : List ℕ = h.base_id ++ ids2 in
    let modes1 : List ℕ = h.theirs ++ 0 ∷ ids3 in
    let modes2 : List ℕ = h.ours ++ 0 ∷ modes1 in
    let modes3 : List ℕ = h.base ++ 0 ∷ modes2 in
    let some : 1 ≤ length h.base = mode_some h.base base.mode base.is_mode in
    let l1 : length modes3 ≡ length h.base + length (0 ∷ modes2) = length-append h.base (0 ∷ modes2) in
    let l2 : length bytes ≡ length p.name + length (0 ∷ modes3) =
    ap length h.parts ∙ length-append p.name (0 ∷ modes3) in
    let name =
    split_again 0 bytes p.name modes3 (record { parts = h.parts; apart = h.name_apart; two = omega arith }) in
    let one = mode_at_again h.base base.mode modes2 base.is_mode in
    let two = mode_at_again h.ours ours.mode modes1 ours.is_mode in
    let three = mode_at_again h.theirs theirs.mode ids3 theirs.is_mode in
    let with_stages : List (Option Stage) → Option (PathStages × List ℕ) =
    λ s. Some (record { name = p.name; stages = s }, rest) in
    rw (name, one, two, three, base.again ids2, ours.again ids1, theirs.again rest) (ap with_stages (sym h.stages_are))

-- bytes have one path
pub one_path : (kind : Kind) (bytes : List ℕ) (p q : PathStages) (rest end : List ℕ) → IsResolvePath kind bytes p rest
    → IsResolvePath kind bytes q end → (p ≡ q) × (rest ≡ end)
one_path kind bytes p q rest end h k =
    let e = path_again kind bytes p rest h in
    let f = path_again kind bytes q end k in
    let same : ◌≡◌ {A = PathStages × List ℕ} (p, rest) (q, end) = cc in
    (ap (λ (x : PathStages × List ℕ). x.0) same, ap (λ (x : PathStages × List ℕ). x.1) same)

pub path_fewer : (kind : Kind) (bytes : List ℕ) (p : PathStages) (rest : List ℕ) → IsResolvePath kind bytes p rest
    → length rest < length bytes
path_fewer kind bytes p rest h =
    let ids : List ℕ = h.base_id ++ (h.ours_id ++ (h.theirs_id ++ rest)) in
    let modes1 : List ℕ = h.theirs ++ 0 ∷ ids in
    let modes2 : List ℕ = h.ours ++ 0 ∷ modes1 in
    let modes3 : List ℕ = h.base ++ 0 ∷ modes2 in
    let l0 : length bytes ≡ length p.name + length (0 ∷ modes3) =
    ap length h.parts ∙ length-append p.name (0 ∷ modes3) in
    let l1 = length-append h.base (0 ∷ modes2) in
    let l2 = length-append h.ours (0 ∷ modes1) in
    let l3 = length-append h.theirs (0 ∷ ids) in
    let l4 = length-append h.base_id (h.ours_id ++ (h.theirs_id ++ rest)) in
    let l5 = length-append h.ours_id (h.theirs_id ++ rest) in
    let l6 = length-append h.theirs_id rest in
    omega (arith, l0, l1, l2, l3, l4, l5, l6)

-- ---- the kind of ids

abbrev IsOf : Kind → Option Stage → Type 0
IsOf kind stage = IfSome stage (λ s. id_kind s.id ≡ kind)

stage_kind : (kind : Kind) (text id : List ℕ) (stage : Option Stage) → IsStage kind text id stage → IsOf kind stage
stage_kind kind text id stage (absent m none is) = subst (IsOf kind) (sym is) tt
stage_kind kind text id stage (present mode m other len is) = subst (IsOf kind) (sym is) (id_kind-make_id kind id)

pub path_kind : (kind : Kind) (bytes : List ℕ) (p : PathStages) (rest : List ℕ) → IsResolvePath kind bytes p rest
    → All (IsOf kind) p.stages
path_kind kind bytes p rest h =
    let base = stage_kind kind h.base h.base_id h.base_stage h.is_base in
    let ours = stage_kind kind h.ours h.ours_id h.ours_stage h.is_ours in
    let theirs = stage_kind kind h.theirs h.theirs_id h.theirs_stage h.is_theirs in
    let one = All-cons (IsOf kind) h.theirs_stage [] theirs (All-nil (IsOf kind)) in
    let two = All-cons (IsOf kind) h.ours_stage (h.theirs_stage ∷ []) ours one in
    let three = All-cons (IsOf kind) h.base_stage (h.ours_stage ∷ h.theirs_stage ∷ []) base two in
    subst (All (IsOf kind)) (sym h.stages_are) three
