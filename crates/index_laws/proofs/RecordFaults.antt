-- Each record is valid after those before it, or has exactly one error.
use Rattle.std.proofs.Common.{◌≡◌, ◌⊎◌, inl, inr, ℕ, List, [], ◌∷◌, ◌++◌, All, AllPairs, Bool, true, false, Contains}
use Rattle.std.proofs.Common.{Option, Some, None, length, get_or, refl, sym, ap, subst, ◌∙◌, arith}
use Rattle.std.specs.Prelude.{if◌then◌else◌}
use Rattle.std.specs.Option.{option_map, option_to_list}
use Rattle.std.specs.declared.cmp.Ordering.TheVariants.{Less}
use Rattle.std.proofs.lemmas.List.{append-nil, get_or_append_left, length-append}
use Rattle.std.proofs.lemmas.List.Elements.{All-contains, All-nil, All-push, Contains-append_left, Contains-push}
use Rattle.std.proofs.lemmas.List.Elements.{filter_map-append}
use Rattle.std.proofs.lemmas.Option.{same_Some}
use Rattle.index_parts.specs.Id.{id_bytes, id_kind, id_len, is_null}
use Rattle.index_parts.specs.declared.hash.Kind.{Kind}
use Rattle.index_parts.specs.declared.hash.Kind.TheVariants as hashes
use Rattle.entry_fields.specs.Flags.{stage_number}
use Rattle.index_parts.specs.Mode.{named_kind}
use Rattle.index_parts.specs.declared.object.tree.EntryKind.{EntryKind}
use Rattle.entry_list.specs.EntryImage.{is_removed}
use Rattle.entry_list.specs.Order.{path_cmp, record_cmp}
use Rattle.entry_list.specs.Record.{IsSized, Record}
use Rattle.tree_encode.specs.Refusals.{AreDisjointPaths, AreFit, NameCheck, RecordHasFault, HasPath, IsTreeRecord}
use Rattle.tree_encode.specs.Refusals.{IsMergedRecord}
use Rattle.tree_encode.specs.Refusals.{IsMisnamed, IsTreePath, LiesIn, Refusal, Unmerged, Mode, Path, OtherKind}
use Rattle.tree_encode.specs.Refusals.{NullId, Both, unmerged, other_mode, misnamed, other_kind, null_id, both}
use Rattle.tree_encode.specs.Staged.{Staged, is_intended, staged_entry, staged_in}
use Rattle.tree_encode.specs.declared.error.NameFault.{NameFault}
use Rattle.tree_encode.proofs.Aparts.{pairs_last}
use Rattle.tree_encode.proofs.Checked.{staged_rise}
use Rattle.tree_encode.proofs.Ranges.{one_of}
use Rattle.index_laws.proofs.TreeNames.{misnamed_one, path_judged, path_not_misnamed, same_or_other}
use Rattle.index_laws.proofs.PathsApart.{IsInOne, some_judged, one_file, not_itself, apart_more}

-- ---- what a record stages

abbrev entry_from : Record → Bool → Option EntryKind → Option Staged
entry_from r b k =
    if b then None else option_map (λ k. record { path = r.path; kind = k; id = r.id; later = is_intended r.flags }) k

abbrev staged_as : Record → EntryKind → Staged
staged_as r k = record { path = r.path; kind = k; id = r.id; later = is_intended r.flags }

staged_more : (before : List Record) (r : Record) (o : Option Staged) → staged_entry r ≡ o
    → staged_in (before ++ r ∷ []) ≡ staged_in before ++ option_to_list o
staged_more before r o e = filter_map-append staged_entry before (r ∷ [])
    ∙ ap (λ (l : List Staged). staged_in before ++ l) (one_of r o (sym e))

removed_none : (r : Record) → is_removed r.flags ≡ true → staged_entry r ≡ None
removed_none r h = ap (λ (b : Bool). entry_from r b (named_kind r.mode)) h

staged_some : (r : Record) (k : EntryKind) → is_removed r.flags ≡ false → named_kind r.mode ≡ Some k
    → staged_entry r ≡ Some (staged_as r k)
staged_some r k a b =
    ap (λ (x : Bool). entry_from r x (named_kind r.mode)) a ∙ ap (λ (o : Option EntryKind). entry_from r false o) b

kind_judged : (a b : Kind) → (a ≡ b) ⊎ (a ≡ b → ⊥)
kind_judged hashes.Sha1 hashes.Sha1 = inl refl
kind_judged hashes.Sha1 hashes.Sha256 = inr (λ e. absurd cc)
kind_judged hashes.Sha256 hashes.Sha1 = inr (λ e. absurd cc)
kind_judged hashes.Sha256 hashes.Sha256 = inl refl

-- ---- lists

abbrev pub Rising : List Record → Type 0
Rising rs = AllPairs (λ r q. record_cmp r q ≡ Less) rs

pub rising_front : (a b : List Record) → Rising (a ++ b) → Rising a
rising_front a b h i j d lt within =
    let x : get_or (a ++ b) i d ≡ get_or a i d = get_or_append_left a b d i (omega (arith, lt, within)) in
    let y : get_or (a ++ b) j d ≡ get_or a j d = get_or_append_left a b d j within in
    subst (λ (q : Record). record_cmp (get_or a i d) q ≡ Less) y (subst (λ (r : Record). record_cmp r
    (get_or (a ++ b) j d) ≡ Less) x (h i j d lt (omega (arith, within, length-append a b))))

module _ (check : NameCheck) (kind : Kind) where
  pub fit_none : AreFit check kind []
  fit_none = record {
    each = All-nil (IsTreeRecord check kind);
    apart =
        record { below = λ s t a b h. absurd (omega (arith, a.1)); inside = λ s t a b h. absurd (omega (arith, a.1)) };
  }

  pub fit_front : (a b : List Record) → AreFit check kind (a ++ b) → AreFit check kind a
  fit_front a b h = record {
    each = λ k d within. subst (IsTreeRecord check kind) (get_or_append_left a b d k within)
        (h.each k d (omega (arith, within, length-append a b)));
    apart = record {
      below = λ s t c d. h.apart.below s t (front s c) (front t d);
      inside = λ s t c d. h.apart.inside s t (front s c) (front t d);
    };
  }
    where
      front : (s : Staged) → Contains (staged_in a) s → Contains (staged_in (a ++ b)) s
      front s c = subst (λ (l : List Staged). Contains l s) (sym (filter_map-append staged_entry a b))
          (Contains-append_left (staged_in a) (staged_in b) s c)

  -- ---- a record is valid by itself, or has an error at every index

  abbrev HasFaultAnywhere : Record → Type 0
  HasFaultAnywhere r = (f : Refusal) × ((before : List Staged) → RecordHasFault check kind before r f)

  module _ (r : Record) (len : length (id_bytes r.id) ≡ id_len (id_kind r.id)) where
    object_judged : (k : EntryKind) → IsMergedRecord r → HasPath check r k → (id_kind r.id ≡ kind)
        ⊎ (id_kind r.id ≡ kind → ⊥) → (b : Bool) → is_null (id_bytes r.id) ≡ b
        → IsTreeRecord check kind r ⊎ HasFaultAnywhere r
    object_judged k m p (inr o) b e = inr (OtherKind r.path, λ before. other_kind k m p o)
    object_judged k m p (inl s) true e = inr (NullId r.path, λ before. null_id k m p s (λ z. absurd (cc (e, z))))
    object_judged k m p (inl s) false e = inl (λ d. (m.1, (k, p), (s, len ∙ ap id_len s), e))

    path_judged_of : (k : EntryKind) → IsMergedRecord r → named_kind r.mode ≡ Some k → IsTreePath check 2048 k r.path
        ⊎ ((f : NameFault) × IsMisnamed check 2048 k r.path f) → IsTreeRecord check kind r ⊎ HasFaultAnywhere r
    path_judged_of k m n (inr b) = inr (Path r.path b.0, λ before. misnamed k b.0 m n b.1)
    path_judged_of k m n (inl p) =
        object_judged k m (n, p) (kind_judged (id_kind r.id) kind) (is_null (id_bytes r.id)) refl

    mode_judged : IsMergedRecord r → (o : Option EntryKind) → named_kind r.mode ≡ o
        → IsTreeRecord check kind r ⊎ HasFaultAnywhere r
    mode_judged m None e = inr (Mode r.path r.mode, λ before. other_mode m e)
    mode_judged m (Some k) e = path_judged_of k m e (path_judged check 2048 k r.path)

    stage_judged : is_removed r.flags ≡ false → (stage_number r.flags ≡ 0) ⊎ (stage_number r.flags ≡ 0 → ⊥)
        → IsTreeRecord check kind r ⊎ HasFaultAnywhere r
    stage_judged d (inr o) = inr (Unmerged r.path, λ before. unmerged d o)
    stage_judged d (inl z) = mode_judged (d, z) (named_kind r.mode) refl

    record_judged : (b : Bool) → is_removed r.flags ≡ b → IsTreeRecord check kind r ⊎ HasFaultAnywhere r
    record_judged true e = inl (λ d. absurd (cc (e, d)))
    record_judged false e = stage_judged e (same_or_other (stage_number r.flags) 0)

  -- ---- and after other records

  module _ (before : List Record) (r : Record) (fit : AreFit check kind before) (rising : Rising (before ++ r ∷ []))
      (now : IsTreeRecord check kind r) where
    each : All (IsTreeRecord check kind) (before ++ r ∷ [])
    each = All-push (IsTreeRecord check kind) before r fit.each now

    behind_judged : (b : Bool) → is_removed r.flags ≡ b
        → AreFit check kind (before ++ r ∷ []) ⊎ ((f : Refusal) × RecordHasFault check kind (staged_in before) r f)
    behind_judged true e =
        let same : staged_in (before ++ r ∷ []) ≡ staged_in before =
        staged_more before r None (removed_none r e) ∙ append-nil (staged_in before) in
        inl (record { each = each; apart = subst AreDisjointPaths (sym same) fit.apart })
    behind_judged false e = by (some_judged r.path (staged_in before))
      where
        k : EntryKind
        k = (now e).1.0

        same : staged_in (before ++ r ∷ []) ≡ staged_in before ++ staged_as r k ∷ []
        same = staged_more before r (Some (staged_as r k)) (staged_some r k e (now e).1.1.0)

        rise : (s : Staged) → Contains (staged_in before) s → path_cmp s.path r.path ≡ Less
        rise s c = pairs_last (λ s t. path_cmp s.path t.path ≡ Less) (staged_in before) (staged_as r k) s
            (subst (AllPairs (λ s t. path_cmp s.path t.path ≡ Less)) same
            (staged_rise check kind (before ++ r ∷ []) rising each)) c

        by : IsInOne r.path (staged_in before) ⊎ ((s : Staged) → Contains (staged_in before) s → LiesIn r.path s → ⊥)
            → AreFit check kind (before ++ r ∷ []) ⊎ ((f : Refusal) × RecordHasFault check kind (staged_in before) r f)
        by (inl l) = inr (Both l.0.path r.path, both l.0 e now l.1 l.2)
        by (inr n) = inl (record {
          each = each;
          apart = subst AreDisjointPaths (sym same) (apart_more (staged_in before) (staged_as r k) fit.apart rise n);
        })

  pub next_judged : (before : List Record) (r : Record) → AreFit check kind before → Rising (before ++ r ∷ [])
      → IsSized r
      → AreFit check kind (before ++ r ∷ []) ⊎ ((f : Refusal) × RecordHasFault check kind (staged_in before) r f)
  next_judged before r fit rising sized = by (record_judged r sized.id (is_removed r.flags) refl)
    where
      by : IsTreeRecord check kind r ⊎ HasFaultAnywhere r
          → AreFit check kind (before ++ r ∷ []) ⊎ ((f : Refusal) × RecordHasFault check kind (staged_in before) r f)
      by (inl now) = behind_judged before r fit rising now (is_removed r.flags) refl
      by (inr f) = inr (f.0, f.1 (staged_in before))

  -- ---- one fault

  not_named : (r : Record) (k : EntryKind) → named_kind r.mode ≡ None → named_kind r.mode ≡ Some k → ⊥
  not_named r k a b = absurd (cc (a, b))

  one_kind : (r : Record) (k j : EntryKind) → named_kind r.mode ≡ Some k → named_kind r.mode ≡ Some j → k ≡ j
  one_kind r k j a b = same_Some k j (sym a ∙ b)

  named_not_misnamed : (r : Record) (k j : EntryKind) (f : NameFault) → named_kind r.mode ≡ Some k
      → IsMisnamed check 2048 k r.path f → HasPath check r j → ⊥
  named_not_misnamed r k j f n h p = path_not_misnamed check 2048 k r.path f
      (subst (λ (i : EntryKind). IsTreePath check 2048 i r.path) (sym (one_kind r k j n p.0)) p.1) h

  one_name : (r : Record) (k j : EntryKind) (f g : NameFault) → named_kind r.mode ≡ Some k
      → IsMisnamed check 2048 k r.path f → named_kind r.mode ≡ Some j → IsMisnamed check 2048 j r.path g → f ≡ g
  one_name r k j f g n h m i = misnamed_one check 2048 k r.path f g h
      (subst (λ (l : EntryKind). IsMisnamed check 2048 l r.path g) (sym (one_kind r k j n m)) i)

  -- a record after others has at most one error
  pub fault_one : (before : List Staged) (r : Record) → AreDisjointPaths before → (f g : Refusal)
      → RecordHasFault check kind before r f → RecordHasFault check kind before r g → f ≡ g
  fault_one before r apart f g (unmerged a1 b1) (unmerged a2 b2) = refl
  fault_one before r apart f g (unmerged a1 b1) (other_mode m2 n2) = absurd (b1 m2.1)
  fault_one before r apart f g (unmerged a1 b1) (misnamed k2 x2 m2 n2 h2) = absurd (b1 m2.1)
  fault_one before r apart f g (unmerged a1 b1) (other_kind k2 m2 p2 o2) = absurd (b1 m2.1)
  fault_one before r apart f g (unmerged a1 b1) (null_id k2 m2 p2 s2 o2) = absurd (b1 m2.1)
  fault_one before r apart f g (unmerged a1 b1) (both t2 a2 i2 c2 l2) = absurd (b1 (i2 a2).0)
  fault_one before r apart f g (other_mode m1 n1) (unmerged a2 b2) = absurd (b2 m1.1)
  fault_one before r apart f g (other_mode m1 n1) (other_mode m2 n2) = refl
  fault_one before r apart f g (other_mode m1 n1) (misnamed k2 x2 m2 n2 h2) = absurd (not_named r k2 n1 n2)
  fault_one before r apart f g (other_mode m1 n1) (other_kind k2 m2 p2 o2) = absurd (not_named r k2 n1 p2.0)
  fault_one before r apart f g (other_mode m1 n1) (null_id k2 m2 p2 s2 o2) = absurd (not_named r k2 n1 p2.0)
  fault_one before r apart f g (other_mode m1 n1) (both t2 a2 i2 c2 l2) =
      absurd (not_named r (i2 a2).1.0 n1 (i2 a2).1.1.0)
  fault_one before r apart f g (misnamed k1 x1 m1 n1 h1) (unmerged a2 b2) = absurd (b2 m1.1)
  fault_one before r apart f g (misnamed k1 x1 m1 n1 h1) (other_mode m2 n2) = absurd (not_named r k1 n2 n1)
  fault_one before r apart f g (misnamed k1 x1 m1 n1 h1) (misnamed k2 x2 m2 n2 h2) =
      ap (Path r.path) (one_name r k1 k2 x1 x2 n1 h1 n2 h2)
  fault_one before r apart f g (misnamed k1 x1 m1 n1 h1) (other_kind k2 m2 p2 o2) =
      absurd (named_not_misnamed r k1 k2 x1 n1 h1 p2)
  fault_one before r apart f g (misnamed k1 x1 m1 n1 h1) (null_id k2 m2 p2 s2 o2) =
      absurd (named_not_misnamed r k1 k2 x1 n1 h1 p2)
  fault_one before r apart f g (misnamed k1 x1 m1 n1 h1) (both t2 a2 i2 c2 l2) =
      absurd (named_not_misnamed r k1 (i2 a2).1.0 x1 n1 h1 (i2 a2).1.1)
  fault_one before r apart f g (other_kind k1 m1 p1 o1) (unmerged a2 b2) = absurd (b2 m1.1)
  fault_one before r apart f g (other_kind k1 m1 p1 o1) (other_mode m2 n2) = absurd (not_named r k1 n2 p1.0)
  fault_one before r apart f g (other_kind k1 m1 p1 o1) (misnamed k2 x2 m2 n2 h2) =
      absurd (named_not_misnamed r k2 k1 x2 n2 h2 p1)
  fault_one before r apart f g (other_kind k1 m1 p1 o1) (other_kind k2 m2 p2 o2) = refl
  fault_one before r apart f g (other_kind k1 m1 p1 o1) (null_id k2 m2 p2 s2 o2) = absurd (o1 s2)
  fault_one before r apart f g (other_kind k1 m1 p1 o1) (both t2 a2 i2 c2 l2) = absurd (o1 (i2 a2).2.0)
  fault_one before r apart f g (null_id k1 m1 p1 s1 o1) (unmerged a2 b2) = absurd (b2 m1.1)
  fault_one before r apart f g (null_id k1 m1 p1 s1 o1) (other_mode m2 n2) = absurd (not_named r k1 n2 p1.0)
  fault_one before r apart f g (null_id k1 m1 p1 s1 o1) (misnamed k2 x2 m2 n2 h2) =
      absurd (named_not_misnamed r k2 k1 x2 n2 h2 p1)
  fault_one before r apart f g (null_id k1 m1 p1 s1 o1) (other_kind k2 m2 p2 o2) = absurd (o2 s1)
  fault_one before r apart f g (null_id k1 m1 p1 s1 o1) (null_id k2 m2 p2 s2 o2) = refl
  fault_one before r apart f g (null_id k1 m1 p1 s1 o1) (both t2 a2 i2 c2 l2) = absurd (o1 (i2 a2).3)
  fault_one before r apart f g (both t1 a1 i1 c1 l1) (unmerged a2 b2) = absurd (b2 (i1 a1).0)
  fault_one before r apart f g (both t1 a1 i1 c1 l1) (other_mode m2 n2) =
      absurd (not_named r (i1 a1).1.0 n2 (i1 a1).1.1.0)
  fault_one before r apart f g (both t1 a1 i1 c1 l1) (misnamed k2 x2 m2 n2 h2) =
      absurd (named_not_misnamed r k2 (i1 a1).1.0 x2 n2 h2 (i1 a1).1.1)
  fault_one before r apart f g (both t1 a1 i1 c1 l1) (other_kind k2 m2 p2 o2) = absurd (o2 (i1 a1).2.0)
  fault_one before r apart f g (both t1 a1 i1 c1 l1) (null_id k2 m2 p2 s2 o2) = absurd (o2 (i1 a1).3)
  fault_one before r apart f g (both t1 a1 i1 c1 l1) (both t2 a2 i2 c2 l2) =
      ap (λ (p : List ℕ). Both p r.path) (one_file before apart r.path t1 t2 c1 c2 l1 l2)

  -- a record that is valid after others has no error
  pub fit_no_fault : (before : List Record) (r : Record) (f : Refusal) → AreFit check kind (before ++ r ∷ [])
      → Rising (before ++ r ∷ []) → RecordHasFault check kind (staged_in before) r f → ⊥
  fit_no_fault before r f fit rising h =
      by f (All-contains (IsTreeRecord check kind) (before ++ r ∷ []) r fit.each (Contains-push before r)) h
    where
      lies : IsTreeRecord check kind r → is_removed r.flags ≡ false → (s : Staged) → Contains (staged_in before) s
          → LiesIn r.path s → ⊥
      lies now e s c l = split l
        where
          x : Staged
          x = staged_as r (now e).1.0

          same : staged_in (before ++ r ∷ []) ≡ staged_in before ++ x ∷ []
          same = staged_more before r (Some x) (staged_some r (now e).1.0 e (now e).1.1.0)

          old : Contains (staged_in (before ++ r ∷ [])) s
          old = subst (λ (ss : List Staged). Contains ss s) (sym same)
              (Contains-append_left (staged_in before) (x ∷ []) s c)

          new : Contains (staged_in (before ++ r ∷ [])) x
          new = subst (λ (ss : List Staged). Contains ss x) (sym same) (Contains-push (staged_in before) x)

          rise : path_cmp s.path r.path ≡ Less
          rise = pairs_last (λ s t. path_cmp s.path t.path ≡ Less) (staged_in before) x s
              (subst (AllPairs (λ s t. path_cmp s.path t.path ≡ Less)) same
              (staged_rise check kind (before ++ r ∷ []) rising fit.each)) c

          split : LiesIn r.path s → ⊥
          split (inl b) = fit.apart.below s x old new b
          split (inr i) =
              let e : r.path ≡ s.path = fit.apart.inside s x old new i in
              not_itself s.path (subst (λ (p : List ℕ). path_cmp s.path p ≡ Less) e rise)

      by : (g : Refusal) → IsTreeRecord check kind r → RecordHasFault check kind (staged_in before) r g → ⊥
      by g now (unmerged a b) = b (now a).0
      by g now (other_mode m n) = not_named r (now m.0).1.0 n (now m.0).1.1.0
      by g now (misnamed k e m n i) = named_not_misnamed r k (now m.0).1.0 e n i (now m.0).1.1
      by g now (other_kind k m p o) = o (now m.0).2.0
      by g now (null_id k m p s o) = o (now m.0).3
      by g now (both s a i c l) = lies now a s c l
