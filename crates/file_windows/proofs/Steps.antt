-- Steps of reading in windows follow one another.
use Rattle.std.proofs.Common.{◌≡◌, ℕ, ◌+◌, ◌-◌, ◌≤◌, ◌<◌, List, [], ◌++◌, length, take, drop, Bool, true, false}
use Rattle.std.proofs.Common.{Option, None, refl, sym, ap, subst, ◌∙◌, append_assoc, append-nil, arith, get_or, Fits, w8}
use Rattle.std.proofs.KnownBytes.{Consumes-nil, Consumes-trans}
use Rattle.std.proofs.lemmas.List.{length-append, length-drop, drop-append-le, drop-drop, take-append-drop}
use Rattle.std.proofs.lemmas.List.Elements.{All-nil, All-append, All-from_get_or}
use Rattle.std.proofs.Math.Seq.{drop-append_seam}
use Rattle.std.specs.Prelude.{if◌then◌else◌}
use Rattle.std.specs.Io.KnownBytes.{Consumes}
use Rattle.index_parts.specs.Digest.{hasher_kind, Holds}
use Rattle.index_parts.specs.declared.hash.Hasher.{Hasher}
use Rattle.entry_list.specs.Entries.{AreEntries}
use Rattle.entry_list.specs.Record.{Record, AreBytes}
use Rattle.entry_list.proofs.Growing.{entries_grow}
use Rattle.file_windows.specs.Windowed.{Moment, IsMovedOn, IsReadOn, IsPassedOn}
use Rattle.file_windows.specs.declared.plan.Plan.{Plan}

-- bytes in memory are numbers below 256
pub are_bytes : (l : List ℕ) → ((i : ℕ) → Fits w8 (get_or l i 0)) → AreBytes l
are_bytes l small = All-from_get_or (λ b. b < 256) l 0 (λ i lt. omega (arith, small i))

module _ (plan : Plan) where
  abbrev moved_none : (m : Moment) → m.decoded ≤ length m.window → IsMovedOn plan m m 0
  moved_none m inside = record {
    more = [];
    taken = [];
    bytes = append-nil m.window;
    len = refl;
    are_bytes = All-nil (λ b. b < 256);
    consumed = Consumes-nil m.left;
    kind_stays = refl;
    hashed = λ is message k. subst (Holds m.hasher) (sym (append-nil message)) k;
    inside = inside;
  }

  abbrev moved_trans : (a b c : Moment) (n m : ℕ) → IsMovedOn plan a b n → IsMovedOn plan b c m → IsMovedOn plan a c (n + m)
  moved_trans a b c n m p q = record {
    more = p.more ++ q.more;
    taken = p.taken ++ q.taken;
    bytes = sym (append_assoc a.window p.more q.more) ∙ ap (λ (l : List ℕ). l ++ q.more) p.bytes ∙ append_assoc p.taken
        b.window q.more ∙ ap (λ (l : List ℕ). p.taken ++ l) q.bytes ∙ sym (append_assoc p.taken q.taken c.window);
    len = omega (arith, length-append p.more q.more, p.len, q.len);
    are_bytes = All-append (λ b. b < 256) p.taken q.taken p.are_bytes q.are_bytes;
    consumed = Consumes-trans a.left b.left c.left p.more q.more p.consumed q.consumed;
    kind_stays = q.kind_stays ∙ p.kind_stays;
    hashed = λ is message k. subst (Holds c.hasher) (append_assoc message p.taken q.taken)
        (q.hashed is (message ++ p.taken) (p.hashed is message k));
    inside = q.inside;
  }

  pub on_none : (m : Moment) → m.decoded ≤ length m.window → IsReadOn plan m m 0
  on_none m inside = record {
    moved = moved_none m inside;
    read = λ all k. subst (λ (l : List ℕ). AreEntries plan.version plan.kind None l m.records (drop m.decoded m.window))
        (sym (append-nil all)) k;
  }

  pub on_trans : (a b c : Moment) (n m : ℕ) → IsReadOn plan a b n → IsReadOn plan b c m → IsReadOn plan a c (n + m)
  on_trans a b c n m p q = record {
    moved = moved_trans a b c n m p.moved q.moved;
    read = λ all k. subst (λ (l : List ℕ). AreEntries plan.version plan.kind None l c.records (drop c.decoded c.window))
        (append_assoc all p.moved.more q.moved.more) (q.read (all ++ p.moved.more) (p.read all k));
  }

  -- bytes come into the window
  pub on_fill : (left new : Option (List ℕ)) (h : Hasher) (w grown more : List ℕ) (place : ℕ) (rs : List Record)
      → place ≤ length w → grown ≡ w ++ more → Consumes left new more
      → IsReadOn plan (record { left = left; hasher = h; window = w; decoded = place; records = rs })
      (record { left = new; hasher = h; window = grown; decoded = place; records = rs }) (length more)
  on_fill left new h w grown more place rs inside e consumed = record {
    moved = record {
      more = more;
      taken = [];
      bytes = sym e;
      len = refl;
      are_bytes = All-nil (λ b. b < 256);
      consumed = consumed;
      kind_stays = refl;
      hashed = λ is message k. subst (Holds h) (sym (append-nil message)) k;
      inside = omega (arith, ap length e, length-append w more);
    };
    read = λ all k. subst (λ (l : List ℕ). AreEntries plan.version plan.kind None (all ++ more) rs l)
        (sym (ap (drop place) e ∙ drop-append-le place w more inside))
        (entries_grow plan.version plan.kind None all rs (drop place w) more k);
  }

  -- the place at which the end of a list begins
  end_at : (l taken rest : List ℕ) → l ≡ taken ++ rest → drop (length l - length rest) l ≡ rest
  end_at l taken rest e =
      let len : length l - length rest ≡ length taken = omega (arith, ap length e, length-append taken rest) in
      rw len (ap (drop (length taken)) e ∙ drop-append_seam taken rest)

  -- entries are decoded, and a front of what was decoded leaves the window
  pub on_take : (left : Option (List ℕ)) (old new : Hasher) (w rest taken : List ℕ) (place done : ℕ)
      (rs ss : List Record)
      → AreBytes (take done w) → place ≤ length w → drop place w ≡ taken ++ rest → done ≤ length w - length rest
      → hasher_kind new ≡ hasher_kind old
      → (plan.is_hashed ≡ true → (m : List ℕ) → Holds old m → Holds new (m ++ take done w))
      → ((all : List ℕ) → AreEntries plan.version plan.kind None all rs (drop place w)
      → AreEntries plan.version plan.kind None all ss rest)
      → IsReadOn plan (record { left = left; hasher = old; window = w; decoded = place; records = rs }) (record {
        left =
            left;
        hasher = new;
        window = drop done w;
        decoded = length w - length rest - done;
        records = ss;
      }) 0
  on_take left old new w rest taken place done rs ss are_bytes inside e le kind_stays hashed read =
      let whole : w ≡ (take place w ++ taken) ++ rest = sym (take-append-drop place w)
      ∙ ap (λ (l : List ℕ). take place w ++ l) e ∙ sym (append_assoc (take place w) taken rest) in
      let sum : done + (length w - length rest - done) ≡ length w - length rest = omega arith in
      let at : drop (length w - length rest - done) (drop done w) ≡ rest =
      drop-drop (length w - length rest - done) done w ∙ ap (λ (n : ℕ). drop n w) sum
      ∙ end_at w (take place w ++ taken) rest whole in
      record {
        moved = record {
          more = [];
          taken = take done w;
          bytes = append-nil w ∙ sym (take-append-drop done w);
          len = refl;
          are_bytes = are_bytes;
          consumed = Consumes-nil left;
          kind_stays = kind_stays;
          hashed = hashed;
          inside = omega (arith, length-drop done w);
        };
        read = λ all k. subst (λ (l : List ℕ). AreEntries plan.version plan.kind None (all ++ []) ss l) (sym at) (subst
            (λ (l : List ℕ). AreEntries plan.version plan.kind None l ss rest) (sym (append-nil all)) (read all k));
      }

  -- ---- bytes after the entries are passed

  pub pass_none : (m : Moment) → m.decoded ≤ length m.window → IsPassedOn plan m m 0 []
  pass_none m inside = record { moved = moved_none m inside; behind = append-nil (drop m.decoded m.window) }

  pub pass_trans : (a b c : Moment) (n m : ℕ) (xs ys : List ℕ) → IsPassedOn plan a b n xs → IsPassedOn plan b c m ys
      → IsPassedOn plan a c (n + m) (xs ++ ys)
  pass_trans a b c n m xs ys p q = record {
    moved = moved_trans a b c n m p.moved q.moved;
    behind = sym (append_assoc (drop a.decoded a.window) p.moved.more q.moved.more)
        ∙ ap (λ (l : List ℕ). l ++ q.moved.more) p.behind ∙ append_assoc xs (drop b.decoded b.window) q.moved.more
        ∙ ap (λ (l : List ℕ). xs ++ l) q.behind ∙ sym (append_assoc xs ys (drop c.decoded c.window));
  }

  -- so many bytes of the window
  pub pass_piece : (left : Option (List ℕ)) (h : Hasher) (w : List ℕ) (place count : ℕ) (rs : List Record)
      → place + count ≤ length w
      → IsPassedOn plan (record { left = left; hasher = h; window = w; decoded = place; records = rs })
      (record { left = left; hasher = h; window = w; decoded = place + count; records = rs }) 0
      (take count (drop place w))
  pass_piece left h w place count rs within = record {
    moved = record {
      more = [];
      taken = [];
      bytes = append-nil w;
      len = refl;
      are_bytes = All-nil (λ b. b < 256);
      consumed = Consumes-nil left;
      kind_stays = refl;
      hashed = λ is message k. subst (Holds h) (sym (append-nil message)) k;
      inside = within;
    };
    behind =
        append-nil (drop place w) ∙ sym (take-append-drop count (drop place w))
        ∙ ap (λ (l : List ℕ). take count (drop place w) ++ l) (drop-drop count place w);
  }

  -- none: a front leaves the window, and bytes come into it
  pub pass_window : (left new : Option (List ℕ)) (h k : Hasher) (w grown more : List ℕ) (place done : ℕ)
      (rs : List Record) → AreBytes (take done w) → done ≤ place → place ≤ length w → grown ≡ drop done w ++ more
      → Consumes left new more → hasher_kind k ≡ hasher_kind h
      → (plan.is_hashed ≡ true → (m : List ℕ) → Holds h m → Holds k (m ++ take done w))
      → IsPassedOn plan (record { left = left; hasher = h; window = w; decoded = place; records = rs })
      (record { left = new; hasher = k; window = grown; decoded = place - done; records = rs }) (length more) []
  pass_window left new h k w grown more place done rs bytes le inside e consumed kind_stays hashed = record {
    moved = record {
      more = more;
      taken = take done w;
      bytes = ap (λ (l : List ℕ). l ++ more) (sym (take-append-drop done w)) ∙ append_assoc (take done w) (drop done w)
          more ∙ ap (λ (l : List ℕ). take done w ++ l) (sym e);
      len = refl;
      are_bytes = bytes;
      consumed = consumed;
      kind_stays = kind_stays;
      hashed = hashed;
      inside = omega (arith, ap length e, length-append (drop done w) more, length-drop done w);
    };
    behind =
        let sum : done + (place - done) ≡ place = omega arith in
        let rest : drop (place - done) (drop done w) ≡ drop place w =
        drop-drop (place - done) done w ∙ ap (λ (n : ℕ). drop n w) sum in
        let within : place - done ≤ length (drop done w) = omega (arith, length-drop done w) in
        sym (ap (drop (place - done)) e ∙ drop-append-le (place - done) (drop done w) more within
        ∙ ap (λ (l : List ℕ). l ++ more) rest);
  }

  pub pass_on : (a b c : Moment) (n m : ℕ) (xs : List ℕ) → IsPassedOn plan a b n xs → IsPassedOn plan b c m []
      → IsPassedOn plan a c (n + m) xs
  pass_on a b c n m xs p q =
      subst (λ (l : List ℕ). IsPassedOn plan a c (n + m) l) (append-nil xs) (pass_trans a b c n m xs [] p q)

  -- what isn't passed yet, at hand and to come, is fewer by what was
  pub pass_len : (a b : Moment) (n : ℕ) (xs : List ℕ) → IsPassedOn plan a b n xs
      → length a.window - a.decoded + n ≡ length xs + (length b.window - b.decoded)
  pass_len a b n xs p = omega (
    arith,
    ap length p.behind,
    length-append (drop a.decoded a.window) p.moved.more,
    length-append xs (drop b.decoded b.window),
    length-drop a.decoded a.window,
    length-drop b.decoded b.window,
    p.moved.len,
  )

-- bytes that are held, if these are to be
pub held_more : (b : Bool) (held xs ys : List ℕ)
    → (held ++ (if b then xs else [])) ++ (if b then ys else []) ≡ held ++ (if b then xs ++ ys else [])
held_more true held xs ys = append_assoc held xs ys
held_more false held xs ys = append_assoc held [] []

pub held_none : (b : Bool) (held : List ℕ) → held ≡ held ++ (if b then [] else [])
held_none true held = sym (append-nil held)
held_none false held = sym (append-nil held)
