-- What is read as a node's head is spelled so, and what is spelled so is read.
use Rattle.std.proofs.Common.{◌≡◌, ℕ, ◌+◌, ◌*◌, ◌/◌, ◌≤◌, Bool, true, false, cond, ltb, ◌⊎◌, inl, inr, List, [], ◌∷◌}
use Rattle.std.proofs.Common.{◌++◌, length, Option, Some, None, refl, ap, subst, ◌∙◌, arith}
use Rattle.std.specs.Prelude.{MatchOption}
use Rattle.std.proofs.lemmas.Bool.{ltb-false, le-ltb}
use Rattle.std.proofs.lemmas.List.{length-append}
use Rattle.index_parts.proofs.Ids.{id_kind-make_id}
use Rattle.index_parts.proofs.Splits.{piece_takes, piece_again, split_takes, split_again}
use Rattle.index_parts.proofs.Steps.{bind_some, guard_some}
use Rattle.index_parts.specs.Id.{id_len, id_kind, make_id, null_id}
use Rattle.index_parts.specs.ReadingSteps.{piece_at, split_at_byte}
use Rattle.index_parts.specs.declared.hash.Kind.{Kind}
use Rattle.index_parts.specs.declared.hash.Kind.TheVariants.{Sha1, Sha256}
use Rattle.index_parts.specs.declared.hash.ObjectId.{ObjectId}
use Rattle.ext_tree.specs.Decimal.{IsCount, plain, plus, minus, minus_zero}
use Rattle.index_parts.specs.Limit.{is_within}
use Rattle.ext_tree.specs.NodeSteps.{decimal_of, entry_count_of, id_at, limited_id_at, node_head_at}
use Rattle.ext_tree.specs.NodeSteps.{roomy_head_at}
use Rattle.ext_tree.specs.Tree.{NodeHead, IsNodeHead, HasNodeHead}
use Rattle.index_extensions.proofs.Limits.{within_from, within_true}
use Rattle.ext_tree.proofs.Decimals.{decimal_takes, decimal_again, decimal_apart, decimal_some, count_takes}
use Rattle.ext_tree.proofs.Decimals.{count_again, count_apart, count_some}

-- ---- the id

abbrev IsId : Kind → Option ℕ → List ℕ → ObjectId → Type 0
IsId kind count bytes id = MatchOption count ((bytes ≡ []) × (id ≡ null_id kind))
    (λ _. (length bytes ≡ id_len kind) × (id ≡ make_id kind bytes))

id_takes : (kind : Kind) (count : Option ℕ) (bytes : List ℕ) (x : ObjectId × List ℕ) → id_at kind count bytes ≡ Some x
    → (piece : List ℕ) × (bytes ≡ piece ++ x.1) × IsId kind count piece x.0
id_takes kind None bytes x e =
    let is : ◌≡◌ {A = ObjectId × List ℕ} (null_id kind, bytes) x = cc in
    subst (λ (y : ObjectId × List ℕ). (piece : List ℕ) × (bytes ≡ piece ++ y.1) × IsId kind None piece y.0) is
    ([], refl, (refl, refl))
id_takes kind (Some n) bytes x e =
    let p = bind_some (piece_at (id_len kind) bytes) (λ piece. Some (make_id kind piece.0, piece.1)) x e in
    let t = piece_takes (id_len kind) bytes p.0 p.1 in
    let is : ◌≡◌ {A = ObjectId × List ℕ} (make_id kind p.0.0, p.0.1) x = cc (p.2) in
    subst (λ (y : ObjectId × List ℕ). (piece : List ℕ) × (bytes ≡ piece ++ y.1) × IsId kind (Some n) piece y.0) is
    (p.0.0, t.0, (t.1, refl))

id_again : (kind : Kind) (count : Option ℕ) (piece rest : List ℕ) (id : ObjectId) → IsId kind count piece id
    → id_at kind count (piece ++ rest) ≡ Some (id, rest)
id_again kind None piece rest id h = rw (h.0, h.1) refl
id_again kind (Some n) piece rest id h = rw (piece_again (id_len kind) piece rest h.0, h.1) refl

-- ---- the head

guard_true : (b : Bool) (o : Option (ObjectId × List ℕ)) (x : ObjectId × List ℕ) → cond b o None ≡ Some x
    → (b ≡ true) × (o ≡ Some x)
guard_true true o x e = (refl, e)
guard_true false o x e = absurd cc

joined : (bytes name rest1 count rest2 number rest3 id tail : List ℕ) → bytes ≡ name ++ 0 ∷ rest1
    → rest1 ≡ count ++ 32 ∷ rest2 → rest2 ≡ number ++ 10 ∷ rest3 → rest3 ≡ id ++ tail
    → bytes ≡ name ++ 0 ∷ (count ++ 32 ∷ (number ++ 10 ∷ (id ++ tail)))
joined bytes name rest1 count rest2 number rest3 id tail e f g h = rw (e, f, g, h) refl

pub node_head_takes : (kind : Kind) (limit : Option ℕ) (bytes : List ℕ) (x : NodeHead × List ℕ)
    → node_head_at kind limit bytes ≡ Some x → IsNodeHead kind limit bytes x.0 x.1
unfolding node_head_at
node_head_takes kind limit bytes x e =
    let a = bind_some (split_at_byte 0 bytes) _ x e in
    let b = bind_some (split_at_byte 32 a.0.1) _ x a.2 in
    let c = bind_some (entry_count_of b.0.0) _ x b.2 in
    let d = bind_some (split_at_byte 10 b.0.1) _ x c.2 in
    let n = bind_some (decimal_of d.0.0) _ x d.2 in
    let i = bind_some (limited_id_at kind limit n.0 c.0 d.0.1) _ x n.2 in
    let within = guard_true (is_within limit (104 * n.0)) (id_at kind c.0 d.0.1) i.0 i.1 in
    let name = split_takes 0 bytes a.0 a.1 in
    let count = split_takes 32 a.0.1 b.0 b.1 in
    let number = split_takes 10 b.0.1 d.0 d.1 in
    let id = id_takes kind c.0 d.0.1 i.0 within.1 in
    let made : NodeHead × List ℕ = (record { name = a.0.0; count = c.0; id = i.0.0; number = n.0 }, i.0.1) in
    let is : made ≡ x = cc (i.2) in
    subst (λ (y : NodeHead × List ℕ). IsNodeHead kind limit bytes y.0 y.1) is (record {
      count = b.0.0;
      number = d.0.0;
      id = id.0;
      parts = joined bytes a.0.0 a.0.1 b.0.0 b.0.1 d.0.0 d.0.1 id.0 i.0.1 name.parts count.parts number.parts id.1;
      name_apart = name.apart;
      is_count = count_takes b.0.0 c.0 c.1;
      is_number = decimal_takes d.0.0 n.0 n.1;
      within = within_from limit (104 * n.0) within.0;
      is_id = id.2;
    })

pub node_head_again : (kind : Kind) (limit : Option ℕ) (bytes : List ℕ) (h : NodeHead) (tail : List ℕ)
    → IsNodeHead kind limit bytes h tail → node_head_at kind limit bytes ≡ Some (h, tail)
unfolding node_head_at
node_head_again kind limit bytes h tail p =
    let ids : List ℕ = p.id ++ tail in
    let numbers : List ℕ = p.number ++ 10 ∷ ids in
    let counts : List ℕ = p.count ++ 32 ∷ numbers in
    let some : 1 ≤ length p.number = decimal_some p.number h.number p.is_number in
    let l1 : length numbers ≡ length p.number + length (10 ∷ ids) = length-append p.number (10 ∷ ids) in
    let l2 : length counts ≡ length p.count + length (32 ∷ numbers) = length-append p.count (32 ∷ numbers) in
    let l3 : length bytes ≡ length h.name + length (0 ∷ counts) =
    ap length p.parts ∙ length-append h.name (0 ∷ counts) in
    let one = split_again 0 bytes h.name counts (record { parts = p.parts; apart = p.name_apart; two = omega arith }) in
    let two = split_again 32 counts p.count numbers
    (record { parts = refl; apart = count_apart p.count h.count p.is_count; two = omega arith }) in
    let three = split_again 10 numbers p.number ids (record {
      parts = refl;
      apart = decimal_apart 10 p.number h.number (omega arith) p.is_number;
      two = omega arith;
    }) in
    let id = id_again kind h.count p.id tail h.id p.is_id in
    let within : is_within limit (104 * h.number) ≡ true = within_true limit (104 * h.number) p.within in
    rw (
      one,
      two,
      count_again p.count h.count p.is_count,
      three,
      decimal_again p.number h.number p.is_number,
      within,
      id,
    ) refl

-- bytes have one head
pub one_node_head : (kind : Kind) (limit : Option ℕ) (bytes : List ℕ) (h g : NodeHead) (tail end : List ℕ)
    → IsNodeHead kind limit bytes h tail → IsNodeHead kind limit bytes g end → (h ≡ g) × (tail ≡ end)
one_node_head kind limit bytes h g tail end p q =
    let e = node_head_again kind limit bytes h tail p in
    let f = node_head_again kind limit bytes g end q in
    let same : ◌≡◌ {A = NodeHead × List ℕ} (h, tail) (g, end) = cc in
    (ap (λ (x : NodeHead × List ℕ). x.0) same, ap (λ (x : NodeHead × List ℕ). x.1) same)

-- ---- the bytes of a head

count_or_long : (text : List ℕ) (count : Option ℕ) → IsCount text count
    → (2 ≤ length text) ⊎ ((n : ℕ) × (count ≡ Some n))
count_or_long text count (plain n d lt e) = inr (n, e)
count_or_long text count (plus digits n t d lt e) = inr (n, e)
count_or_long text count (minus digits n t d le lt e) = inl (omega (arith, ap length t, decimal_some digits n d))
count_or_long text count (minus_zero digits t d e) = inl (omega (arith, ap length t, decimal_some digits 0 d))

some_id : (kind : Kind) (count : Option ℕ) (n : ℕ) (piece : List ℕ) (id : ObjectId) → count ≡ Some n
    → IsId kind count piece id → 1 ≤ length piece
some_id kind None n piece id e h = absurd cc
some_id Sha1 (Some m) n piece id e h = omega (arith, h.0)
some_id Sha256 (Some m) n piece id e h = omega (arith, h.0)

-- a head has six bytes or more
pub six_or_more : (kind : Kind) (limit : Option ℕ) (bytes : List ℕ) (h : NodeHead) (tail : List ℕ)
    → IsNodeHead kind limit bytes h tail → 6 + length tail ≤ length bytes
six_or_more kind limit bytes h tail p =
    let number : 1 ≤ length p.number = decimal_some p.number h.number p.is_number in
    let count : 1 ≤ length p.count = count_some p.count h.count p.is_count in
    let ids : List ℕ = p.id ++ tail in
    let numbers : List ℕ = p.number ++ 10 ∷ ids in
    let counts : List ℕ = p.count ++ 32 ∷ numbers in
    let l0 : length ids ≡ length p.id + length tail = length-append p.id tail in
    let l1 : length numbers ≡ length p.number + length (10 ∷ ids) = length-append p.number (10 ∷ ids) in
    let l2 : length counts ≡ length p.count + length (32 ∷ numbers) = length-append p.count (32 ∷ numbers) in
    let l3 : length bytes ≡ length h.name + length (0 ∷ counts) =
    ap length p.parts ∙ length-append h.name (0 ∷ counts) in
    elim (count_or_long p.count h.count p.is_count) [
      | inl long ↦ omega arith
      | inr known ↦ let some : 1 ≤ length p.id = some_id kind h.count known.0 p.id h.id known.1 p.is_id in omega arith
    ]

-- ---- a head with room for its children

pub roomy_head_takes : (kind : Kind) (limit : Option ℕ) (bytes : List ℕ) (h : NodeHead) (tail : List ℕ)
    → roomy_head_at kind limit bytes ≡ Some (h, tail)
    → IsNodeHead kind limit bytes h tail × (6 * h.number ≤ length tail)
unfolding roomy_head_at
roomy_head_takes kind limit bytes h tail e =
    let a = bind_some (node_head_at kind limit bytes) _ (h, tail) e in
    let r = guard_some (ltb (length a.0.1 / 6) a.0.0.number) a.0 (h, tail) a.2 in
    let room : 6 * a.0.0.number ≤ length a.0.1 = omega (arith, ltb-false _ _ r.0) in
    subst (λ (y : NodeHead × List ℕ). IsNodeHead kind limit bytes y.0 y.1 × (6 * y.0.number ≤ length y.1)) r.1
    (node_head_takes kind limit bytes a.0 a.1, room)

pub roomy_head_again : (kind : Kind) (limit : Option ℕ) (bytes : List ℕ) (h : NodeHead) (tail : List ℕ)
    → IsNodeHead kind limit bytes h tail → 6 * h.number ≤ length tail → roomy_head_at kind limit bytes ≡ Some (h, tail)
unfolding roomy_head_at
roomy_head_again kind limit bytes h tail p room =
    let few : ltb (length tail / 6) h.number ≡ false = le-ltb _ _ (omega arith) in
    rw (node_head_again kind limit bytes h tail p, few) refl

pub node_head_there : (kind : Kind) (limit : Option ℕ) (bytes : List ℕ) (h : NodeHead) (tail : List ℕ)
    → roomy_head_at kind limit bytes ≡ Some (h, tail) → HasNodeHead kind limit bytes
node_head_there kind limit bytes h tail e =
    let r = roomy_head_takes kind limit bytes h tail e in
    record { head = h; tail = tail; is_head = r.0; room = r.1 }

-- ---- the id's kind

null_kind : (kind : Kind) → id_kind (null_id kind) ≡ kind
null_kind kind = id_kind-make_id kind _

kind_by : (kind : Kind) (count : Option ℕ) (piece : List ℕ) (id : ObjectId) → IsId kind count piece id
    → id_kind id ≡ kind
kind_by kind None piece id h = ap id_kind h.1 ∙ null_kind kind
kind_by kind (Some n) piece id h = ap id_kind h.1 ∙ id_kind-make_id kind piece

pub head_kind : (kind : Kind) (limit : Option ℕ) (bytes : List ℕ) (h : NodeHead) (tail : List ℕ)
    → IsNodeHead kind limit bytes h tail → id_kind h.id ≡ kind
head_kind kind limit bytes h tail p = kind_by kind h.count p.id h.id p.is_id
