-- A number or an id that is read is at the start, and one at the start is read.
use Rattle.std.proofs.Common.{◌≡◌, ℕ, List, ◌++◌, length, Option, Some, refl, sym, ap, subst, ◌∙◌}
use Rattle.std.proofs.lemmas.Option.{same_Some}
use Rattle.index_parts.specs.declared.hash.Kind.{Kind}
use Rattle.index_parts.specs.declared.hash.ObjectId.{ObjectId}
use Rattle.index_parts.specs.Numbers.{be, StartsWithNumber}
use Rattle.index_parts.specs.Id.{id_len, make_id}
use Rattle.index_parts.specs.ReadingSteps.{◌>>=◌, piece_at, number_at, object_id_at}
use Rattle.index_parts.proofs.Splits.{piece_takes, piece_again}
use Rattle.index_parts.proofs.Steps.{bind_some}

pub number_takes : (size : ℕ) (bytes : List ℕ) (x : ℕ × List ℕ) → number_at size bytes ≡ Some x
    → StartsWithNumber size bytes x.0 x.1
number_takes size bytes x e =
    let p = bind_some (piece_at size bytes) (λ (piece : List ℕ × List ℕ). Some (be piece.0, piece.1)) x e in
    let t = piece_takes size bytes p.0 p.1 in
    let same : ◌≡◌ {A = ℕ × List ℕ} (be p.0.0, p.0.1) x = same_Some _ _ p.2 in
    subst (λ (y : ℕ × List ℕ). StartsWithNumber size bytes y.0 y.1) same
    (record { spelling = p.0.0; parts = t.0; size = t.1; value = refl })

pub number_again : (size : ℕ) (bytes : List ℕ) (n : ℕ) (rest : List ℕ) → StartsWithNumber size bytes n rest
    → number_at size bytes ≡ Some (n, rest)
number_again size bytes n rest s =
    ap (number_at size) s.parts ∙ ap (λ (o : Option (List ℕ × List ℕ)). o >>= λ piece. Some (be piece.0, piece.1))
    (piece_again size s.spelling rest s.size) ∙ ap (λ (m : ℕ). Some (m, rest)) (sym s.value)

-- bytes are an id of a kind, and the rest
pub record StartsWithId (kind : Kind) (bytes : List ℕ) (id : ObjectId) (rest : List ℕ) : Type 0 where
  pub spelling : List ℕ
  pub parts : bytes ≡ spelling ++ rest
  pub size : length spelling ≡ id_len kind
  pub value : id ≡ make_id kind spelling

pub id_takes : (kind : Kind) (bytes : List ℕ) (x : ObjectId × List ℕ) → object_id_at kind bytes ≡ Some x
    → StartsWithId kind bytes x.0 x.1
id_takes kind bytes x e =
    let p = bind_some (piece_at (id_len kind) bytes)
    (λ (piece : List ℕ × List ℕ). Some (make_id kind piece.0, piece.1)) x e in
    let t = piece_takes (id_len kind) bytes p.0 p.1 in
    let same : ◌≡◌ {A = ObjectId × List ℕ} (make_id kind p.0.0, p.0.1) x = same_Some _ _ p.2 in
    subst (λ (y : ObjectId × List ℕ). StartsWithId kind bytes y.0 y.1) same
    (record { spelling = p.0.0; parts = t.0; size = t.1; value = refl })

pub id_again : (kind : Kind) (id rest : List ℕ) → length id ≡ id_len kind
    → object_id_at kind (id ++ rest) ≡ Some (make_id kind id, rest)
id_again kind id rest size = ap (λ (o : Option (List ℕ × List ℕ)). o >>= λ piece. Some (make_id kind piece.0, piece.1))
    (piece_again (id_len kind) id rest size)
