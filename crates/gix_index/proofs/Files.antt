-- A trailer after the bytes that were written.
use Rattle.std.proofs.Common.{◌≡◌, ℕ, Bool, true, false, cond, List, ◌++◌, Option, subst}
use Rattle.std.specs.Io.KnownBytes.{Appends}
use Rattle.index_parts.specs.Digest.{digest}
use Rattle.index_parts.specs.Id.{make_id}
use Rattle.index_parts.specs.declared.hash.Kind.{Kind}
use Rattle.index_parts.specs.Taking.{AppendsPrefix}
use Rattle.index_parts.specs.declared.hash.ObjectId.{ObjectId}
use Rattle.index_parts.proofs.Taking.{prefix_before, prefix_after}
use Rattle.index_model.specs.declared.write.Error.{Error}
use Rattle.index_model.specs.declared.write.Error.TheVariants as errors
use Rattle.index_model.specs.declared.write.Options.{Options}
use Rattle.index_model.specs.Image.{body, trailer}
use Rattle.index_model.specs.Contents.{Contents}
use Rattle.index_model.specs.Writing.{Fails}

-- a fault before the rest
pub fails_more : {S : Type 0} (taken : S → Option (List ℕ)) (failed : S → Bool) (a b : S) (e : Error) (xs ys : List ℕ)
    → Fails taken failed a b e xs → Fails taken failed a b e (xs ++ ys)
fails_more taken failed a b (errors.Io e) xs ys p = (prefix_before p.0 ys, p.1)
fails_more taken failed a b errors.TooManyEntries xs ys p = p
fails_more taken failed a b errors.NulInPath xs ys p = p
fails_more taken failed a b errors.TooLarge xs ys p = p

pub front_then : {S : Type 0} (taken : S → Option (List ℕ)) (a b c : S) (xs ys zs : List ℕ) → zs ≡ ys
    → Appends (taken a) (taken b) xs → AppendsPrefix (taken b) (taken c) zs
    → AppendsPrefix (taken a) (taken c) (xs ++ ys)
front_then taken a b c xs ys zs e p q =
    prefix_after (taken a) (taken b) (taken c) xs ys p (subst (λ (l : List ℕ). AppendsPrefix (taken b) (taken c) l) e q)

-- ---- the id after a body, by the option

hashed_by : (kind : Kind) (t : Bool) (zeros bytes : List ℕ) (id : ObjectId) → t ≡ false → id ≡ make_id kind bytes
    → id ≡ make_id kind (cond t zeros bytes)
hashed_by kind true zeros bytes id e h = absurd cc
hashed_by kind false zeros bytes id e h = h

pub hashed_id : (v : Contents) (options : Options) (id : ObjectId) → options.skip_hash ≡ false
    → id ≡ make_id v.kind (digest v.kind (body v options)) → id ≡ make_id v.kind (trailer v options)
hashed_id v options id e h = hashed_by v.kind options.skip_hash _ (digest v.kind (body v options)) id e h
