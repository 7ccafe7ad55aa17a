-- A value that was read is storable.
use Rattle.std.proofs.Common.{◌≡◌, ℕ, ◌<◌, ◌≤◌, Bool, true, false, ltb, List, [], ◌∷◌, length, drop, Option, Some, None}
use Rattle.std.proofs.Common.{◌++◌, Result, Ok, Err, All, refl, sym, ap, subst, inl, inr}
use Rattle.std.specs.Prelude.{◌≢◌, ◌||◌, MatchBool, MatchResult, codes, IfOk, IfSome}
use Rattle.std.specs.List.{AllByRecursion}
use Rattle.std.proofs.lemmas.List.Elements.{All-nil, All-cons, All-drop, All-from_recursion}
use Rattle.index_parts.specs.Id.{id_kind}
use Rattle.index_parts.specs.declared.hash.Kind.{Kind}
use Rattle.index_parts.specs.declared.hash.ObjectId.{ObjectId}
use Rattle.entry_fields.specs.declared.entry.stat.FileTime.{FileTime}
use Rattle.index_extensions.specs.ExtensionValue.{last_content, IsValue}
use Rattle.ext_tree.specs.StoredTree.{stored_node, IsStorableTree}
use Rattle.ext_tree.specs.Tree.{Node, IsTree}
use Rattle.index_extensions.specs.Walk.{IsWalk, Item}
use Rattle.ext_tree.proofs.KeptTrees.{read_stays, read_storable}
use Rattle.entry_list.specs.declared.Version.{Version}
use Rattle.entry_list.specs.Entries.{AreEntries}
use Rattle.entry_list.specs.Header.{HeaderFault, Corrupt, header_of, count_of}
use Rattle.entry_list.specs.Limits.{most_entries, is_too_large}
use Rattle.entry_list.specs.Record.{Record, AreBytes, IsSized, has_directory}
use Rattle.entry_list.proofs.ReadRecords.{IsKept, AreKept, all_read}
use Rattle.index_model.specs.declared.Parts.{Parts}
use Rattle.index_model.specs.declared.error.Error.{Error}
use Rattle.index_model.specs.declared.decode.Options.{Options}
use Rattle.index_model.specs.Answer.{Header, OutOfMemory, Answer, trailer_checksum, IsVerified, answer_contents}
use Rattle.index_model.specs.Answer.{IsClosed}
use Rattle.index_model.specs.Answer.{faulty, left, whole, IsEnding, short, walked, IsBehindHeader, lacks, has}
use Rattle.index_model.specs.Answer.{IsAnswer}
use Rattle.index_model.specs.DecodeErrors.{ResultIs}
use Rattle.index_model.specs.Outcome.{Outcome, IsOutcome}
use Rattle.index_model.specs.Contents.{Contents, parts_contents}
use Rattle.index_model.specs.Keepable.{AreKeepable}
use Rattle.index_model.specs.Storable.{IsStorable}
use Rattle.index_model.proofs.BytesBehind.{before_trailer, behind_entries}
use Rattle.index_model.proofs.KeepableExtensions.{keepable}

-- ---- the value of an answer

pub record HasValue (kind : Kind) (time : FileTime) (options : Options) (bytes : List ℕ) (v : Contents) : Type 0 where
  pub version : Version
  pub records : List Record
  pub rest : List ℕ
  pub read : AreEntries version kind None (drop 12 bytes) records rest
  pub counted : length records ≡ count_of bytes
  pub extensions : List ℕ
  pub are_bytes : AreBytes bytes → AreBytes extensions
  pub items : List Item
  pub tail : List ℕ
  pub is_walk : IsWalk extensions items tail
  pub outcome : Outcome
  pub is_outcome : IsOutcome kind options.alloc_limit_bytes items outcome
  pub is : v ≡ answer_contents kind time version records outcome

pub same_value : (v w : Contents) (c d : Option ObjectId) → ◌≡◌ {A = Answer} (Ok (v, c)) (Ok (w, d)) → v ≡ w
same_value v w c d e =
    let pair : ◌≡◌ {A = Contents × Option ObjectId} (v, c) (w, d) = cc in
    ap (λ (p : Contents × Option ObjectId). p.0) pair

verified_value : (expected actual : Option ObjectId) (v w : Contents) (c d : Option ObjectId)
    → IsVerified expected actual (Ok (w, d)) (Ok (v, c)) → v ≡ w
verified_value None actual v w c d h = same_value v w c d h
verified_value (Some x) None v w c d h = same_value v w c d h
verified_value (Some x) (Some y) v w c d (inl h) = same_value v w c d h.1
verified_value (Some x) (Some y) v w c d (inr h) = let e = h.1 in absurd cc

module _ (kind : Kind) (time : FileTime) (options : Options) (bytes : List ℕ) (v : Contents) (c : Option ObjectId) where
  of_closed : (version : Version) (rs : List Record) (rest : List ℕ) (items : List Item)
      (extensions tail trailer : List ℕ) → AreEntries version kind None (drop 12 bytes) rs rest
      → length rs ≡ count_of bytes → rest ≡ extensions ++ trailer → IsWalk extensions items tail
      → IsClosed kind time options version rs items tail trailer (Ok (v, c)) → HasValue kind time options bytes v
  of_closed version rs rest items extensions tail trailer read n parts walk (faulty f h e) = absurd cc
  of_closed version rs rest items extensions tail trailer read n parts walk (left s z e) = absurd cc
  of_closed version rs rest items extensions tail trailer read n parts walk (whole o s z out verified) = record {
    version = version;
    records = rs;
    rest = rest;
    read = read;
    counted = n;
    extensions = extensions;
    are_bytes = λ b. before_trailer rest extensions trailer parts (behind_entries version kind None (drop 12 bytes) rs rest
        read (All-drop (λ x. x < 256) 12 bytes b));
    items = items;
    tail = tail;
    is_walk = walk;
    outcome = o;
    is_outcome = out;
    is = verified_value options.expected_checksum (trailer_checksum kind trailer) v _ c _ verified;
  }

  of_ending : (version : Version) (rs : List Record) (rest : List ℕ)
      → AreEntries version kind None (drop 12 bytes) rs rest → length rs ≡ count_of bytes
      → IsEnding kind time options version rs rest (Ok (v, c)) → HasValue kind time options bytes v
  of_ending version rs rest read n (short lt e) = absurd cc
  of_ending version rs rest read n (walked xs trailer items tail parts len walk closed) =
      of_closed version rs rest items xs tail trailer read n parts walk closed

  of_body : (version : Version) → IsBehindHeader kind time options version (count_of bytes) (drop 12 bytes) (Ok (v, c))
      → HasValue kind time options bytes v
  of_body version (lacks i lt h e) = absurd cc
  of_body version (has rs rest read n ending) = of_ending version rs rest read n ending

  of_tests : (version : Version) (s t : Bool) → MatchBool s (◌≡◌ {A = Answer} (Ok (v, c))
      (Err (Header (Corrupt (codes "Declared entry count exceeds possible entries for file size")))))
      (MatchBool t (◌≡◌ {A = Answer} (Ok (v, c)) (Err OutOfMemory))
      (IsBehindHeader kind time options version (count_of bytes) (drop 12 bytes) (Ok (v, c))))
      → HasValue kind time options bytes v
  of_tests version true t h = absurd cc
  of_tests version false true h = absurd cc
  of_tests version false false h = of_body version h

  of_header : (r : Result Version HeaderFault) (P : Version → Type 0)
      → ((version : Version) → P version → HasValue kind time options bytes v)
      → MatchResult r P (λ fault. ◌≡◌ {A = Answer} (Ok (v, c)) (Err (Header fault)))
      → HasValue kind time options bytes v
  of_header (Ok version) P each h = each version h
  of_header (Err fault) P each h = absurd cc

  pub value_is : IsAnswer kind time options bytes (Ok (v, c)) → HasValue kind time options bytes v
  value_is h = of_header (header_of kind bytes) _
      (λ version k. of_tests version (ltb (most_entries (length bytes) k.0 kind version) (count_of bytes))
      (is_too_large options.alloc_limit_bytes (count_of bytes) (length bytes) k.0 kind version) k.2) h

each_of : {A : Type 0} (P Q : A → Type 0) → ((x : A) → P x → Q x) → (xs : List A) → AllByRecursion P xs → All Q xs
each_of P Q f [] h = All-nil Q
each_of P Q f (x ∷ xs) h = All-cons Q x xs (f x h.0) (each_of P Q f xs h.1)

tree_value : (kind : Kind) (limit : Option ℕ) (P : Node → Type 0)
    → ((bytes : List ℕ) (t : Node) → IsTree kind limit bytes t → P t)
    → (content : Option (List ℕ)) (value : Option Node) → IsValue (IsTree kind limit) content value → IfSome value P
tree_value kind limit P each content None h = tt
tree_value kind limit P each None (Some t) h = absurd cc
tree_value kind limit P each (Some bytes) (Some t) h = each bytes t h

-- The properties of a value that was read. It has this hash algorithm, a file stores all of its records and its tree,
-- and it is storable if the list has only bytes.
pub record IsReadValue (kind : Kind) (bytes : List ℕ) (v : Contents) : Type 0 where
  pub is_kind : v.kind ≡ kind
  pub kept : AreKept kind v.records
  pub tree : IfSome v.extensions.tree (λ t. stored_node kind t ≡ t)
  pub sparse : (v.extensions.sparse || has_directory v.records) ≡ v.extensions.sparse
  pub storable : AreBytes bytes → IsStorable v
  pub keepable : AreBytes bytes → AreKeepable v.kind v.extensions

or_same : (a b : Bool) → ((a || b) || b) ≡ (a || b)
or_same true b = refl
or_same false true = refl
or_same false false = refl

value_read : (kind : Kind) (time : FileTime) (options : Options) (bytes : List ℕ) (v : Contents)
    → HasValue kind time options bytes v → IsReadValue kind bytes v
value_read kind time options bytes v h =
    let limit = options.alloc_limit_bytes in
    let content = last_content (codes "TREE") h.items in
    let rs = all_read h.version kind (drop 12 bytes) h.records h.rest h.read in
    subst (IsReadValue kind bytes) (sym h.is) (record {
      is_kind = refl;
      kept = rs.kept;
      tree = tree_value kind limit (λ t. stored_node kind t ≡ t)
          (λ b t. read_stays kind limit b t) content h.outcome.tree h.is_outcome.tree;
      sparse = or_same h.outcome.sparse (has_directory h.records);
      keepable = λ b.
          let all = keepable kind limit h.extensions h.items h.tail h.outcome (h.are_bytes b) h.is_walk h.is_outcome in
          record { resolve_undo = all.resolve_undo; untracked = all.untracked; fs_monitor = all.fs_monitor };
      storable = λ b. record {
        ids = each_of (IsKept kind) (λ r. id_kind r.id ≡ kind) (λ r k. k.id) h.records rs.kept;
        paths = each_of (IsKept kind) (λ r. 4095 ≤ length r.path → All (λ b. b ≢ 0) r.path)
            (λ r k. k.path) h.records rs.kept;
        fits = All-from_recursion IsSized h.records (rs.fit (All-drop (λ x. x < 256) 12 bytes b));
        tree = tree_value kind limit (IsStorableTree kind)
            (λ b t. read_storable kind limit b t) content h.outcome.tree h.is_outcome.tree;
      };
    })

pub answer_read : (kind : Kind) (time : FileTime) (options : Options) (bytes : List ℕ) (v : Contents)
    (c : Option ObjectId) → IsAnswer kind time options bytes (Ok (v, c)) → IsReadValue kind bytes v
answer_read kind time options bytes v c h =
    value_read kind time options bytes v (value_is kind time options bytes v c h)

-- a state that was read is storable
pub says_storable : (kind : Kind) (time : FileTime) (options : Options) (bytes : List ℕ)
    (r : Result (Parts × Option ObjectId) Error) → AreBytes bytes
    → ResultIs parts_contents r (IsAnswer kind time options bytes) → IfOk r (λ x. IsStorable (parts_contents x.0))
says_storable kind time options bytes (Ok x) b h =
    (answer_read kind time options bytes (parts_contents x.0) x.1 h).storable b
says_storable kind time options bytes (Err e) b h = tt

-- and its extensions can be kept
pub says_keepable : (kind : Kind) (time : FileTime) (options : Options) (bytes : List ℕ)
    (r : Result (Parts × Option ObjectId) Error) → AreBytes bytes
    → ResultIs parts_contents r (IsAnswer kind time options bytes)
    → IfOk r (λ x. AreKeepable (parts_contents x.0).kind (parts_contents x.0).extensions)
says_keepable kind time options bytes (Ok x) b h =
    (answer_read kind time options bytes (parts_contents x.0) x.1 h).keepable b
says_keepable kind time options bytes (Err e) b h = tt
