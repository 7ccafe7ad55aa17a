-- A complete entry at the front of bytes is the same entry, whatever follows them.
use Rattle.std.proofs.Common.{◌≡◌, ℕ, Bool, true, false, eqb, List, [], ◌∷◌, ◌++◌, length, Option, Some, sym, ap, subst}
use Rattle.std.proofs.Common.{◌∙◌, append_assoc, arith}
use Rattle.std.specs.Prelude.{MatchBool}
use Rattle.std.proofs.lemmas.List.{length-append}
use Rattle.index_parts.specs.Numbers.{IsUpTo}
use Rattle.index_parts.specs.Offset.{StartsWithOffset}
use Rattle.index_parts.specs.declared.hash.Kind.{Kind}
use Rattle.entry_list.specs.declared.Version.{Version}
use Rattle.entry_list.specs.declared.Version.TheVariants.{V2, V3, V4}
use Rattle.entry_list.specs.Entries.{AreEntries}
use Rattle.entry_list.specs.Entry.{head_bytes, length_field, IsPath, IsEntry23, IsEntry4, IsEntry}
use Rattle.entry_list.specs.Record.{Record}

offset_grows : (bytes : List ℕ) (n : ℕ) (rest more : List ℕ) → StartsWithOffset bytes n rest
    → StartsWithOffset (bytes ++ more) n (rest ++ more)
offset_grows bytes n rest more h = record {
  spelling = h.spelling;
  parts = ap (λ (l : List ℕ). l ++ more) h.parts ∙ append_assoc h.spelling rest more;
  is_offset = h.is_offset;
}

up_to_grows : (b : ℕ) (bytes piece rest more : List ℕ) → IsUpTo b bytes piece rest
    → IsUpTo b (bytes ++ more) piece (rest ++ more)
up_to_grows b bytes piece rest more h = record {
  parts = ap (λ (l : List ℕ). l ++ more) h.parts
      ∙ append_assoc piece (b ∷ rest) more;
  apart = h.apart;
  two = omega (arith, h.two, length-append bytes more);
}

path_grows : (field : ℕ) (path after more : List ℕ) → IsPath field path after → IsPath field path (after ++ more)
path_grows field path after more h = by (eqb field 0xfff) h
  where
    by : (t : Bool) → MatchBool t ((rest : List ℕ) × IsUpTo 0 (path ++ after) path rest) (length path ≡ field)
        → MatchBool t ((rest : List ℕ) × IsUpTo 0 (path ++ (after ++ more)) path rest) (length path ≡ field)
    by true k = (
      k.0 ++ more,
      subst (λ (l : List ℕ). IsUpTo 0 l path (k.0 ++ more)) (append_assoc path after more)
          (up_to_grows 0 (path ++ after) path k.0 more k.1),
    )
    by false k = k

entry23_grows : (kind : Kind) (bytes : List ℕ) (r : Record) (rest more : List ℕ) → IsEntry23 kind bytes r rest
    → IsEntry23 kind (bytes ++ more) r (rest ++ more)
entry23_grows kind bytes r rest more h = record {
  head = h.head;
  is_head = h.is_head;
  padding = h.padding;
  parts = ap (λ (l : List ℕ). l ++ more) h.parts ∙ append_assoc (head_bytes h.head) (r.path ++ (h.padding ++ rest)) more
      ∙ ap (λ (l : List ℕ). head_bytes h.head ++ l) (append_assoc r.path (h.padding ++ rest) more
      ∙ ap (λ (l : List ℕ). r.path ++ l) (append_assoc h.padding rest more));
  path = subst (λ (l : List ℕ). IsPath (length_field h.head) r.path l) (append_assoc h.padding rest more)
      (path_grows (length_field h.head) r.path (h.padding ++ rest) more h.path);
  some_padding = h.some_padding;
  small_padding = h.small_padding;
  whole = h.whole;
  is = h.is;
}

entry4_grows : (kind : Kind) (previous : Option (List ℕ)) (bytes : List ℕ) (r : Record) (rest more : List ℕ)
    → IsEntry4 kind previous bytes r rest → IsEntry4 kind previous (bytes ++ more) r (rest ++ more)
entry4_grows kind previous bytes r rest more h = record {
  head = h.head;
  is_head = h.is_head;
  after = h.after ++ more;
  parts = ap (λ (l : List ℕ). l ++ more) h.parts ∙ append_assoc (head_bytes h.head) h.after more;
  stripped = h.stripped;
  delta = h.delta ++ more;
  is_offset = offset_grows h.after h.stripped h.delta more h.is_offset;
  tail = h.tail;
  is_tail = up_to_grows 0 h.delta h.tail rest more h.is_tail;
  can_strip = h.can_strip;
  is = h.is;
}

pub entry_grows : (version : Version) (kind : Kind) (previous : Option (List ℕ)) (bytes : List ℕ) (r : Record)
    (rest more : List ℕ) → IsEntry version kind previous bytes r rest
    → IsEntry version kind previous (bytes ++ more) r (rest ++ more)
entry_grows V2 kind previous bytes r rest more h = entry23_grows kind bytes r rest more h
entry_grows V3 kind previous bytes r rest more h = entry23_grows kind bytes r rest more h
entry_grows V4 kind previous bytes r rest more h = entry4_grows kind previous bytes r rest more h

-- entries stay the same if bytes are appended
pub entries_grow : (version : Version) (kind : Kind) (previous : Option (List ℕ)) (bytes : List ℕ) (rs : List Record)
    (rest more : List ℕ) → AreEntries version kind previous bytes rs rest
    → AreEntries version kind previous (bytes ++ more) rs (rest ++ more)
entries_grow version kind previous bytes [] rest more h = ap (λ (l : List ℕ). l ++ more) h
entries_grow version kind previous bytes (r ∷ rs) rest more h = (
  h.0 ++ more,
  entry_grows version kind previous bytes r h.0 more h.1,
  entries_grow version kind (Some r.path) h.0 rs rest more h.2,
)

-- ---- the rest of bytes is their end

entry23_end : (kind : Kind) (bytes : List ℕ) (r : Record) (rest : List ℕ) → IsEntry23 kind bytes r rest
    → (taken : List ℕ) × (bytes ≡ taken ++ rest)
entry23_end kind bytes r rest h = (
  head_bytes h.head ++ (r.path ++ h.padding),
  h.parts ∙ sym (append_assoc (head_bytes h.head)
      (r.path ++ h.padding) rest ∙ ap (λ (l : List ℕ). head_bytes h.head ++ l) (append_assoc r.path h.padding rest)),
)

entry4_end : (kind : Kind) (previous : Option (List ℕ)) (bytes : List ℕ) (r : Record) (rest : List ℕ)
    → IsEntry4 kind previous bytes r rest → (taken : List ℕ) × (bytes ≡ taken ++ rest)
entry4_end kind previous bytes r rest h =
    let spelling = h.is_offset.spelling in
    let behind : h.after ≡ (spelling ++ (h.tail ++ 0 ∷ [])) ++ rest = h.is_offset.parts
    ∙ ap (λ (l : List ℕ). spelling ++ l) (h.is_tail.parts ∙ sym (append_assoc h.tail (0 ∷ []) rest))
    ∙ sym (append_assoc spelling (h.tail ++ 0 ∷ []) rest) in (
      head_bytes h.head ++ (spelling ++ (h.tail ++ 0 ∷ [])),
      h.parts ∙ ap (λ (l : List ℕ). head_bytes h.head ++ l) behind
          ∙ sym (append_assoc (head_bytes h.head) (spelling ++ (h.tail ++ 0 ∷ [])) rest),
    )

pub entry_end : (version : Version) (kind : Kind) (previous : Option (List ℕ)) (bytes : List ℕ) (r : Record)
    (rest : List ℕ) → IsEntry version kind previous bytes r rest → (taken : List ℕ) × (bytes ≡ taken ++ rest)
entry_end V2 kind previous bytes r rest h = entry23_end kind bytes r rest h
entry_end V3 kind previous bytes r rest h = entry23_end kind bytes r rest h
entry_end V4 kind previous bytes r rest h = entry4_end kind previous bytes r rest h

pub end_before : (bytes taken middle rest : List ℕ) → bytes ≡ taken ++ middle
    → ((more : List ℕ) × (middle ≡ more ++ rest)) → (all : List ℕ) × (bytes ≡ all ++ rest)
end_before bytes taken middle rest e m =
    (taken ++ m.0, e ∙ ap (λ (l : List ℕ). taken ++ l) m.1 ∙ sym (append_assoc taken m.0 rest))
