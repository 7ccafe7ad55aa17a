-- The bytes of a directory are the object of a tree, whose entries are those of its items.
use Rattle.std.proofs.Common.{◌≡◌, ℕ, ◌<◌, ◌^◌, List, [], ◌∷◌, ◌++◌, true, false, length, All, refl, ap, ◌∙◌}
use Rattle.std.proofs.Common.{append_assoc, arith, rules}
use Rattle.std.specs.List.{AllByRecursion}
use Rattle.std.proofs.lemmas.List.Elements.{All-from_recursion}
use Rattle.index_parts.proofs.Digests.{length-digest}
use Rattle.index_parts.specs.Digest.{digest}
use Rattle.index_parts.specs.Id.{id_kind, id_bytes, id_len, make_id}
use Rattle.index_parts.specs.Mode.{mode_of_kind}
use Rattle.index_parts.specs.Octal.{IsOctal, IsOctalDigit}
use Rattle.index_parts.specs.TreeObject.{TreeEntry, IsTreeEntry, IsTreeObject, kind_of_mode}
use Rattle.index_parts.specs.declared.hash.Kind.{Kind}
use Rattle.index_parts.specs.declared.hash.Kind.TheVariants as hashes
use Rattle.index_parts.specs.declared.hash.ObjectId.{ObjectId}
use Rattle.index_parts.specs.declared.hash.ObjectId.TheVariants as ids
use Rattle.index_parts.specs.declared.object.tree.EntryKind.{EntryKind}
use Rattle.index_parts.specs.declared.object.tree.EntryKind.TheVariants as kinds
use Rattle.tree_encode.specs.Directory.{DirectoryItem, DirectoryItems, leaf, directory, no_more, next, IsPathComponent}
use Rattle.tree_encode.specs.Directory.{IsDirectoryItem, AreDirectoryItems}
use Rattle.tree_encode.specs.Directory.{content, directory_bytes, directory_item_bytes}
use Rattle.tree_encode.specs.Objects.{tree_mode_text, tree_entry_bytes, tree_id, tree_message}

-- ---- modes

octal_digits : (text : List ℕ) → AllByRecursion IsOctalDigit text → All IsOctalDigit text
octal_digits text h = All-from_recursion IsOctalDigit text h

text_digits : (k : EntryKind) → AllByRecursion IsOctalDigit (tree_mode_text k)
text_digits kinds.Tree = search rules
text_digits kinds.Blob = search rules
text_digits kinds.BlobExecutable = search rules
text_digits kinds.Link = search rules
text_digits kinds.Commit = search rules

pub mode_is : (k : EntryKind) → IsOctal (tree_mode_text k) (mode_of_kind k)
mode_is kinds.Tree = record {
  some = λ e. absurd cc;
  digits = octal_digits (tree_mode_text kinds.Tree) (text_digits kinds.Tree);
  value = refl;
  fits = omega arith;
}
mode_is kinds.Blob = record {
  some = λ e. absurd cc;
  digits = octal_digits (tree_mode_text kinds.Blob) (text_digits kinds.Blob);
  value = refl;
  fits = omega arith;
}
mode_is kinds.BlobExecutable = record {
  some = λ e. absurd cc;
  digits = octal_digits
      (tree_mode_text kinds.BlobExecutable) (text_digits kinds.BlobExecutable);
  value = refl;
  fits = omega arith;
}
mode_is kinds.Link = record {
  some = λ e. absurd cc;
  digits = octal_digits (tree_mode_text kinds.Link) (text_digits kinds.Link);
  value = refl;
  fits = omega arith;
}
mode_is kinds.Commit = record {
  some = λ e. absurd cc;
  digits = octal_digits (tree_mode_text kinds.Commit) (text_digits kinds.Commit);
  value = refl;
  fits = omega arith;
}

mode_fits : (k : EntryKind) → mode_of_kind k < 2 ^ 16
mode_fits kinds.Tree = omega arith
mode_fits kinds.Blob = omega arith
mode_fits kinds.BlobExecutable = omega arith
mode_fits kinds.Link = omega arith
mode_fits kinds.Commit = omega arith

pub kind_again : (k : EntryKind) → kind_of_mode (mode_of_kind k) ≡ k
kind_again kinds.Tree = refl
kind_again kinds.Blob = refl
kind_again kinds.BlobExecutable = refl
kind_again kinds.Link = refl
kind_again kinds.Commit = refl

-- ---- ids

made_again : (kind : Kind) (id : ObjectId) → id_kind id ≡ kind → id ≡ make_id kind (id_bytes id)
made_again hashes.Sha1 (ids.Sha1 bytes) e = refl
made_again hashes.Sha1 (ids.Sha256 bytes) e = absurd cc
made_again hashes.Sha256 (ids.Sha1 bytes) e = absurd cc
made_again hashes.Sha256 (ids.Sha256 bytes) e = refl

made_kind : (kind : Kind) (bytes : List ℕ) → id_kind (make_id kind bytes) ≡ kind
made_kind hashes.Sha1 bytes = refl
made_kind hashes.Sha256 bytes = refl

made_bytes : (kind : Kind) (bytes : List ℕ) → id_bytes (make_id kind bytes) ≡ bytes
made_bytes hashes.Sha1 bytes = refl
made_bytes hashes.Sha256 bytes = refl

pub tree_id_kind : (kind : Kind) (bytes : List ℕ) → id_kind (tree_id kind bytes) ≡ kind
unfolding tree_id
tree_id_kind kind bytes = made_kind kind (digest kind (tree_message bytes))

pub tree_id_len : (kind : Kind) (bytes : List ℕ) → length (id_bytes (tree_id kind bytes)) ≡ id_len kind
unfolding tree_id
tree_id_len kind bytes =
    ap length (made_bytes kind (digest kind (tree_message bytes))) ∙ length-digest kind (tree_message bytes)

-- ---- entries

entry_is : (kind : Kind) (name : List ℕ) (k : EntryKind) (id : ObjectId) (rest : List ℕ) → IsPathComponent name
    → id_kind id ≡ kind → length (id_bytes id) ≡ id_len kind
    → IsTreeEntry kind (tree_entry_bytes name k id ++ rest)
    (record { mode = mode_of_kind k; name = name; id = id }) rest
entry_is kind name k id rest h of_kind len = record {
  text = tree_mode_text k;
  id = id_bytes id;
  parts = append_assoc (tree_mode_text k) (32 ∷ (name ++ 0 ∷ id_bytes id)) rest
      ∙ ap (λ (l : List ℕ). tree_mode_text k ++ 32 ∷ l) (append_assoc name (0 ∷ id_bytes id) rest);
  is_mode = mode_is k;
  fits = mode_fits k;
  named = h.some;
  apart = h.apart;
  id_size = len;
  is_id = made_again kind id of_kind;
}

-- what an item lists, if it is in a tree
abbrev pub listed_directory : Kind → List ℕ → List ℕ → List TreeEntry
listed_directory kind name [] = []
listed_directory kind name (b ∷ bytes) =
    record { mode = mode_of_kind kinds.Tree; name = name; id = tree_id kind (b ∷ bytes) } ∷ []

abbrev pub listed_item : Kind → DirectoryItem → List TreeEntry
listed_item kind (leaf name k id true) = []
listed_item kind (leaf name k id false) = record { mode = mode_of_kind k; name = name; id = id } ∷ []
listed_item kind (directory name items) = listed_directory kind name (content kind items)

abbrev pub listed : Kind → DirectoryItems → List TreeEntry
listed kind no_more = []
listed kind (next x xs) = listed_item kind x ++ listed kind xs

item_is : (kind : Kind) (x : DirectoryItem) (bytes : List ℕ) (es : List TreeEntry) → IsDirectoryItem kind x
    → IsTreeObject kind bytes es
    → IsTreeObject kind (directory_item_bytes kind x ++ bytes) (listed_item kind x ++ es)
item_is kind (leaf name k id true) bytes es h rest = rest
item_is kind (leaf name k id false) bytes es h rest = (bytes, entry_is kind name k id bytes h.0 h.1 h.2, rest)
item_is kind (directory name items) bytes es h rest = by (content kind items)
  where
    by : (c : List ℕ) → IsTreeObject kind (directory_bytes kind name c ++ bytes) (listed_directory kind name c ++ es)
    by [] = rest
    by (b ∷ c) = (
      bytes,
      entry_is kind name kinds.Tree (tree_id kind (b ∷ c)) bytes h.0 (tree_id_kind kind (b ∷ c))
          (tree_id_len kind (b ∷ c)),
      rest,
    )

pub content_is : (kind : Kind) (items : DirectoryItems) → AreDirectoryItems kind items
    → IsTreeObject kind (content kind items) (listed kind items)
content_is kind no_more h = refl
content_is kind (next x xs) h = item_is kind x (content kind xs) (listed kind xs) h.0 (content_is kind xs h.1)
