-- The law of reading back gives the image one answer, and the law of one answer lets it have no second.
use Rattle.std.proofs.Common.{rules, ◌≡◌, ◌<◌, None, List, ℕ, All, Fits, w8, get_or, sym, subst, ◌∙◌, arith}
use Rattle.std.proofs.lemmas.List.Elements.{All-from_get_or}
use Rattle.gix_index.specs.Answer.{Answer, IsAnswer}
use Rattle.gix_index.specs.DecodeOptions.{Options}
use Rattle.gix_index.specs.EndMarker.{IsMarker}
use Rattle.gix_index.specs.FileTime.{FileTime}
use Rattle.gix_index.specs.Image.{image}
use Rattle.gix_index.specs.Kind.{Kind}
use Rattle.gix_index.specs.Laws.{IsFaithful, TakesAll}
use Rattle.gix_index.specs.State.{contents}
use Rattle.gix_index.specs.Storable.{IsStorable, IsWritable}
use Rattle.examples.specs.Repaired.{ReadsAs}
use Rattle.examples.proofs.repair.repair.Goals as goal
use Rattle.examples.proofs.repair.repair.Goals.{In-None}

are_bytes : (l : List ℕ) → ((i : ℕ) → Fits w8 (get_or l i 0)) → All (λ b. b < 256) l
are_bytes l small = All-from_get_or (λ b. b < 256) l 0 (λ i lt. omega (arith, small i))

only_answer : (kind : Kind) (time : FileTime) (reading : Options) (bytes image : List ℕ) (a b : Answer) → bytes ≡ image
    → ((x y : Answer) → IsAnswer kind time reading bytes x → IsAnswer kind time reading bytes y → x ≡ y)
    → IsAnswer kind time reading bytes a → IsAnswer kind time reading image b → a ≡ b
only_answer kind time reading bytes image a b e one h k =
    one a b h (subst (λ l. IsAnswer kind time reading l b) (sym e) k)

reads : (c : In-None) → ReadsAs (contents c.in-Ok.state) c.args.options c.write_to.new.out.inner.items
reads c = λ time reading a takes is.
    let v = contents c.in-Ok.state in
    let options = c.args.options in
    let bytes : c.write_to.new.out.inner.items ≡ image v options = search rules in
    let kind : c.object_hash-own_kind.result ≡ v.kind = search rules in
    let storable : IsStorable v = search rules in
    let writable : IsWritable v options = search rules in
    let unmarked = subst (λ m. IsMarker c.object_hash-own_kind.result c.deref.result.now m) c.in-None.is c.decode.ensures in
    let marker : IsMarker v.kind (image v options) None =
    subst (λ k. IsMarker k (image v options) None) kind
    (subst (λ l. IsMarker c.object_hash-own_kind.result l None) (c.deref.ensures.value ∙ bytes) unmarked) in
    let faithful : IsFaithful v options = record {
      storable = storable;
      keepable = λ _.
          c.read_extensions_are_keepable.ensures c.args.kind _ c.default-reading.result c.args.bytes.now v
          c.in-Ok.field-0-1 (are_bytes c.args.bytes.now c.type_inv.bytes) c.in-Ok.ensures.answer;
      writable = writable;
      unmistakable = λ _ _. marker;
    } in
    only_answer v.kind time reading c.write_to.new.out.inner.items (image v options) a _ bytes
    (c.one_answer.ensures.one v.kind time reading c.write_to.new.out.inner.items)
    is (c.written_reads_back.ensures v options time reading faithful takes)

pub returns-in-None : goal.returns-in-None
returns-in-None c =
    let takes : TakesAll c.default-reading.result = search rules in
    (contents c.in-Ok.state, c.in-Ok.field-0-1, _, c.default-reading.result, takes, c.in-Ok.ensures.answer, reads c)
