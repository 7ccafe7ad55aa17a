-- What is printed of the parts of a file's bytes, with or without an error, and how a command ends that has printed it.
use Rattle.std.proofs.Common.{◌≡◌, ℕ, List, Option, Some, None, Result, Ok, Err, inl, inr, refl, subst}
use Rattle.std.specs.Io.KnownBytes.{Appends}
use Rattle.gix_index.specs.DecodeError.{Error}
use Rattle.gix_index.specs.Disk.World.{Known}
use Rattle.gix_index.specs.Hashing.Out.{Ghosts}
use Rattle.gix_index.specs.Kind.{Kind}
use Rattle.gix_index.specs.Record.{Record}
use Rattle.tool_errors.specs.Nuls.{AreShown}
use Rattle.tool_errors.specs.Outputs.{AnyText, EndsOutput, whole}
use Rattle.tool_errors.specs.declared.failure.Failure.{Failure}
use Rattle.view_salvage.specs.Division.{Divides}
use Rattle.view_salvage.specs.Remains.{last_begin}
use Rattle.view_salvage.specs.declared.division.Division.{Division}
use Rattle.view_layout.specs.Lines.{map_lines}
use Rattle.view_layout.specs.declared.part.Part.{Part}
use Rattle.base_text.specs.declared.lines.Lines.{Lines}
use Rattle.tool_inspect.specs.Dividing.{EndsAsDivided, IsDivisionOfFile}
use Rattle.tool_inspect.specs.Mapping.{IsDamagedMap, IsMap, IsOfDamaged, IsOfParts}

abbrev pub parts_with : (text : List Record → List Part → List ℕ) (known : Known) (kind : Kind) (d : Division)
    → IsDivisionOfFile known kind d → (fault : Option Error) → d.fault ≡ fault
    → IsOfParts text fault known kind (text d.entries.records d.parts.items)
parts_with text known kind d h fault is = record {
  bytes = h.bytes;
  held = h.held;
  records = d.entries.records;
  parts = d.parts.items;
  divided = subst (λ (f : Option Error). Divides kind h.bytes d.entries.records d.parts.items f) is h.divides;
  is = refl;
}

abbrev pub parts_of : (text : List Record → List Part → List ℕ) (known : Known) (kind : Kind) (d : Division)
    → IsDivisionOfFile known kind d → IsOfParts text d.fault known kind (text d.entries.records d.parts.items)
parts_of text known kind d h = parts_with text known kind d h d.fault refl

-- what is printed as a map is any text, if the style shows the paths
pub any_map : (style : Lines) (fault : Option Error) (known : Known) (kind : Kind) (told : List ℕ)
    → IsMap style fault known kind told → AnyText (IsMap style None known kind) (IsDamagedMap style known kind) told
any_map style None known kind told is = inl is
any_map style (Some e) known kind told is = inr (last_begin is.0.parts, e, ((is.0, refl), is.1))

pub any_parts : (text : List Record → List Part → List ℕ) (fault : Option Error) (known : Known) (kind : Kind)
    (told : List ℕ) → IsOfParts text fault known kind told
    → AnyText (IsOfParts text None known kind) (IsOfDamaged text known kind) told
any_parts text None known kind told is = inl is
any_parts text (Some e) known kind told is = inr (last_begin is.parts, e, (is, refl))

-- ---- how a command ends that has printed everything

module _ {T : Type 0} (writer : Ghosts T) (old new : T) (Fault : Failure → Type 0) (path : List ℕ) (known : Known)
    (kind : Kind) (d : Division) (divided : IsDivisionOfFile known kind d) (answer : Result (Unit {0}) Failure)
    (ends : EndsAsDivided path d answer) where
  told_by : (Text : List ℕ → Type 0) (Damaged : ℕ → Error → List ℕ → Type 0) (text : List ℕ)
      → Appends (writer.taken old) (writer.taken new) text → (d.fault ≡ None → Text text)
      → ((e : Error) → d.fault ≡ Some e → Damaged (last_begin d.parts.items) e text) → (r : Result (Unit {0}) Failure)
      → EndsAsDivided path d r → EndsOutput writer old new Text Damaged Fault path r
  told_by Text Damaged text grew sound damaged (Ok x) h = record {
    told = record { text = text; is = sound h.whole; grew = grew };
    refused = tt;
  }
  told_by Text Damaged text grew sound damaged (Err f) h =
      let b = h.damaged in
      record {
        told = tt;
        refused = whole b.file (last_begin d.parts.items) b.fault b.is b.names (record {
          text = text;
          is = damaged b.fault b.first;
          grew = grew;
        });
      }

  pub parts_told : (text : List Record → List Part → List ℕ)
      → Appends (writer.taken old) (writer.taken new) (text d.entries.records d.parts.items)
      → EndsOutput writer old new (IsOfParts text None known kind) (IsOfDamaged text known kind) Fault path answer
  parts_told text grew =
      let told : List ℕ = text d.entries.records d.parts.items in
      told_by (IsOfParts text None known kind) (IsOfDamaged text known kind) told grew
      (λ none. parts_with text known kind d divided None none)
      (λ e some. (parts_with text known kind d divided (Some e) some, refl)) answer ends

  pub map_told : (style : Lines) → AreShown style d.entries.records
      → Appends (writer.taken old) (writer.taken new) (map_lines style d.entries.records d.parts.items)
      → EndsOutput writer old new (IsMap style None known kind) (IsDamagedMap style known kind) Fault path answer
  map_told style shown grew =
      let told : List ℕ = map_lines style d.entries.records d.parts.items in
      told_by (IsMap style None known kind) (IsDamagedMap style known kind) told grew
      (λ none. (parts_with (map_lines style) known kind d divided None none, shown))
      (λ e some. ((parts_with (map_lines style) known kind d divided (Some e) some, refl), shown)) answer ends
