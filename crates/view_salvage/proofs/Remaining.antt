-- What remains of a file, by the end of its parts and the entries before it.
use Rattle.std.proofs.Common.{◌≡◌, ℕ, true, false, List, ◌++◌, Option, sym, ap, subst, ◌∙◌, option_map}
use Rattle.std.specs.Prelude.{IfSome, Ok}
use Rattle.gix_index.specs.DecodeError.{Error}
use Rattle.gix_index.specs.Edits.{empty_contents, with_records}
use Rattle.gix_index.specs.ExtensionValue.{IsValue}
use Rattle.gix_index.specs.FileTime.{FileTime}
use Rattle.gix_index.specs.Header.{count_of, header_of}
use Rattle.gix_index.specs.Kind.{Kind}
use Rattle.gix_index.specs.Link.{IsLink, link_of}
use Rattle.gix_index.specs.Record.{AreBytes, Record}
use Rattle.gix_index.specs.State.{PathsInStorage, contents, records}
use Rattle.gix_index.specs.StateType.{State}
use Rattle.gix_index.specs.Storable.{IsStorable}
use Rattle.view_salvage.specs.Division.{Divides}
use Rattle.view_salvage.specs.DivisionSteps.{EndsDivision}
use Rattle.view_salvage.specs.Remains.{Remain, has_link, last_begin, link_content, part_bytes}
use Rattle.view_salvage.specs.SalvageSteps.{IsIndexOf}
use Rattle.view_layout.specs.declared.part.Part.{Part}
use Rattle.view_salvage.specs.declared.remains.Remains.{Remains}
use Rattle.view_salvage.proofs.ReadFronts.{divided_storable}

pub remain_of : (kind : Kind) (bytes : List ℕ) (rs : List Record) (parts : List Part) (error : Option Error)
    (r : Remains) → EndsDivision kind bytes rs parts error → header_of kind bytes ≡ Ok r.version → records r.front ≡ rs
    → option_map (λ f. f.error) r.fault ≡ error → r.declared ≡ count_of bytes
    → IfSome r.fault (λ f. f.offset ≡ last_begin parts) → r.has_link ≡ has_link parts error
    → IsValue (IsLink kind) (link_content bytes parts) (option_map link_of r.link) → Remain kind bytes r
remain_of kind bytes rs parts error r d header are told declared offset found link =
    let all : List Part = d.front ++ parts in
    record {
      header = header;
      parts = all;
      divides = subst (λ (l : List Record). Divides kind bytes l all (option_map (λ f. f.error) r.fault)) (sym are)
          (subst (λ (e : Option Error). Divides kind bytes rs all e) (sym told) d.divides);
      declared = declared;
      offset = subst (λ (n : ℕ). IfSome r.fault (λ f. f.offset ≡ n)) (sym d.begin) offset;
      has_link = found ∙ sym d.has_link ∙ ap (has_link all) (sym told);
      link = subst (λ (o : Option Part). IsValue (IsLink kind) (option_map (part_bytes bytes) o)
          (option_map link_of r.link)) (sym d.link) link;
    }

-- an index of the entries that were read
pub read_index : (kind : Kind) (bytes : List ℕ) (rs : List Record) (parts : List Part) (error : Option Error)
    (time : FileTime) (s : State) → AreBytes bytes → EndsDivision kind bytes rs parts error
    → contents s ≡ with_records (empty_contents kind time) rs → PathsInStorage s → IsIndexOf kind rs s
read_index kind bytes rs parts error time s small d is placed = record {
  time = time;
  sparse = false;
  fit = true;
  is = is;
  placed = placed;
  storable = subst IsStorable (sym is)
      (divided_storable kind time bytes rs (d.front ++ parts) error small d.divides);
}
