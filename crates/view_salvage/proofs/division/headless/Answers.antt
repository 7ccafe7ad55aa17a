use Rattle.std.proofs.Common.{◌++◌, Some, List, refl, sym, ap, ◌∙◌}
use Rattle.gix_index.specs.Answer.{Header}
use Rattle.gix_index.specs.Held.{Held}
use Rattle.gix_index.specs.HeaderErrors.{header_fault}
use Rattle.view_salvage.specs.Division.{headless, unread_piece}
use Rattle.view_layout.specs.Piece.{laid}
use Rattle.view_layout.specs.declared.part.Part.{Part}
use Rattle.view_salvage.proofs.division.headless.Goals as goal

pub returns : goal.returns
returns c = λ kind bytes long e. record {
  pieces = unread_piece bytes;
  fault = Some (Header (header_fault c.args.fault));
  is_divided = headless (header_fault c.args.fault) e (ap (λ (h : Held). h.records) c.new-entries.ensures) refl refl;
  are = c.in_ok-push_part.ensures bytes (sym long)
      ∙ ap (λ (l : List Part). l ++ laid 0 (unread_piece bytes)) c.new-parts.ensures.items;
  told = (Header (header_fault c.args.fault), refl, refl);
}
