use Rattle.std.proofs.Common.{sym, ap, ◌∙◌, subst}
use Rattle.std.specs.Option.{option_map}
use Rattle.ext_split.specs.Link.{link_of}
use Rattle.gix_index.specs.Linked.{IsUnfollowed}
use Rattle.gix_index.proofs.file.split.take_followed_link.Goals as goal

pub returns-in_default-clause-given : goal.returns-in_default-clause-given
returns-in_default-clause-given c =
    subst IsUnfollowed (sym (sym c.take_link.ensures.given ∙ ap (option_map link_of) c.in_default.is)) tt

pub returns-then-is_null-clause-given : goal.returns-then-is_null-clause-given
returns-then-is_null-clause-given c =
    subst IsUnfollowed (sym (sym c.take_link.ensures.given ∙ ap (option_map link_of) c.in-Some.is))
    (sym c.is_null.ensures ∙ c.if-is_null.true)

pub returns-clause-given : goal.returns-clause-given
returns-clause-given c = record {
  has_link = sym c.take_link.ensures.given ∙ ap (option_map link_of) c.in-Some.is;
  followed = sym c.is_null.ensures ∙ c.if-is_null.false;
}
