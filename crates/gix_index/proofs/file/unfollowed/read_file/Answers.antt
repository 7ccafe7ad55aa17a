use Rattle.std.proofs.Common.{List, Option, subst, ℕ, ◌∙◌}
use Rattle.file_place.specs.Sizes.{IsOwnFault}
use Rattle.file_place.specs.World.{Stored, whole_of}
use Rattle.file_windows.specs.Answers.{IsAllOf}
use Rattle.gix_index.proofs.Checks.{refused_says, to_file}
use Rattle.std.specs.Path.{path_buf_bytes}
use Rattle.gix_index.proofs.FileFaults.{call_says, fault_of_open, held_by}
use Rattle.gix_index.proofs.file.unfollowed.read_file.Goals as goal

pub returns-in-Ok-Some-clause-read : goal.returns-in-Ok-Some-clause-read
returns-in-Ok-Some-clause-read g c =
    let h = (rw c.in-Ok-Some.field-0-is at c.in-Ok-Some.ensures.read).read in
    let r = c.args.reading in (
      h.0,
      held_by (g.S.Source.stored c.args.file) h.0 h.1,
      record {
        read = rw c.from.ensures (to_file r.skip_hash r.object_hash r.timestamp r.options h.0 _ h.2 h.3);
        ending = h.4;
      },
    )

pub returns-in-Err-clause-fault : goal.returns-in-Err-clause-fault
returns-in-Err-clause-fault g c = call_says (path_buf_bytes c.args.path) c.in-Err.e c.of.result c.of.ensures _ _
    (λ is. fault_of_open (g.S.Source.stored c.args.file) c.in-Err.e (c.in-Err.ensures.fault is)) _ _ _ _

pub returns-in-Err-bytes_of-clause-fault : goal.returns-in-Err-bytes_of-clause-fault
returns-in-Err-bytes_of-clause-fault g c =
    call_says (path_buf_bytes c.args.path) c.in-Err-bytes_of.e c.of-in-Err-bytes_of.result
    c.of-in-Err-bytes_of.ensures _ _
    (λ is. fault_of_open (g.S.Source.stored c.args.file) c.in-Err-bytes_of.e
    (subst (λ (s : Option Stored). IsOwnFault (whole_of s) c.in-Err-bytes_of.e) c.in_windows.ensures.left.stored
    (c.in-Err-bytes_of.ensures.fault (c.in_windows.ensures.left.works ∙ is)))) _ _ _ _

pub returns-in-Ok-Refused-clause-fault : goal.returns-in-Ok-Refused-clause-fault
returns-in-Ok-Refused-clause-fault g c =
    let h = rw c.in-Ok-Refused.field-0-is at c.in-Ok-Refused.ensures.whole in
    let r = c.args.reading in
    let bytes : List ℕ = h.bytes in
    let held : IsAllOf (g.S.Source.stored c.args.file) bytes =
    subst (λ (s : Option Stored). IsAllOf s bytes) c.in_windows.ensures.left.stored h.whole in (
      bytes,
      held_by (g.S.Source.stored c.args.file) bytes held,
      refused_says r.skip_hash r.object_hash r.timestamp r.options bytes h.fault _ h.header h.refusal,
    )
