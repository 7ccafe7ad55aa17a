use Rattle.std.proofs.Common.{◌<◌, ℕ, List, get_or, Fits, w8, arith, refl}
use Rattle.std.proofs.lemmas.Result.{IfOk-weaker}
use Rattle.std.proofs.lemmas.List.Elements.{All-from_get_or}
use Rattle.entry_list.specs.Record.{AreBytes}
use Rattle.index_decode.proofs.Headed.{all_followed, read_storable, says_answer}
use Rattle.index_decode.proofs.decode.from_bytes.Goals as goal

abbrev AreSmall : List ℕ → Type 0
AreSmall l = (i : ℕ) → Fits w8 (get_or l i 0)

are_bytes : (l : List ℕ) → AreSmall l → AreBytes l
are_bytes l small = All-from_get_or (λ b. b < 256) l 0 (λ i lt. omega (arith, small i))

pub returns-clause-answer : goal.returns-clause-answer
returns-clause-answer c =
    let a = c.args in
    let d = c.in_ok-declared.declared in
    says_answer a.object_hash a.timestamp a.options d.version d.count d.rest.now a.data.now
    c.read_behind_header.result (c.in_ok-declared.ensures.behind a.timestamp) c.read_behind_header.ensures.behind

pub returns-clause-storable : goal.returns-clause-storable
returns-clause-storable c = read_storable c.args.object_hash c.args.timestamp c.args.options c.args.data.now
    c.read_behind_header.result (are_bytes c.args.data.now c.type_inv.data) (returns-clause-answer c)

pub returns-clause-ending : goal.returns-clause-ending
returns-clause-ending c =
    let d = c.in_ok-declared.ensures.declared in
    IfOk-weaker c.read_behind_header.result _ _
    (λ read h. all_followed c.args.object_hash c.args.options c.args.data.now read.ending.now d.0
    c.in_ok-declared.declared _ refl refl d.2 h)
    c.read_behind_header.ensures.ending
