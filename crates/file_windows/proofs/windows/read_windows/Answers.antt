use Rattle.std.proofs.Common.{rules, ◌≡◌, ◌≤◌, ◌<◌, ◌+◌, ◌++◌, ℕ, List, [], length, take, drop, true, refl, sym, ap}
use Rattle.std.proofs.Common.{subst, ◌∙◌, append_assoc, arith, length-drop, length-append, length-take}
use Rattle.std.specs.Prelude.{IfSome, Ok}
use Rattle.std.specs.Io.KnownBytes.{Consumes}
use Rattle.std.proofs.KnownBytes.{Consumes-trans}
use Rattle.std.proofs.lemmas.List.{take-append-drop}
use Rattle.std.proofs.lemmas.List.Elements.{All-append}
use Rattle.index_parts.specs.Id.{id_len}
use Rattle.entry_list.specs.Record.{AreBytes}
use Rattle.index_extensions.specs.EndMarker.{IsMarker}
use Rattle.entry_list.specs.Header.{header_of, count_of}
use Rattle.index_model.specs.Answer.{IsEnding}
use Rattle.index_model.specs.Contents.{parts_contents}
use Rattle.index_model.proofs.ReadValues.{says_storable}
use Rattle.file_windows.specs.Abridged.{IsAbridgedOn}
use Rattle.index_decode.specs.Behind.{FollowEntries}
use Rattle.file_windows.specs.Intact.{IsIntact}
use Rattle.file_windows.specs.Marked.{HasPassed}
use Rattle.file_windows.specs.Windowed.{Moment, IsMovedOn, IsReadOn, moment_of}
use Rattle.file_windows.specs.declared.plan.Plan.{Plan}
use Rattle.file_windows.proofs.Abridging.{ending_whole}
use Rattle.file_windows.proofs.Wholes.{answer_of_windows, ending_of_windows, some_then}
use Rattle.file_windows.proofs.Wholes.{behind_passed, bytes_of_passed, whole_of_windows}
use Rattle.file_windows.proofs.windows.read_windows.Goals as goal

pub returns-clause-read : goal.returns-clause-read
returns-clause-read g c =
    let reading = c.args.reading in
    let kind = reading.object_hash in
    let declared = c.in-Ok.declared in
    let plan : Plan = record {
      version = declared.version;
      kind = kind;
      count = declared.count;
      is_hashed = c.args.is_hashed;
      len = c.args.len;
      offset = c.args.offset;
      keeps_ending = c.args.keeps_ending;
    } in
    let first = c.fill.new.bytes.items in
    let w1 = c.read_entries.new.window.items in
    let w2 = c.pass_extensions.new.window.items in
    let tail = c.read_rest.new.window.items in
    let start = c.in-Some.start in
    let at = c.in-Some-2.place.start in
    let records = c.read_entries.new.first.list.records in
    let r = rw c.in-Some.is at c.in_ok-start.ensures.read in
    let whole = rw c.in-Some.is at c.in_ok-start.ensures.whole in
    let s = rw c.in-Some-2.is at c.in_ok-place.ensures.abridged in
    let trailer = rw c.in-Some-2.is at c.in_ok-place.ensures.trailer in
    let all-held : c.in_ok-read_rest.field-0 ≡ true = search rules in
    let t = c.in_ok-read_rest.ensures.rest all-held in
    let a : Moment =
    moment_of g.S.Source c.fill.new.file c.new-hasher.result first 12 c.in_ok-first.first.list.records in
    let b : Moment = moment_of g.S.Source c.read_entries.new.file c.read_entries.new.hasher w1 start records in
    let entries : Moment = moment_of g.S.Source c.read_entries.new.file c.read_entries.new.hasher w1 start [] in
    let passed : Moment = moment_of g.S.Source c.pass_extensions.new.file c.pass_extensions.new.hasher w2 at [] in
    let end = g.S.Source.remaining c.read_rest.new.file in
    let held = c.pass_extensions.new.held.bytes.items in
    let heads = c.pass_extensions.new.held.heads in
    let h : IsAbridgedOn plan entries passed s.0 held heads = s.2 in
    let p : IsMovedOn plan entries passed s.0 = h.is_passed.moved in
    let step : IsReadOn plan a b r.0 = r.2 in
    let rest : List ℕ = t.0 in
    let more : List ℕ = p.more ++ rest in
    let all : List ℕ = w1 ++ more in
    let same : all ≡ p.taken ++ tail = bytes_of_passed plan entries passed s.0 h.passed tail rest h.is_passed t.1 in
    let behind : drop start all ≡ h.passed ++ drop at tail =
    behind_passed plan entries passed s.0 h.passed tail rest h.is_passed t.1 step.moved.inside in
    let hashed : List ℕ = step.moved.taken ++ p.taken in
    let lent = c.deref-else-not-branch.result.now in
    let value : lent ≡ tail = c.deref-else-not-branch.ensures.value in
    let bytes : hashed ++ lent ≡ step.moved.taken ++ all = ap (λ (l : List ℕ). hashed ++ l) value
    ∙ append_assoc step.moved.taken p.taken tail ∙ ap (λ (l : List ℕ). step.moved.taken ++ l) (sym same) in
    let front : Consumes (g.S.Source.remaining c.args.file.now) a.left first =
    rw c.in_ok-window.ensures.items at c.in_ok-came.ensures.consumes in
    let got : length first ≡ c.in_ok-came.came = omega (
      arith,
      c.in_ok-came.ensures.len,
      c.fill.new.bytes.ok.0,
      c.in_ok-window.window.ok.0,
      ap length c.in_ok-window.ensures.items,
    ) in
    let within : c.in_ok-came.came ≤ c.args.len = search rules in
    let count : length more ≡ s.0 + length rest = omega (arith, length-append p.more rest, p.len) in
    let size : length first + r.0 + length more ≡ c.args.len = omega (arith, r.1, s.1, t.2, got, within, count) in
    let header : header_of kind first ≡ Ok declared.version = rw c.deref.ensures.value at c.in-Ok.ensures.declared.header in
    let counted : declared.count ≡ count_of first = rw c.deref.ensures.value at c.in-Ok.ensures.declared.count in
    let none : a.records ≡ [] = c.in_ok-first.ensures.0 in
    let total : length hashed + length lent ≡ c.args.len = omega (
      arith,
      size,
      ap length step.moved.bytes,
      step.moved.len,
      length-append first step.moved.more,
      length-append step.moved.taken w1,
      ap length same,
      ap length value,
      length-append w1 more,
      length-append p.taken tail,
      length-append step.moved.taken p.taken,
    ) in
    let room : id_len kind ≤ length (drop at tail) = omega (
      arith,
      trailer,
      length-drop at tail,
      ap length t.1,
      length-append w2 rest,
      t.2,
      p.inside,
      c.pass_extensions.new.window.ok.0,
    ) in
    let held-is : c.in_ok-ending.ending.items ≡ held ++ drop at tail =
    c.in_ok-ending.ensures in
    let is-sound : c.is_sound.result ≡ true = search rules in
    let are-bytes : AreBytes (step.moved.taken ++ all) =
    subst AreBytes bytes (All-append (λ b. b < 256) hashed lent
    (All-append (λ b. b < 256) step.moved.taken p.taken step.moved.are_bytes p.are_bytes) c.is_sound.ensures.are_bytes)
    in
    let intact : IsIntact reading.skip_hash kind (step.moved.taken ++ all) =
    subst (IsIntact reading.skip_hash kind) bytes (c.is_sound.ensures.intact is-sound
    (p.kind_stays ∙ step.moved.kind_stays ∙ c.new-hasher.ensures.kind) hashed
    (λ is. p.hashed is step.moved.taken (step.moved.hashed is [] c.new-hasher.ensures.empty))) in
    let before : List ℕ = step.moved.taken ++ take start all in
    let first-len : length before ≡ length step.moved.taken + start = omega (
      arith,
      length-append step.moved.taken (take start all),
      length-take start all,
      length-append w1 more,
      step.moved.inside,
    ) in
    let at-marker = rw c.in-Some.is at c.in_ok-start.ensures.named in
    let named : IfSome c.args.offset (λ place. length before ≡ place) =
    some_then c.args.offset _ (λ place. length before ≡ place)
    (λ place e. omega (
      arith,
      e,
      first-len,
      size,
      r.1,
      s.1,
      t.2,
      count,
      got,
      within,
      step.moved.len,
      step.moved.inside,
      ap length step.moved.bytes,
      length-append first step.moved.more,
      length-append step.moved.taken w1,
      c.read_entries.new.window.ok.0,
    )) at-marker in
    let has-passed : HasPassed plan (step.moved.taken ++ all) lent at heads = record {
      gone = hashed;
      before = before;
      passed = h.passed;
      ends = sym bytes;
      parts = ap (λ (l : List ℕ). step.moved.taken ++ l) (sym (take-append-drop start all)
          ∙ ap (λ (l : List ℕ). take start all ++ l) (behind ∙ ap (λ (l : List ℕ). h.passed ++ drop at l) (sym value)))
          ∙ sym (append_assoc step.moved.taken (take start all) (h.passed ++ drop at lent));
      len = omega (arith, total, ap length bytes, length-append hashed lent);
      heads = record { items = h.items; are = h.are; is_sha1 = h.is_sha1; hashed = h.hashed };
      named = named;
    } in
    let marker : IsMarker kind (step.moved.taken ++ all) c.args.offset =
    c.is_sound.ensures.marker is-sound (step.moved.taken ++ all) has-passed in
    let answer = answer_of_windows plan a b r.0 all more reading.timestamp reading.options c.args.offset c.args.len in
    some_then c.ending_of.result _ _ (λ x ended.
    let are = answer (x.parts, x.checksum) header counted c.in-Ok.ensures.declared.fits c.in-Ok.ensures.declared.small refl none whole
    step refl size marker (rw behind (ending_whole kind reading.timestamp reading.options declared.version records
    h.items h.passed held (drop at tail) (parts_contents x.parts, x.checksum) h.are h.held_are room
    (subst (λ (l : List ℕ). IsEnding kind reading.timestamp reading.options declared.version records l
    (Ok (parts_contents x.parts, x.checksum))) held-is ended.ending))) in
    record {
      read = (
        step.moved.taken ++ all,
        (
          whole_of_windows plan a b r.0 all more (g.S.Source.remaining c.args.file.now) end step refl front
              (Consumes-trans b.left passed.left end p.more rest p.consumed t.3) t.4,
          are-bytes,
        ),
        intact,
        are,
        λ keeps. subst (FollowEntries kind (step.moved.taken ++ all))
            (behind ∙ ap (λ (l : List ℕ). l ++ drop at tail) (sym (h.whole keeps)) ∙ sym held-is ∙ sym ended.behind)
            (ending_of_windows plan a b r.0 all more header counted refl none whole step refl),
      );
      placed = ended.parts.placed;
      ids = ended.parts.ids;
      storable = says_storable kind reading.timestamp reading.options (step.moved.taken ++ all)
          (Ok (x.parts, x.checksum)) are-bytes are;
      extension_ids = ended.parts.extension_ids;
    }) c.ending_of.ensures
