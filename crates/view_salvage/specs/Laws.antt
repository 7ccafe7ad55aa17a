-- Facts about reading a file from its parts (the library's own).
use Rattle.std.specs.Prelude.{◌≡◌, ◌≢◌, ◌⊎◌, ℕ, false, List, [], All, Option, None, Ok}
use Rattle.gix_index.specs.Answer.{IsAnswer}
use Rattle.gix_index.specs.Checked.{IsFileAnswer}
use Rattle.gix_index.specs.Contents.{Contents}
use Rattle.gix_index.specs.DecodeOptions.{Options}
use Rattle.gix_index.specs.FileTime.{FileTime}
use Rattle.gix_index.specs.Kind.{Kind}
use Rattle.gix_index.specs.Laws.{TakesAll}
use Rattle.gix_index.specs.ObjectId.{ObjectId}
use Rattle.gix_index.specs.Order.{IsStrictlyOrdered}
use Rattle.gix_index.specs.Record.{Record}
use Rattle.gix_index.specs.State.{contents, records}
use Rattle.view_salvage.specs.Accepted.{AreAcceptable}
use Rattle.view_salvage.specs.Choice.{IsSortedSelection, fit_of}
use Rattle.view_salvage.specs.Remains.{Remain}
use Rattle.view_salvage.specs.Salvage.{SalvagesRemains}
use Rattle.view_salvage.specs.declared.chosen.Keep.{Keep}
use Rattle.view_salvage.specs.declared.remains.Remains.{Remains}
use Rattle.view_salvage.specs.declared.salvage.Salvaged.{Salvaged}

-- The bytes are read as an index with these entries, and with their digest, unless that is left out.
pub record IsReadAs (kind : Kind) (time : FileTime) (options : Options) (bytes : List ℕ) (rs : List Record)
    : Type 0 where
  pub value : Contents
  pub checksum : Option ObjectId
  pub records : value.records ≡ rs
  pub read : IsFileAnswer false kind time options bytes (Ok (value, checksum))

-- The bytes aren't read as an index.
abbrev pub IsUnreadableIndex : Kind → FileTime → Options → List ℕ → Type 0
IsUnreadableIndex kind time options bytes =
    (x : Contents × Option ObjectId) → IsFileAnswer false kind time options bytes (Ok x) → ⊥

-- Bytes are read as a value, by a reader without a limit that expects no trailer. This remains of them, and is saved
-- with a shared index or none.
pub record IsReadAndSaved (keep : Keep) (v : Contents) (r : Remains) (shared : Option Contents) (s : Salvaged)
    : Type 0 where
  pub kind : Kind
  pub time : FileTime
  pub options : Options
  pub takes_all : TakesAll options
  pub bytes : List ℕ
  pub checksum : Option ObjectId
  pub read : IsAnswer kind time options bytes (Ok (v, checksum))
  pub remain : Remain kind bytes r
  pub saves : SalvagesRemains keep r shared s

-- It holds whenever bytes are read as a value, this remains of them, and this is saved.
abbrev pub EachSaved : Keep → (Contents → Remains → Option Contents → Salvaged → Type 0) → Type 0
EachSaved keep P =
    (v : Contents) (r : Remains) (shared : Option Contents) (s : Salvaged) → IsReadAndSaved keep v r shared s
    → P v r shared s

-- If git works with all entries, all are saved.
abbrev pub KeepsWhole : Contents → Remains → Salvaged → Type 0
KeepsWhole v r s = AreAcceptable (contents r.front).kind v.records → records s.state ≡ v.records

-- All entries that git works with are saved, in order by path and stage, of each the first.
abbrev pub KeepsAll : Contents → Remains → Salvaged → Type 0
KeepsAll v r s = IsSortedSelection (fit_of (contents r.front).kind v.records) (records s.state)

-- No shared index contributes entries: the index has no link, or no shared index is given.
abbrev pub IsAlone : Contents → Option Contents → Type 0
IsAlone v shared = (v.extensions.link ≡ None) ⊎ (shared ≡ None)

-- Entries as git writes them if there is no link: in order by path and stage, each once, and with a path.
pub record AreWhole (rs : List Record) : Type 0 where
  pub ordered : IsStrictlyOrdered rs
  pub named : All (λ r. r.path ≢ []) rs
