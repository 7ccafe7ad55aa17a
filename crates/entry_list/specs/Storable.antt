-- The condition under which a record is storable: from a file whose ids are of this hash algorithm, it is read as it
-- was written (gitformat-index, "Index entry").
use Rattle.std.specs.Prelude.{◌≡◌, ◌≢◌, ◌≤◌, ℕ, List, All, length}
use Rattle.index_parts.specs.Id.{id_kind}
use Rattle.index_parts.specs.declared.hash.Kind.{Kind}
use Rattle.entry_list.specs.Record.{Record, IsSized}

-- a path whose length doesn't fit the 12 bits of its field has no NUL
abbrev pub IsPlain : List ℕ → Type 0
IsPlain path = 4095 ≤ length path → All (λ b. b ≢ 0) path

-- the id is of the hash algorithm, the path is plain, and the numbers fit their bits
pub record IsStorableIn (kind : Kind) (r : Record) : Type 0 where
  pub id : id_kind r.id ≡ kind
  pub plain : IsPlain r.path
  pub fits : IsSized r
