-- What is held of the extensions of a file that is read in windows. Those that the library doesn't know and may skip
-- are left out (gitformat-index, "Extensions": "extensions can be added without breaking existing readers").
use Rattle.std.specs.Prelude.{◌≡◌, ◌<◌, ◌≤◌, ◌+◌, ◌-◌, ◌++◌, ℕ, nat_eq, ◌&&◌, ◌||◌, not, Bool, true, List, []}
use Rattle.std.specs.Prelude.{codes, filter, if◌then◌else◌, length, Option, Result, IfOk, vec_len}
use Rattle.std.specs.Global.{Vec}
use Rattle.std.specs.Io.KnownBytes.{Consumes, IsAtEnd}
use Rattle.std.specs.declared.io.Error.{Error}
use Rattle.std.specs.Cmp.Lexicographic.{pointwise}
use Rattle.index_parts.specs.Digest.{hasher_kind, Holds}
use Rattle.index_parts.specs.Id.{id_len}
use Rattle.index_parts.specs.Numbers.{be}
use Rattle.index_parts.specs.declared.hash.Hasher.{Hasher}
use Rattle.index_parts.specs.declared.hash.Kind.TheVariants.{Sha1}
use Rattle.index_extensions.specs.EndMarker.{heads}
use Rattle.index_extensions.specs.Walk.{Item, AreItems}
use Rattle.index_model.specs.Outcome.{is_understood}
use Rattle.file_place.specs.declared.folder.Source.{Ghosts}
use Rattle.file_windows.specs.Windowed.{IfGiven, IsPassedOn, Moment, moment_of}
use Rattle.file_windows.specs.declared.extensions.Extension.{Extension}
use Rattle.file_windows.specs.declared.extensions.Held.{Held}
use Rattle.file_windows.specs.declared.extensions.Place.{Place}
use Rattle.file_windows.specs.declared.plan.Plan.{Plan}

-- An extension with this signature has a meaning.
abbrev pub is_known : List ℕ → Bool
is_known signature =
    pointwise nat_eq signature (codes "link") || (pointwise nat_eq signature (codes "TREE") ||
    (pointwise nat_eq signature (codes "REUC") || (pointwise nat_eq signature (codes "UNTR") ||
    (pointwise nat_eq signature (codes "FSMN") || (pointwise nat_eq signature (codes "sdir") ||
    (pointwise nat_eq signature (codes "EOIE") || pointwise nat_eq signature (codes "IEOT")))))))

-- An extension with this signature has no meaning, and may be skipped.
abbrev pub is_unknown : List ℕ → Bool
is_unknown signature = is_understood signature [] && not (is_known signature)

-- The extensions that are held.
abbrev pub abridged : List Item → List Item
abridged items = filter (λ i. not (is_unknown i.signature)) items

-- Complete extensions were passed, these bytes are held of them, and a hasher took their heads.
pub record IsAbridgedOn (plan : Plan) (old new : Moment) (count : ℕ) (held : List ℕ) (hasher : Hasher) : Type 0 where
  pub passed : List ℕ
  pub items : List Item
  pub is_passed : IsPassedOn plan old new count passed
  pub are : AreItems passed items []
  pub held_are : AreItems held (abridged items) []
  pub whole : plan.keeps_ending ≡ true → held ≡ passed
  pub is_sha1 : hasher_kind hasher ≡ Sha1
  pub hashed : Holds hasher (heads items)

-- ---- the result of each step

-- The bytes begin with the head of such an extension.
abbrev pub IsExtensionAt : List ℕ → Extension → Type 0
IsExtensionAt bytes x =
    (signature : List ℕ) × (size : List ℕ) × (rest : List ℕ) × (bytes ≡ signature ++ (size ++ rest))
    × (length signature ≡ 4) × (length size ≡ 4) × (x.len ≡ 8 + be size) × (x.is_held ≡ not (is_unknown signature))

-- These bytes, if they are to be held.
abbrev pub held_part : Bool → List ℕ → List ℕ
held_part is_held bytes = if is_held then bytes else []

-- The window was read on, unless it already has the head of an extension.
pub record ReadsOn {S : Type 0} (source : Ghosts S) (plan : Plan) (place : Place) (file rest : S) (h i : Hasher)
    (old new : Vec ℕ) (result : Result (Option Place) Error) : Type 0 where
  pub passed : IfGiven result (λ x. (count : ℕ) × (count + x.left ≡ place.left)
      × IsPassedOn plan (moment_of source file h old.items place.start [])
      (moment_of source rest i new.items x.start []) count [])
  pub comes : IfGiven result (λ x. vec_len old < place.start + 8 → x.left < place.left)
  pub stored : source.stored rest ≡ source.stored file
  pub works : source.works rest ≡ source.works file

-- An extension was passed, and its bytes are held, if requested.
pub record PassesExtension {S : Type 0} (source : Ghosts S) (plan : Plan) (extension : Extension) (place : Place)
    (file rest : S) (h i : Hasher) (old new before after : Vec ℕ) (result : Result (Option Place) Error) : Type 0 where
  pub passed : IfGiven result (λ x. (count : ℕ) × (count + x.left ≡ place.left) × (passed : List ℕ)
      × (length passed ≡ extension.len) × (after.items ≡ before.items ++ held_part extension.is_held passed)
      × IsPassedOn plan (moment_of source file h old.items place.start [])
      (moment_of source rest i new.items x.start []) count passed)
  pub stored : source.stored rest ≡ source.stored file
  pub works : source.works rest ≡ source.works file

-- Complete extensions were passed, and there is room for the trailer after them.
pub record PassesExtensions {S : Type 0} (source : Ghosts S) (plan : Plan) (place : Place) (file rest : S)
    (h i : Hasher) (old new : Vec ℕ) (held : Held) (result : Result (Option Place) Error) : Type 0 where
  pub abridged : IfGiven result (λ x. (count : ℕ) × (count + x.left ≡ place.left)
      × IsAbridgedOn plan (moment_of source file h old.items place.start [])
      (moment_of source rest i new.items x.start []) count held.bytes.items held.heads)
  pub trailer : IfGiven result (λ x. id_len plan.kind ≤ vec_len new - x.start + x.left)
  pub stored : source.stored rest ≡ source.stored file
  pub works : source.works rest ≡ source.works file

-- The last `left` bytes of the file follow those of the window.
pub record ReadsRest {S : Type 0} (source : Ghosts S) (file end : S) (old new : Vec ℕ) (left : ℕ)
    (result : Result Bool Error) : Type 0 where
  pub rest : IfOk result (λ is. is ≡ true → (more : List ℕ) × (new.items ≡ old.items ++ more) × (length more ≡ left)
      × Consumes (source.remaining file) (source.remaining end) more × IsAtEnd (source.remaining end))
  pub stored : source.stored end ≡ source.stored file
  pub works : source.works end ≡ source.works file
