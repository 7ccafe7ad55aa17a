-- A complete text of lines: all changes that it requests, or the first line that is wrong (git-update-index, "USING
-- --INDEX-INFO" and "-z").
use Rattle.std.specs.Prelude.{◌≡◌, ℕ, ◌+◌, ◌==◌, Bool, List, [], ◌∷◌, ◌++◌, length, map, Some, None, Ok, Err}
use Rattle.std.specs.Prelude.{if◌then◌else◌}
use Rattle.std.specs.List.{slice_split}
use Rattle.std.specs.Cow.{cow_slice_items}
use Rattle.index_parts.specs.declared.hash.Kind.{Kind}
use Rattle.entry_edit.specs.declared.change.Change.{Change}
use Rattle.entry_edit.specs.declared.change.Change.TheVariants as changes
use Rattle.entry_info.specs.Line.{ChangeValue, Read, change_of}
use Rattle.entry_info.specs.declared.error.Error.{Error}
use Rattle.entry_info.specs.declared.error.Error.TheVariants as errors
use Rattle.entry_info.specs.declared.error.Fault.{Fault}
use Rattle.entry_info.specs.declared.line.Line.{Line}

-- the byte that ends a line: a NUL, or a newline
abbrev pub end_of : Bool → ℕ
end_of nul = if nul then 0 else 10

-- the parts without an empty one at the end
abbrev pub without_empty_end : List (List ℕ) → List (List ℕ)
without_empty_end [] = []
without_empty_end ([] ∷ []) = []
without_empty_end (part ∷ parts) = part ∷ without_empty_end parts

-- the lines of a text; the last one needs no end
abbrev pub lines_of : ℕ → List ℕ → List (List ℕ)
lines_of end text = without_empty_end (slice_split (λ b. b == end) text)

-- the change of each line, or its error
abbrev pub said : Bool → Kind → List ℕ → List (Read ChangeValue)
said nul kind text = map (λ line. change_of nul kind line) (lines_of (end_of nul) text)

abbrev pub right : List ChangeValue → List (Read ChangeValue)
right cs = map (λ c. Ok c) cs

-- the text requests these changes, and nothing else
abbrev pub AreSaid : Bool → Kind → List ℕ → List ChangeValue → Type 0
AreSaid nul kind text cs = said nul kind text ≡ right cs

-- the line of this number, counted from 1, is the first that is wrong
pub record IsFirstWrong (nul : Bool) (kind : Kind) (text : List ℕ) (number : ℕ) (fault : Fault) : Type 0 where
  pub before : List ChangeValue
  pub behind : List (Read ChangeValue)
  pub is : said nul kind text ≡ right before ++ Err fault ∷ behind
  pub counted : number ≡ length before + 1

-- The cause of an error. When out of memory, nothing is stated.
abbrev pub InfoTextCause : Bool → Kind → List ℕ → Error → Type 0
InfoTextCause nul kind text (errors.Line number fault) = IsFirstWrong nul kind text number fault
InfoTextCause nul kind text errors.Memory = Unit {0}

-- ---- in memory

-- the change of a line that was read
abbrev pub line_value : Line → ChangeValue
line_value line = record { entry = line.entry; path = cow_slice_items line.path }

-- a change of an index, as a value
abbrev pub change_value : Change → ChangeValue
change_value (changes.Stage entry path) = record { entry = Some entry; path = path.now }
change_value (changes.Unstage path) = record { entry = None; path = path.now }
