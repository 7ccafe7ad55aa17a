-- Which index a command is about: the one that the arguments name, and what they leave out (the program's own).
use Rattle.std.specs.Prelude.{◌≡◌, ℕ, List, codes, Option, Some, None}
use Rattle.gix_index.specs.Kind.{Kind}
use Rattle.gix_index.specs.Disk.World.{World}
use Rattle.tool_defaults.specs.KindAt.{IsKindAt}
use Rattle.tool_defaults.specs.Place.{IsIndexPath}
use Rattle.tool_defaults.specs.declared.place.Surroundings.{Surroundings}
use Rattle.tool_args.specs.Commands as words
use Rattle.tool_args.specs.declared.command.Reading.{Reading}
use Rattle.tool_args.specs.declared.command.Writing.{Writing}

-- A command as it runs: what is printed of a file with ids of a hash algorithm, or what is written of it to another
-- path.
pub data ResolvedCommand : Type 0 where
  Reads : Reading → Kind → List ℕ → ResolvedCommand
  Writes : Writing → Kind → List ℕ → List ℕ → ResolvedCommand

-- the file that an argument names; without an argument the index of the work tree around
abbrev pub IsPlace : World → Surroundings → Option words.Place → List ℕ → Type 0
IsPlace world around (Some words.standard_input) path = path ≡ codes "/dev/stdin"
IsPlace world around (Some (words.file text)) path = path ≡ text
IsPlace world around (Some (words.changed text)) path = path ≡ text
IsPlace world around None path = IsIndexPath world around path

-- the hash algorithm that an argument names; without an argument that of the file at a path
abbrev pub IsKind : World → List ℕ → Option Kind → Kind → Type 0
IsKind world path (Some given) kind = kind ≡ given
IsKind world path None kind = IsKindAt world path kind

-- the file and its hash algorithm
pub record IsFileAndKind (world : World) (around : Surroundings) (given : Option Kind) (place : Option words.Place)
    (kind : Kind) (path : List ℕ) : Type 0 where
  pub is_place : IsPlace world around place path
  pub is_kind : IsKind world path given kind

-- the hash algorithm and the location in the arguments
abbrev pub given_of : words.CommandValue → Option Kind
given_of (words.Reads what given place) = given
given_of (words.Writes what given place to) = given

abbrev pub input_of : words.CommandValue → Option words.Place
input_of (words.Reads what given place) = place
input_of (words.Writes what given place to) = Some place

-- the command of the arguments, on this file with this hash algorithm
abbrev pub on_file : words.CommandValue → Kind → List ℕ → ResolvedCommand
on_file (words.Reads what given place) kind path = Reads what kind path
on_file (words.Writes what given place to) kind path = Writes what kind path to

-- the command of the arguments, on its index
pub record IsCommand (world : World) (around : Surroundings) (meant : words.CommandValue) (command : ResolvedCommand)
    : Type 0 where
  pub kind : Kind
  pub path : List ℕ
  pub found : IsFileAndKind world around (given_of meant) (input_of meant) kind path
  pub is : command ≡ on_file meant kind path
