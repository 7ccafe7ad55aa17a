-- Clones of resolved paths, path by path.
use Rattle.std.proofs.Common.{◌≡◌, List, [], ◌∷◌, map, refl}
use Rattle.std.specs.List.{AllZip}
use Rattle.ext_small.specs.ResolveUndo.{path_stages}
use Rattle.ext_small.specs.declared.resolve_undo.ResolvePath.{ResolvePath}

-- clones that have the values of their sources
pub same_paths : (xs ys : List ResolvePath) → AllZip (λ x y. path_stages y ≡ path_stages x) xs ys
    → map path_stages ys ≡ map path_stages xs
same_paths [] [] h = refl
same_paths [] (y ∷ ys) h = absurd h
same_paths (x ∷ xs) [] h = absurd h
same_paths (x ∷ xs) (y ∷ ys) h = rw (h.0, same_paths xs ys h.1) refl
