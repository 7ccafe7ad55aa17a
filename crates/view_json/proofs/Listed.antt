-- Values of an array, appended one after another.
use Rattle.std.proofs.Common.{◌≡◌, ℕ, ◌+◌, ◌<◌, List, ◌++◌, length, take, get_or}
use Rattle.std.specs.List.{enumerate_from, flat_map}
use Rattle.view_json.specs.Values.{separator}
use Rattle.base_text.proofs.Appended.{two_more}
use Rattle.base_text.proofs.Placed.{placed_more}

-- the values of items, with commas between them
abbrev pub listed_as : {X Y : Type 0} → (Y → List ℕ) → (X → Y) → List X → List ℕ
listed_as {X} {Y} value g xs = flat_map (λ (p : ℕ × X). separator p.0 ++ value (g p.1)) (enumerate_from 0 xs)

-- one value more, after its comma
pub listed_more : {X Y : Type 0} (value : Y → List ℕ) (g : X → Y) (xs : List X) (i : ℕ) (d : X)
    (old mid apart new : List ℕ) → i < length xs → mid ≡ old ++ listed_as value g (take i xs)
    → apart ≡ mid ++ separator i → new ≡ apart ++ value (g (get_or xs i d))
    → new ≡ old ++ listed_as value g (take (i + 1) xs)
listed_more {X} value g xs i d old mid apart new lt before comma own =
    placed_more (λ (p : ℕ × X). separator p.0 ++ value (g p.1)) xs i d old mid new lt before
    (two_more mid apart new (separator i) (value (g (get_or xs i d))) comma own)
