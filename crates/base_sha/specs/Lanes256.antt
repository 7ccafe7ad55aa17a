-- Tables of words of four blocks: lane j of word t is word t of block j (FIPS 180-4, section 6.2.2, step 1).
use Rattle.std.specs.Prelude.{◌≡◌, ℕ, ◌<◌, List, slice_index}
use Rattle.sha2.specs.Sha256.{add32, round_constants, schedule}
use Rattle.base_sha.specs.Blocks.{block}
use Rattle.base_sha.specs.Lanes.{lane}

-- the first n words of the table are those of the schedules of a group's blocks
abbrev pub AreWords : List (List ℕ) → List ℕ → ℕ → Type 0
AreWords table group n = (t j : ℕ) → t < n → j < 4
    → lane table t j ≡ slice_index (schedule (block group j) 48) t

-- the first n words of the table are those of the schedules of a group's blocks, with the rounds' constants added
abbrev pub AreKeyed : List (List ℕ) → List ℕ → ℕ → Type 0
AreKeyed table group n = (t j : ℕ) → t < n → j < 4
    → lane table t j ≡ add32 (slice_index (schedule (block group j) 48) t) (slice_index round_constants t)

abbrev pub IsSpread : List (List ℕ) → List (List ℕ) → List ℕ → ℕ → Type 0
IsSpread words keyed group n = AreWords words group n × AreKeyed keyed group n

-- lane j has the words of one schedule, with the rounds' constants added
abbrev pub IsKeyed : List (List ℕ) → ℕ → List ℕ → Type 0
IsKeyed table j words = (t : ℕ) → t < 64
    → lane table t j ≡ add32 (slice_index words t) (slice_index round_constants t)
