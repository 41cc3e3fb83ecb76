-- The blocks that are to be written, by a flag for each and the new picture. Assumes nothing.
use Rattle.std.specs.Prelude.{ℕ, ◌<◌, ◌≡◌, Bool, false, List, map, get_or}
use Rattle.spec.specs.Basics.{if, from, same}
use Rattle.spec.specs.Pictures.{Origin, given, held, block_at}

-- block k is held where it is flagged as kept; otherwise it is given as the new picture shows it
unfoldable pub origin_at : ℕ → List Bool → List ℕ → ℕ → Origin
origin_at c kept new k = if (get_or kept k false) (held k) (given (block_at c new k))

unfoldable pub origins : ℕ → ℕ → List Bool → List ℕ → List Origin
origins c n kept new = map (origin_at c kept new) (from 0 n)

-- the flag of each of n blocks says whether the new one is equal to the old one
abbrev pub Flagged : ℕ → ℕ → List ℕ → List ℕ → List Bool → Type 0
Flagged c n old new kept = (k : ℕ) → k < n → get_or kept k false ≡ same (block_at c old k) (block_at c new k)
