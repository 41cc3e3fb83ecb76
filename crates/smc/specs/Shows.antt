-- What a pass that paints in place has done so far. Assumes nothing.
use Rattle.std.specs.Prelude.{◌≡◌, ℕ, ◌*◌, List}
use Rattle.spec.specs.Pictures.{Origin, paint}
use Rattle.spec.specs.Maps.{remap}
use Rattle.spec.proofs.SoFar.{so_far}

-- picture and map are those that were lent, seen through the origins made so far
pub record Shows (c r : ℕ) (pic₀ map₀ : List ℕ) (made : List Origin) (pic m : List ℕ) : Type 0 where
  pub picture : pic ≡ paint c r (so_far (c * r) made) pic₀
  pub map : m ≡ remap (so_far (c * r) made) map₀
