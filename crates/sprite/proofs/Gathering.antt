-- Reading one thing after the other: the fuel never runs out, and the equations that loops of code go by. Assumes nothing.
use Prim.Native.Nat.{ℕ, suc, ◌-◌, ◌<◌, ◌≤◌}
use mathlib.Core.Path.{◌≡◌, refl}
use mathlib.Core.List.{List, ◌++◌}
use mathlib.Core.Bool.{Bool, true, false}
use native.Mathlib.Omega.{arith}
use Rattle.spec.proofs.Fuel.{fuel-end, fuel-turn}
use Rattle.sprite.specs.Frames.{Reading, reading, Turn, stop, more, Ended, ended, follow, gather}

-- what is read stands before the next place, which is not past the bytes
pub data Onward {A : Type 0} (bytes at : ℕ) : Turn A → Type 0 where
  stops : {e : ℕ} → Onward bytes at (stop e)
  goes : {l : List A} {next : ℕ} → at < next → next ≤ bytes → Onward bytes at (more l next)

follow-same : {A : Type 0} (bytes at : ℕ) (f g : Reading A → Ended A) (made : List A) {x : Turn A}
    → ((st : Reading A) → at < st.at → st.at ≤ bytes → f st ≡ g st) → Onward bytes at x → follow f made x ≡ follow g made x
follow-same bytes at f g made h stops = refl
follow-same bytes at f g made h (goes {l} {next} a b) = h (reading next (made ++ l)) a b

module _ {A : Type 0} (test : Reading A → Bool) (turn : Reading A → Turn A) (last : ℕ → ℕ) (bytes : ℕ) where
  pub gather-end : (st : Reading A) → test st ≡ false → gather test turn last (suc bytes) st ≡ ended (last st.at) st.made
  unfolding gather
  gather-end st e = fuel-end _ _ _ (suc bytes) st e

  module _ (onward : (st : Reading A) → Onward bytes st.at (turn st)) where
    -- one more than the bytes left, so that it is never none
    still : Reading A → ℕ
    still st = suc (bytes - st.at)

    none : (st : Reading A) → still st ≡ 0 → test st ≡ false
    unfolding still
    none st e = absurd (omega (arith, e))

    less : (f g : Reading A → Ended A) (st : Reading A) → test st ≡ true → ((st' : Reading A) → still st' < still st → f st' ≡ g st')
        → follow f st.made (turn st) ≡ follow g st.made (turn st)
    unfolding still
    less f g st t h = follow-same bytes st.at f g st.made (λ st' a b. h st' (omega arith)) (onward st)

    pub gather-turn : (st : Reading A) → test st ≡ true
        → gather test turn last (suc bytes) st ≡ follow (λ st'. gather test turn last (suc bytes) st') st.made (turn st)
    unfolding gather still
    gather-turn st t = fuel-turn _ _ _ still none less (suc bytes) st (omega arith) t
