-- The loop over the opcodes of a chunk: its fuel never runs out, and the equations that a loop of code goes by. Assumes nothing.
use Prim.Native.Nat.{ℕ, suc, ◌+◌, ◌-◌, ◌*◌, ◌<◌, ◌≤◌}
use mathlib.Core.Path.{◌≡◌, refl, ◌∙◌}
use mathlib.Core.List.{List}
use mathlib.Core.Bool.{true, false, not, and-false, and-eq-true_iff}
use native.Mathlib.Omega.{arith}
use lib.ListN.{length, drop}
use lib.Dec.{ltb}
use borrow.Author.Tests.{ltb-true, lt-ltb, le-ltb}
use Rattle.spec.specs.Basics.{if}
use Rattle.spec.specs.Answers.{blocks_remain, bytes_follow, answer_at}
use Rattle.spec.specs.Chunks.{State, Step, stop, go, Outcome, refused, accepted, step, padding, finish, resume, goes_on, loop, Head, act, fills, once, each}
use Rattle.spec.proofs.Fuel.{fuel-end, fuel-enough, fuel-turn}
use Rattle.spec.proofs.Sound.{Checked, good, checked-head}

-- an opcode that is not refused stands before the next
data Onward (at : ℕ) : Step → Type 0 where
  stops : {e : ℕ} → Onward at (stop e)
  goes : {st : State} → at < st.at → Onward at (go st)

acts : (n : ℕ) (s : List ℕ) (st : State) {x : Head} → Checked n s st.at (length st.made) x → Onward st.at (act s st x)
acts n s st Checked.bad = stops
acts n s st (good {u} {m} {b} room on) =
    let l : st.at < b + once u + each u * m = omega arith in
    goes l

onward : (n : ℕ) (s : List ℕ) (st : State) → Onward st.at (step n s st)
unfolding step
onward n s st = acts n s st (checked-head n s st.at (length st.made) (fills st.tables))

same-resume : (f g : State → Outcome) (st : State) {x : Step} → ((st' : State) → st.at < st'.at → f st' ≡ g st') → Onward st.at x
    → resume f st x ≡ resume g st x
same-resume f g st h stops = refl
same-resume f g st h (goes {st = st'} l) = h st' l

module _ (n : ℕ) (s : List ℕ) where
  bytes_left : State → ℕ
  bytes_left st = length s - st.at

  done : (st : State) → bytes_left st ≡ 0 → goes_on n s st ≡ false
  unfolding bytes_left
  done st e = rw (le-ltb st.at (length s) (omega arith), and-false)

  less : (f g : State → Outcome) (st : State) → goes_on n s st ≡ true → ((st' : State) → bytes_left st' < bytes_left st → f st' ≡ g st')
      → resume f st (step n s st) ≡ resume g st (step n s st)
  unfolding bytes_left
  less f g st t h =
      let l = ltb-true st.at (length s) ((and-eq-true_iff (ltb (length st.made) n) (ltb st.at (length s))).0 t).1 in
      same-resume f g st (λ st' o. h st' (omega arith)) (onward n s st)

  pub loop-enough : (fuel : ℕ) (st : State) → length s ≤ st.at + fuel → loop (suc fuel) n s st ≡ loop fuel n s st
  unfolding loop bytes_left
  loop-enough fuel st h = fuel-enough _ _ _ bytes_left done less fuel st (omega arith)

  -- with the fuel that `decode` gives it, or more
  pub unroll : (fuel : ℕ) (st : State) → length s ≤ fuel → length st.made < n → st.at < length s
      → loop fuel n s st ≡ resume (λ st'. loop fuel n s st') st (step n s st)
  unfolding loop bytes_left
  unroll fuel st h l m =
      fuel-turn _ _ _ bytes_left done less fuel st (omega arith) (rw (lt-ltb (length st.made) n l, lt-ltb st.at (length s) m))

  unroll-end : (fuel : ℕ) (st : State) → goes_on n s st ≡ false → loop fuel n s st ≡ finish n s st
  unfolding loop
  unroll-end fuel st e = fuel-end _ _ _ fuel st e

  -- no byte is left, and blocks remain
  pub loop-remains : (fuel : ℕ) (st : State) → length st.made < n → length s ≤ st.at
      → loop fuel n s st ≡ refused (answer_at blocks_remain (length s) (length st.made))
  unfolding finish if
  loop-remains fuel st l h = unroll-end fuel st (rw (le-ltb st.at (length s) h, and-false)) ∙ rw (lt-ltb (length st.made) n l)

  -- all blocks made: the bytes behind them decide
  module _ (fuel : ℕ) (st : State) (h : n ≤ length st.made) where
    loop-full : loop fuel n s st ≡ if (not (padding (drop st.at s))) (refused (answer_at bytes_follow st.at n)) (accepted st.made)
    unfolding finish if
    loop-full = unroll-end fuel st (rw (le-ltb (length st.made) n h)) ∙ rw (le-ltb (length st.made) n h)

    pub loop-accepts : padding (drop st.at s) ≡ true → loop fuel n s st ≡ accepted st.made
    unfolding if
    loop-accepts e = loop-full ∙ rw e

    pub loop-follows : padding (drop st.at s) ≡ false → loop fuel n s st ≡ refused (answer_at bytes_follow st.at n)
    unfolding if
    loop-follows e = loop-full ∙ rw e
