-- An accepted chunk gives one origin a block, and holds only blocks of the picture. Assumes nothing.
use Prim.Native.Nat.{ℕ, zero, suc, ◌+◌, ◌-◌, ◌*◌, ◌<◌, ◌≤◌}
use mathlib.Core.Path.{◌≡◌}
use mathlib.Core.List.{List, [], ◌∷◌, ◌++◌}
use native.Mathlib.Omega.{arith}
use lib.ListN.{length, get_or, length-map, length-append}
use borrow.Author.Tests.{ltb-false}
use Rattle.spec.specs.declared.Answer.{Answer}
use Rattle.spec.specs.Basics.{from, Every, none, also}
use Rattle.spec.specs.Pictures.{Origin, held, Below, Covers}
use Rattle.spec.specs.Chunks.{Head, runs, once, each, opcode, act, fills, Kind, skip, fill, whole, copy, store, named, State, Step, stop, go, Outcome, refused, accepted, copies, blocks_by, extend, step, finish, resume, loop, decode}
use Rattle.spec.proofs.Fuel.{by-fuel}
use Rattle.spec.proofs.Heads.{Known, known-head, body-after}
use Rattle.spec.proofs.Lists.{by-test, every_append, every-get_or, every_map, every-all, every-from, length_from}

pub data Sound (n : ℕ) : Outcome → Type 0 where
  refuses : {a : Answer} → Sound n (refused a)
  accepts : {os : List Origin} → Covers n os → Sound n (accepted os)

-- what has been made so far
record Partial (n : ℕ) (os : List Origin) : Type 0 where
  size : length os ≤ n
  below : Every (Below n) os

data Steady (n : ℕ) : Step → Type 0 where
  stops : {e : ℕ} → Steady n (stop e)
  goes : {st : State} → Partial n st.made → Steady n (go st)

-- what the head of an opcode that is not refused has been checked for: its blocks have room, and its bytes stand in the chunk, after its own
pub data Checked (n : ℕ) (s : List ℕ) (at k : ℕ) : Head → Type 0 where
  bad : {e : ℕ} → Checked n s at k (Head.bad e)
  good : {u : Kind} {m b : ℕ} → k + m ≤ n → (at < b) × (b + once u + each u * m ≤ length s) → Checked n s at k (runs u m b)

checked : {n : ℕ} {s : List ℕ} {at k : ℕ} {filled : List ℕ} {u count b : ℕ} {x : Head} → at < b → Known n s k filled u count b x → Checked n s at k x
checked l Known.bad = bad
checked l (Known.good fit) = good fit.within (l, fit.room)

pub checked-head : (n : ℕ) (s : List ℕ) (at k : ℕ) (filled : List ℕ) → Checked n s at k (opcode n s at k filled)
checked-head n s at k filled = checked (body-after s at) (known-head n s at k filled)

module _ (n : ℕ) (some : 0 < n) where
  appended : (made new : List Origin) (m : ℕ) → Every (Below n) made → length made + m ≤ n → length new ≡ m → Every (Below n) new → Partial n (made ++ new)
  appended made new m e h l e' = record { size = rw (length-append, l) h; below = every_append e e' }

  copied : (d m : ℕ) (made : List Origin) → Every (Below n) made → length made + m ≤ n → Partial n (copies d m made)
  copied d zero made e h = record { size = omega arith; below = e }
  copied d (suc m) made e h =
      let e' = every_append e (also (every-get_or (length made - d) (held 0) e some) none) in
      copied d m (made ++ get_or made (length made - d) (held 0) ∷ []) e' (rw length-append (omega arith))

  by_bytes : (f : List ℕ → List ℕ) (size : ℕ) (s : List ℕ) (at m : ℕ) (made : List Origin) → Every (Below n) made → length made + m ≤ n
      → Partial n (made ++ blocks_by f size s at m)
  unfolding blocks_by
  by_bytes f size s at m made e h = appended made _ m e h (simp (length-map, length_from)) (every_map _ (every-all (from 0 m) (λ i. tt)))

  extended : (k : Kind) (hs s : List ℕ) (at m : ℕ) (st : State) → Every (Below n) st.made → length st.made + m ≤ n
      → Partial n (extend k hs s at m st)
  unfolding extend
  extended skip hs s at m st e h =
      appended st.made _ m e h (simp (length-map, length_from)) (every_map held (every-from (length st.made) m n h))
  extended fill hs s at m st e h = by_bytes _ 0 s at m st.made e h
  extended whole hs s at m st e h = by_bytes _ 16 s at m st.made e h
  extended (copy d) hs s at m st e h = copied d m st.made e h
  extended (store b) hs s at m st e h = by_bytes _ (2 * b) s at m st.made e h
  extended (named b) hs s at m st e h = by_bytes _ (2 * b) s at m st.made e h

  acted : (s : List ℕ) (st : State) {x : Head} → Every (Below n) st.made → Checked n s st.at (length st.made) x → Steady n (act s st x)
  acted s st e bad = stops
  acted s st e (good {u} {m} room on) = goes (extended u _ s _ m st e room)

  stepped : (s : List ℕ) (st : State) → Every (Below n) st.made → Steady n (step n s st)
  unfolding step
  stepped s st e = acted s st e (checked-head n s st.at (length st.made) (fills st.tables))

  finished : (s : List ℕ) (st : State) → Partial n st.made → Sound n (finish n s st)
  unfolding finish
  finished s st g =
      by-test (Sound n) _ (λ t. refuses) (λ full.
      by-test (Sound n) _ (λ t. refuses) (λ t.
      let f = ltb-false (length st.made) n full in
      accepts (record { size = omega arith; below = g.below })))

  resumed : (onward : State → Outcome) (st : State) {x : Step} → ((next : State) → Partial n next.made → Sound n (onward next))
      → Steady n x → Sound n (resume onward st x)
  resumed onward st f stops = refuses
  resumed onward st f (goes {st = next} g) = f next g

  looped : (fuel : ℕ) (s : List ℕ) (st : State) → Partial n st.made → Sound n (loop fuel n s st)
  unfolding loop
  looped fuel s st g =
      by-fuel _ _ _ (λ (st : State). Partial n st.made) (Sound n)
      (λ onward st t g onto. resumed onward st onto (stepped s st g.below)) (finished s) fuel st g

  pub decoded : (s : List ℕ) → Sound n (decode n s)
  unfolding decode
  decoded s =
      by-test (Sound n) _ (λ t. refuses) (λ t.
      by-test (Sound n) _ (λ t. refuses) (λ t.
      looped (length s) s _ (record { size = omega arith; below = none })))
