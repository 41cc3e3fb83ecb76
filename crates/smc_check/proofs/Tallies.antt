-- The count's change, opcode by opcode: what a loop that only reads the opcodes' heads and the lent map can know of it. Assumes nothing.
use Prim.Native.Nat.{ℕ, zero, suc, ◌+◌, ◌-◌, ◌*◌, ◌/◌, ◌%◌, ◌<◌, ◌≤◌}
use mathlib.Core.Path.{◌≡◌, refl, sym, ap, ◌∙◌}
use mathlib.Core.List.{List, [], ◌∷◌, ◌++◌, map, map-append}
use mathlib.Core.Logic.{◌≢◌}
use mathlib.Core.Bool.{Bool, true, false, not, true≢false}
use mir.Val.{bool_byte}
use native.Mathlib.Nat.{mul-add, add-zero, zero-add, add-suc, suc-add}
use native.Mathlib.Omega.{arith}
use lib.Dec.{eqb}
use lib.ListN.{length, get_or, take, drop, length-append, length-map, get_or-append}
use lib.Seq.{get_or-append_seam, get_or-append-add, drop-cons}
use borrow.Author.Tests.{eq-eqb, eqb-true, lt-ltb, le-ltb}
use Rattle.spec.specs.Basics.{if, from}
use Rattle.spec.specs.Pictures.{Origin, given, held}
use Rattle.spec.specs.Maps.{settled, entry, remap, unsettled, newly_unsettled, newly_settled, recount}
use Rattle.spec.specs.Chunks.{Kind, skip, fill, whole, copy, store, named, kind_of, times, reach, State, copies, blocks_by, extend}
use Rattle.smc_check.specs.Tallying.{
  is_open,
  open_of,
  open_in,
  last_of,
  next_to_last,
  opened,
  bit,
  both,
  left,
  copied,
  touched,
  second_of,
  Standing,
  StandsAt,
  Tallied,
  Owing,
  Notes,
  Takes,
  Counts,
}
use Rattle.smc_check.specs.Tables.{touches}
use Rattle.smc_check.specs.declared.count.Running.{Running}
use Rattle.smc_check.specs.declared.count.Block.{Block}
use Rattle.smc_check.specs.declared.count.Block.TheVariants.{Settled, Skipped, Unsettled}
use Rattle.spec.proofs.Lists.{by-test, none-or-one, length_from, get_d_map, get_or-from}
use Rattle.spec.proofs.Origins.{length-remap}
use Rattle.spec.proofs.Made.{length-extend}
use Rattle.spec.proofs.Records.{count-changes, unsettled-most}

pub open_in-both : (m : List ℕ) (a v w : ℕ) → open_in m a (v + w) ≡ open_in m a v + open_in m (a + v) w
unfolding open_in
open_in-both m a v zero = rw add-zero (omega arith)
open_in-both m a v (suc w) =
    let e : a + (v + w) ≡ a + v + w = omega arith in
    rw (add-suc v w, open_in-both m a v w, e) (omega arith)

open_in-rest : (x : ℕ) (m : List ℕ) (a w : ℕ) → open_in (x ∷ m) (suc a) w ≡ open_in m a w
unfolding open_in
open_in-rest x m a zero = refl
open_in-rest x m a (suc w) = rw (open_in-rest x m a w, suc-add a w)

-- the first of them
open_in-first : (m : List ℕ) (a w : ℕ) → open_in m a (suc w) ≡ is_open (get_or m a 0) + open_in m (suc a) w
unfolding open_in
open_in-first m a zero = rw (add-zero a) (omega arith)
open_in-first m a (suc w) =
    let rest = open_in-first m a w in
    let e : a + suc w ≡ suc a + w = omega arith in
    rw e (omega (arith, rest))

-- the whole map
pub open_in-all : (m : List ℕ) → open_in m 0 (length m) ≡ unsettled m
unfolding open_in
open_in-all [] = refl
open_in-all (x ∷ m) = open_in-first (x ∷ m) 0 (length m) ∙ ap (λ (n : ℕ). is_open x + n) (open_in-rest x m 0 (length m) ∙ open_in-all m)

pub open_in-most : (m : List ℕ) (a w : ℕ) → open_in m a w ≤ w
unfolding open_in
open_in-most m a zero = omega arith
open_in-most m a (suc w) = let one = none-or-one (eqb (get_or m (a + w) 0) settled) in let rest = open_in-most m a w in omega (arith, one, rest)

-- a part of it, a slice of the map
pub open_in-slice : (m : List ℕ) (a w : ℕ) → a + w ≤ length m → unsettled (take w (drop a m)) ≡ open_in m a w
unfolding open_in
open_in-slice m a zero h = refl
open_in-slice m a (suc w) h =
    let l : a < length m = omega (arith, h) in
    rw (drop-cons m a 0 l)
    (ap (λ (n : ℕ). is_open (get_or m a 0) + n) (open_in-slice m (suc a) w (omega (arith, h))) ∙ sym (open_in-first m a w))

-- tests as numbers: as the code adds them up, and of an entry
pub byte-bit : (b : Bool) → bool_byte b ≡ bit b
byte-bit true = refl
byte-bit false = refl

pub bit-small : (b : Bool) → bit b ≤ 1
bit-small true = omega arith
bit-small false = omega arith

pub bit-open : (b : Bool) → bit (not b) ≡ if b 0 1
unfolding if
bit-open true = refl
bit-open false = refl

pub open_in-part : (m : List ℕ) (lo hi : ℕ) → lo ≤ hi → hi ≤ length m → unsettled (take (hi - lo) (drop lo m)) ≡ open_in m lo (hi - lo)
open_in-part m lo hi a b = open_in-slice m lo (hi - lo) (omega (arith, a, b))

-- the first i of some entries, and one more

-- what has been made, with more at the end
unsettled-append : (xs ys : List ℕ) → unsettled (xs ++ ys) ≡ unsettled xs + unsettled ys
unsettled-append [] ys = omega arith
unsettled-append (x ∷ xs) ys = let rest = unsettled-append xs ys in omega (arith, rest)

module _ (m : List ℕ) where
  pub made_more : (made new : List Origin) → unsettled (remap (made ++ new) m) ≡ unsettled (remap made m) + unsettled (remap new m)
  unfolding remap
  made_more made new = ap unsettled (map-append (entry m) made new) ∙ unsettled-append (map (entry m) made) (map (entry m) new)

  -- skipped blocks are as open as they were lent; given ones are settled
  skips-open : (a w : ℕ) → unsettled (remap (map held (from a w)) m) ≡ open_in m a w
  unfolding remap open_in
  skips-open a zero = refl
  skips-open a (suc w) = ap (λ (n : ℕ). is_open (get_or m a 0) + n) (skips-open (suc a) w) ∙ sym (open_in-first m a w)

  gives-open : {A : Type 0} (f : A → List ℕ) (l : List A) → unsettled (remap (map (λ i. given (f i)) l) m) ≡ 0
  unfolding remap if
  gives-open f [] = refl
  gives-open f (x ∷ l) = let rest = gives-open f l in omega (arith, rest)

  one_more : (made : List Origin) (o : Origin) → length (made ++ o ∷ []) ≡ suc (length made)
  one_more made o = length-append made (o ∷ []) ∙ omega arith

  last_more : (made : List Origin) (o : Origin) → last_of (made ++ o ∷ []) ≡ o
  last_more made o =
      let e : length (made ++ o ∷ []) - 1 ≡ length made = rw (one_more made o) (omega arith) in
      rw e (get_or-append_seam made o [] (held 0))

  next_more : (made : List Origin) (o : Origin) → 1 ≤ length made → next_to_last (made ++ o ∷ []) ≡ last_of made
  next_more made o h =
      let e : length (made ++ o ∷ []) - 2 ≡ length made - 1 = rw (one_more made o) (omega arith) in
      rw e (get_or-append made (o ∷ []) (held 0) (length made - 1) (omega arith))

  open_more : (made : List Origin) (o : Origin) → unsettled (remap (made ++ o ∷ []) m) ≡ unsettled (remap made m) + open_of m o
  unfolding remap
  open_more made o = made_more made (o ∷ []) ∙ omega arith

  -- w blocks more, u of them open; and how open the last two are
  pub record Grows (made made' : List Origin) (w u : ℕ) : Type 0 where
    pub size : length made' ≡ length made + w
    pub opens : unsettled (remap made' m) ≡ unsettled (remap made m) + u

  pub record Ends (made : List Origin) (x y : ℕ) : Type 0 where
    pub some : 1 ≤ length made
    pub first : open_of m (last_of made) ≡ x
    pub second : 2 ≤ length made → open_of m (next_to_last made) ≡ y

  -- one more
  ends_more : (made : List Origin) (o : Origin) (x y z : ℕ) → Ends made x y → open_of m o ≡ z → Ends (made ++ o ∷ []) z x
  ends_more made o x y z e h =
      record {
        some = rw (one_more made o) (omega arith);
        first = ap (open_of m) (last_more made o) ∙ h;
        second = λ l. ap (open_of m) (next_more made o e.some) ∙ e.first;
      }

  grows-more : (made made' : List Origin) (o : Origin) (w u z : ℕ) → open_of m o ≡ z → Grows (made ++ o ∷ []) made' w u → Grows made made' (suc w) (z + u)
  grows-more made made' o w u z h g =
      let l = one_more made o in
      let q = open_more made o in
      let size = g.size in
      let opens = g.opens in
      record { size = omega (arith, l, size); opens = omega (arith, q, h, opens) }

  -- each takes the entry of the block before: as open as that one
  copies-before : (w : ℕ) (made : List Origin) (x y : ℕ) → Ends made x y → Grows made (copies 1 w made) w (w * x)
  copies-before zero made x y e = record { size = omega arith; opens = omega arith }
  copies-before (suc w) made x y e =
      let o = last_of made in
      let g = grows-more made _ o w (w * x) x e.first (copies-before w (made ++ o ∷ []) x x (ends_more made o x y x e e.first)) in
      record { size = g.size; opens = g.opens ∙ omega arith }

  ends-before : (w : ℕ) (made : List Origin) (x y : ℕ) → Ends made x y → Ends (copies 1 (suc w) made) x x
  ends-before zero made x y e = ends_more made (last_of made) x y x e e.first
  ends-before (suc w) made x y e = ends-before w (made ++ last_of made ∷ []) x x (ends_more made (last_of made) x y x e e.first)

  -- or of the block two before: the two take turns
  two-more : (made : List Origin) (x y : ℕ) → 2 ≤ length made → Ends made x y
      → Ends ((made ++ next_to_last made ∷ []) ++ last_of made ∷ []) x y
  two-more made x y h e =
      let a = next_to_last made in
      ends_more (made ++ a ∷ []) (last_of made) y x x (ends_more made a x y y e (e.second h)) e.first

  copies-pair : (w : ℕ) (made : List Origin) → 1 ≤ length made
      → copies 2 (suc (suc w)) made ≡ copies 2 w ((made ++ next_to_last made ∷ []) ++ last_of made ∷ [])
  copies-pair w made h =
      ap (λ (o : Origin). copies 2 w ((made ++ next_to_last made ∷ []) ++ o ∷ [])) (next_more made (next_to_last made) h)

  copies-two : (n : ℕ) (made : List Origin) (x y : ℕ) → 2 ≤ length made → Ends made x y
      → Grows made (copies 2 (2 * n) made) (2 * n) (n * (x + y)) × Ends (copies 2 (2 * n) made) x y
  copies-two zero made x y h e = (record { size = omega arith; opens = omega arith }, e)
  copies-two (suc n) made x y h e =
      let a = next_to_last made in
      let b = last_of made in
      let next = (made ++ a ∷ []) ++ b ∷ [] in
      let two : 2 * suc n ≡ suc (suc (2 * n)) = omega arith in
      let rest = copies-two n next x y (rw (one_more (made ++ a ∷ []) b, one_more made a) (omega arith)) (two-more made x y h e) in
      let g = grows-more made _ a (suc (2 * n)) _ y (e.second h) (grows-more (made ++ a ∷ []) _ b (2 * n) _ x e.first rest.0) in
      rw (two, copies-pair (2 * n) made e.some) (record { size = g.size ∙ omega arith; opens = g.opens ∙ omega arith }, rest.1)

-- the entries of no block, or of one
owed-few : (m : List ℕ) (k w : ℕ) → w ≤ 1 → open_in m k w ≡ w * is_open (get_or m k 0)
unfolding open_in
owed-few m k zero h = omega arith
owed-few m k (suc zero) h = rw (add-zero k) (omega arith)
owed-few m k (suc (suc w)) h = absurd (omega (arith, h))

module _ (m : List ℕ) where
  pub tally-start : Standing m [] (length m) Settled Settled 0 0 0
  unfolding open_in remap
  tally-start =
      record {
        balance = omega arith;
        begin = omega arith;
        past = omega arith;
        first = λ h. absurd (omega (arith, h));
        second
            = λ h. absurd (omega (arith, h));
      }

  -- more blocks, some of them open
  grown : (made made' : List Origin) (now w u p : ℕ) → Grows m made made' w u
      → now + open_in m 0 (length made) ≡ length m + unsettled (remap made m) + p
      → now + u + open_in m 0 (length made') ≡ length m + unsettled (remap made' m) + (p + open_in m (length made) w)
  grown made made' now w u p g b =
      let both = ap (λ (n : ℕ). open_in m 0 n) g.size ∙ open_in-both m 0 (length made) w
      ∙ ap (λ (n : ℕ). open_in m 0 (length made) + open_in m n w) (zero-add (length made)) in
      let opens = g.opens in
      omega (arith, both, opens, b)

  -- nothing is owed
  even : (made : List Origin) (now : ℕ) (one two : Block) (lo hi : ℕ) → Standing m made now one two lo hi 0
      → now + open_in m 0 (length made) ≡ length m + unsettled (remap made m) + open_in m lo (hi - lo)
  even made now one two lo hi t = let b = t.balance in omega (arith, b)

  -- enough is left to take open entries away
  pub enough : (made : List Origin) (now : ℕ) (one two : Block) (lo hi owed : ℕ) → Standing m made now one two lo hi owed → length made ≤ length m
      → open_in m lo (hi - lo) + owed + (length m - length made) ≤ now
  enough made now one two lo hi owed t h =
      let most = open_in-most m 0 (length made) in
      let b = t.balance in
      omega (arith, most, b, h)

  -- blocks of which one thing is remembered
  module _ (made new : List Origin) (c : Block) (w : ℕ) (one two : Block) (size : length new ≡ w) (some : 1 ≤ w)
      (each : (j : ℕ) → j < w → opened m c (length made + j) ≡ open_of m (get_or new j (held 0)))
      (first : 1 ≤ length made → opened m one (length made - 1) ≡ open_of m (last_of made)) where
    len : length (made ++ new) ≡ length made + w
    len = length-append made new ∙ ap (λ (n : ℕ). length made + n) size

    first-adds : opened m c (length (made ++ new) - 1) ≡ open_of m (last_of (made ++ new))
    first-adds =
        let e : length (made ++ new) - 1 ≡ length made + (w - 1) = rw len (omega (arith, some)) in
        rw e (each (w - 1) (omega (arith, some)) ∙ ap (open_of m) (sym (get_or-append-add made new (w - 1) (held 0))))

    second-adds : 2 ≤ length (made ++ new) → opened m (if (eqb w 1) one c) (length (made ++ new) - 2) ≡ open_of m (next_to_last (made ++ new))
    second-adds h =
        by-test (λ (x : Block). opened m x (length (made ++ new) - 2) ≡ open_of m (next_to_last (made ++ new))) (eqb w 1)
        (λ t.
        let one : w ≡ 1 = eqb-true w 1 t in
        let l : 1 ≤ length made = omega (arith, one, h, len) in
        let e : length (made ++ new) - 2 ≡ length made - 1 = rw len (omega (arith, one, l)) in
        rw e (first l ∙ ap (open_of m) (sym (get_or-append made new (held 0) (length made - 1) (omega (arith, l))))))
        (λ t.
        let more : w ≢ 1 = λ q. true≢false (sym (eq-eqb w 1 q) ∙ t) in
        let e : length (made ++ new) - 2 ≡ length made + (w - 2) = rw len (omega (arith, some, more)) in
        rw e (each (w - 2) (omega (arith, some, more)) ∙ ap (open_of m) (sym (get_or-append-add made new (w - 2) (held 0)))))

  -- skipped blocks: nothing is counted, and they are as they were lent
  pub tally-skip : (made : List Origin) (now : ℕ) (one two : Block) (lo hi w : ℕ) → 1 ≤ w → Standing m made now one two lo hi 0
      → Standing m (made ++ map held (from (length made) w)) now Skipped (if (eqb w 1) one Skipped) lo hi 0
  unfolding if
  tally-skip made now one two lo hi w some t =
      let new = map held (from (length made) w) in
      let size : length new ≡ w = simp (length-map, length_from) in
      let g : Grows m made (made ++ new) w (open_in m (length made) w) =
      record {
        size = length-append made new ∙ ap (λ (n : ℕ). length made + n) size;
        opens = made_more m made new
            ∙ ap (λ (n : ℕ). unsettled (remap made m) + n) (skips-open m (length made) w);
      } in
      let each : (j : ℕ) → j < w → opened m Skipped (length made + j) ≡ open_of m (get_or new j (held 0)) =
      λ j h. ap (open_of m) (sym (get_d_map held (from (length made) w) j (held 0) 0 (rw length_from h) ∙ ap held (get_or-from (length made) w j 0 h))) in
      let b = grown made (made ++ new) now w _ _ g (even made now one two lo hi t) in
      let l = g.size in
      let past = t.past in
      record {
        balance = omega (arith, b);
        begin = t.begin;
        past = omega (arith, l, past);
        first = λ h. first-adds made new Skipped w one two size some each t.first;
        second = second-adds made new Skipped w one two size some each t.first;
      }

  -- blocks that are settled by now
  pub record Paints (made made' : List Origin) (one : Block) (w : ℕ) : Type 0 where
    pub grows : Grows m made made' w 0
    pub first : 1 ≤ length made' → opened m Settled (length made' - 1) ≡ open_of m (last_of made')
    pub second : 2 ≤ length made' → opened m (if (eqb w 1) one Settled) (length made' - 2) ≡ open_of m (next_to_last made')

  pub paints-given : {A : Type 0} (f : A → List ℕ) (l : List A) (a : A) (made : List Origin) (now : ℕ) (one two : Block) (lo hi w : ℕ) → length l ≡ w → 1 ≤ w
      → Standing m made now one two lo hi 0
      → Paints made (made ++ map (λ i. given (f i)) l) one w
  unfolding if
  paints-given f l a made now one two lo hi w len some t =
      let new = map (λ i. given (f i)) l in
      let size : length new ≡ w = length-map l (λ i. given (f i)) ∙ len in
      let each : (j : ℕ) → j < w → opened m Settled (length made + j) ≡ open_of m (get_or new j (held 0)) =
      λ j h. ap (open_of m) (sym (get_d_map (λ i. given (f i)) l j (held 0) a (rw len h))) in
      record {
        grows = record {
          size = length-append made new ∙ ap (λ (n : ℕ). length made + n) size;
          opens = made_more m made new
              ∙ ap (λ (n : ℕ). unsettled (remap made m) + n) (gives-open m f l);
        };
        first = λ h. first-adds made new Settled w one two size some each t.first;
        second = second-adds made new Settled w one two size some each t.first;
      }

  -- their entries are owed
  pub tally-paint : (made made' : List Origin) (now : ℕ) (one two : Block) (lo hi w : ℕ) → Standing m made now one two lo hi 0 → Paints made made' one w
      → Standing m made' now Settled (if (eqb w 1) one Settled) lo hi (open_in m (length made) w)
  tally-paint made made' now one two lo hi w t p =
      let b = grown made made' now w 0 _ p.grows (even made now one two lo hi t) in
      let l = p.grows.size in
      let past = t.past in
      record {
        balance = omega (arith, b);
        begin = t.begin;
        past = omega (arith, l, past);
        first = p.first;
        second = p.second;
      }

  -- What is owed is counted: a single entry at once; a run that goes on where the run before it ended, with that run; and where one does not,
  -- that run
  module _ (made : List Origin) (now : ℕ) (one two : Block) (lo hi k w : ℕ) (inside : k + w ≤ length made) (most : length made ≤ length m)
      (t : Standing m made now one two lo hi (open_in m k w)) where
    pub takes-few : w ≤ 1 → Standing m made (now - w * is_open (get_or m k 0)) one two lo hi 0
    takes-few h =
        let left = enough made now one two lo hi _ t most in
        let b = t.balance in
        let e = owed-few m k w h in
        record { balance = omega (arith, b, left, e); begin = t.begin; past = t.past; first = t.first; second = t.second }

    pub takes-on : hi ≡ k → Standing m made now one two lo (k + w) 0
    takes-on e =
        let b = t.balance in
        let begin = t.begin in
        let far : k + w - lo ≡ (hi - lo) + w = omega (arith, begin, e) in
        let there : lo + (hi - lo) ≡ k = omega (arith, begin, e) in
        let both = ap (λ (n : ℕ). open_in m lo n) far ∙ open_in-both m lo (hi - lo) w ∙ ap (λ (n : ℕ). open_in m lo (hi - lo) + open_in m n w) there in
        record { balance = omega (arith, b, both); begin = omega (arith, begin, e); past = inside; first = t.first; second = t.second }

    pub takes-anew : Standing m made (now - open_in m lo (hi - lo)) one two k (k + w) 0
    takes-anew =
        let left = enough made now one two lo hi _ t most in
        let b = t.balance in
        let run : k + w - k ≡ w = omega arith in
        record { balance = rw run (omega (arith, b, left)); begin = omega arith; past = inside; first = t.first; second = t.second }

  -- copies
  opened-copied : (a : Bool) (j : ℕ) → opened m (copied a) j ≡ bit a
  opened-copied true j = refl
  opened-copied false j = refl

  module _ (made : List Origin) (now : ℕ) (one two : Block) (lo hi : ℕ) (t : Standing m made now one two lo hi 0) where
    copied-end : (made' : List Origin) (w u : ℕ) (a b : Bool) → Grows m made made' w u → Ends m made' (bit a) (bit b)
        → Standing m made' (now + u) (copied a) (copied b) lo hi (open_in m (length made) w)
    copied-end made' w u a b g e =
        let q = grown made made' now w u _ g (even made now one two lo hi t) in
        let l = g.size in
        let past = t.past in
        record {
          balance = omega (arith, q);
          begin = t.begin;
          past = omega (arith, l, past);
          first = λ h. opened-copied a _ ∙ sym e.first;
          second = λ h. opened-copied b _ ∙ sym (e.second h);
        }

    -- a and b: how open the last block is, and the one before it
    module _ (a : Bool) (ea : bit a ≡ opened m one (length made - 1)) where
      pub tally-before : (w : ℕ) → 1 ≤ length made
          → Standing m (copies 1 (suc w) made) (now + suc w * bit a) (copied a) (copied a) lo hi (open_in m (length made) (suc w))
      tally-before w h =
          let e : Ends m made (bit a) (opened m two (length made - 2)) =
          record { some = h; first = sym (ea ∙ t.first h); second = λ l. sym (t.second l) } in
          copied-end _ (suc w) _ a a (copies-before m (suc w) made _ _ e) (ends-before m w made _ _ e)

      pub tally-two : (b : Bool) → bit b ≡ opened m two (length made - 2) → (n : ℕ) → 2 ≤ length made
          → Standing m (copies 2 (2 * n) made) (now + n * (bit a + bit b)) (copied a) (copied b) lo hi (open_in m (length made) (2 * n))
      tally-two b eb n h =
          let e : Ends m made (bit a) (bit b) =
          record { some = omega (arith, h); first = sym (ea ∙ t.first (omega (arith, h))); second = λ l. sym (eb ∙ t.second l) } in
          let c = copies-two m n made _ _ h e in
          copied-end _ (2 * n) _ a b c.0 c.1

  -- every block has had its turn: what is counted is the change of the count
  pub tally-end : (os : List Origin) (now : ℕ) (one two : Block) (lo hi : ℕ) → Standing m os now one two lo hi 0 → length os ≡ length m
      → now - open_in m lo (hi - lo) + newly_settled m (remap os m) ≡ length m + newly_unsettled m (remap os m)
  tally-end os now one two lo hi t e =
      let left = enough os now one two lo hi 0 t (omega (arith, e)) in
      let b = t.balance in
      let all = ap (λ (n : ℕ). open_in m 0 n) e ∙ open_in-all m in
      let changes = count-changes m (remap os m) (sym (length-remap os m ∙ e)) in
      omega (arith, left, b, all, changes)

  -- and the new count, and 21, follow from it
  pub recount-by : (os : List Origin) (now kept : ℕ) → now + newly_settled m (remap os m) ≡ length m + newly_unsettled m (remap os m)
      → recount os m kept ≡ kept + now - length m
  unfolding recount
  recount-by os now kept e = omega (arith, e)

both-parts : (a b : Block) → both a b ≡ true → (a ≡ Settled) × (b ≡ Settled)
both-parts Settled Settled h = (refl, refl)
both-parts Settled Skipped h = absurd (true≢false (sym h))
both-parts Settled Unsettled h = absurd (true≢false (sym h))
both-parts Skipped b h = absurd (true≢false (sym h))
both-parts Unsettled b h = absurd (true≢false (sym h))

-- the opcodes by what they do to the count: skips, copies of the block before and of two before, and those that give pixels
data Gives : Kind → Type 0 where
  filled : Gives fill
  wholly : Gives whole
  storing : {b : ℕ} → Gives (store b)
  naming : {b : ℕ} → Gives (named b)

data Sort (u : ℕ) : Kind → Type 0 where
  skips : u < 2 → Sort u skip
  repeats : 2 ≤ u → u < 4 → Sort u (copy 1)
  pairs : 4 ≤ u → u < 6 → Sort u (copy 2)
  gives : {k : Kind} → 2 ≤ u → Gives k → Sort u k

sort : (u : ℕ) → u < 15 → Sort u (kind_of u)
sort zero h = skips (omega arith)
sort (suc zero) h = skips (omega arith)
sort (suc (suc zero)) h = repeats (omega arith) (omega arith)
sort (suc (suc (suc zero))) h = repeats (omega arith) (omega arith)
sort (suc (suc (suc (suc zero)))) h = pairs (omega arith) (omega arith)
sort (suc (suc (suc (suc (suc zero))))) h = pairs (omega arith) (omega arith)
sort (suc (suc (suc (suc (suc (suc zero)))))) h = gives (omega arith) filled
sort (suc (suc (suc (suc (suc (suc (suc zero))))))) h = gives (omega arith) filled
sort (suc (suc (suc (suc (suc (suc (suc (suc zero)))))))) h = gives (omega arith) storing
sort (suc (suc (suc (suc (suc (suc (suc (suc (suc zero))))))))) h = gives (omega arith) naming
sort (suc (suc (suc (suc (suc (suc (suc (suc (suc (suc zero)))))))))) h = gives (omega arith) storing
sort (suc (suc (suc (suc (suc (suc (suc (suc (suc (suc (suc zero))))))))))) h = gives (omega arith) naming
sort (suc (suc (suc (suc (suc (suc (suc (suc (suc (suc (suc (suc zero)))))))))))) h = gives (omega arith) storing
sort (suc (suc (suc (suc (suc (suc (suc (suc (suc (suc (suc (suc (suc zero))))))))))))) h = gives (omega arith) naming
sort (suc (suc (suc (suc (suc (suc (suc (suc (suc (suc (suc (suc (suc (suc zero)))))))))))))) h = gives (omega arith) wholly
sort (suc (suc (suc (suc (suc (suc (suc (suc (suc (suc (suc (suc (suc (suc (suc u))))))))))))))) h = absurd (omega (arith, h))

module _ (m : List ℕ) (st : State) (now : ℕ) (one two : Block) (lo hi : ℕ) (t : Standing m st.made now one two lo hi 0) (w : ℕ) (some : 1 ≤ w) where
  paints-kind : {k : Kind} (hs s : List ℕ) (at : ℕ) → Gives k → Paints m st.made (extend k hs s at w st) one w
  unfolding extend blocks_by
  paints-kind hs s at filled = paints-given m _ (from 0 w) 0 st.made now one two lo hi w (length_from 0 w) some t
  paints-kind hs s at wholly = paints-given m _ (from 0 w) 0 st.made now one two lo hi w (length_from 0 w) some t
  paints-kind hs s at storing = paints-given m _ (from 0 w) 0 st.made now one two lo hi w (length_from 0 w) some t
  paints-kind hs s at naming = paints-given m _ (from 0 w) 0 st.made now one two lo hi w (length_from 0 w) some t

  -- copies of blocks that are settled by now
  module _ (z : both one two ≡ true) where
    both-settled : 1 ≤ length st.made → Ends m st.made 0 0
    both-settled h =
        let e = both-parts one two z in
        let first : 0 ≡ open_of m (last_of st.made) = ap (λ (c : Block). opened m c (length st.made - 1)) (sym e.0) ∙ t.first h in
        let second : 2 ≤ length st.made → 0 ≡ open_of m (next_to_last st.made) =
        λ l. ap (λ (c : Block). opened m c (length st.made - 2)) (sym e.1) ∙ t.second l in
        record { some = h; first = sym first; second = λ l. sym (second l) }

    settled-either : (made' : List Origin) → Grows m st.made made' w 0 → Ends m made' 0 0 → Paints m st.made made' one w
    settled-either made' g e =
        record {
          grows = g;
          first = λ h. sym e.first;
          second = λ h. by-test (λ (c : Block). opened m c (length made' - 2) ≡ open_of m (next_to_last made')) (eqb w 1)
              (λ b. rw (both-parts one two z).0 (sym (e.second h))) (λ b. sym (e.second h));
        }

    paints-before : 1 ≤ length st.made → Paints m st.made (copies 1 w st.made) one w
    paints-before h =
        let e = both-settled h in
        let g = copies-before m w st.made 0 0 e in
        let v : suc (w - 1) ≡ w = omega (arith, some) in
        settled-either _ (record { size = g.size; opens = g.opens ∙ omega arith }) (rw v at (ends-before m (w - 1) st.made 0 0 e))

    paints-two : 2 ≤ length st.made → w % 2 ≡ 0 → Paints m st.made (copies 2 w st.made) one w
    paints-two h even =
        let c = copies-two m (w / 2) st.made 0 0 h (both-settled (omega (arith, h))) in
        let v : 2 * (w / 2) ≡ w = omega (arith, even) in
        let g = rw v at c.0 in
        settled-either _ (record { size = g.size; opens = g.opens ∙ omega arith }) (rw v at c.1)

-- what an opcode touches
touches-none : (u : ℕ) → u < 2 → touches u ≡ false
touches-none u h = rw (lt-ltb u 2 h)

touches-some : (u : ℕ) → 2 ≤ u → touches u ≡ true
touches-some u h = rw (le-ltb u 2 h)

touched-none : (u w : ℕ) → u < 2 → touched u w ≡ 0
unfolding touched
touched-none u w h = rw (touches-none u h) (omega arith)

touched-all : (u w : ℕ) → 2 ≤ u → touched u w ≡ w
unfolding touched
touched-all u w h = rw (touches-some u h) (omega arith)

touched-most : (u w : ℕ) → touched u w ≤ w
unfolding touched
touched-most u w = by (touches u)
  where
    by : (b : Bool) → bit b * w ≤ w
    by true = omega arith
    by false = omega arith

-- as the code makes it
pub touched-by : (u w : ℕ) (b : Bool) → b ≡ touches u → (x : ℕ) → x ≡ bool_byte b → x * w ≡ touched u w
unfolding touched
touched-by u w b e x ex = rw (ex, byte-bit, e)

-- one law for each way out of the code's step
module _ (m : List ℕ) (u k w : ℕ) (t : Running) (known : u < 15) (some : 1 ≤ w) (even : w % times (kind_of u) ≡ 0) (far : reach (kind_of u) ≤ k) where
  module _ (st : State) (size : length st.made ≡ k) (g : StandsAt m st.made t 0) (hs s : List ℕ) (at : ℕ) where
    painted : {made' : List Origin} → 2 ≤ u → Paints m st.made made' t.one w
        → Standing m made' t.now (left (touches u)) (second_of t.one (left (touches u)) w) t.lo t.hi (open_in m k (touched u w))
    unfolding second_of
    painted l p = rw (touched-all u w l, touches-some u l, ← size) (tally-paint m st.made _ _ _ _ _ _ w g p)

    by-sort : {x : Kind} → Sort u x → reach x ≤ k → w % times x ≡ 0 → (0 < reach x → both t.one t.two ≡ true)
        → Standing m (extend x hs s at w st) t.now (left (touches u)) (second_of t.one (left (touches u)) w) t.lo t.hi (open_in m k (touched u w))
    unfolding extend second_of open_in
    by-sort (skips l) f e z = rw (touched-none u w l, touches-none u l) (tally-skip m st.made _ _ _ _ _ w some g)
    by-sort (repeats l b) f e z = painted l (paints-before m st _ _ _ _ _ g w some (z (omega arith)) (omega (arith, f, size)))
    by-sort (pairs l b) f e z = painted (omega (arith, l)) (paints-two m st _ _ _ _ _ g w some (z (omega arith)) (omega (arith, f, size)) e)
    by-sort (gives l x) f e z = painted l (paints-kind m st _ _ _ _ _ g w some hs s at x)

  pub notes-plain : (0 < reach (kind_of u) → both t.one t.two ≡ true)
      → Notes m u k w t (record { now = t.now; one = left (touches u); two = second_of t.one (left (touches u)) w; lo = t.lo; hi = t.hi })
  notes-plain z hs s at st size g = by-sort st size g hs s at (sort u known) far even z

-- copies of blocks that may be open
pub kind-repeats : (u : ℕ) → 2 ≤ u → u < 4 → kind_of u ≡ copy 1
kind-repeats zero a b = absurd (omega (arith, a))
kind-repeats (suc zero) a b = absurd (omega (arith, a))
kind-repeats (suc (suc zero)) a b = refl
kind-repeats (suc (suc (suc zero))) a b = refl
kind-repeats (suc (suc (suc (suc u)))) a b = absurd (omega (arith, b))

pub kind-pairs : (u : ℕ) → 4 ≤ u → u < 6 → kind_of u ≡ copy 2
kind-pairs zero a b = absurd (omega (arith, a))
kind-pairs (suc zero) a b = absurd (omega (arith, a))
kind-pairs (suc (suc zero)) a b = absurd (omega (arith, a))
kind-pairs (suc (suc (suc zero))) a b = absurd (omega (arith, a))
kind-pairs (suc (suc (suc (suc zero)))) a b = refl
kind-pairs (suc (suc (suc (suc (suc zero))))) a b = refl
kind-pairs (suc (suc (suc (suc (suc (suc u)))))) a b = absurd (omega (arith, b))

module _ (m : List ℕ) (k : ℕ) (t : Running) (g : Tallied m k t) where
  pub now-most : k ≤ length m → t.now ≤ 3 * length m
  now-most h =
      let b = g.tally.balance in
      let made = unsettled-most (remap g.made m) in
      let len = length-remap g.made m in
      let rest = open_in-most m t.lo (t.hi - t.lo) in
      let past = g.tally.past in
      let size = g.size in
      omega (arith, b, made, len, rest, past, size, h)

  -- what is to be taken away is there
  pub now-least : k ≤ length m → open_in m t.lo (t.hi - t.lo) ≤ t.now
  now-least h =
      let left = enough m g.made _ _ _ _ _ _ g.tally (rw g.size h) in
      omega (arith, left)

-- the same while entries are owed
module _ (m : List ℕ) (k w : ℕ) (t : Running) (g : Owing m k w t) where
  pub owing-least : open_in m t.lo (t.hi - t.lo) + open_in m k w ≤ t.now
  owing-least =
      let left = enough m g.made _ _ _ _ _ _ g.tally g.most in
      omega (arith, left)

  pub owing-few : w ≤ 1 → w * is_open (get_or m k 0) ≤ t.now
  owing-few h = let e = owed-few m k w h in omega (arith, e, owing-least)

module _ (m : List ℕ) (u k w : ℕ) (t : Running) (some : 1 ≤ w) where
  pub notes-repeats : 2 ≤ u → kind_of u ≡ copy 1 → 1 ≤ k → (a : Bool) → bit a ≡ opened m t.one (k - 1)
      → Notes m u k w t (record { now = t.now + w * bit a; one = copied a; two = copied a; lo = t.lo; hi = t.hi })
  unfolding extend
  notes-repeats l e h a ea hs s at st size g =
      let v : suc (w - 1) ≡ w = omega (arith, some) in
      let q = rw (v, size) at (tally-before m st.made _ _ _ _ _ g a (rw size ea) (w - 1) (omega (arith, size, h))) in
      rw (e, touched-all u w l) q

  pub notes-pairs : 2 ≤ u → kind_of u ≡ copy 2 → 2 ≤ k → w % 2 ≡ 0 → (a b : Bool) → bit a ≡ opened m t.one (k - 1) → bit b ≡ opened m t.two (k - 2)
      → Notes m u k w t (record { now = t.now + w / 2 * (bit a + bit b); one = copied a; two = copied b; lo = t.lo; hi = t.hi })
  unfolding extend
  notes-pairs l e h even a b ea eb hs s at st size g =
      let v : 2 * (w / 2) ≡ w = omega (arith, even) in
      let q = rw (v, size) at (tally-two m st.made _ _ _ _ _ g a (rw size ea) b (rw size eb) (w / 2) (omega (arith, size, h))) in
      rw (e, touched-all u w l) q

pub product_small : (w x : ℕ) → x ≤ 1 → w * x ≤ w
product_small w zero h = omega arith
product_small w (suc zero) h = omega arith
product_small w (suc (suc x)) h = absurd (omega (arith, h))

-- the second step's ways out
module _ (m : List ℕ) (k w : ℕ) (t : Running) where
  pub taken-few : w ≤ 1 → Takes m k w t (record { now = t.now - w * is_open (get_or m k 0); one = t.one; two = t.two; lo = t.lo; hi = t.hi })
  taken-few h made inside most g = takes-few m made _ _ _ _ _ k w inside most g h

  pub taken-on : t.hi ≡ k → Takes m k w t (record { now = t.now; one = t.one; two = t.two; lo = t.lo; hi = k + w })
  taken-on e made inside most g = takes-on m made _ _ _ _ _ k w inside most g e

  pub taken-anew : Takes m k w t (record { now = t.now - open_in m t.lo (t.hi - t.lo); one = t.one; two = t.two; lo = k; hi = k + w })
  taken-anew made inside most g = takes-anew m made _ _ _ _ _ k w inside most g

-- both steps
pub owing-noted : (m : List ℕ) (u k w : ℕ) (t r : Running) → k + w ≤ length m → 1 ≤ w → (g : Tallied m k t) → Notes m u k w t r → Owing m k (touched u w) r
owing-noted m u k w t r room some g n =
    let st : State = record { at = 0; made = g.made; tables = [] } in
    let l = length-extend (kind_of u) [] [] 0 w st in
    let size = g.size in
    let most = touched-most u w in
    record {
      made = extend (kind_of u) [] [] 0 w st;
      start = omega (arith, room, some);
      inside = omega (arith, l, size, most);
      most = omega (arith, l, size, room);
      tally = n [] [] 0 st size g.tally;
    }

pub counts-both : (m : List ℕ) (u k w : ℕ) (t n r : Running) → k + w ≤ length m → Notes m u k w t n → Takes m k (touched u w) n r → Counts m u k w t r
counts-both m u k w t n r room a b hs s at st size g =
    let l = length-extend (kind_of u) hs s at w st in
    let most = touched-most u w in
    b _ (omega (arith, l, size, most)) (omega (arith, l, size, room)) (a hs s at st size g)

pub reach-some : (u : ℕ) → 2 ≤ u → u < 6 → 1 ≤ reach (kind_of u)
reach-some zero a b = absurd (omega (arith, a))
reach-some (suc zero) a b = absurd (omega (arith, a))
reach-some (suc (suc zero)) a b = omega arith
reach-some (suc (suc (suc zero))) a b = omega arith
reach-some (suc (suc (suc (suc zero)))) a b = omega arith
reach-some (suc (suc (suc (suc (suc zero))))) a b = omega arith
reach-some (suc (suc (suc (suc (suc (suc u)))))) a b = absurd (omega (arith, b))

pub reach-two : (u : ℕ) → 4 ≤ u → u < 6 → 2 ≤ reach (kind_of u)
reach-two u a b = rw (kind-pairs u a b) (omega arith)

pub even-two : (u w : ℕ) → 4 ≤ u → u < 6 → w % times (kind_of u) ≡ 0 → w % 2 ≡ 0
even-two u w a b h = rw (kind-pairs u a b) at h

pub pairs_small : (w x y : ℕ) → x ≤ 1 → y ≤ 1 → w / 2 * (x + y) ≤ w
pairs_small w x y hx hy =
    let p = product_small (w / 2) x hx in
    let q = product_small (w / 2) y hy in
    let both : w / 2 * (x + y) ≡ w / 2 * x + w / 2 * y = mul-add (w / 2) x y in
    omega (arith, p, q, both)
