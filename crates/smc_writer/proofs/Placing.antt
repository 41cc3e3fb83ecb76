-- Bytes over the front of what was there, or from a place on: one more, several more, and a part that is lent. Assumes nothing.
use Prim.Native.Nat.{ℕ, suc, ◌+◌, ◌-◌, ◌*◌, ◌<◌, ◌≤◌}
use mathlib.Core.Path.{◌≡◌, refl, sym, ap, ◌∙◌}
use mathlib.Core.List.{List, [], ◌∷◌, ◌++◌, map, append_assoc, append-nil}
use native.Mathlib.Omega.{arith}
use lib.ListN.{length, get_or, take, drop, set, length-append, length-drop, length-take, drop_of_length-le}
use lib.Seq.{drop-cons, set_at, take_at, take_all, drop_at, drop-drop, length-take-le}
use borrow.Author.Tests.{le-leb, lt-leb}
use borrow.Rule.Slice.PartMut.{put_mid}
use Rattle.spec.specs.Basics.{if}
use Rattle.spec.specs.Flags.{flag_bytes}
use Rattle.spec.specs.Writing.{counting, onto, entry_of, tabled}
use Rattle.smc_writer.specs.Put.{over}

length-onto : (bs o : List ℕ) → length bs ≤ length o → length (onto bs o) ≡ length o
length-onto bs o h = length-append bs (drop (length bs) o) ∙ rw (length-drop (length bs) o) (omega arith)

-- one byte more
pub onto-set : (bs o : List ℕ) (i v : ℕ) → length bs ≡ i → i < length o → set (onto bs o) i v ≡ onto (bs ++ v ∷ []) o
onto-set bs o i v e h =
    let n : length (bs ++ v ∷ []) ≡ suc i = length-append bs (v ∷ []) ∙ omega arith in
    rw (n, e, drop-cons o i 0 h) (set_at bs (get_or o i 0) (drop (suc i) o) v i e ∙ sym (append_assoc bs (v ∷ []) (drop (suc i) o)))

module _ (at : ℕ) (bs o : List ℕ) where
  length_front : at ≤ length o → length (take at o ++ bs) ≡ at + length bs
  length_front h = length-append (take at o) bs ∙ rw (length-take-le at o h)

  pub length_over : at + length bs ≤ length o → length (over at bs o) ≡ length o
  unfolding over
  length_over h = length-onto (take at o ++ bs) o (rw (length_front (omega arith)) h)

-- a part that is written whole
pub over_part : (at k : ℕ) (bs o : List ℕ) → at + length bs ≤ length o → k ≡ length bs → {mid : List ℕ} → mid ≡ bs → put_mid at k o mid ≡ over at bs o
unfolding over
over_part at k bs o h e em = rw (em, e, length_front at bs o (omega arith), drop-drop (length bs) at o) (sym (append_assoc (take at o) bs _))

-- several more, behind those that stand there
pub over-onto : (done bs o : List ℕ) (at : ℕ) → length done ≡ at → over at bs (onto done o) ≡ onto (done ++ bs) o
unfolding over
over-onto done bs o at e =
    let t = take_at done (drop (length done) o) at e in
    let d : drop (length (done ++ bs)) (onto done o) ≡ drop (length (done ++ bs)) o =
    rw (length-append done bs)
    (sym (drop-drop (length bs) (length done) (onto done o)) ∙ ap (drop (length bs)) (drop_at done (drop (length done) o) (length done) refl)
    ∙ drop-drop (length bs) (length done) o) in
    rw t (ap (λ (l : List ℕ). (done ++ bs) ++ l) d)

-- behind a first byte
pub over_first : (v : ℕ) (bs o : List ℕ) → 0 < length o → over 1 bs (set o 0 v) ≡ onto (v ∷ bs) o
over_first v bs o h = ap (over 1 bs) (onto-set [] o 0 v refl h) ∙ over-onto (v ∷ []) bs o 1 refl

-- a part of the output lent from a place on, of which the front is written
pub lent : (l : List ℕ) (at : ℕ) → at ≤ length l → (bs mid : List ℕ) → mid ≡ onto bs (take (length l - at) (drop at l))
    → put_mid at (length l - at) l mid ≡ over at bs l
unfolding over
lent l at h bs mid em =
    let d = length-drop at l in
    let r : take (length l - at) (drop at l) ≡ drop at l = take_all (length l - at) (drop at l) (omega arith) in
    let z : drop (length l - at) (drop at l) ≡ [] = drop_of_length-le (drop at l) {i = length l - at} (omega arith) in
    rw (em, r, z, append-nil (onto bs (drop at l)), length_front at bs l h, drop-drop (length bs) at l) (sym (append_assoc (take at l) bs _))

pub length-lent : (l : List ℕ) (at : ℕ) → at ≤ length l → length (take (length l - at) (drop at l)) ≡ length l - at
length-lent l at h = rw (length-take (length l - at) (drop at l), length-drop at l) (omega arith)

-- a count, by the test of the code, where u is the opcode
module _ (u m : ℕ) where
  counting-short : m ≤ 16 → counting u m ≡ (16 * u + (m - 1)) ∷ []
  unfolding counting if
  counting-short h = rw (le-leb m 16 h)

  counting-long : 16 < m → counting u m ≡ 16 * (u + 1) ∷ (m - 1) ∷ []
  unfolding counting if
  counting-long h = rw (lt-leb m 16 h)

  pub length-short : m ≤ 16 → 1 ≡ length (counting u m)
  length-short h = rw (counting-short h)

  pub length-long : 16 < m → 2 ≡ length (counting u m)
  length-long h = rw (counting-long h)

  module _ {v : ℕ} (e : v ≡ u) (o : List ℕ) where
    pub short-put : m ≤ 16 → 0 < length o → set o 0 (16 * v + (m - 1)) ≡ onto (counting u m) o
    short-put h room = rw (e, counting-short h) (onto-set [] o 0 (16 * u + (m - 1)) refl room)

    pub long-put : 16 < m → 1 < length o → set (set o 0 (16 * (v + 1))) 1 (m - 1) ≡ onto (counting u m) o
    long-put h room =
        rw (e, counting-long h)
        (ap (λ (l : List ℕ). set l 1 (m - 1)) (onto-set [] o 0 (16 * (u + 1)) refl (omega arith)) ∙ onto-set (16 * (u + 1) ∷ []) o 1 (m - 1) refl room)

-- a block under 8, A or C: an opcode, its colours and its flags, one behind the other
pub table-put : (b : ℕ) (es px o : List ℕ) {op : ℕ} → op ≡ 16 * (6 + 2 * b) → {es' fs : List ℕ} → es' ≡ es → fs ≡ flag_bytes b (map (entry_of es) px)
    → 1 + length es' + length fs ≤ length o → {l m : List ℕ} → l ≡ over 1 es' (set o 0 op) → m ≡ over (1 + length es') fs l
    → m ≡ onto (tabled b es px) o
unfolding tabled
table-put b es px o {op} eo {es'} {fs} ee ef room el em =
    em ∙ ap (over (1 + length es') fs) (el ∙ over_first op es' o (omega arith))
    ∙ over-onto (op ∷ es') fs o (1 + length es') (omega arith)
    ∙ (λ i. onto (eo i ∷ ee i ++ ef i) o)
