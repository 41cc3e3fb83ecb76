-- Parts of a list, and runs of stores into one. Assumes nothing.
use Prim.Native.Nat.{ℕ, zero, suc, ◌+◌, ◌<◌, ◌≤◌}
use mathlib.Core.Path.{◌≡◌, refl, sym, ap, ◌∙◌}
use mathlib.Core.Logic.{◌≢◌}
use mathlib.Core.List.{List, [], ◌∷◌, ◌++◌, map, append_assoc}
use native.Mathlib.Nat.{add-zero, add-suc, suc-add}
use native.Mathlib.Omega.{arith}
use lib.ListN.{length, get_or, set, take, drop, length-drop, length-map, length-set}
use borrow.Rule.Slice.PartMut.{put_mid}
use Rattle.std.proofs.lemmas.List.Edits.{sets-eq}
use lib.Seq.{sets, length-sets, drop-drop, get_or-take, get_or-drop, get_or-set_same, get_or-set_other, length-take-le, take_at, drop_at, ext_get_or}
use Rattle.spec.specs.Basics.{from, part}
use Rattle.spec.proofs.Lists.{get_or-rule, length_from}

pub part_at : (l : List ℕ) (a w j d : ℕ) → j < w → get_or (part l a w) j d ≡ get_or l (a + j) d
part_at l a w j d h = rw (get_or-take, get_or-drop)

pub length_part : (l : List ℕ) (a w : ℕ) → a + w ≤ length l → length (part l a w) ≡ w
length_part l a w h = length-take-le w _ (rw length-drop (omega arith))

-- what stands between two others
pub part_of : {s : List ℕ} (before l after : List ℕ) (a w : ℕ) → s ≡ before ++ (l ++ after) → length before ≡ a → length l ≡ w → part s a w ≡ l
part_of before l after a w e ea ew = rw (e, drop_at before (l ++ after) a ea) (take_at l after w ew)

-- element by element, for a literal width
pub part-listed : (l : List ℕ) (a w : ℕ) → a + w ≤ length l → part l a w ≡ map (λ i. get_or l (a + i) 0) (from 0 w)
part-listed l a w h =
    let len = length_part l a w h in
    ext_get_or 0 _ _ (len ∙ sym (simp (length-map, length_from))) (λ j hj.
    let g : j < w = rw len at hj in
    part_at l a w j 0 g ∙ sym (get_or-rule (λ i. get_or l (a + i) 0) w j 0 g))

-- what a slice holds after the part of it from `a` on was stored at once
pub put_mid-sets : (l : List ℕ) (a k : ℕ) (ys vs : List ℕ) → ys ≡ vs → k ≡ length vs → a + length vs ≤ length l → put_mid a k l ys ≡ sets l a vs
put_mid-sets l a k ys vs e ek h = rw (e, ek, sets-eq vs l a h, drop-drop) (sym (append_assoc (take a l) vs (drop (a + length vs) l)))

-- a part of a mapped list
map-take : (f : ℕ → ℕ) (w : ℕ) (l : List ℕ) → map f (take w l) ≡ take w (map f l)
map-take f zero l = refl
map-take f (suc w) [] = refl
map-take f (suc w) (x ∷ l) = ap (λ (t : List ℕ). f x ∷ t) (map-take f w l)

map-drop : (f : ℕ → ℕ) (a : ℕ) (l : List ℕ) → map f (drop a l) ≡ drop a (map f l)
map-drop f zero l = refl
map-drop f (suc a) [] = refl
map-drop f (suc a) (x ∷ l) = map-drop f a l

pub map-part : (f : ℕ → ℕ) (l : List ℕ) (a w : ℕ) → map f (part l a w) ≡ part (map f l) a w
map-part f l a w = map-take f w (drop a l) ∙ ap (take w) (map-drop f a l)

-- a run of stores: one more at the end, elsewhere, and in its own place
pub sets_more : (vs l : List ℕ) (i v : ℕ) → sets l i (vs ++ v ∷ []) ≡ set (sets l i vs) (i + length vs) v
sets_more [] l i v = rw (add-zero i)
sets_more (x ∷ vs) l i v = sets_more vs (set l i x) (suc i) v ∙ rw (add-suc i (length vs), suc-add i (length vs))

pub sets-out : (l : List ℕ) (i : ℕ) (vs : List ℕ) (p d : ℕ) → ((j : ℕ) → j < length vs → p ≢ i + j) → get_or (sets l i vs) p d ≡ get_or l p d
sets-out l i [] p d h = refl
sets-out l i (v ∷ vs) p d h =
    sets-out (set l i v) (suc i) vs p d (λ j hj e. h (suc j) (omega arith) (omega arith))
    ∙ get_or-set_other l i p v d (λ e. h 0 (omega arith) (omega arith))

pub sets-in : (l : List ℕ) (i : ℕ) (vs : List ℕ) (j d : ℕ) → j < length vs → i + length vs ≤ length l → get_or (sets l i vs) (i + j) d ≡ get_or vs j d
sets-in l i [] j d h g = absurd (omega arith)
sets-in l i (v ∷ vs) zero d h g =
    let e : i + 0 ≡ i = omega arith in
    rw e (sets-out (set l i v) (suc i) vs i d (λ j hj q. omega arith) ∙ get_or-set_same l i v d (omega arith))
sets-in l i (v ∷ vs) (suc j) d h g =
    let e : i + suc j ≡ suc i + j = omega arith in
    rw e (sets-in (set l i v) (suc i) vs j d (omega arith) (rw length-set (omega arith)))

-- what was stored is found, and a part that lies apart is as it was
pub part-sets : (l : List ℕ) (a : ℕ) (vs : List ℕ) (w : ℕ) → length vs ≡ w → a + w ≤ length l → part (sets l a vs) a w ≡ vs
part-sets l a vs w ev h =
    let len = length_part (sets l a vs) a w (rw length-sets h) in
    ext_get_or 0 _ _ (len ∙ sym ev) (λ j hj.
    let g : j < w = rw len at hj in
    part_at (sets l a vs) a w j 0 g ∙ sets-in l a vs j 0 (omega arith) (omega arith))

pub part-sets-apart : (l : List ℕ) (a : ℕ) (vs : List ℕ) (b w : ℕ) → ((i j : ℕ) → i < w → j < length vs → b + i ≢ a + j) → b + w ≤ length l
    → part (sets l a vs) b w ≡ part l b w
part-sets-apart l a vs b w apart h =
    let len = length_part (sets l a vs) b w (rw length-sets h) in
    ext_get_or 0 _ _ (len ∙ sym (length_part l b w h)) (λ i hi.
    let g : i < w = rw len at hi in
    part_at (sets l a vs) b w i 0 g
    ∙ sets-out l a vs (b + i) 0 (λ j hj. apart i j g hj)
    ∙ sym (part_at l b w i 0 g))
