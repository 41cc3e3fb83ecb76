-- Two chunks that are alike up to a place are read alike up to there: an opcode hangs on its own bytes alone. Assumes nothing.
use Prim.Native.Nat.{ℕ, ◌+◌, ◌*◌, ◌%◌, ◌<◌, ◌≤◌}
use mathlib.Core.Path.{◌≡◌, refl, sym, ap, subst, ◌∙◌}
use mathlib.Core.List.{List, ◌++◌}
use mathlib.Core.Bool.{Bool, true, false}
use native.Mathlib.Nat.{mul-suc, mul-le-mul_left}
use native.Mathlib.Omega.{arith}
use lib.ListN.{length, get_or}
use lib.Seq.{ext_get_or}
use Rattle.spec.specs.Basics.{if, part}
use Rattle.spec.specs.Pictures.{Origin, given}
use Rattle.spec.specs.Chunks.{Kind, skip, fill, whole, copy, store, named, kind_of, counted, times, reach, once, each, missing}
use Rattle.spec.specs.Chunks.{Head, runs, upper_at, count_at, body_at, opcode, blocks_by, extend, stored, fills, State, Step, stop, go, act, step}
use Rattle.spec.proofs.Lists.{map-congr, every-from, every-weaken}
use Rattle.spec.proofs.Parts.{part_at, length_part}
use Rattle.spec.proofs.Heads.{Fits, Known, known-head, body-after, missing-unnamed, opcode-body, body-runs}

-- The state after the opcode at s[at], where nothing refuses it: all by its upper half-byte, its count, and the place of its further bytes
abbrev pub after : List ℕ → State → State
after s st =
    let k = kind_of (upper_at s st.at) in
    let m = times k * count_at s st.at in
    let hs = part s (body_at s st.at) (once k) in
    let rest = body_at s st.at + once k in
    record { at = rest + each k * m; made = extend k hs s rest m st; tables = stored k hs st.tables }

-- what is known where a step goes on
pub record Taken (n : ℕ) (s : List ℕ) (st st' : State) : Type 0 where
  pub fits : Fits n s (length st.made) (fills st.tables) (upper_at s st.at) (count_at s st.at) (body_at s st.at)
  pub next : st' ≡ after s st

abbrev Leads : ℕ → List ℕ → State → Step → Type 0
Leads n s st (stop e) = Unit {0}
Leads n s st (go st') = Taken n s st st'

leads : (n : ℕ) (s : List ℕ) (st : State) {x : Head}
    → Known n s (length st.made) (fills st.tables) (upper_at s st.at) (count_at s st.at) (body_at s st.at) x → Leads n s st (act s st x)
leads n s st Known.bad = tt
leads n s st (Known.good fits) = record { fits = fits; next = refl }

pub taken : (n : ℕ) (s : List ℕ) (st st' : State) → step n s st ≡ go st' → Taken n s st st'
unfolding step
taken n s st st' e = subst (Leads n s st) e (leads n s st (known-head n s st.at (length st.made) (fills st.tables)))

-- alike from byte 4 to a place: the four bytes before the opcodes are the chunk's own
pub record Alike (p : ℕ) (s s' : List ℕ) : Type 0 where
  pub here : p ≤ length s
  pub there : p ≤ length s'
  pub bytes : (i : ℕ) → 4 ≤ i → i < p → get_or s' i 0 ≡ get_or s i 0

module _ {p : ℕ} {s s' : List ℕ} (alike : Alike p s s') where
  part-alike : (a w : ℕ) → 4 ≤ a → a + w ≤ p → part s' a w ≡ part s a w
  part-alike a w first h =
      let here = alike.here in
      let there = alike.there in
      let len = length_part s' a w (omega arith) in
      ext_get_or 0 _ _ (len ∙ sym (length_part s a w (omega arith))) (λ j hj.
      let g : j < w = rw len at hj in
      part_at s' a w j 0 g ∙ alike.bytes (a + j) (omega arith) (omega arith) ∙ sym (part_at s a w j 0 g))

  blocks-alike : (f : List ℕ → List ℕ) (size a m : ℕ) → 4 ≤ a → a + size * m ≤ p → blocks_by f size s' a m ≡ blocks_by f size s a m
  unfolding blocks_by
  blocks-alike f size a m first h =
      map-congr (every-weaken (λ i l.
      let more = mul-le-mul_left size l in
      let turn = mul-suc size i in
      ap (λ (bs : List ℕ). given (f bs)) (part-alike (a + size * i) size (omega arith) (omega arith)))
      (every-from 0 m m (omega arith)))

  extend-alike : (k : Kind) (hs : List ℕ) (a m : ℕ) (st : State) → 4 ≤ a → a + each k * m ≤ p → extend k hs s' a m st ≡ extend k hs s a m st
  unfolding extend
  extend-alike skip hs a m st first h = refl
  extend-alike fill hs a m st first h = ap (λ (l : List Origin). st.made ++ l) (blocks-alike _ 0 a m first h)
  extend-alike whole hs a m st first h = ap (λ (l : List Origin). st.made ++ l) (blocks-alike _ 16 a m first h)
  extend-alike (copy d) hs a m st first h = refl
  extend-alike (store b) hs a m st first h = ap (λ (l : List Origin). st.made ++ l) (blocks-alike _ (2 * b) a m first h)
  extend-alike (named b) hs a m st first h = ap (λ (l : List Origin). st.made ++ l) (blocks-alike _ (2 * b) a m first h)

  -- an entry is looked for only by a kind that has a byte for its number
  missing-alike : (filled : List ℕ) (k : Kind) (b : ℕ) → 4 ≤ b → b + once k ≤ p → missing filled k (get_or s b 0) ≡ false
      → missing filled k (get_or s' b 0) ≡ false
  missing-alike filled skip b first h e = missing-unnamed filled skip (get_or s' b 0) refl
  missing-alike filled fill b first h e = missing-unnamed filled fill (get_or s' b 0) refl
  missing-alike filled whole b first h e = missing-unnamed filled whole (get_or s' b 0) refl
  missing-alike filled (copy d) b first h e = missing-unnamed filled (copy d) (get_or s' b 0) refl
  missing-alike filled (store c) b first h e = missing-unnamed filled (store c) (get_or s' b 0) refl
  missing-alike filled (named c) b first h e = rw (alike.bytes b first (omega arith)) e

  -- the opcode's first bytes
  module _ (at : ℕ) (first : 4 ≤ at) (h : body_at s at ≤ p) where
    upper-alike : upper_at s' at ≡ upper_at s at
    upper-alike = let l = body-after s at in rw (alike.bytes at first (omega arith))

    body_alike : body_at s' at ≡ body_at s at
    unfolding body_at
    body_alike = rw upper-alike

    count-alike : count_at s' at ≡ count_at s at
    unfolding count_at body_at if
    count-alike = rw upper-alike (by (counted (upper_at s at)) h)
      where
        by : (wide : Bool) → if wide (at + 2) (at + 1) ≤ p
            → if wide (1 + get_or s' (at + 1) 0) (1 + get_or s' at 0 % 16) ≡ if wide (1 + get_or s (at + 1) 0) (1 + get_or s at 0 % 16)
        by true l = rw (alike.bytes (at + 1) (omega arith) (omega arith))
        by false l = rw (alike.bytes at first (omega arith))

  opcode-alike : (n : ℕ) (at k : ℕ) (filled : List ℕ) → 4 ≤ at → Fits n s k filled (upper_at s at) (count_at s at) (body_at s at)
      → let kd = kind_of (upper_at s at) in
      let m = times kd * count_at s at in
      body_at s at + once kd + each kd * m ≤ p → opcode n s' at k filled ≡ runs kd m (body_at s at)
  opcode-alike n at k filled first fits end =
      let there = alike.there in
      let kd = kind_of (upper_at s at) in
      let b = body_at s at in
      let l = body-after s at in
      let h : b ≤ p = omega arith in
      let upper = upper-alike at first h in
      let place = body_alike at first h in
      opcode-body n s' at k filled (rw upper fits.known) (rw place (omega arith))
      ∙ rw (upper, place, count-alike at first h) (body-runs n s' k filled (upper_at s at) (count_at s at) b
      (reach kd) refl fits.before (times kd) refl fits.within (once kd) refl (omega arith)
      (missing-alike filled kd b (omega arith) (omega arith) fits.full) (each kd) refl (omega arith))

  -- a step that ends before the place
  pub step-alike : (n : ℕ) (st st' : State) → 4 ≤ st.at → step n s st ≡ go st' → st'.at ≤ p → step n s' st ≡ go st'
  unfolding step
  step-alike n st st' first e end =
      let t = taken n s st st' e in
      let kd = kind_of (upper_at s st.at) in
      let m = times kd * count_at s st.at in
      let b = body_at s st.at in
      let l = body-after s st.at in
      let end' : b + once kd + each kd * m ≤ p = rw t.next at end in
      let hs = part-alike b (once kd) (omega arith) (omega arith) in
      let made = extend-alike kd (part s b (once kd)) (b + once kd) m st (omega arith) end' in
      let made' : extend kd (part s' b (once kd)) s' (b + once kd) m st ≡ extend kd (part s b (once kd)) s (b + once kd) m st = rw hs made in
      ap (act s' st) (opcode-alike n st.at (length st.made) (fills st.tables) first t.fits end')
      ∙ (λ i. go (record { at = b + once kd + each kd * m; made = made' i; tables = stored kd (hs i) st.tables }))
      ∙ ap go (sym t.next)
