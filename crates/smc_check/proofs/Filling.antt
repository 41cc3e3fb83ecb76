-- How many entries of each table are filled: what the check pass counts, and what the definitions count. Assumes nothing.
use Prim.Native.Nat.{ℕ, zero, suc, ◌+◌, ◌-◌, ◌/◌, ◌%◌, ◌^◌, ◌<◌, ◌≤◌}
use mathlib.Core.Path.{◌≡◌, refl, sym, ◌∙◌}
use mathlib.Core.Logic.{◌≢◌}
use mathlib.Core.List.{List, [], ◌∷◌}
use mathlib.Core.Bool.{Bool, true, false, not, true≢false}
use native.Mathlib.Decide.{ℕ_discrete, dec_lt}
use native.Mathlib.Omega.{arith}
use lib.Dec.{eqb, leb}
use lib.Bits.{bit_and}
use lib.ListN.{length, get_or, set, replicate, length-append, length-set, get_or-eq_default}
use lib.Seq.{get_or-set_same, get_or-set_other}
use borrow.Author.Tests.{lt-ltb, le-ltb, eq-eqb, ne_eqb, lt-leb, eqb-true}
use Rattle.spec.specs.Basics.{if, Every, none, also}
use Rattle.spec.specs.Chunks.{Kind, kind_of, once, names, stores, capacity, Table, emptied, put, start, fills, missing, stored}
use Rattle.spec.proofs.Heads.{missing-unnamed}
use Rattle.spec.proofs.Computed.{passes, test_at, agree_at}
use Rattle.spec.proofs.Lists.{by-test, every-get_or, every_set}
use Rattle.smc_check.specs.Checking.{capped, fills_of, grown, naming}

capped-few : (x : ℕ) → x < capacity → capped x ≡ x
unfolding capped if
capped-few x h = rw (lt-ltb x capacity h)

capped-many : (x : ℕ) → capacity ≤ x → capped x ≡ capacity
unfolding capped if
capped-many x h = rw (le-ltb x capacity h)

-- an entry's number is below 256, so a count that goes on past it tells the same
pub capped-test : (x e : ℕ) → e < capacity → leb (capped x) e ≡ leb x e
capped-test x e h = by (dec_lt x capacity)
  where
    by : Dec (x < capacity) → leb (capped x) e ≡ leb x e
    by (yes l) = rw (capped-few x l)
    by (no l) = rw (capped-many x (omega arith), lt-leb capacity e h, lt-leb x e (omega arith))

-- which opcodes name an entry
named-at : (filled : List ℕ) (u e b : ℕ) → names (kind_of u) ≡ b → b ≢ 0 → missing filled (kind_of u) e ≡ leb (get_or filled b 0) e
unfolding missing if
named-at filled u e b eb h = rw (eb, ne_eqb b 0 h)

-- it is not filled where the opcode one below has not come so often
module _ (f : List ℕ) (u e : ℕ) (h : e < capacity) where
  below : (b v x : ℕ) → u ≡ v → names (kind_of v) ≡ b → b ≢ 0 → v - 1 ≡ x → get_or (fills_of f) b 0 ≡ capped (get_or f x 0)
      → missing (fills_of f) (kind_of u) e ≡ leb (get_or f (u - 1) 0) e
  below b v x eu en nz ex ef = rw eu (named-at (fills_of f) v e b en nz ∙ rw (ef, ex) (capped-test (get_or f x 0) e h))

  pub missing-named : naming u ≡ true → missing (fills_of f) (kind_of u) e ≡ leb (get_or f (u - 1) 0) e
  unfolding naming
  missing-named =
      by-test (λ (t : Bool). t ≡ true → missing (fills_of f) (kind_of u) e ≡ leb (get_or f (u - 1) 0) e) (eqb u 9)
      (λ t n. below 1 9 8 (eqb-true u 9 t) refl (λ z. omega arith) refl refl)
      (λ t.
      by-test (λ (t : Bool). t ≡ true → missing (fills_of f) (kind_of u) e ≡ leb (get_or f (u - 1) 0) e) (eqb u 11)
      (λ t n. below 2 11 10 (eqb-true u 11 t) refl (λ z. omega arith) refl refl)
      (λ t n. below 3 13 12 (eqb-true u 13 n) refl (λ z. omega arith) refl refl))

-- the bits of 10752
bits : passes (λ u. if (eqb (bit_and (10752 / 2 ^ u) 1) 1) (naming u) (not (naming u))) 16 ≡ true
unfolding naming if
bits = refl

pub same_test : (a b : Bool) → if a b (not b) ≡ true → a ≡ b
unfolding if
same_test true true h = refl
same_test true false h = sym h
same_test false true h = h
same_test false false h = refl

pub naming-bit : (u : ℕ) → u < 16 → eqb (bit_and (10752 / 2 ^ u) 1) 1 ≡ naming u
naming-bit u h =
    same_test (eqb (bit_and (10752 / 2 ^ u) 1) 1) (naming u)
    (test_at (λ u. if (eqb (bit_and (10752 / 2 ^ u) 1) 1) (naming u) (not (naming u))) 16 bits u h)

abbrev alike : ℕ → Bool
alike u = if (naming u) (eqb (once (kind_of u)) 1) (eqb (names (kind_of u)) 0)

none_named : passes alike 16 ≡ true
unfolding naming if
none_named = refl

module _ (u : ℕ) (h : u < 16) where
  pub missing-none : (filled : List ℕ) (e : ℕ) → naming u ≡ false → missing filled (kind_of u) e ≡ false
  unfolding if
  missing-none filled e t = missing-unnamed filled (kind_of u) e (eqb-true (names (kind_of u)) 0 (rw t at (test_at alike 16 none_named u h)))

-- a table as a chunk fills it: until it is full the next entry is the first that is not filled
pub record Filling (t : Table) : Type 0 where
  pub few : length t.cells ≤ capacity
  pub byte : t.next < capacity
  pub first : length t.cells < capacity → t.next ≡ length t.cells

pub filling-emptied : Filling emptied
filling-emptied = record { few = omega arith; byte = omega arith; first = λ h. refl }

module _ (t : Table) (cs : List ℕ) (g : Filling t) where
  put-more : length t.cells < capacity → length (put t cs).cells ≡ length t.cells + 1
  unfolding put if
  put-more h =
      let e = g.first h in
      rw (le-ltb t.next (length t.cells) (omega arith)) (length-append t.cells (cs ∷ []))

  put_same : capacity ≤ length t.cells → length (put t cs).cells ≡ length t.cells
  unfolding put if
  put_same h = rw (lt-ltb t.next (length t.cells) (omega (arith, g.byte))) (length-set t.cells t.next cs)

  next-put : (put t cs).next ≡ (t.next + 1) % capacity
  unfolding put
  next-put = refl

  filling-put : Filling (put t cs)
  filling-put = by (dec_lt (length t.cells) capacity)
    where
      by : Dec (length t.cells < capacity) → Filling (put t cs)
      by (yes h) =
          let l = put-more h in
          let e = g.first h in
          let n = next-put in
          record { few = omega arith; byte = omega arith; first = λ q. omega arith }
      by (no h) =
          let l = put_same (omega arith) in
          let n = next-put in
          let f = g.few in
          record { few = omega arith; byte = omega arith; first = λ q. absurd (omega arith) }

  -- of x entries stored, one more
  capped-put : (x : ℕ) → capped x ≡ length t.cells → capped (x + 1) ≡ length (put t cs).cells
  capped-put x e = by (dec_lt x capacity)
    where
      by : Dec (x < capacity) → capped (x + 1) ≡ length (put t cs).cells
      by (yes h) =
          let c = capped-few x h in
          let l = put-more (omega arith) in
          end (dec_lt (x + 1) capacity) (omega arith)
        where
          end : Dec (x + 1 < capacity) → x + 1 ≡ length (put t cs).cells → capped (x + 1) ≡ length (put t cs).cells
          end (yes q) z = capped-few (x + 1) q ∙ z
          end (no q) z = capped-many (x + 1) (omega arith) ∙ omega arith
      by (no h) =
          let c = capped-many x (omega arith) in
          let l = put_same (omega arith) in
          capped-many (x + 1) (omega arith) ∙ omega arith

pub filling-stored : (k : Kind) (hs : List ℕ) (ts : List Table) → Every Filling ts → Every Filling (stored k hs ts)
unfolding stored
filling-stored k hs ts e = by (eqb (stores k) 0)
  where
    by : (b : Bool) → Every Filling (if b ts (set ts (stores k) (put (get_or ts (stores k) emptied) hs)))
    by true = unfold if in e
    by false =
        unfold if in
        every_set (stores k) _ e (filling-put (get_or ts (stores k) emptied) hs (every-get_or (stores k) emptied e filling-emptied))

pub length-stored : (k : Kind) (hs : List ℕ) (ts : List Table) → length (stored k hs ts) ≡ length ts
unfolding stored
length-stored k hs ts = by (eqb (stores k) 0)
  where
    by : (b : Bool) → length (if b ts (set ts (stores k) (put (get_or ts (stores k) emptied) hs))) ≡ length ts
    by true = unfold if in refl
    by false = unfold if in length-set ts (stores k) (put (get_or ts (stores k) emptied) hs)

-- the table of b bits after an opcode: with an entry more where the opcode stores in it, and otherwise as it was
module _ (k : Kind) (hs : List ℕ) (ts : List Table) (b : ℕ) where
  pub stored_same : stores k ≡ b → b ≢ 0 → b < length ts → get_or (stored k hs ts) b emptied ≡ put (get_or ts b emptied) hs
  unfolding stored if
  stored_same e h l = rw (e, ne_eqb b 0 h) (get_or-set_same ts b (put (get_or ts b emptied) hs) emptied l)

  pub stored_other : stores k ≢ b → get_or (stored k hs ts) b emptied ≡ get_or ts b emptied
  unfolding stored
  stored_other h = by (eqb (stores k) 0)
    where
      by : (t : Bool) → get_or (if t ts (set ts (stores k) (put (get_or ts (stores k) emptied) hs))) b emptied ≡ get_or ts b emptied
      by true = unfold if in refl
      by false = unfold if in get_or-set_other ts (stores k) b (put (get_or ts (stores k) emptied) hs) emptied (λ e. h (sym e))

pub stored-none-of : (k : Kind) (hs : List ℕ) (ts : List Table) → stores k ≡ 0 → stored k hs ts ≡ ts
unfolding stored if
stored-none-of k hs ts e = rw (eq-eqb (stores k) 0 e)

pub stored-none : (k : Kind) (hs : List ℕ) (ts : List Table) → get_or (stored k hs ts) 0 emptied ≡ get_or ts 0 emptied
unfolding stored
stored-none k hs ts = by (stores k)
  where
    by : (b : ℕ) → get_or (if (eqb b 0) ts (set ts b (put (get_or ts b emptied) hs))) 0 emptied ≡ get_or ts 0 emptied
    by zero = unfold if in refl
    by (suc b) = unfold if in rw (ne_eqb (suc b) 0 (λ e. omega arith))
        (get_or-set_other ts (suc b) 0 (put (get_or ts (suc b) emptied) hs) emptied (λ e. omega arith))

-- f counts what is stored in the tables
pub record Counted (f : List ℕ) (ts : List Table) : Type 0 where
  pub sixteen : length f ≡ 16
  pub four : length ts ≡ 4
  pub none : length (get_or ts 0 emptied).cells ≡ 0
  pub pairs : capped (get_or f 8 0) ≡ length (get_or ts 1 emptied).cells
  pub quads : capped (get_or f 10 0) ≡ length (get_or ts 2 emptied).cells
  pub octets : capped (get_or f 12 0) ≡ length (get_or ts 3 emptied).cells
  pub filling : Every Filling ts

pub counted_start : Counted (replicate 16 0) start.tables
unfolding capped if
counted_start =
    record {
      sixteen = refl;
      four = refl;
      none = refl;
      pairs = refl;
      quads = refl;
      octets = refl;
      filling = also filling-emptied (also filling-emptied (also filling-emptied (also filling-emptied none)));
    }

fills-listed : (ts : List Table) → length ts ≡ 4
    → fills ts ≡ length (get_or ts 0 emptied).cells ∷ length (get_or ts 1 emptied).cells ∷ length (get_or ts 2 emptied).cells ∷ length (get_or ts 3 emptied).cells ∷
    []
fills-listed [] e = absurd (omega arith)
fills-listed (a ∷ []) e = absurd (omega arith)
fills-listed (a ∷ b ∷ []) e = absurd (omega arith)
fills-listed (a ∷ b ∷ c ∷ []) e = absurd (omega arith)
fills-listed (a ∷ b ∷ c ∷ d ∷ []) e = refl
fills-listed (a ∷ b ∷ c ∷ d ∷ x ∷ ts) e = absurd (omega arith)

pub counted-fills : (f : List ℕ) (ts : List Table) → Counted f ts → fills_of f ≡ fills ts
counted-fills f ts g = rw (fills-listed ts g.four, g.none, g.pairs, g.quads, g.octets)

module _ (f : List ℕ) (ts : List Table) (g : Counted f ts) (u : ℕ) (h : u < 16) (hs : List ℕ) where
  -- v is the opcode that stores in the table of b bits
  counts : (b v : ℕ) → b ≢ 0 → b < 4 → (u ≡ v → stores (kind_of u) ≡ b) → (u ≢ v → stores (kind_of u) ≢ b)
      → capped (get_or f v 0) ≡ length (get_or ts b emptied).cells → capped (get_or (grown f u) v 0) ≡ length (get_or (stored (kind_of u) hs ts) b emptied).cells
  counts b v nz l same other e = by (ℕ_discrete u v)
    where
      by : Dec (u ≡ v) → capped (get_or (grown f u) v 0) ≡ length (get_or (stored (kind_of u) hs ts) b emptied).cells
      by (yes q) =
          rw (stored_same (kind_of u) hs ts b (same q) nz (rw g.four l), ← q, get_or-set_same f u (get_or f u 0 + 1) 0 (rw g.sixteen h))
          (capped-put (get_or ts b emptied) hs (every-get_or b emptied g.filling filling-emptied) (get_or f u 0) (rw (← q) at e))
      by (no q) = rw (get_or-set_other f u v (get_or f u 0 + 1) 0 (λ z. q (sym z)), stored_other (kind_of u) hs ts b (other q)) e

  -- every other opcode below 16 does not
  other-than : (b v : ℕ) → passes (λ u. if (eqb u v) true (not (eqb (stores (kind_of u)) b))) 16 ≡ true → u ≢ v → stores (kind_of u) ≢ b
  unfolding if
  other-than b v t ne e =
      true≢false (sym (rw (ne_eqb u v ne, eq-eqb (stores (kind_of u)) b e) at (test_at (λ u. if (eqb u v) true (not (eqb (stores (kind_of u)) b))) 16 t u h)))

  pub counted-grown : Counted (grown f u) (stored (kind_of u) hs ts)
  unfolding if
  counted-grown =
      record {
        sixteen = length-set f u (get_or f u 0 + 1) ∙ g.sixteen;
        four = length-stored (kind_of u) hs ts ∙ g.four;
        none = rw (stored-none (kind_of u) hs ts) g.none;
        pairs = counts 1 8 (λ z. omega arith) (omega arith) (λ q. rw q) (other-than 1 8 refl) g.pairs;
        quads = counts 2 10 (λ z. omega arith) (omega arith) (λ q. rw q) (other-than 2 10 refl) g.quads;
        octets = counts 3 12 (λ z. omega arith) (omega arith) (λ q. rw q) (other-than 3 12 refl) g.octets;
        filling = filling-stored (kind_of u) hs ts g.filling;
      }

-- no opcode has come more often than there are bytes before the place
abbrev pub Few : List ℕ → ℕ → Type 0
Few f at = (u : ℕ) → get_or f u 0 ≤ at

pub few-start : (at : ℕ) → Few (replicate 16 0) at
few-start at u = by (dec_lt u 16)
  where
    by : Dec (u < 16) → get_or (replicate 16 0) u 0 ≤ at
    by (yes h) = omega (arith, agree_at (λ u. get_or (replicate 16 0) u 0) (λ u. 0) 16 refl u h)
    by (no h) = rw (get_or-eq_default {A = ℕ} (replicate 16 0) 0 {n = u} (omega arith)) (omega arith)

pub few-grown : (f : List ℕ) (at next u : ℕ) → length f ≡ 16 → u < 16 → at < next → Few f at → Few (grown f u) next
few-grown f at next u l h far few v = by (ℕ_discrete u v)
  where
    by : Dec (u ≡ v) → get_or (grown f u) v 0 ≤ next
    by (yes q) = rw (← q, get_or-set_same f u (get_or f u 0 + 1) 0 (rw l h)) (omega (arith, few u, far))
    by (no q) = rw (get_or-set_other f u v (get_or f u 0 + 1) 0 (λ z. q (sym z))) (omega (arith, few v, far))
