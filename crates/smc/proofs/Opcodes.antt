-- The opcode at a place of an accepted chunk, by its kind. Assumes nothing.
use Rattle.std.proofs.Common.{◌≡◌, ℕ, suc, ◌+◌, ◌*◌, ◌<◌, ◌≤◌, ◌≢◌, List, length, sym, refl, ap, ◌∙◌, subst, arith}
use native.Mathlib.Decide.{ℕ_discrete}
use Rattle.spec.specs.Chunks.{Kind, kind_of, times, reach, once, each, stores, upper_at, body_at}
use Rattle.spec.proofs.Computed.{agree_at}
use Rattle.smc_check.specs.declared.heads.Lead.{Lead}
use Rattle.smc_check.specs.Heads.{Leads}
use Rattle.smc.specs.Painting.{kind_at, Room}

-- its kind, by the upper half-byte
pub kind-is : (s : List ℕ) (at u : ℕ) → upper_at s at ≡ u → kind_at s at ≡ kind_of u
kind-is s at u e = ap kind_of e

-- what holds of two half-bytes' kinds holds of an opcode that has one of them
pub of_either : (P : Kind → Type 0) (s : List ℕ) (at u : ℕ) → u ≤ upper_at s at → upper_at s at < u + 2 → P (kind_of u) → P (kind_of (suc u)) → P (kind_at s at)
of_either P s at u h l p p' = by (ℕ_discrete (upper_at s at) u)
  where
    by : Dec (upper_at s at ≡ u) → P (kind_at s at)
    by (yes q) = subst P (sym (kind-is s at u q)) p
    by (no q) = subst P (sym (kind-is s at (suc u) (omega arith))) p'

pub kind-either : (s : List ℕ) (at u : ℕ) → u ≤ upper_at s at → upper_at s at < u + 2 → (x : Kind) → kind_of u ≡ x → kind_of (suc u) ≡ x → kind_at s at ≡ x
kind-either s at u h l x e e' = of_either (λ (k : Kind). k ≡ x) s at u h l e e'

pub stores-low : (s : List ℕ) (at : ℕ) → upper_at s at < 8 → stores (kind_at s at) ≡ 0
stores-low s at h = agree_at (λ u. stores (kind_of u)) (λ u. 0) 8 refl (upper_at s at) h

pub count-within : (n : ℕ) (s : List ℕ) (at k : ℕ) → Room n s at k → body_at s at ≤ length s
count-within n s at k g = omega (arith, g.inside)

-- what it has been checked for, in the numbers that the code holds
pub record Facts (n : ℕ) (s : List ℕ) (k : ℕ) (x : Kind) (count body : ℕ) : Type 0 where
  pub before : reach x ≤ k
  pub within : k + times x * count ≤ n
  pub inside : body + once x + each x * (times x * count) ≤ length s

module _ {n : ℕ} {s : List ℕ} {at k : ℕ} {l : Lead} (g : Room n s at k) (el : Leads s at l) where
  facts : {x : Kind} → kind_at s at ≡ x → Facts n s k x l.count l.body
  facts e = record { before = rw e at g.before; within = rw el.count (rw e at g.within); inside = rw (el.count, el.body) (rw e at g.inside) }

  -- its upper half-byte is u; or it is one of u and the next, and not u; or it is one of two that mean the same
  pub kind-of : {u : ℕ} → l.upper ≡ u → kind_at s at ≡ kind_of u
  kind-of {u} e = kind-is s at u (sym el.upper ∙ e)

  pub facts-of : {u : ℕ} → l.upper ≡ u → Facts n s k (kind_of u) l.count l.body
  facts-of e = facts (kind-of e)

  pub kind-other : {u : ℕ} → l.upper ≢ u → (u ≤ upper_at s at) × (upper_at s at < u + 2) → kind_at s at ≡ kind_of (suc u)
  kind-other {u} ne h = kind-is s at (suc u) (omega (arith, el.upper, h.0, h.1))

  pub facts-other : {u : ℕ} → l.upper ≢ u → (u ≤ upper_at s at) × (upper_at s at < u + 2) → Facts n s k (kind_of (suc u)) l.count l.body
  facts-other ne h = facts (kind-other ne h)

  pub kind-two : (u : ℕ) (x : Kind) → u ≤ l.upper → l.upper < u + 2 → kind_of u ≡ x → kind_of (suc u) ≡ x → kind_at s at ≡ x
  kind-two u x h h' e e' = kind-either s at u (omega (arith, el.upper)) (omega (arith, el.upper)) x e e'

  pub facts-two : (u : ℕ) (x : Kind) → u ≤ l.upper → l.upper < u + 2 → kind_of u ≡ x → kind_of (suc u) ≡ x → Facts n s k x l.count l.body
  facts-two u x h h' e e' = facts (kind-two u x h h' e e')

  -- only E is left where F is known not to be there
  pub is_whole : 14 ≤ upper_at s at → l.upper ≡ 14
  is_whole h = omega (arith, el.upper, g.known)
