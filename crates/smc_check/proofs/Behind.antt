-- The state of the definition behind the numbers of the check loop. Assumes nothing.
use Prim.Native.Nat.{ℕ, ◌+◌, ◌*◌, ◌<◌, ◌≤◌}
use mathlib.Core.Path.{◌≡◌, refl, sym, subst, ◌∙◌}
use mathlib.Core.List.{List, []}
use mathlib.Core.Bool.{true, false, true≢false}
use Rattle.std.specs.Prelude.{Result, Ok, Err, IsErr, IsErrAnd}
use native.Mathlib.Omega.{arith}
use lib.ListN.{length, drop, replicate}
use borrow.Author.Tests.{lt-ltb, le-ltb, eq-eqb, ne_eqb}
use Rattle.spec.specs.Basics.{if, part}
use Rattle.spec.specs.Answers.{refusal_number, chunk_short, length_differs, blocks_remain, bytes_follow, answer_at, answer}
use Rattle.spec.specs.Flags.{number}
use Rattle.spec.specs.Chunks as Chunks
use Rattle.spec.specs.Chunks.{
  Kind,
  kind_of,
  times,
  reach,
  once,
  each,
  upper_at,
  count_at,
  body_at,
  opcode,
  act,
  step,
  State,
  start,
  extend,
  stored,
  refused,
  accepted,
  padding,
  resume,
  loop,
  decode,
  verdict,
}
use Rattle.spec.proofs.Loops.{unroll, loop-remains, loop-accepts, loop-follows}
use Rattle.spec.proofs.Made.{length-extend}
use Rattle.spec.proofs.Sound.{Checked, good, checked-head}
use Rattle.spec.specs.declared.Answer.{Answer}
use Rattle.spec.specs.declared.Refusal.{Refusal}
use Rattle.spec.specs.Pictures.{Origin}
use Rattle.smc_check.specs.declared.here.Run.{Run}
use Rattle.smc_check.specs.declared.check.Used.{Used}
use Rattle.smc_check.specs.declared.count.Running.{Running}
use Rattle.smc_check.specs.Checking.{grown, fills_of, Found, bad, runs}
use Rattle.smc_check.specs.Going.{Made, Advances, Concludes, stops, passes}
use Rattle.smc_check.specs.Tallying.{StandsAt, summed, Balanced, sums}
use Rattle.smc_check.proofs.Tallies.{tally-end}
use Rattle.smc_check.proofs.Filling.{Counted, counted_start, counted-fills, counted-grown, Few, few-start, few-grown}

pub record Behind (n : ℕ) (s : List ℕ) (at k : ℕ) (f : List ℕ) : Type 0 where
  pub st : State
  pub ats : at ≡ st.at
  pub ks : k ≡ length st.made
  pub counted : Counted f st.tables
  pub same : decode n s ≡ loop (length s) n s st
  pub most : k ≤ n
  pub within : at ≤ length s
  pub few : Few f at

-- with what goes along, P of the blocks made so far
pub record Beside (n : ℕ) (s : List ℕ) (at k : ℕ) (f : List ℕ) (P : List Origin → Type 0) : Type 0 where
  pub behind : Behind n s at k f
  pub tally : P behind.st.made

pub beside-made : {n : ℕ} {s : List ℕ} {at k : ℕ} {f : List ℕ} {P : List Origin → Type 0} → Beside n s at k f P → Made P k
beside-made g = record { made = g.behind.st.made; size = sym g.behind.ks; tally = g.tally }

-- what a head that runs tells
pub record Told (n : ℕ) (s : List ℕ) (at k : ℕ) (x : Chunks.Head) (u m next : ℕ) : Type 0 where
  pub small : u < 15
  pub head : x ≡ Chunks.Head.runs (kind_of u) m (body_at s at)
  pub place : next ≡ body_at s at + once (kind_of u) + each (kind_of u) * m
  pub room : k + m ≤ n
  pub after : at < next
  pub inside : next ≤ length s

module _ (n : ℕ) (s : List ℕ) (at k : ℕ) (filled : List ℕ) where
  checked-runs : (u m b : ℕ) → Checked n s at k (Chunks.Head.runs (kind_of u) m b) → (k + m ≤ n) × (at < b)
      × (b + once (kind_of u) + each (kind_of u) * m ≤ length s)
  checked-runs u m b (good room on) = (room, on.0, on.1)

  told : {x : Chunks.Head} (r : Run) → Checked n s at k x → Found s at k (Ok r) x → (r.first ≡ k) × Told n s at k x r.upper r.blocks r.next
  told r c (runs f e) =
      let q = checked-runs r.upper r.blocks (body_at s at) c in
      (f, record { small = r.known; head = refl; place = e; room = q.0; after = omega (arith, q.1, e); inside = omega (arith, q.2, e) })

  pub told-runs : (h : Result Run Refusal) (r : Run) → h ≡ Ok r → Found s at k h (opcode n s at k filled)
      → (r.first ≡ k) × Told n s at k (opcode n s at k filled) r.upper r.blocks r.next
  told-runs h r e t =
      told r (checked-head n s at k filled) (subst (λ (h : Result Run Refusal). Found s at k h (opcode n s at k filled)) e t)

  is-bad : {x : Chunks.Head} (why : Refusal) → Found s at k (Err why) x → x ≡ Chunks.Head.bad (refusal_number why)
  is-bad why bad = refl

  pub told-bad : (h : Result Run Refusal) (why : Refusal) → h ≡ Err why → Found s at k h (opcode n s at k filled)
      → opcode n s at k filled ≡ Chunks.Head.bad (refusal_number why)
  told-bad h why q t = is-bad why (subst (λ (h : Result Run Refusal). Found s at k h (opcode n s at k filled)) q t)

module _ (n : ℕ) (s : List ℕ) where
  pub begins : 4 ≤ length s → number 256 (part s 1 3) ≡ length s → Behind n s 4 0 (replicate 16 0)
  unfolding decode if
  begins h e =
      record {
        st = start;
        ats = refl;
        ks = refl;
        counted = counted_start;
        same = rw (le-ltb (length s) 4 h, eq-eqb (number 256 (part s 1 3)) (length s) e);
        most = omega arith;
        within = h;
        few = few-start 4;
      }

  pub beside-begins : (P : List Origin → Type 0) → P [] → 4 ≤ length s → number 256 (part s 1 3) ≡ length s → Beside n s 4 0 (replicate 16 0) P
  unfolding begins
  beside-begins P p h q = record { behind = begins h q; tally = p }

  module _ (at k : ℕ) (f : List ℕ) (g : Behind n s at k f) where
    -- the opcode at the loop's place is the definition's
    next : k < n → at < length s → decode n s ≡ resume (λ st. loop (length s) n s st) g.st (act s g.st (opcode n s at k (fills_of f)))
    unfolding step
    next a b =
        g.same
        ∙ unroll n s (length s) g.st (omega arith) (omega (arith, g.ks)) (omega (arith, g.ats))
        ∙ rw (g.ats, g.ks, counted-fills f g.st.tables g.counted)

    pub refused-bad : k < n → at < length s → (e : ℕ) → opcode n s at k (fills_of f) ≡ Chunks.Head.bad e → decode n s ≡ refused (answer_at e at k)
    refused-bad a b e h = next a b ∙ rw (h, g.ats, g.ks)

    pub goes_on_lem : k < n → at < length s → (u m p : ℕ) → Told n s at k (opcode n s at k (fills_of f)) u m p → Behind n s p (k + m) (grown f u)
    goes_on_lem a l u m p t =
        let b = body_at s at in
        let hs = part s b (once (kind_of u)) in
        let far = t.after in
        record {
          st = record {
            at = b + once (kind_of u) + each (kind_of u) * m;
            made = extend (kind_of u) hs s (b + once (kind_of u)) m g.st;
            tables
                = stored (kind_of u) hs g.st.tables;
          };
          ats = t.place;
          ks = rw g.ks (sym (length-extend (kind_of u) hs s (b + once (kind_of u)) m g.st));
          counted = counted-grown f g.st.tables g.counted u (omega (arith, t.small)) hs;
          same = next a l ∙ rw t.head;
          most = t.room;
          within = t.inside;
          few = few-grown f at p u g.counted.sixteen (omega (arith, t.small)) far g.few;
        }

    -- the same with what goes along
    pub goes-on-beside : k < n → at < length s → (u w p : ℕ) → Told n s at k (opcode n s at k (fills_of f)) u w p
        → (P Q : List Origin → Type 0) → P g.st.made → Advances P Q u k w → Beside n s p (k + w) (grown f u) Q
    unfolding goes_on_lem
    goes-on-beside a l u w p t P Q tally advances =
        let b = body_at s at in
        record { behind = goes_on_lem a l u w p t; tally = advances (part s b (once (kind_of u))) s (b + once (kind_of u)) g.st (sym g.ks) tally }

    pub refused-remain : k < n → length s ≤ at → decode n s ≡ refused (answer_at blocks_remain (length s) k)
    refused-remain a b = g.same ∙ loop-remains n s (length s) g.st (omega (arith, g.ks)) (omega (arith, g.ats)) ∙ rw g.ks

    pub refused-follow : n ≤ k → padding (drop at s) ≡ false → decode n s ≡ refused (answer_at bytes_follow at n)
    refused-follow a e = g.same ∙ loop-follows n s (length s) g.st (omega (arith, g.ks)) (rw (sym g.ats) e) ∙ rw g.ats

    pub accepted-ok : n ≤ k → padding (drop at s) ≡ true → decode n s ≡ accepted g.st.made
    accepted-ok a e = g.same ∙ loop-accepts n s (length s) g.st (omega (arith, g.ks)) (rw (sym g.ats) e)

-- what a refusal before the opcodes becomes
pub err-is : {U : Type 0} (r : Result U Answer) (a : Answer) → IsErr r × IsErrAnd r (λ x. x ≡ a) → r ≡ Err a
err-is (Ok u) a h = absurd (true≢false (sym h.0))
err-is (Err x) a h = rw h.1

-- how the check ends
module _ {A : Type 0} (T : A → List Origin → Type 0) (n : ℕ) (s : List ℕ) where
  pub concludes-refused : {a : Answer} → decode n s ≡ refused a → Concludes T n s (Err a) (decode n s)
  concludes-refused e = rw e stops

  pub concludes-accepted : (at k : ℕ) (f : List ℕ) (u : Used A) → u.length ≡ length s → Beside n s at k f (T u.along) → n ≤ k → padding (drop at s) ≡ true
      → Concludes T n s (Ok u) (decode n s)
  concludes-accepted at k f u e g a p =
      let all : length g.behind.st.made ≡ n = omega (arith, g.behind.most, g.behind.ks) in
      rw (accepted-ok n s at k f g.behind a p) (passes e all g.tally)

  -- and what its end says
  pub record Passed (u : Used A) (o : Chunks.Outcome) : Type 0 where
    pub made : List Origin
    pub is : o ≡ accepted made
    pub used : u.length ≡ length s
    pub all : length made ≡ n
    pub tally : T u.along made

  is-passed : {o : Chunks.Outcome} (u : Used A) → Concludes T n s (Ok u) o → Passed u o
  is-passed u (passes {os = os} e l t) = record { made = os; is = refl; used = e; all = l; tally = t }

  is-stopped : {o : Chunks.Outcome} (a : Answer) → Concludes T n s (Err a) o → o ≡ refused a
  is-stopped a stops = refl

  module _ (o : Chunks.Outcome) (r : Result (Used A) Answer) (c : Concludes T n s r o) where
    pub passed : (u : Used A) → r ≡ Ok u → Passed u o
    passed u e = is-passed u (subst (λ (r : Result (Used A) Answer). Concludes T n s r o) e c)

    pub stopped : (a : Answer) → r ≡ Err a → o ≡ refused a
    stopped a e = is-stopped a (subst (λ (r : Result (Used A) Answer). Concludes T n s r o) e c)

-- what is counted in the end
pub balanced-accepted : (m : List ℕ) (o : Chunks.Outcome) (t : Running) (made : List Origin) → o ≡ accepted made → length made ≡ length m
    → (lent : List ℕ) → lent ≡ m → StandsAt lent made t 0 → (now : ℕ) → now ≡ summed lent t → Balanced m now o
balanced-accepted m o t made e l lent q g now en = rw (e, en, q) (sums (tally-end m made _ _ _ _ _ (rw q at g) l))

-- the refusals before any opcode
pub refused-short : (n : ℕ) (s : List ℕ) → length s < 4 → decode n s ≡ refused (answer chunk_short 0)
unfolding decode if
refused-short n s h = rw (lt-ltb (length s) 4 h)

pub refused-differs : (n : ℕ) (s : List ℕ) → 4 ≤ length s → (number 256 (part s 1 3) ≡ length s → ⊥) → decode n s ≡ refused (answer length_differs 0)
unfolding decode if
refused-differs n s h e = rw (le-ltb (length s) 4 h, ne_eqb (number 256 (part s 1 3)) (length s) e)
