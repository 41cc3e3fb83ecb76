-- The paint loop goes as `decode` goes, whose outcome is known to be acceptance. Assumes nothing.
use Rattle.std.proofs.Common.{◌≡◌, ℕ, ◌*◌, ◌<◌, ◌≤◌, Bool, true, false, not, eqb, ltb, List, length, get_or, drop, sym, refl, ◌∙◌, subst, arith}
use native.Mathlib.Decide.{dec_lt}
use Rattle.spec.specs.declared.Answer.{Answer}
use Rattle.spec.specs.Basics.{if, part}
use Rattle.spec.specs.Answers.{chunk_short, length_differs, answer_at, answer}
use Rattle.spec.specs.Flags.{number}
use Rattle.spec.specs.Maps.{remap}
use Rattle.spec.specs.Pictures.{paint}
use Rattle.spec.specs.Chunks.{Head, fills, missing, upper_at, count_at, body_at, act, step, State, start, emptied, Outcome, refused, accepted, padding, resume, loop, decode}
use Rattle.spec.proofs.Heads.{Known, bad, good, known-head, body-after}
use Rattle.spec.proofs.Loops.{unroll, loop-remains, loop-accepts, loop-follows}
use Rattle.spec.proofs.Made.{length-extend}
use Rattle.spec.proofs.SoFar.{so_far-all, paint-none, remap-none}
use Rattle.smc.specs.Painting.{Accepts, origins_of, Lent, kind_at, blocks_at, Room, after, Inside, Turned}
use Rattle.smc.specs.declared.tables.Tables.{Tables}
use Rattle.smc.specs.Tables.{Holds}
use Rattle.blocks.proofs.Rowwise.{on}

never : (x : Outcome) → Accepts x → (a : Answer) → x ≡ refused a → ⊥
never x g a h = let q = g.is in let z : ◌≡◌ {A = ℕ} 0 1 = cc in omega arith

-- an accepted chunk has passed each test that would refuse it
passed : (b : Bool) (a : Answer) (y : Outcome) → Accepts (if b (refused a) y) → if b (refused a) y ≡ y
unfolding if
passed true a y g = absurd (never (refused a) g a refl)
passed false a y g = refl

started : (n : ℕ) (s : List ℕ) → Accepts (decode n s) → decode n s ≡ loop (length s) n s start
unfolding decode
started n s g =
    let rest = if (not (eqb (number 256 (part s 1 3)) (length s))) (refused (answer length_differs 0)) (loop (length s) n s start) in
    let e = passed (ltb (length s) 4) (answer chunk_short 0) rest g in
    e ∙ passed (not (eqb (number 256 (part s 1 3)) (length s))) (answer length_differs 0) (loop (length s) n s start) (subst Accepts e g)

-- the next opcode of an accepted chunk has its blocks, its bytes and its entry
pub record Opens (n : ℕ) (s : List ℕ) (at k : ℕ) (st : State) : Type 0 where
  pub room : Room n s at k
  pub full : missing (fills st.tables) (kind_at s at) (get_or s (body_at s at) 0) ≡ false
  pub same : decode n s ≡ loop (length s) n s (after s at st)

module _ (n : ℕ) (s : List ℕ) (g : Accepts (decode n s)) (st : State) (same : decode n s ≡ loop (length s) n s st) where
  inside-bytes : length st.made < n → st.at < length s
  inside-bytes l = by (dec_lt st.at (length s))
    where
      by : Dec (st.at < length s) → st.at < length s
      by (yes h) = h
      by (no h) = absurd (never (decode n s) g _ (same ∙ loop-remains n s (length s) st l (omega arith)))

  moves : {x : Head} → st.at < length s → Known n s (length st.made) (fills st.tables) (upper_at s st.at) (count_at s st.at) (body_at s st.at) x
      → decode n s ≡ resume (λ st'. loop (length s) n s st') st (act s st x) → Opens n s st.at (length st.made) st
  moves h (bad {e}) q = absurd (never (decode n s) g (answer_at e st.at (length st.made)) q)
  moves h (good f) q =
      record {
        room = record { start = h; known = f.known; before = f.before; within = f.within; inside = f.room };
        full = f.full;
        same = q;
      }

  opened : length st.made < n → Opens n s st.at (length st.made) st
  unfolding step
  opened l =
      let h = inside-bytes l in
      moves h (known-head n s st.at (length st.made) (fills st.tables)) (same ∙ unroll n s (length s) st (omega arith) l h)

  ended : n ≤ length st.made → decode n s ≡ accepted st.made
  ended l = by (padding (drop st.at s)) refl
    where
      by : (b : Bool) → padding (drop st.at s) ≡ b → decode n s ≡ accepted st.made
      by true e = same ∙ loop-accepts n s (length s) st l e
      by false e = absurd (never (decode n s) g _ (same ∙ loop-follows n s (length s) st l e))

-- the loop stands inside a state from which `decode` goes on
pub record Going (c r : ℕ) (s pic₀ map₀ : List ℕ) (at k : ℕ) (t : Tables) (pic m : List ℕ) : Type 0 where
  pub st : State
  pub inside : Inside c r pic₀ map₀ at k t pic m st
  pub same : decode (c * r) s ≡ loop (length s) (c * r) s st
  pub most : k ≤ c * r
  pub lent : Lent c r pic m

module _ (c r : ℕ) (s pic₀ map₀ : List ℕ) (a : Accepts (decode (c * r) s)) where
  pub begins : Lent c r pic₀ map₀ → (t : Tables) → Holds 1 t.pairs.colours t.pairs.next emptied → Holds 2 t.quads.colours t.quads.next emptied
      → Holds 3 t.octets.colours t.octets.next emptied → Going c r s pic₀ map₀ 4 0 t pic₀ map₀
  begins lent t h₁ h₂ h₃ =
      record {
        st = start;
        inside =
            record {
              ats = refl;
              ks = refl;
              four = refl;
              pairs = h₁;
              quads = h₂;
              octets = h₃;
              shows =
                  record {
                    picture = sym (paint-none c r lent.canvas.wide pic₀ lent.canvas.exact);
                    map = sym (remap-none (c * r) map₀ lent.entries);
                  };
            };
        same = started (c * r) s a;
        most = omega arith;
        lent = lent;
      }

  module _ (at k : ℕ) (t : Tables) (pic m : List ℕ) (g : Going c r s pic₀ map₀ at k t pic m) where
    pub opens : k < c * r → Opens (c * r) s at k g.st
    opens l =
        let i = g.inside in
        rw (i.ats, i.ks) (opened (c * r) s a g.st g.same (omega (arith, i.ks)))

    module _ (l : k < c * r) (at' k' : ℕ) (t' : Tables) (pic' m' : List ℕ) (turned : Turned c r s at k t pic m at' k' t' pic' m') where
      pub continues : length pic' ≡ length pic → length m' ≡ length m → Going c r s pic₀ map₀ at' k' t' pic' m'
      continues ep em =
          let o = opens l in
          let i = turned.inside g.st pic₀ map₀ g.inside o.full in
          let e = i.ks ∙ length-extend (kind_at s at) _ s _ (blocks_at s at) g.st in
          let w = o.room.within in
          record {
            st = after s at g.st;
            inside = i;
            same = o.same;
            most = omega (arith, e, w, g.inside.ks);
            lent = record { canvas = on c r pic pic' g.lent.canvas ep; entries = em ∙ g.lent.entries };
          }

      pub less : (at < at') × (at' ≤ length s)
      less =
          let o = opens l in
          let e = (turned.inside g.st pic₀ map₀ g.inside o.full).ats in
          let f = o.room.inside in
          let b = body-after s at in
          rw e (omega arith, f)

    pub paints : c * r ≤ k → (pic ≡ paint c r (origins_of (decode (c * r) s)) pic₀) × (m ≡ remap (origins_of (decode (c * r) s)) map₀)
    paints l =
        let i = g.inside in
        let e : length g.st.made ≡ c * r = omega (arith, i.ks, g.most) in
        let d = ended (c * r) s a g.st g.same (omega arith) in
        let z = so_far-all (c * r) g.st.made e in
        (rw (d, ← z) i.shows.picture, rw (d, ← z) i.shows.map)
