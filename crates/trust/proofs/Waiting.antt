-- The block of an answer of 5 to 10 is the first still waiting at its place: the bytes up to there bring the reader to a state with so many
-- blocks made, and of the chunks that go on from there only those with the blocks left are accepted. Assumes nothing.
use Prim.Native.Nat.{ℕ, zero, suc, ◌+◌, ◌-◌, ◌*◌, ◌^◌, ◌<◌, ◌≤◌}
use mathlib.Core.Path.{◌≡◌, refl, sym, ap, subst, ◌∙◌}
use mathlib.Core.Logic.{◌↔◌}
use mathlib.Core.List.{List, [], ◌∷◌, ◌++◌, append_assoc}
use native.Mathlib.Nat.{le_refl, mul-suc}
use native.Mathlib.Decide.{dec_lt}
use native.Mathlib.Omega.{arith}
use lib.ListN.{length, get_or, length-append, get_or-append}
use lib.Seq.{get_or-append-add, get_or_at}
use borrow.Author.Tests.{le-ltb, eq-eqb}
use Rattle.spec.specs.declared.Answer.{Answer}
use Rattle.spec.specs.Basics.{if, part}
use Rattle.spec.specs.Answers.{blocks_remain, entry_empty}
use Rattle.spec.specs.Sizes.{max_blocks}
use Rattle.spec.specs.Pictures.{Origin, given}
use Rattle.spec.specs.Flags.{number, digits}
use Rattle.spec.specs.Chunks.{State, start, Outcome, refused, accepted, resume, loop, decode}
use Rattle.spec.proofs.Parts.{part_at, part_of, length_part}
use Rattle.spec.proofs.Digits.{length_digits}
use Rattle.spec.proofs.Numbers.{number_digits}
use Rattle.spec.proofs.Padding.{padding-none, padding-other}
use Rattle.spec.proofs.Loops.{unroll, loop-remains, loop-accepts, loop-follows}
use Rattle.spec.proofs.Cutting.{Alike}
use Rattle.spec.proofs.Reached.{Reached, block_bytes, within, reached-alike, loop-reached, Comes, early, late, waits, comes}
use Rattle.trust.specs.Waiting.{wholes, completed, IsAccepted, accepts, FirstWaiting}
use Rattle.trust.proofs.Turns.{whole-turn}

-- an outcome that is known: then "accepted exactly when" is one fact
never : {o : Outcome} {a : Answer} {P : Type 0} → o ≡ refused a → (P → ⊥) → IsAccepted o ↔ P
never {o} {a} {P} e h = ((λ y. absurd (not-accepted (subst IsAccepted e y))), λ p. absurd (h p))
  where
    not-accepted : IsAccepted (refused a) → ⊥
    not-accepted = elim [ ]

always : {o : Outcome} {os : List Origin} {P : Type 0} → o ≡ accepted os → P → IsAccepted o ↔ P
always e p = ((λ y. p), λ q. rw e accepts)

module _ (px : List ℕ) (sixteen : length px ≡ 16) where
  length-wholes : (m : ℕ) → length (wholes px m) ≡ block_bytes * m
  unfolding wholes
  length-wholes zero = refl
  length-wholes (suc m) =
      let all = mul-suc block_bytes m in
      let rest = length-wholes m in
      rw length-append (omega arith)

  -- the reader before m such blocks, which end the chunk: it accepts them exactly when as many remain
  module _ (n : ℕ) (s : List ℕ) where
    abbrev Decides : ℕ → Type 0
    Decides m =
        (pre : List ℕ) (st : State) → s ≡ pre ++ wholes px m → length pre ≡ st.at → length st.made ≤ n
        → IsAccepted (loop (length s) n s st) ↔ (length st.made + m ≡ n)

    -- none: the bytes end, with blocks left (5) or without
    decides-none : Decides zero
    unfolding wholes
    decides-none pre st e here room = by (dec_lt (length st.made) n)
      where
        end : length s ≤ st.at
        end = let len = simp length-append at (ap length e) in omega arith

        by : Dec (length st.made < n) → IsAccepted (loop (length s) n s st) ↔ (length st.made + 0 ≡ n)
        by (yes waiting) = never (loop-remains n s (length s) st waiting end) (λ q. omega arith)
        by (no full) = always (loop-accepts n s (length s) st (omega arith) (padding-none s st.at end)) (omega arith)

    -- one more: it is read, or it stands behind the last block and, by its `E0`, is no padding (11)
    decides-more : (m : ℕ) → Decides m → Decides (suc m)
    unfolding wholes
    decides-more m decides pre st e here room = by (dec_lt (length st.made) n)
      where
        more : st.at < length s
        more = let len = simp length-append at (ap length e) in omega arith

        by : Dec (length st.made < n) → IsAccepted (loop (length s) n s st) ↔ (length st.made + suc m ≡ n)
        by (yes waiting) =
            let t = whole-turn n s pre (wholes px m) st here px sixteen (omega arith) e in
            let st' : State = record { at = length pre + length (0xE0 ∷ px); made = st.made ++ given px ∷ []; tables = t.tables } in
            let turn = unroll n s (length s) st (le_refl (length s)) waiting more ∙ ap (resume (λ st''. loop (length s) n s st'') st) t.steps in
            let one = length-append st.made (given px ∷ []) in
            let e' = e ∙ sym (append_assoc pre (0xE0 ∷ px) (wholes px m)) in
            let rest = decides (pre ++ 0xE0 ∷ px) st' e' (length-append pre (0xE0 ∷ px)) (omega arith) in
            rw turn ((λ y. let q = rest.0 y in omega arith), λ q. rest.1 (omega arith))
        by (no full) =
            let byte : get_or s st.at 0 ≡ 0xE0 = rw e (get_or_at pre 0xE0 (px ++ wholes px m) 0 st.at here) in
            never (loop-follows n s (length s) st (omega arith) (padding-other s st.at more (rw byte (λ z. omega arith)))) (λ q. omega arith)

    decides : (m : ℕ) → Decides m
    decides zero = decides-none
    decides (suc m) = decides-more m (decides m)

-- the completed chunk for a place within the old one: its length, its bytes up to the place, and that it states its length
module _ (n : ℕ) (s : List ℕ) (p : ℕ) (opcodes : 4 ≤ p) (inside : p ≤ length s) (px : List ℕ) (sixteen : length px ≡ 16) (j : ℕ) where
  chunk : List ℕ
  chunk = completed n s p px j

  cut : List ℕ
  cut = part s 4 (p - 4)

  front : List ℕ
  front = get_or s 0 0 ∷ digits 8 3 (4 + length (cut ++ wholes px (n - j)))

  length_cut : length cut ≡ p - 4
  unfolding cut
  length_cut = length_part s 4 (p - 4) (omega arith)

  length_front : length front ≡ 4
  unfolding front
  length_front = ap suc (length_digits 8 3 _)

  in_parts : chunk ≡ front ++ (cut ++ wholes px (n - j))
  unfolding chunk front cut
  in_parts = refl

  length-chunk : length chunk ≡ p + block_bytes * (n - j)
  length-chunk =
      let a = length_front in
      let b = length_cut in
      let c = length-wholes px sixteen (n - j) in
      rw in_parts (simp length-append (omega arith))

  alike : Alike p s chunk
  unfolding cut
  alike =
      record {
        here = inside;
        there = rw length-chunk (omega arith);
        bytes = λ i first below.
            let l = length_front in
            let e : i ≡ length front + (i - 4) = omega arith in
            let e' : 4 + (i - 4) ≡ i = omega arith in
            let rest = wholes px (n - j) in
            ap (λ (b : List ℕ). get_or b i 0) in_parts
            ∙ ap (λ (k : ℕ). get_or (front ++ (cut ++ rest)) k 0) e
            ∙ get_or-append-add front (cut ++ rest) (i - 4) 0
            ∙ get_or-append cut rest 0 (i - 4) (rw length_cut (omega arith))
            ∙ part_at s 4 (p - 4) (i - 4) 0 (omega arith)
            ∙ ap (λ (k : ℕ). get_or s k 0) e';
      }

  stated : length chunk < 2 ^ 24 → number 256 (part chunk 1 3) ≡ length chunk
  unfolding front
  stated small =
      let body = cut ++ wholes px (n - j) in
      let l = 4 + length body in
      let len : length chunk ≡ l = ap length in_parts ∙ length-append front body ∙ rw length_front in
      ap (number 256) (part_of (get_or s 0 0 ∷ []) (digits 8 3 l) body 1 3 in_parts refl (length_digits 8 3 l)) ∙ number_digits 8 3 l (omega arith) ∙ sym len

  starts : length chunk < 2 ^ 24 → decode n chunk ≡ loop (length chunk) n chunk start
  unfolding decode if
  starts small = rw (le-ltb (length chunk) 4 (rw length-chunk (omega arith)), eq-eqb _ _ (stated small))

  -- it brings the reader to the state that the old one stopped at, and then has its blocks from j on
  accepted-by : {st : State} → Reached n s st → st.at ≡ p → length st.made < n → length chunk < 2 ^ 24
      → IsAccepted (decode n chunk) ↔ (j ≡ length st.made)
  accepted-by {st} r here waiting small =
      let comes-here = starts small ∙ loop-reached n chunk (reached-alike n s alike r (omega arith)) in
      let a = length_front in
      let b = length_cut in
      let d = decides px sixteen n chunk (n - j) (front ++ cut) st (in_parts ∙ sym (append_assoc front cut (wholes px (n - j))))
      (length-append front cut ∙ omega arith) (omega arith) in
      rw comes-here ((λ y. let q = d.0 y in omega arith), λ q. d.1 (omega arith))

-- a state is not far for its blocks, so the new length fits its three bytes
waiting-block : (n : ℕ) → n ≤ max_blocks → (s : List ℕ) {a : Answer} → Comes n s (refused a) → blocks_remain ≤ a.number → a.number ≤ entry_empty
    → (px : List ℕ) → length px ≡ 16 → (j : ℕ) → IsAccepted (decode n (completed n s a.place px j)) ↔ (j ≡ a.block)
waiting-block n few s (early l) least most px sixteen j = absurd (omega arith)
waiting-block n few s (late l) least most px sixteen j = absurd (omega arith)
waiting-block n few s (waits {st = st} r waiting) least most px sixteen j =
    let w = within n s r in
    let short = w.short in
    let len = length-chunk n s st.at w.opcodes w.inside px sixteen j in
    unfold chunk in accepted-by n s st.at w.opcodes w.inside px sixteen j r refl waiting (omega arith)

pub first-waiting : FirstWaiting
first-waiting n few s a e least most px sixteen j = waiting-block n few s (subst (Comes n s) e (comes n s)) least most px sixteen j
