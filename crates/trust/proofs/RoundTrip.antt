-- What was written reads back: for every list of origins that can be written, and for two pictures of one size. Assumes nothing.
use Prim.Native.Nat.{ℕ, zero, suc, ◌+◌, ◌-◌, ◌^◌, ◌<◌, ◌≤◌}
use mathlib.Core.Path.{◌≡◌, refl, sym, ap, ◌∙◌}
use mathlib.Core.List.{List, [], ◌∷◌, ◌++◌, map, map-map, append_assoc, append-nil}
use mathlib.Core.Bool.{true, and-eq-true_iff, true≢false}
use native.Mathlib.Omega.{arith}
use lib.ListN.{length, drop, length-append, length-map}
use borrow.Author.Tests.{le-ltb, eq-eqb}
use Rattle.spec.specs.declared.Size.{Size}
use Rattle.spec.specs.Basics.{if, from, same, part}
use Rattle.spec.specs.Answers.{ok, answer_at}
use Rattle.spec.specs.Sizes.{allowed, pixels, columns, lines, blocks}
use Rattle.spec.specs.Pictures.{Origin, given, held, shown, block_at, paint}
use Rattle.spec.specs.Maps.{entry, remap, unsettled}
use Rattle.spec.specs.Flags.{number, digits}
use Rattle.spec.specs.Chunks.{State, start, accepted, resume, loop, decode, verdict}
use Rattle.spec.specs.Boards.{board, left, effect}
use Rattle.spec.specs.Writing.{plain, opcode_for, joins, alike, max_run, opcodes, Writable, keeps, gives, encode, max_length, difference, differences}
use Rattle.spec.proofs.Lists.{by-test, if-apply, length_from, get_or-rule, map-congr, every-all, same_lists}
use Rattle.spec.proofs.Parts.{part_of}
use Rattle.spec.proofs.Limits.{allowed-size, area}
use Rattle.spec.proofs.Blocks.{shown-at, shown-same, length-paint, painted, equal-by-blocks}
use Rattle.spec.proofs.Records.{recount-true}
use Rattle.spec.proofs.Boards.{read-faithful}
use Rattle.spec.proofs.Loops.{unroll, loop-accepts}
use Rattle.spec.proofs.Padding.{padding-none}
use Rattle.spec.proofs.Digits.{length_digits}
use Rattle.spec.proofs.Numbers.{number_digits}
use Rattle.spec.proofs.Written.{alike-room, alike-alone, writable-first, writable-rest, opcode-some, length-encode, encode-most, length-differences, differences-writable}
use Rattle.trust.specs.RoundTrip.{marked, WrittenReadsBack}
use Rattle.trust.proofs.Turns.{moved, Alone, run-turn}

-- a block that goes on with a run has the run's origin, at its own place
joined : (x y : Origin) (k : ℕ) (ys : List Origin) → Writable k (y ∷ ys) → joins x y ≡ true → moved x k ≡ y
joined (held j) y k ys (keeps w) t = refl
joined (held j) y k ys (gives e w) t = absurd (true≢false (sym t))
joined (given px) y k ys (keeps w) t = absurd (true≢false (sym t))
joined (given px) y k ys (gives {px = qx} e w) t = ap given (same_lists px qx ((and-eq-true_iff (plain px) (same px qx)).0 t).1)

moved-first : {k : ℕ} {x : Origin} {xs : List Origin} → Writable k (x ∷ xs) → moved x k ≡ x
moved-first (keeps w) = refl
moved-first (gives e w) = refl

-- a run, and the blocks after it
alike-origins : (x : Origin) (most : ℕ) (ys : List Origin) (k : ℕ) → Writable k ys → map (moved x) (from k (alike x most ys)) ++ drop (alike x most ys) ys ≡ ys
unfolding alike
alike-origins x zero ys k w = refl
alike-origins x (suc most) [] k w = refl
alike-origins x (suc most) (y ∷ ys) k w =
    by-test (λ (j : ℕ). map (moved x) (from k j) ++ drop j (y ∷ ys) ≡ y ∷ ys) (joins x y)
    (λ t. let e = joined x y k ys w t in let r = alike-origins x most ys (suc k) (writable-rest w) in λ i. e i ∷ r i) (λ t. refl)

run-origins : (x : Origin) (most : ℕ) (xs : List Origin) (k : ℕ) → Writable k (x ∷ xs)
    → map (moved x) (from k (suc (alike x most xs))) ++ drop (alike x most xs) xs ≡ x ∷ xs
run-origins x most xs k w = let e = moved-first w in let r = alike-origins x most xs (suc k) (writable-rest w) in λ i. e i ∷ r i

stands-alone : (x : Origin) (most : ℕ) (ys : List Origin) → Alone x (suc (alike x most ys))
stands-alone (held j) most ys = tt
stands-alone (given px) most ys = λ t. ap suc (alike-alone px t most ys)

-- the reader at the first block that is not in a run already read
module _ (n : ℕ) (s : List ℕ) where
  reads_on : (xs : List Origin) (j k : ℕ) (pre : List ℕ) (st : State) → Writable k xs → s ≡ pre ++ opcodes j xs → length pre ≡ st.at
      → j ≤ length xs → length st.made ≡ k + j → k + length xs ≡ n → loop (length s) n s st ≡ accepted (st.made ++ drop j xs)
  unfolding opcodes
  reads_on [] (suc j) k pre st w e a l b c = absurd (omega arith)
  reads_on [] zero k pre st w e a l b c =
      let len = simp length-append at (ap length e) in
      loop-accepts n s (length s) st (omega arith) (padding-none s st.at (omega arith)) ∙ ap accepted (sym (append-nil st.made))
  reads_on (x ∷ xs) (suc j) k pre st w e a l b c = reads_on xs j (suc k) pre st (writable-rest w) e a (omega arith) (omega arith) (omega arith)
  reads_on (x ∷ xs) zero k pre st w e a l b c =
      let m = alike x (max_run - 1) xs in
      let bytes = opcode_for x (suc m) in
      let room = alike-room x (max_run - 1) xs in
      let some = opcode-some x (suc m) in
      let len = simp length-append at (ap length e) in
      let k' : length st.made ≡ k = omega arith in
      let t = run-turn n s pre (opcodes m xs) st a x (suc m) (writable-first w) (stands-alone x (max_run - 1) xs) (omega arith) (omega arith) e in
      let os = map (moved x) (from (length st.made) (suc m)) in
      let st' : State = record { at = length pre + length bytes; made = st.made ++ os; tables = t.tables } in
      let more : length (st.made ++ os) ≡ suc k + m = length-append st.made os ∙ simp (length-map, length_from) (omega arith) in
      let e' : s ≡ (pre ++ bytes) ++ opcodes m xs = e ∙ sym (append_assoc pre bytes (opcodes m xs)) in
      unroll n s (length s) st (omega arith) (omega arith) (omega arith)
      ∙ ap (resume (λ st''. loop (length s) n s st'') st) t.steps
      ∙ reads_on xs m (suc k) (pre ++ bytes) st' (writable-rest w) e' (length-append pre bytes) room more (omega arith)
      ∙ ap accepted (append_assoc st.made os (drop m xs) ∙ ap (λ (l : List Origin). st.made ++ l) (rw k' (run-origins x (max_run - 1) xs k w)))

-- the length that the chunk states is its own
stated : (os : List Origin) → length (encode os) < 2 ^ 24 → number 256 (part (encode os) 1 3) ≡ length (encode os)
unfolding encode
stated os small =
    let len = length-encode os in
    let l = 4 + length (opcodes 0 os) in
    ap (number 256) (part_of (0xE1 ∷ []) (digits 8 3 l) (opcodes 0 os) 1 3 refl refl (length_digits 8 3 l)) ∙ number_digits 8 3 l (omega arith) ∙ sym len

-- the law of the definitions
pub decode-encode : (os : List Origin) → Writable 0 os → max_length (length os) < 2 ^ 24 → decode (length os) (encode os) ≡ accepted os
unfolding decode encode if
decode-encode os w small =
    let len = length-encode os in
    let most = encode-most os w in
    let front : List ℕ = 0xE1 ∷ digits 8 3 (4 + length (opcodes 0 os)) in
    rw (le-ltb (length (encode os)) 4 (omega arith), eq-eqb _ _ (stated os (omega arith)))
    (reads_on (length os) (encode os) os 0 0 front start w refl (ap suc (length_digits 8 3 _)) (omega arith) refl (omega arith))

-- what a difference shows over the old block is the new one
shows-new : (c : ℕ) (old new : List ℕ) (k : ℕ) → shown c old (difference (block_at c old k) (block_at c new k) k) ≡ block_at c new k
unfolding difference
shows-new c old new k =
    by-test (λ (o : Origin). shown c old o ≡ block_at c new k) (same (block_at c old k) (block_at c new k)) (λ t. same_lists _ _ t)
    (λ t. shown-same c old new (given (block_at c new k)) (held k) (λ i hi. shown-at c new (held k) i hi))

-- the origins of a difference make the new picture of the old one
pub paints-new : (z : Size) → allowed z ≡ true → (old new : List ℕ) → length new ≡ pixels z → paint (columns z) (lines z) (differences z old new) old ≡ new
unfolding differences
paints-new z fine old new e =
    let c = columns z in
    let wide = (allowed-size z fine).wide in
    equal-by-blocks c (lines z) wide _ new (length-paint c (lines z) (differences z old new) old) (e ∙ sym (area z fine)) (λ k hk.
    painted c (lines z) wide (differences z old new) old k hk
    ∙ ap (shown c old) (get_or-rule _ (blocks z) k (held 0) hk)
    ∙ shows-new c old new k)

pub remap-differences : (z : Size) (old new m : List ℕ) → remap (differences z old new) m ≡ marked z old new m
unfolding remap differences difference marked
remap-differences z old new m =
    let c = columns z in
    map-map (entry m) _ (from 0 (blocks z))
    ∙ map-congr (every-all (from 0 (blocks z)) (λ k. if-apply (entry m) (same (block_at c old k) (block_at c new k)) (held k) (given (block_at c new k))))

pub reads-back : WrittenReadsBack
reads-back z fine old new m eo en em =
    let os = differences z old new in
    let few = (allowed-size z fine).few in
    let w = differences-writable z old new in
    let n = length-differences z old new in
    let decoded : decode (blocks z) (encode os) ≡ accepted os = rw n at (decode-encode os w (rw n (omega arith))) in
    let pic = paints-new z fine old new en in
    let map = remap-differences z old new m in
    let count = recount-true os m (n ∙ sym em) ∙ ap unsettled map in
    record {
      reads = read-faithful z fine (encode os) (board old m (unsettled m)) (record { exact = record { picture = eo; map = em }; kept = refl })
          ∙ ap (λ o. left (verdict (encode os) o) (effect z o (board old m (unsettled m)))) decoded
          ∙ (λ i. left (answer_at ok (length (encode os)) (n i)) (board (pic i) (map i) (count i)));
      short = rw n at (encode-most os w);
    }
