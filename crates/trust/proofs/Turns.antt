-- The reader takes each run of the writer in one turn, wherever it stands. Assumes nothing.
use Prim.Native.Nat.{ℕ, zero, suc, ◌+◌, ◌-◌, ◌*◌, ◌^◌, ◌<◌, ◌≤◌}
use mathlib.Core.Path.{◌≡◌, refl, sym, ap, ◌∙◌}
use mathlib.Core.List.{List, [], ◌∷◌, ◌++◌, map, append_assoc, append-nil}
use mathlib.Core.Bool.{true, false}
use native.Mathlib.Nat.{add-zero, mul-zero, mul-one, one-mul}
use native.Mathlib.Omega.{arith}
use lib.Dec.{leb}
use lib.ListN.{length, get_or, length-append}
use lib.Seq.{get_or-append_seam, get_or-append-add}
use borrow.Author.Tests.{leb-true}
use Rattle.spec.specs.Basics.{if, from, part}
use Rattle.spec.specs.Pictures.{Origin, given, held}
use Rattle.spec.specs.Flags.{flag_bytes}
use Rattle.spec.specs.Chunks.{Kind, skip, fill, store, kind_of, counted, times, reach, once, each, names, runs, upper_at, count_at, body_at, opcode, fills, blocks_by, extend, stored, State, Table, go, act, step}
use Rattle.spec.specs.Writing.{colours, entries, entry_of, tabled, single, counting, plain, opcode_for}
use Rattle.spec.proofs.Lists.{by-test}
use Rattle.spec.proofs.Parts.{part_of}
use Rattle.spec.proofs.Heads.{missing-unnamed, opcode-body, body-runs}
use Rattle.spec.proofs.Packing.{length-flag_bytes}
use Rattle.spec.proofs.Colours.{has-entries, length-entries, pixels-back, plain-all}
use Rattle.spec.proofs.Written.{Block}

-- what the bytes at a place say: a kind, a count, and where its further bytes stand
record Says (s : List ℕ) (at : ℕ) (k : Kind) (m b : ℕ) : Type 0 where
  known : upper_at s at < 15
  kind : kind_of (upper_at s at) ≡ k
  count : count_at s at ≡ m
  body : body_at s at ≡ b

module _ (pre more : List ℕ) (u m : ℕ) (known : u < 15) (some : 1 ≤ m) where
  low-says : counted u ≡ false → m ≤ 16 → Says (pre ++ (16 * u + (m - 1)) ∷ more) (length pre) (kind_of u) m (length pre + 1)
  unfolding count_at body_at if
  low-says even most =
      let first = get_or-append_seam pre (16 * u + (m - 1)) more 0 in
      let upper : upper_at (pre ++ (16 * u + (m - 1)) ∷ more) (length pre) ≡ u = rw first (omega arith) in
      record { known = rw upper known; kind = ap kind_of upper; count = rw (upper, even, first) (omega arith); body = rw (upper, even) }

  wide-says : counted u ≡ true → Says (pre ++ 16 * u ∷ (m - 1) ∷ more) (length pre) (kind_of u) m (length pre + 2)
  unfolding count_at body_at if
  wide-says odd =
      let first = get_or-append_seam pre (16 * u) ((m - 1) ∷ more) 0 in
      let second = get_or-append-add pre (16 * u ∷ (m - 1) ∷ more) 1 0 in
      let upper : upper_at (pre ++ 16 * u ∷ (m - 1) ∷ more) (length pre) ≡ u = rw first (omega arith) in
      record { known = rw upper known; kind = ap kind_of upper; count = rw (upper, odd, second) (omega arith); body = rw (upper, odd) }

counting-says : (pre more : List ℕ) (u m : ℕ) → u < 14 → counted u ≡ false → counted (u + 1) ≡ true → kind_of (u + 1) ≡ kind_of u → 1 ≤ m
    → Says (pre ++ (counting u m ++ more)) (length pre) (kind_of u) m (length pre + length (counting u m))
unfolding counting
counting-says pre more u m known even odd both some =
    by-test (λ (l : List ℕ). Says (pre ++ (l ++ more)) (length pre) (kind_of u) m (length pre + length l)) (leb m 16)
    (λ t. low-says pre more u m (omega arith) some even (leb-true m 16 t)) (λ t. rw (← both) (wide-says pre more (u + 1) m (omega arith) some odd))

-- a kind that needs no block before it, makes a block a count, and names no entry: all that the writer uses
abbrev Free : Kind → Type 0
Free k = (reach k ≡ 0) × (times k ≡ 1) × (names k ≡ 0)

runs-at : (n : ℕ) (s : List ℕ) (at k : ℕ) (filled : List ℕ) {kd : Kind} {m b : ℕ} → Free kd → Says s at kd m b → k + m ≤ n
    → b + once kd + each kd * m ≤ length s → opcode n s at k filled ≡ runs kd m b
runs-at n s at k filled {kd} {m} {b} free y room end =
    let u = upper_at s at in
    opcode-body n s at k filled y.known (rw y.body (omega arith))
    ∙ rw (y.count, y.body) (body-runs n s k filled u m b 0 (sym (ap reach y.kind ∙ free.0)) (omega arith) 1 (sym (ap times y.kind ∙ free.1))
    (omega arith) (once kd) (ap once (sym y.kind)) (omega arith) (missing-unnamed filled (kind_of u) (get_or s b 0) (ap names y.kind ∙ free.2))
    (each kd) (ap each (sym y.kind)) (rw one-mul end) ∙ rw (y.kind, one-mul))

-- one turn of the reader: these origins are made, and it goes on at `next`
pub record Turn (n : ℕ) (s : List ℕ) (st : State) (next : ℕ) (os : List Origin) : Type 0 where
  pub tables : List Table
  pub steps : step n s st ≡ go (record { at = next; made = st.made ++ os; tables = tables })

-- the origin of block k in a run that x began
abbrev pub moved : Origin → ℕ → Origin
moved (held j) k = held k
moved (given px) k = given px

-- a block of more than one colour is a run by itself
abbrev pub Alone : Origin → ℕ → Type 0
Alone (held j) m = Unit {0}
Alone (given px) m = plain px ≡ false → m ≡ 1

same-all : {A : Type 0} (x : A) (a b m : ℕ) → map (λ (i : ℕ). x) (from a m) ≡ map (λ (i : ℕ). x) (from b m)
same-all x a b zero = refl
same-all x a b (suc m) = ap (λ l. x ∷ l) (same-all x (suc a) (suc b) m)

-- the blocks that come of one block's bytes
one_block : (f : List ℕ → List ℕ) (size : ℕ) (s : List ℕ) (b : ℕ) (bs : List ℕ) → part s b (size * 1) ≡ bs → blocks_by f size s b 1 ≡ given (f bs) ∷ []
unfolding blocks_by
one_block f size s b bs e = rw (mul-zero size, add-zero b, ← e, mul-one size)

module _ (n : ℕ) (s pre post : List ℕ) (st : State) (here : length pre ≡ st.at) where
  -- these bytes, next in the chunk, are one turn that makes these origins
  abbrev Reads : List Origin → List ℕ → Type 0
  Reads os l = s ≡ pre ++ (l ++ post) → Turn n s st (length pre + length l) os

  -- an opcode in its three parts: kind and count, the bytes that come once, and those of its blocks
  takes : (hd hs gs : List ℕ) {k : Kind} {m : ℕ} (os : List Origin)
      → Free k → ((more : List ℕ) → Says (pre ++ (hd ++ more)) (length pre) k m (length pre + length hd)) → length st.made + m ≤ n
      → length hs ≡ once k → length gs ≡ each k * m → ((b : ℕ) → part s b (each k * m) ≡ gs → extend k hs s b m st ≡ st.made ++ os)
      → Reads os (hd ++ (hs ++ gs))
  unfolding step
  takes hd hs gs {k} {m} os free says room lh lg made e =
      let b = length pre + length hd in
      let len = simp length-append at (ap length e) in
      let total : b + once k + each k * m ≡ length pre + length (hd ++ (hs ++ gs)) = simp length-append (omega arith) in
      let once-part : part s b (once k) ≡ hs = part_of (pre ++ hd) hs (gs ++ post) b (once k) (rw e (simp append_assoc)) (length-append pre hd) lh in
      let each_part : part s (b + once k) (each k * m) ≡ gs =
      part_of ((pre ++ hd) ++ hs) gs post (b + once k) (each k * m) (rw e (simp append_assoc)) (simp length-append (omega arith)) lg in
      let y : Says s (length pre) k m b = rw (e, append_assoc hd (hs ++ gs) post) (says ((hs ++ gs) ++ post)) in
      let head : opcode n s st.at (length st.made) (fills st.tables) ≡ runs k m b =
      rw (← here) (runs-at n s (length pre) (length st.made) (fills st.tables) free y room (omega arith)) in
      let more : extend k (part s b (once k)) s (b + once k) m st ≡ st.made ++ os = rw once-part (made (b + once k) each_part) in
      record {
        tables = stored k hs st.tables;
        steps = ap (act s st) head ∙ (λ i. go (record { at = total i; made = more i; tables = stored k (once-part i) st.tables }));
      }

  -- a block by itself
  module _ (px : List ℕ) (sixteen : length px ≡ 16) (room : length st.made + 1 ≤ n) where
    alone : (u : ℕ) → u < 15 → counted u ≡ false → (more : List ℕ) → Says (pre ++ (16 * u + 0) ∷ more) (length pre) (kind_of u) 1 (length pre + 1)
    alone u known even more = low-says pre more u 1 known (omega arith) even (omega arith)

    tabled-turn : (bits : ℕ) → bits ≤ 3 → length (colours px) ≤ 2 ^ bits
        → ((more : List ℕ) → Says (pre ++ 16 * (6 + 2 * bits) ∷ more) (length pre) (store bits) 1 (length pre + 1))
        → Reads (given px ∷ []) (tabled bits (entries bits (colours px)) px)
    unfolding tabled extend
    tabled-turn bits b fits says =
        let es = entries bits (colours px) in
        let fs = flag_bytes bits (map (entry_of es) px) in
        let les = length-entries bits (colours px) fits in
        takes (16 * (6 + 2 * bits) ∷ []) es fs (given px ∷ []) (refl, refl, refl) says room les
        (rw (mul-one (2 * bits)) (length-flag_bytes bits (map (entry_of es) px)))
        (λ at g. ap (λ (l : List Origin). st.made ++ l)
        (one_block _ (2 * bits) s at fs g ∙ ap (λ (l : List ℕ). given l ∷ []) (pixels-back bits b es px les sixteen (has-entries bits px))))

    pub whole-turn : Reads (given px ∷ []) (0xE0 ∷ px)
    unfolding extend
    whole-turn =
        takes (0xE0 ∷ []) [] px (given px ∷ []) (refl, refl, refl) (alone 14 (omega arith) refl) room refl sixteen
        (λ at g. ap (λ (l : List Origin). st.made ++ l) (one_block (λ bs. bs) 16 s at px g))

    single-turn : Reads (given px ∷ []) (single px)
    unfolding single
    single-turn =
        by-test (Reads (given px ∷ [])) _ (λ t. tabled-turn 1 (omega arith) (leb-true _ _ t) (alone 8 (omega arith) refl)) (λ t.
        by-test (Reads (given px ∷ [])) _ (λ t. tabled-turn 2 (omega arith) (leb-true _ _ t) (alone 10 (omega arith) refl)) (λ t.
        by-test (Reads (given px ∷ [])) _ (λ t. tabled-turn 3 (omega arith) (leb-true _ _ t) (alone 12 (omega arith) refl)) (λ t. whole-turn)))

  -- a run as the writer has it
  pub run-turn : (x : Origin) (m : ℕ) → Block x → Alone x m → 1 ≤ m → length st.made + m ≤ n → s ≡ pre ++ (opcode_for x m ++ post)
      → Turn n s st (length pre + length (opcode_for x m)) (map (moved x) (from (length st.made) m))
  unfolding opcode_for extend blocks_by
  run-turn (held j) m b alone some room e =
      let nil = append-nil (counting 0 m) in
      rw nil at (takes (counting 0 m) [] [] {k = skip} _ (refl, refl, refl)
      (λ more. counting-says pre more 0 m (omega arith) refl refl refl some) room refl (omega arith) (λ at g. refl) (rw nil e))
  run-turn (given px) m b alone some room e =
      by-test (Reads (map (moved (given px)) (from (length st.made) m))) (plain px)
      (λ t. takes (counting 6 m) (get_or px 0 0 ∷ []) [] {k = fill} _ (refl, refl, refl)
      (λ more. counting-says pre more 6 m (omega arith) refl refl refl some) room refl (omega arith)
      (λ at g. rw (← plain-all px b t) (ap (λ (l : List Origin). st.made ++ l) (same-all (given px) 0 (length st.made) m))))
      (λ t. rw (alone t) (single-turn px b (omega arith)))
      e
