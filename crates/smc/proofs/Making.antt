-- What each kind of opcode makes, shown by the picture and the map that its run leaves. Assumes nothing.
use Rattle.std.proofs.Common.{◌≡◌, ℕ, ◌+◌, ◌*◌, ◌%◌, ◌<◌, ◌≤◌, false, leb, ◌≢◌, List, [], length, get_or, replicate, sym, refl, ap, ◌∙◌, subst, add-zero, one-mul, arith, ne_eqb, leb-false}
use lib.ListN.{get_or-map}
use lib.Seq.{sets}
use Rattle.spec.specs.Basics.{if, part}
use Rattle.spec.specs.Flags.{flags, chosen}
use Rattle.spec.specs.Chunks.{skip, fill, whole, copy, store, named, capacity, missing, fills, blocks_by, extend, State, table, Table, emptied, count_at, body_at}
use Rattle.spec.proofs.Parts.{part_at, length_part, part-sets}
use Rattle.smc.specs.Runs.{puts, marks, copied, moved}
use Rattle.smc.specs.Shows.{Shows}
use Rattle.smc.specs.Tables.{colours, Holds}
use Rattle.smc.specs.Painting.{kind_at, blocks_at, Ran, Tabled}
use Rattle.smc_check.proofs.Filling.{stored_same, stored-none-of}
use Rattle.smc.proofs.Held.{holds-put, holds-cell}
use Rattle.smc.proofs.Showing.{shows-puts, shows-copied, shows-skipped}

module _ (c r : ℕ) (wide : 0 < c) (s pic₀ map₀ : List ℕ) (st : State) (k : ℕ) (ek : k ≡ length st.made) (pic m : List ℕ)
    (g : Shows c r pic₀ map₀ st.made pic m) (hs : List ℕ) (q n : ℕ) (h : k + n ≤ c * r) where
  made-skip : Shows c r pic₀ map₀ (extend skip hs s q n st) pic m
  unfolding extend
  made-skip = rw ek at (shows-skipped c r wide pic₀ map₀ st.made pic m g k ek n h)

  made-copy : (d : ℕ) → 0 < d → d ≤ k → Shows c r pic₀ map₀ (extend (copy d) hs s q n st) (copied c d k n pic) (moved d k n m)
  unfolding extend
  made-copy d p l = shows-copied c r wide pic₀ map₀ st.made pic m g k ek d n p l h

  made-fill : (x : ℕ) → get_or hs 0 0 ≡ x → Shows c r pic₀ map₀ (extend fill hs s q n st) (puts c k (λ i. replicate 16 x) n pic) (marks k n m)
  unfolding extend blocks_by
  made-fill x e =
      subst (λ (y : ℕ). Shows c r pic₀ map₀ (extend fill hs s q n st) (puts c k (λ i. replicate 16 y) n pic) (marks k n m)) e
      (shows-puts c r wide pic₀ map₀ st.made pic m g k ek (λ i. replicate 16 (get_or hs 0 0)) n h)

  made-whole : Shows c r pic₀ map₀ (extend whole hs s q n st) (puts c k (λ i. part s (q + 16 * i) 16) n pic) (marks k n m)
  unfolding extend blocks_by
  made-whole = shows-puts c r wide pic₀ map₀ st.made pic m g k ek (λ i. part s (q + 16 * i) 16) n h

  made-store : (b : ℕ) (cs : List ℕ) → hs ≡ cs
      → Shows c r pic₀ map₀ (extend (store b) hs s q n st) (puts c k (λ i. chosen (flags b (part s (q + 2 * b * i) (2 * b))) cs) n pic) (marks k n m)
  unfolding extend blocks_by
  made-store b cs e =
      subst (λ (y : List ℕ). Shows c r pic₀ map₀ (extend (store b) hs s q n st) (puts c k (λ i. chosen (flags b (part s (q + 2 * b * i) (2 * b))) y) n pic)
      (marks k n m)) e
      (shows-puts c r wide pic₀ map₀ st.made pic m g k ek (λ i. chosen (flags b (part s (q + 2 * b * i) (2 * b))) hs) n h)

  made-named : (b : ℕ) (cs : List ℕ) → get_or (table st b).cells (get_or hs 0 0) [] ≡ cs
      → Shows c r pic₀ map₀ (extend (named b) hs s q n st) (puts c k (λ i. chosen (flags b (part s (q + 2 * b * i) (2 * b))) cs) n pic) (marks k n m)
  unfolding extend blocks_by
  made-named b cs e =
      subst (λ (y : List ℕ). Shows c r pic₀ map₀ (extend (named b) hs s q n st) (puts c k (λ i. chosen (flags b (part s (q + 2 * b * i) (2 * b))) y) n pic)
      (marks k n m)) e
      (shows-puts c r wide pic₀ map₀ st.made pic m g k ek
      (λ i. chosen (flags b (part s (q + 2 * b * i) (2 * b))) (get_or (table st b).cells (get_or hs 0 0) [])) n h)

first_byte : (s : List ℕ) (p : ℕ) → get_or (part s p 1) 0 0 ≡ get_or s p 0
first_byte s p = part_at s p 1 0 0 (omega arith) ∙ ap (λ (x : ℕ). get_or s x 0) (add-zero p)

-- an opcode without a table, over the count and the place that the code holds: one law for each kind
module _ (c r : ℕ) (wide : 0 < c) (s : List ℕ) (at k : ℕ) (pic m : List ℕ) (w : k + blocks_at s at ≤ c * r)
    (n : ℕ) (en : n ≡ count_at s at) (b : ℕ) (eb : b ≡ body_at s at) where
  pub ran-skip : kind_at s at ≡ skip → Ran c r s at k pic m pic m b (k + n)
  ran-skip e =
      record {
        goes = rw (e, ← eb) (omega arith);
        makes = rw (e, ← en) (omega arith);
        shows = λ st pic₀ map₀ ek g. rw (e, ← eb, ← en) (made-skip c r wide s pic₀ map₀ st k ek pic m g _ _ (1 * n) (rw (e, ← en) at w));
      }

  pub ran-copy : (d : ℕ) → 0 < d → kind_at s at ≡ copy d → d ≤ k → (q : ℕ) → q ≡ d * n → (pic' m' : List ℕ) → pic' ≡ copied c d k q pic → m' ≡ moved d k q m
      → Ran c r s at k pic m pic' m' b (k + q)
  ran-copy d some e l q eq pic' m' ep em =
      record {
        goes = rw (e, ← eb) (omega arith);
        makes = rw (e, ← en, eq);
        shows = λ st pic₀ map₀ ek g.
            rw (e, ← eb, ← en, ← eq, ep, em) (made-copy c r wide s pic₀ map₀ st k ek pic m g _ _ q (rw (e, ← en, ← eq) at w) d some l);
      }

  pub ran-fill : kind_at s at ≡ fill → (pic' m' : List ℕ) → pic' ≡ puts c k (λ i. replicate 16 (get_or s b 0)) n pic → m' ≡ marks k n m
      → Ran c r s at k pic m pic' m' (b + 1) (k + n)
  ran-fill e pic' m' ep em =
      let o = one-mul n in
      record {
        goes = rw (e, ← eb) (omega arith);
        makes = rw (e, ← en) (omega arith);
        shows = λ st pic₀ map₀ ek g.
            rw (e, ← eb, ← en, o, ep, em)
            (made-fill c r wide s pic₀ map₀ st k ek pic m g (part s b 1) (b + 1) n (rw (e, ← en, o) at w) (get_or s b 0) (first_byte s b));
      }

  pub ran-whole : kind_at s at ≡ whole → (pic' m' : List ℕ) → pic' ≡ puts c k (λ i. part s (b + 16 * i) 16) n pic → m' ≡ marks k n m
      → Ran c r s at k pic m pic' m' (b + 16 * n) (k + n)
  ran-whole e pic' m' ep em =
      let o = one-mul n in
      let z = add-zero b in
      record {
        goes = rw (e, ← eb, ← en) (omega arith);
        makes = rw (e, ← en) (omega arith);
        shows = λ st pic₀ map₀ ek g. rw (e, ← eb, ← en, o, z, ep, em) (made-whole c r wide s pic₀ map₀ st k ek pic m g _ b n (rw (e, ← en, o) at w));
      }

-- an opcode with the table of x bits
module _ (x : ℕ) (some : x ≢ 0) (most : x < 4) (c r : ℕ) (wide : 0 < c) (s : List ℕ) (at k : ℕ) (pic m l : List ℕ) (next : ℕ) (w : k + blocks_at s at ≤ c * r)
    (n : ℕ) (en : n ≡ count_at s at) (b : ℕ) (eb : b ≡ body_at s at) (q : ℕ) (pic' m' : List ℕ) (em : m' ≡ marks k n m) where
  pub tabled-store : kind_at s at ≡ store x → q ≡ b + colours x → b + colours x ≤ length s → colours x * next + colours x ≤ length l
      → (l' : List ℕ) → l' ≡ sets l (colours x * next) (part s b (colours x))
      → pic' ≡ puts c k (λ i. chosen (flags x (part s (q + 2 * x * i) (2 * x))) (part l' (colours x * next) (colours x))) n pic
      → (next' : ℕ) → next' ≡ (next + 1) % capacity
      → Tabled x c r s at k pic m l next pic' m' l' (q + 2 * x * n) (k + n) next'
  tabled-store e eq hs hl l' el ep next' en' =
      let o = one-mul n in
      let len = length_part s b (colours x) hs in
      let found : part s b (colours x) ≡ part l' (colours x * next) (colours x)
      = sym (rw el (part-sets l (colours x * next) (part s b (colours x)) (colours x) len hl)) in
      record {
        goes = rw (e, ← eb, ← en, o, ← eq);
        makes = rw (e, ← en, o);
        shows = λ st pic₀ map₀ ek hold full g.
            rw (e, ← eb, ← en, o, ← eq, ep, em)
            (made-store c r wide s pic₀ map₀ st k ek pic m g (part s b (colours x)) q n (rw (e, ← en, o) at w) x
            (part l' (colours x * next) (colours x)) found);
        holds = λ st four hold.
            rw (e, ← eb, en', el, stored_same (store x) (part s b (colours x)) st.tables x refl some (rw four most))
            (holds-put x l next (table st x) hold (part s b (colours x)) len);
      }

  pub tabled-named : kind_at s at ≡ named x → q ≡ b + 1 → (y : ℕ) → y ≡ get_or s b 0
      → pic' ≡ puts c k (λ i. chosen (flags x (part s (q + 2 * x * i) (2 * x))) (part l (colours x * y) (colours x))) n pic
      → Tabled x c r s at k pic m l next pic' m' l (q + 2 * x * n) (k + n) next
  unfolding missing if
  tabled-named e eq y ey ep =
      let o = one-mul n in
      record {
        goes = rw (e, ← eb, ← en, o, ← eq);
        makes = rw (e, ← en, o);
        shows = λ st pic₀ map₀ ek hold full g.
            rw (e, ← eb, ← en, o, ← eq, ep, em)
            (made-named c r wide s pic₀ map₀ st k ek pic m g (part s b 1) q n (rw (e, ← en, o) at w) x (part l (colours x * y) (colours x))
            (cell st hold (rw eb full)));
        holds = λ st four hold. rw (e, ← eb, stored-none-of (named x) (part s b 1) st.tables refl) hold;
      }
    where
      cell : (st : State) → Holds x l next (table st x) → missing (fills st.tables) (kind_at s at) (get_or s b 0) ≡ false
          → get_or (table st x).cells (get_or (part s b 1) 0 0) [] ≡ part l (colours x * y) (colours x)
      cell st hold full =
          let t : leb (get_or (fills st.tables) x 0) y ≡ false = rw (e, ne_eqb x 0 some, ← ey) at full in
          let f : get_or (fills st.tables) x 0 ≡ length (table st x).cells = get_or-map (λ (t : Table). length t.cells) st.tables x emptied in
          let lt = leb-false _ _ (rw f at t) in
          rw (first_byte s b, ← ey) (holds-cell x l next (table st x) hold y lt)
