-- An opcode with a table, by the entry that it stores or names: one law for both. Assumes nothing.
use Rattle.std.proofs.Common.{
  ◌≡◌,
  ℕ,
  zero,
  suc,
  ◌+◌,
  ◌-◌,
  ◌*◌,
  ◌<◌,
  ◌≤◌,
  Bool,
  true,
  false,
  eqb,
  List,
  length,
  take,
  drop,
  get_or,
  sym,
  refl,
  ap,
  ◌∙◌,
  one-mul,
  arith,
  pow_pos,
  eqb-true,
  eq-eqb,
  ne_eqb,
}
use native.Mathlib.Decide.{ℕ_discrete}
use lib.Seq.{length-sets}
use Rattle.spec.specs.Basics.{part}
use Rattle.spec.specs.Flags.{flags, chosen}
use Rattle.spec.specs.Chunks.{capacity, upper_at}
use Rattle.spec.proofs.Cells.{entry-room}
use Rattle.spec.proofs.Parts.{length_part, part-sets}
use Rattle.smc_check.specs.declared.heads.Lead.{Lead}
use Rattle.smc_check.specs.Heads.{Leads}
use Rattle.smc.specs.Runs.{puts, marks}
use Rattle.smc.specs.Storing.{Stores}
use Rattle.smc.specs.Tables.{colours, size, Entered}
use Rattle.smc.specs.Painting.{Room, Tabled}
use Rattle.smc.proofs.Making.{tabled-store, tabled-named}
use Rattle.smc.proofs.Opcodes.{kind-of, kind-other, facts-of, facts-other}

-- a part, as the code lends it
pub lent-part : (l : List ℕ) (q w : ℕ) → take (q + w - q) (drop q l) ≡ part l q w
lent-part l q w = let e : q + w - q ≡ w = omega arith in rw e

-- the table stays as long as it was
pub entered-length : {w : ℕ} {l : List ℕ} {next : ℕ} {s : List ℕ} {q : ℕ} {t : Bool} {l' : List ℕ} {e rest next' : ℕ}
    → Entered w l next s q t l' e rest next' → length l' ≡ length l
entered-length {w} {l} {next} {s} {q} {t} {l'} en = by t refl
  where
    by : (b : Bool) → t ≡ b → length l' ≡ length l
    by true h = ap length (en.stored h).0 ∙ length-sets l (w * next) (part s q w)
    by false h = ap length (en.named h).0

-- the code's numbers are those of a table of x bits
pub entered-as : (x : ℕ) {w : ℕ} {t t' : Bool} {l : List ℕ} {next : ℕ} {s : List ℕ} {q : ℕ} {l' : List ℕ} {e rest next' : ℕ} → w ≡ colours x → t ≡ t'
    → Entered w l next s q t l' e rest next' → Entered (colours x) l next s q t' l' e rest next'
entered-as x ew et en = rw (← ew, ← et) en

-- an entry has eight colours at most
pub few-colours : {x u : ℕ} → Stores x u → colours x ≤ 8
few-colours {x = zero} t = omega arith
few-colours {x = suc zero} t = omega arith
few-colours {x = suc (suc zero)} t = omega arith
few-colours {x = suc (suc (suc zero))} t = omega arith
few-colours {x = suc (suc (suc (suc x)))} t = absurd (omega (arith, t.most))

module _ {x u : ℕ} (table : Stores x u) (c r : ℕ) {s : List ℕ} {at k : ℕ} {lead : Lead} (g : Room (c * r) s at k) (el : Leads s at lead)
    (h : (u ≤ upper_at s at) × (upper_at s at < u + 2)) where
  pub entry_whole : lead.upper ≡ u → lead.body + colours x ≤ length s
  entry_whole e = omega (arith, rw table.stores at (facts-of g el e).inside)

  pub entry_first : lead.body < length s
  entry_first = by (ℕ_discrete lead.upper u)
    where
      by : Dec (lead.upper ≡ u) → lead.body < length s
      by (yes q) = omega (arith, entry_whole q, pow_pos x)
      by (no q) = omega (arith, rw table.names at (facts-other g el q h).inside)

  pub entry-within : k + lead.count ≤ c * r
  entry-within = by (ℕ_discrete lead.upper u)
    where
      by : Dec (lead.upper ≡ u) → k + lead.count ≤ c * r
      by (yes q) = omega (arith, rw table.stores at (facts-of g el q).within)
      by (no q) = omega (arith, rw table.names at (facts-other g el q h).within)

  module _ {l : List ℕ} {next : ℕ} {l' : List ℕ} {e rest next' : ℕ} (en : Entered (colours x) l next s lead.body (eqb lead.upper u) l' e rest next') where
    -- what has just been stored is there to be read
    pub entry-stored : length l ≡ size x → next < capacity → eqb lead.upper u ≡ true
        → (lead.body + colours x ≤ length s) × (part s lead.body (colours x) ≡ part l' e (colours x))
    entry-stored room byte t =
        let w = entry_whole (eqb-true lead.upper u t) in
        let f = length_part s lead.body (colours x) w in (
          w,
          sym (rw ((en.stored t).0, (en.stored t).1)
              (part-sets l (colours x * next) (part s lead.body (colours x)) (colours x) f (omega (arith, entry-room (colours x) next capacity byte)))),
        )

    pub entry-room-left : length l ≡ size x → e + colours x ≤ length l'
    entry-room-left room = rw (entered-length en, room) en.room

    pub entry-inside : rest + 2 * x * lead.count ≤ length s
    entry-inside = by (ℕ_discrete lead.upper u)
      where
        by : Dec (lead.upper ≡ u) → rest + 2 * x * lead.count ≤ length s
        by (yes q) = rw (en.stored (eq-eqb _ _ q)).2 (rw (table.stores, one-mul lead.count) at (facts-of g el q).inside)
        by (no q) = rw (en.named (ne_eqb _ _ q)).2 (rw (table.names, one-mul lead.count) at (facts-other g el q h).inside)

    pub entry-tabled : 0 < c → length l ≡ size x → next < capacity → (pic m pic' m' : List ℕ)
        → pic' ≡ puts c k (λ i. chosen (flags x (part s (rest + 2 * x * i) (2 * x))) (part l' e (colours x))) lead.count pic
        → m' ≡ marks k lead.count m
        → Tabled x c r s at k pic m l next pic' m' l' (rest + 2 * x * lead.count) (k + lead.count) next'
    entry-tabled wide room byte pic m pic' m' ep em = by (ℕ_discrete lead.upper u)
      where
        by : Dec (lead.upper ≡ u) → Tabled x c r s at k pic m l next pic' m' l' (rest + 2 * x * lead.count) (k + lead.count) next'
        by (yes q) =
            let t = en.stored (eq-eqb _ _ q) in
            tabled-store x table.some table.most c r wide s at k pic m l next g.within lead.count el.count lead.body
            el.body rest pic' m' em
            (kind-of g el q ∙ table.stores) t.2 (entry_whole q) (omega (arith, entry-room (colours x) next capacity byte)) l' t.0 (rw (← t.1) ep) next'
            t.3
        by (no q) =
            let t = en.named (ne_eqb _ _ q) in
            rw (t.0, t.3)
            (tabled-named x table.some table.most c r wide s at k pic m l next g.within lead.count el.count lead.body
            el.body rest pic' m' em
            (kind-other g el q h ∙ table.names) t.2 (get_or s lead.body 0) refl (rw (t.0, t.1) at ep))
