-- One opcode, whichever it is: from what its own function did to the state behind all the loop's locals. Assumes nothing.
use Rattle.std.proofs.Common.{◌≡◌, ℕ, ◌+◌, false, ◌≢◌, List, length, get_or, refl, sym, ◌∙◌, subst, arith}
use Rattle.spec.specs.Basics.{part}
use Rattle.spec.specs.Chunks.{once, stores, missing, fills, body_at, State, table, Table}
use Rattle.spec.proofs.Made.{length-extend}
use Rattle.smc.specs.declared.tables.Tables.{Tables}
use Rattle.smc.specs.Tables.{Holds}
use Rattle.smc.specs.Shows.{Shows}
use Rattle.smc.specs.Painting.{kind_at, blocks_at, end_at, after, Ran, Tabled, Inside, Turned}
use Rattle.smc_check.proofs.Filling.{length-stored, stored_other}

module _ (s : List ℕ) (at : ℕ) where
  counts : (k k' : ℕ) (st : State) → k ≡ length st.made → k' ≡ k + blocks_at s at → k' ≡ length (after s at st).made
  counts k k' st ek e = e ∙ rw ek (sym (length-extend (kind_at s at) (part s (body_at s at) (once (kind_at s at))) s _ (blocks_at s at) st))

  tables : (st : State) → length st.tables ≡ 4 → length (after s at st).tables ≡ 4
  tables st e = length-stored (kind_at s at) (part s (body_at s at) (once (kind_at s at))) st.tables ∙ e

-- the table of b bits: held by l and n before the opcode, and by l' and n' after it
abbrev Kept : ℕ → List ℕ → ℕ → List ℕ → ℕ → List ℕ → ℕ → Type 0
Kept b l n l' n' s at = (st : State) → length st.tables ≡ 4 → Holds b l n (table st b) → Holds b l' n' (table (after s at st) b)

-- one in which it does not store
apart : (s : List ℕ) (at b : ℕ) {l l' : List ℕ} {n n' : ℕ} → l' ≡ l → n' ≡ n → stores (kind_at s at) ≢ b → Kept b l n l' n' s at
apart s at b {l} {l'} {n} {n'} el en ne st four g =
    rw (el, en)
    (subst (λ (t : Table). Holds b l n t) (sym (stored_other (kind_at s at) (part s (body_at s at) (once (kind_at s at))) st.tables b ne)) g)

module _ (c r : ℕ) (s : List ℕ) (at k : ℕ) (t : Tables) (pic m : List ℕ) (at' k' : ℕ) (pic' m' : List ℕ) where
  turned : (t' : Tables) → at' ≡ end_at s at → k' ≡ k + blocks_at s at
      → Kept 1 t.pairs.colours t.pairs.next t'.pairs.colours t'.pairs.next s at
      → Kept 2 t.quads.colours t.quads.next t'.quads.colours t'.quads.next s at
      → Kept 3 t.octets.colours t.octets.next t'.octets.colours t'.octets.next s at
      → ((st : State) (pic₀ map₀ : List ℕ) → Inside c r pic₀ map₀ at k t pic m st
      → missing (fills st.tables) (kind_at s at) (get_or s (body_at s at) 0) ≡ false → Shows c r pic₀ map₀ (after s at st).made pic' m')
      → Turned c r s at k t pic m at' k' t' pic' m'
  turned t' goes makes pairs quads octets shows =
      record {
        inside = λ st pic₀ map₀ g full.
            record {
              ats = goes;
              ks = counts s at k k' st g.ks makes;
              four = tables s at st g.four;
              pairs = pairs st g.four g.pairs;
              quads = quads st g.four g.quads;
              octets = octets st g.four g.octets;
              shows = shows st pic₀ map₀ g full;
            };
      }

  pub turned_plain : Ran c r s at k pic m pic' m' at' k' → stores (kind_at s at) ≡ 0 → Turned c r s at k t pic m at' k' t pic' m'
  turned_plain ran e =
      turned t ran.goes ran.makes (apart s at 1 refl refl (λ z. omega arith)) (apart s at 2 refl refl (λ z. omega arith))
      (apart s at 3 refl refl (λ z. omega arith)) (λ st pic₀ map₀ g full. ran.shows st pic₀ map₀ g.ks g.shows)

  -- the opcode has the table of so many bits, and the other two are as they were
  module _ (t' : Tables) where
    abbrev SamePairs : Type 0
    SamePairs = (t'.pairs.colours ≡ t.pairs.colours) × (t'.pairs.next ≡ t.pairs.next)

    abbrev SameQuads : Type 0
    SameQuads = (t'.quads.colours ≡ t.quads.colours) × (t'.quads.next ≡ t.quads.next)

    abbrev SameOctets : Type 0
    SameOctets = (t'.octets.colours ≡ t.octets.colours) × (t'.octets.next ≡ t.octets.next)

    pub turned-pairs : Tabled 1 c r s at k pic m t.pairs.colours t.pairs.next pic' m' t'.pairs.colours at' k' t'.pairs.next → SameQuads → SameOctets
        → stores (kind_at s at) ≢ 2 → stores (kind_at s at) ≢ 3 → Turned c r s at k t pic m at' k' t' pic' m'
    turned-pairs ran q o ne2 ne3 =
        turned t' ran.goes ran.makes ran.holds (apart s at 2 q.0 q.1 ne2) (apart s at 3 o.0 o.1 ne3)
        (λ st pic₀ map₀ g full. ran.shows st pic₀ map₀ g.ks g.pairs full g.shows)

    pub turned-quads : Tabled 2 c r s at k pic m t.quads.colours t.quads.next pic' m' t'.quads.colours at' k' t'.quads.next → SamePairs → SameOctets
        → stores (kind_at s at) ≢ 1 → stores (kind_at s at) ≢ 3 → Turned c r s at k t pic m at' k' t' pic' m'
    turned-quads ran p o ne1 ne3 =
        turned t' ran.goes ran.makes (apart s at 1 p.0 p.1 ne1) ran.holds (apart s at 3 o.0 o.1 ne3)
        (λ st pic₀ map₀ g full. ran.shows st pic₀ map₀ g.ks g.quads full g.shows)

    pub turned-octets : Tabled 3 c r s at k pic m t.octets.colours t.octets.next pic' m' t'.octets.colours at' k' t'.octets.next → SamePairs → SameQuads
        → stores (kind_at s at) ≢ 1 → stores (kind_at s at) ≢ 2 → Turned c r s at k t pic m at' k' t' pic' m'
    turned-octets ran p q ne1 ne2 =
        turned t' ran.goes ran.makes (apart s at 1 p.0 p.1 ne1) (apart s at 2 q.0 q.1 ne2) ran.holds
        (λ st pic₀ map₀ g full. ran.shows st pic₀ map₀ g.ks g.octets full g.shows)
