-- A row of a pair by factors. Assumes nothing.
use Rattle.std.proofs.Common.{◌≡◌, ℕ, zero, suc, ◌+◌, ◌-◌, ◌*◌, ◌%◌, ◌<◌, ◌≤◌, [], ◌∷◌, sym, ap, ◌∙◌, mul-le-mul_right, mul-le-mul, mul-add, arith}
use Rattle.spec.specs.Flags.{digits, chosen}
use Rattle.blocks.specs.Blocks.{row_of}
use Rattle.smc.specs.Factors.{factor_of}
use Rattle.blocks.proofs.Rowwise.{row_of-word}

-- one colour where a bit is clear, the other where it is set
row : (a b f : ℕ) → a < 256 → b < 256 → f < 16 → row_of (a * (16843009 - factor_of f) + b * factor_of f) ≡ chosen (digits 1 4 f) (a ∷ b ∷ [])
unfolding digits factor_of
row a b zero ha hb h = row_of-word a a a a _ ha ha ha ha (omega arith)
row a b (suc zero) ha hb h = row_of-word a a a b _ ha ha ha hb (omega arith)
row a b (suc (suc zero)) ha hb h = row_of-word a a b a _ ha ha hb ha (omega arith)
row a b (suc (suc (suc zero))) ha hb h = row_of-word a a b b _ ha ha hb hb (omega arith)
row a b (suc (suc (suc (suc zero)))) ha hb h = row_of-word a b a a _ ha hb ha ha (omega arith)
row a b (suc (suc (suc (suc (suc zero))))) ha hb h = row_of-word a b a b _ ha hb ha hb (omega arith)
row a b (suc (suc (suc (suc (suc (suc zero)))))) ha hb h = row_of-word a b b a _ ha hb hb ha (omega arith)
row a b (suc (suc (suc (suc (suc (suc (suc zero))))))) ha hb h = row_of-word a b b b _ ha hb hb hb (omega arith)
row a b (suc (suc (suc (suc (suc (suc (suc (suc zero)))))))) ha hb h = row_of-word b a a a _ hb ha ha ha (omega arith)
row a b (suc (suc (suc (suc (suc (suc (suc (suc (suc zero))))))))) ha hb h = row_of-word b a a b _ hb ha ha hb (omega arith)
row a b (suc (suc (suc (suc (suc (suc (suc (suc (suc (suc zero)))))))))) ha hb h = row_of-word b a b a _ hb ha hb ha (omega arith)
row a b (suc (suc (suc (suc (suc (suc (suc (suc (suc (suc (suc zero))))))))))) ha hb h = row_of-word b a b b _ hb ha hb hb (omega arith)
row a b (suc (suc (suc (suc (suc (suc (suc (suc (suc (suc (suc (suc zero)))))))))))) ha hb h = row_of-word b b a a _ hb hb ha ha (omega arith)
row a b (suc (suc (suc (suc (suc (suc (suc (suc (suc (suc (suc (suc (suc zero))))))))))))) ha hb h = row_of-word b b a b _ hb hb ha hb (omega arith)
row a b (suc (suc (suc (suc (suc (suc (suc (suc (suc (suc (suc (suc (suc (suc zero)))))))))))))) ha hb h = row_of-word b b b a _ hb hb hb ha (omega arith)
row a b (suc (suc (suc (suc (suc (suc (suc (suc (suc (suc (suc (suc (suc (suc (suc zero))))))))))))))) ha hb h = row_of-word b b b b _ hb hb hb hb (omega arith)
row a b (suc (suc (suc (suc (suc (suc (suc (suc (suc (suc (suc (suc (suc (suc (suc (suc f)))))))))))))))) ha hb h = absurd (omega arith)

factor-small : (f : ℕ) → factor_of f ≤ 16843009
unfolding factor_of
factor-small f = omega arith

pub product_small : (a m : ℕ) → a < 256 → m ≤ 16843009 → a * m ≤ 255 * 16843009
product_small a m ha hm = mul-le-mul {n₂ = 255} {m₂ = 16843009} (omega arith) hm

pub factor-at : (f m : ℕ) → m ≡ factor_of f → m ≤ 16843009
factor-at f m e = rw e (factor-small f)

-- as the code makes it: one colour everywhere, and the difference to the other where a bit is set, which may wrap
unwrap : (z a b d r : ℕ) → a ≤ z → z - a + b < 4294967296 → d < 4294967296 → (d + a) % 4294967296 ≡ b → r ≡ (z + d) % 4294967296 → r ≡ z - a + b
unwrap z a b d r h l k e f = omega arith

pub pair_row : (a b f : ℕ) → a < 256 → b < 256 → f < 16 → (m : ℕ) → m ≡ factor_of f → (d r : ℕ) → d < 4294967296
    → (d + a * m) % 4294967296 ≡ b * m → r ≡ (a * 16843009 + d) % 4294967296 → row_of r ≡ chosen (digits 1 4 f) (a ∷ b ∷ [])
pair_row a b f ha hb h m e d r hd ed er =
    let hm = factor-at f m e in
    let sum : 16843009 - m + m ≡ 16843009 = omega arith in
    let split : a * (16843009 - m) + a * m ≡ a * 16843009 = sym (mul-add a (16843009 - m) m) ∙ ap (λ (x : ℕ). a * x) sum in
    let most : a * (16843009 - m) + b * m ≤ 255 * 16843009 =
    omega (arith, mul-le-mul_right {m = a} {n = 255} (16843009 - m) (omega arith), mul-le-mul_right {m = b} {n = 255} m (omega arith)) in
    let q : a * 16843009 - a * m + b * m ≡ a * (16843009 - m) + b * m = omega arith in
    let x = unwrap (a * 16843009) (a * m) (b * m) d r (omega arith) (omega arith) hd ed er ∙ q in
    rw (x, e) (row a b f ha hb h)
