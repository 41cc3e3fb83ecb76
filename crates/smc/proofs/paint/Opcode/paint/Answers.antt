use Rattle.std.proofs.Common.{◌≢◌, refl, ap, arith}
use Rattle.spec.specs.Chunks.{Kind, stores}
use Rattle.smc.proofs.Opcodes.{kind-is, of_either, stores-low}
use Rattle.smc.proofs.Turning.{turned_plain, turned-pairs, turned-quads, turned-octets}
use Rattle.smc.proofs.paint.Opcode.paint.Goals as goal

pub returns-then-upper-ge14 : goal.returns-then-upper-ge14
returns-then-upper-ge14 c = let o = c.args.self.now in
    turned_plain o.grid.columns o.grid.lines o.s.now o.at o.k _ _ _ _ _ _ _ c.whole.ensures
    (ap stores (kind-is o.s.now o.at 14 (omega (arith, c.if-upper-ge14.true, o.room.known))))

pub returns-then-upper-ge12 : goal.returns-then-upper-ge12
returns-then-upper-ge12 c = let o = c.args.self.now in
    turned-octets o.grid.columns o.grid.lines o.s.now o.at o.k _ _ _ _ _ _ _ _ c.tabled.ensures (refl, refl) (refl, refl)
    (of_either (λ (x : Kind). stores x ≢ 1) o.s.now o.at 12 (omega (arith, c.if-upper-ge12.true)) (omega (arith, c.if-upper-ge14.false))
    (λ q. omega arith) (λ q. omega arith))
    (of_either (λ (x : Kind). stores x ≢ 2) o.s.now o.at 12 (omega (arith, c.if-upper-ge12.true)) (omega (arith, c.if-upper-ge14.false))
    (λ q. omega arith) (λ q. omega arith))

pub returns-then-upper-ge10 : goal.returns-then-upper-ge10
returns-then-upper-ge10 c = let o = c.args.self.now in
    turned-quads o.grid.columns o.grid.lines o.s.now o.at o.k _ _ _ _ _ _ _ _ c.tabled-then-upper-ge10.ensures (refl, refl) (refl, refl)
    (of_either (λ (x : Kind). stores x ≢ 1) o.s.now o.at 10 (omega (arith, c.if-upper-ge10.true)) (omega (arith, c.if-upper-ge12.false))
    (λ q. omega arith) (λ q. omega arith))
    (of_either (λ (x : Kind). stores x ≢ 3) o.s.now o.at 10 (omega (arith, c.if-upper-ge10.true)) (omega (arith, c.if-upper-ge12.false))
    (λ q. omega arith) (λ q. omega arith))

pub returns-then-upper-ge8 : goal.returns-then-upper-ge8
returns-then-upper-ge8 c = let o = c.args.self.now in
    turned-pairs o.grid.columns o.grid.lines o.s.now o.at o.k _ _ _ _ _ _ _ _ c.tabled-then-upper-ge8.ensures (refl, refl) (refl, refl)
    (of_either (λ (x : Kind). stores x ≢ 2) o.s.now o.at 8 (omega (arith, c.if-upper-ge8.true)) (omega (arith, c.if-upper-ge10.false))
    (λ q. omega arith) (λ q. omega arith))
    (of_either (λ (x : Kind). stores x ≢ 3) o.s.now o.at 8 (omega (arith, c.if-upper-ge8.true)) (omega (arith, c.if-upper-ge10.false))
    (λ q. omega arith) (λ q. omega arith))

pub returns : goal.returns
returns c = let o = c.args.self.now in
    turned_plain o.grid.columns o.grid.lines o.s.now o.at o.k _ _ _ _ _ _ _ c.plain.ensures
    (stores-low o.s.now o.at (omega (arith, c.if-upper-ge8.false)))
