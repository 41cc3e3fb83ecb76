use Rattle.std.proofs.Common.{get_or, refl, arith}
use Rattle.smc.proofs.Factors.{factor-at, product_small, pair_row}
use Rattle.smc.proofs.flags.Pairs.row.Goals as goal

pub overflow_mul-a : goal.overflow_mul-a
overflow_mul-a c = rw (c.from.ensures, c.from-2.ensures)
    (omega (arith, product_small c.args.c0 _ (omega arith) (factor-at c.args.f _ (c.args.self.now.are c.args.f c.requires))))

pub overflow_mul-b : goal.overflow_mul-b
overflow_mul-b c = rw (c.from.ensures, c.from-3.ensures)
    (omega (arith, product_small c.args.c1 _ (omega arith) (factor-at c.args.f _ (c.args.self.now.are c.args.f c.requires))))

pub returns : goal.returns
returns c = let a = c.args in
    let m = get_or a.self.now.factors a.f 0 in
    let e = a.self.now.are a.f c.requires in
    let p = product_small a.c0 m (omega arith) (factor-at a.f m e) in
    let q = product_small a.c1 m (omega arith) (factor-at a.f m e) in
    rw (c.from.ensures, c.from-2.ensures, c.from-3.ensures, c.from-4.ensures)
    (pair_row a.c0 a.c1 a.f (omega arith) (omega arith) c.requires m e _ _ (omega arith) (omega (arith, p, q)) refl)
