use Rattle.smc_check.proofs.Tallies.{
  reach-some,
  reach-two,
  even-two,
  product_small,
  pairs_small,
  now-most,
  kind-repeats,
  kind-pairs,
  notes-repeats,
  notes-pairs,
  byte-bit,
  bit-small,
}
use native.Mathlib.Omega.{arith}
use Rattle.smc_check.proofs.count.Counter.copied.Goals as goal

pub overflow_add-result : goal.overflow_add-result
overflow_add-result c = let a = c.args in
    let p = product_small a.run.blocks c.from.result (rw (c.from.ensures, byte-bit) (bit-small _)) in
    let most = now-most a.self.map.now a.run.first a.self.t c.requires.tallied (omega (arith, c.requires.fits)) in
    omega (arith, p, most, c.requires.fits, a.self.map_fits)

pub returns-then-run-lt4 : goal.returns-then-run-lt4
returns-then-run-lt4 c = let a = c.args in
    let u = a.run.upper in
    let far = reach-some u c.requires.copies.0 c.requires.copies.1 in
    let k = a.run.reached in
    rw (c.from.ensures, c.copied.ensures, c.copied-then-run-lt4.ensures, byte-bit c.is_unsettled-one.result)
    (notes-repeats a.self.map.now u a.run.first a.run.blocks a.self.t a.run.some c.requires.copies.0
    (kind-repeats u c.requires.copies.0 (omega (arith, c.if-run-lt4.true))) (omega (arith, far, k)) _ c.is_unsettled-one.ensures)

pub overflow_add-result-3 : goal.overflow_add-result-3
overflow_add-result-3 c = let a = c.args in
    let p = pairs_small a.run.blocks c.from-2.result c.from-3.result (rw (c.from-2.ensures, byte-bit) (bit-small _))
    (rw (c.from-3.ensures, byte-bit) (bit-small _)) in
    let most = now-most a.self.map.now a.run.first a.self.t c.requires.tallied (omega (arith, c.requires.fits)) in
    omega (arith, p, most, c.requires.fits, a.self.map_fits)

pub returns : goal.returns
returns c = let a = c.args in
    let u = a.run.upper in
    let four = c.if-run-lt4.false in
    let far = reach-two u (omega (arith, four)) c.requires.copies.1 in
    let k = a.run.reached in
    rw (c.from-2.ensures, c.from-3.ensures, c.copied-2.ensures, c.copied-3.ensures, byte-bit c.is_unsettled-one.result, byte-bit c.is_unsettled-two.result)
    (notes-pairs a.self.map.now u a.run.first a.run.blocks a.self.t a.run.some c.requires.copies.0 (kind-pairs u (omega (arith, four)) c.requires.copies.1)
    (omega (arith, far, k)) (even-two u a.run.blocks (omega (arith, four)) c.requires.copies.1 a.run.even) _ _
    c.is_unsettled-one.ensures c.is_unsettled-two.ensures)
