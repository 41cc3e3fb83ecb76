-- Which opcode stores entries of the table of so many bits; the one after it names them. Assumes nothing.
use Rattle.std.specs.Prelude.{◌≡◌, ◌≢◌, ◌<◌, refl, ℕ, suc}
use Rattle.std.proofs.Common.{arith}
use Rattle.spec.specs.Chunks.{kind_of, store, named}

pub record Stores (bits u : ℕ) : Type 0 where
  pub some : bits ≢ 0
  pub most : bits < 4
  pub stores : kind_of u ≡ store bits
  pub names : kind_of (suc u) ≡ named bits

pub pairs : Stores 1 8
pairs = record { some = λ e. omega arith; most = omega arith; stores = refl; names = refl }

pub quads : Stores 2 10
quads = record { some = λ e. omega arith; most = omega arith; stores = refl; names = refl }

pub octets : Stores 3 12
octets = record { some = λ e. omega arith; most = omega arith; stores = refl; names = refl }
