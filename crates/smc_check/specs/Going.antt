-- What goes along with the check from opcode to opcode, whatever it is: P and Q say that it tallies with the blocks made so far. Assumes nothing.
use Rattle.std.specs.Prelude.{ℕ, ◌≡◌, List, length, Result, Ok, Err}
use Rattle.spec.specs.declared.Answer.{Answer}
use Rattle.spec.specs.Pictures.{Origin}
use Rattle.spec.specs.Chunks.{kind_of, State, extend, Outcome, refused, accepted}
use Rattle.smc_check.specs.declared.check.Used.{Used}

-- there are k blocks made with which it tallies
pub record Made (P : List Origin → Type 0) (k : ℕ) : Type 0 where
  pub made : List Origin
  pub size : length made ≡ k
  pub tally : P made

-- past an opcode of upper half-byte u, for w blocks from block k on, whatever was made
abbrev pub Advances : (List Origin → Type 0) → (List Origin → Type 0) → ℕ → ℕ → ℕ → Type 0
Advances P Q u k w = (hs s : List ℕ) (at : ℕ) (st : State) → length st.made ≡ k → P st.made → Q (extend (kind_of u) hs s at w st)

-- as T says it, and with the map m, which M gives, as it was
abbrev pub Staying : {A : Type 0} → (A → List ℕ) → (A → List Origin → Type 0) → List ℕ → A → List Origin → Type 0
Staying M T m a made = (M a ≡ m) × T a made

-- where a chunk is refused, the answer; else the length used, and it tallies with an origin for each of the n blocks
pub data Concludes {A : Type 0} (T : A → List Origin → Type 0) (n : ℕ) (s : List ℕ) : Result (Used A) Answer → Outcome → Type 0 where
  stops : {a : Answer} → Concludes T n s (Err a) (refused a)
  passes : {u : Used A} {os : List Origin} → u.length ≡ length s → length os ≡ n → T u.along os → Concludes T n s (Ok u) (accepted os)
