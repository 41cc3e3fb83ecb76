-- What the counting beside the check pass goes by: what a loop that only reads heads of opcodes and the lent map can know of the count's
-- change. No part of what a chunk means. Assumes nothing.
use Rattle.std.specs.Prelude.{ℕ, zero, suc, ◌+◌, ◌-◌, ◌*◌, ◌<◌, ◌≤◌, ◌≡◌, List, Bool, true, false, eqb, length, get_or, Result, Ok, Err}
use Rattle.spec.specs.declared.Answer.{Answer}
use Rattle.spec.specs.Answers.{ok, answer_at}
use Rattle.spec.specs.Basics.{if}
use Rattle.spec.specs.Pictures.{Origin, held}
use Rattle.spec.specs.Maps.{settled, entry, remap, unsettled, newly_unsettled, newly_settled}
use Rattle.spec.specs.Chunks.{Outcome, refused, accepted}
use Rattle.smc_check.specs.declared.count.Running.{Running}
use Rattle.smc_check.specs.declared.count.Changed.{Changed}
use Rattle.smc_check.specs.declared.count.Block.{Block}
use Rattle.smc_check.specs.declared.count.Block.TheVariants.{Settled, Skipped, Unsettled}
use Rattle.smc_check.specs.Tables.{touches}
use Rattle.smc_check.specs.Going.{Made, Advances}

-- 1 for an entry that is not the mark; of an origin, over the lent map
abbrev pub is_open : ℕ → ℕ
is_open x = if (eqb x settled) 0 1

abbrev pub open_of : List ℕ → Origin → ℕ
open_of m o = is_open (entry m o)

-- how many of w entries from a on are not the mark
unfoldable pub open_in : List ℕ → ℕ → ℕ → ℕ
open_in m a zero = 0
open_in m a (suc w) = open_in m a w + is_open (get_or m (a + w) 0)

-- the blocks that a list ends with
abbrev pub last_of : List Origin → Origin
last_of made = get_or made (length made - 1) (held 0)

abbrev pub next_to_last : List Origin → Origin
next_to_last made = get_or made (length made - 2) (held 0)

-- a test as a number to add up
abbrev pub bit : Bool → ℕ
bit true = 1
bit false = 0

-- by what is remembered of block j, how open it is by now
abbrev pub opened : List ℕ → Block → ℕ → ℕ
opened m Settled j = 0
opened m Skipped j = is_open (get_or m j 0)
opened m Unsettled j = 1

-- Where the loop stands, with these blocks made. `now` is the number of blocks, with every entry found open taken away and every block that a
-- copy has opened added; the entries from lo to hi are still to be counted, and owed more; one and two are remembered of the last blocks
pub record Standing (m : List ℕ) (made : List Origin) (now : ℕ) (one two : Block) (lo hi owed : ℕ) : Type 0 where
  pub balance : now + open_in m 0 (length made) ≡ length m + unsettled (remap made m) + open_in m lo (hi - lo) + owed
  pub begin : lo ≤ hi
  pub past : hi ≤ length made
  pub first : 1 ≤ length made → opened m one (length made - 1) ≡ open_of m (last_of made)
  pub second : 2 ≤ length made → opened m two (length made - 2) ≡ open_of m (next_to_last made)

abbrev pub StandsAt : List ℕ → List Origin → Running → ℕ → Type 0
StandsAt m made t owed = Standing m made t.now t.one t.two t.lo t.hi owed

-- there are blocks made with which the numbers tally
abbrev pub Tallied : List ℕ → ℕ → Running → Type 0
Tallied m k t = Made (λ made. StandsAt m made t 0) k

-- the same while the entries of w blocks from k on are owed
pub record Owing (m : List ℕ) (k w : ℕ) (t : Running) : Type 0 where
  pub made : List Origin
  pub start : k < length m
  pub inside : k + w ≤ length made
  pub most : length made ≤ length m
  pub tally : StandsAt m made t (open_in m k w)

-- of w blocks, how many an opcode of upper half-byte u touches
unfoldable pub touched : ℕ → ℕ → ℕ
touched u w = bit (touches u) * w

-- What an opcode of upper half-byte u, for w blocks from block k on, makes of the numbers, whatever was made: they tally again, when the
-- entries that it touches are owed; then with those taken away; and both
abbrev pub Notes : List ℕ → ℕ → ℕ → ℕ → Running → Running → Type 0
Notes m u k w t r = Advances (λ made. StandsAt m made t 0) (λ made. StandsAt m made r (open_in m k (touched u w))) u k w

abbrev pub Takes : List ℕ → ℕ → ℕ → Running → Running → Type 0
Takes m k w t r =
    (made : List Origin) → k + w ≤ length made → length made ≤ length m → StandsAt m made t (open_in m k w) → StandsAt m made r 0

abbrev pub Counts : List ℕ → ℕ → ℕ → ℕ → Running → Running → Type 0
Counts m u k w t r = Advances (λ made. StandsAt m made t 0) (λ made. StandsAt m made r 0) u k w

-- the choices of the loop
abbrev pub left : Bool → Block
left true = Settled
left false = Skipped

abbrev pub copied : Bool → Block
copied true = Unsettled
copied false = Settled

abbrev pub both : Block → Block → Bool
both Settled Settled = true
both _ _ = false

abbrev pub is_settled : Running → Bool
is_settled t = both t.one t.two

unfoldable pub second_of : Block → Block → ℕ → Block
second_of one code w = if (eqb w 1) one code

-- where it starts, and what it has counted in the end
abbrev pub begun : ℕ → Running
begun n = record { now = n; one = Settled; two = Settled; lo = 0; hi = 0 }

abbrev pub summed : List ℕ → Running → ℕ
summed m t = t.now - open_in m t.lo (t.hi - t.lo)

-- what is counted when every block has had its turn
pub data Balanced (m : List ℕ) (now : ℕ) : Outcome → Type 0 where
  nothing : {a : Answer} → Balanced m now (refused a)
  sums : {os : List Origin} → now + newly_settled m (remap os m) ≡ length m + newly_unsettled m (remap os m) → Balanced m now (accepted os)

-- the answer to a chunk for n blocks, by what the code has of it
abbrev pub answer_of : ℕ → Result Changed Answer → Answer
answer_of n (Ok c) = answer_at ok c.length n
answer_of n (Err a) = a
