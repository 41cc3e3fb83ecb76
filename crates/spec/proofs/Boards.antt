-- Calls on boards: one thing after another, and lengths. Assumes nothing.
use Prim.Native.Nat.{ℕ}
use mathlib.Core.Path.{◌≡◌, refl, sym, ap, ◌∙◌}
use mathlib.Core.List.{List, [], ◌∷◌, ◌++◌}
use mathlib.Core.Bool.{true}
use Rattle.spec.specs.declared.Answer.{Answer}
use Rattle.spec.specs.declared.Size.{Size}
use Rattle.spec.specs.Answers.{ok, checked}
use Rattle.spec.specs.Sizes.{allowed, columns, lines, blocks, fault}
use Rattle.spec.specs.Pictures.{Origin, Covers}
use Rattle.spec.specs.Maps.{remap, unsettled, recount}
use Rattle.spec.specs.Chunks.{Outcome, refused, accepted, decode, verdict}
use Rattle.spec.specs.Boards.{Board, Left, left, Exact, exact, Faithful, paint_board, effect, read_exact, read, in_turn}
use Rattle.spec.proofs.Limits.{allowed-size, area, exact-true, fault-none}
use Rattle.spec.proofs.Blocks.{length-paint}
use Rattle.spec.proofs.Origins.{length-remap}
use Rattle.spec.proofs.Sound.{Sound, accepts, decoded}
use Rattle.spec.proofs.Records.{recount-true, recounted-true}

-- first xs, then ys: all that was said, and the board
pub in_turn-append : {A R : Type 0} (f : A → Board → Left R) (xs ys : List A) (b : Board)
    → let first = in_turn f xs b in
    let second = in_turn f ys first.board in
    in_turn f (xs ++ ys) b ≡ left (first.said ++ second.said) second.board
unfolding in_turn
in_turn-append f [] ys b = refl
in_turn-append f (x ∷ xs) ys b =
    let first = f x b in
    ap (λ rest. left (first.said ∷ rest.said) rest.board) (in_turn-append f xs ys first.board)

-- a board through origins, one a block, keeps its lengths
pub exact-paint : (z : Size) → allowed z ≡ true → (os : List Origin) (b : Board) → Covers (blocks z) os → Exact z (paint_board z os b)
exact-paint z fine os b g =
    record { picture = length-paint (columns z) (lines z) os b.picture ∙ area z fine; map = length-remap os b.map ∙ g.size }

-- the same of a board, so that reading goes straight on
pub no-fault : (z : Size) → allowed z ≡ true → (b : Board) → Exact z b → fault z (exact z b) ≡ ok
no-fault z a b e = fault-none z (exact z b) a (exact-true z b e)

pub read-exact : (z : Size) → allowed z ≡ true → (s : List ℕ) (b : Board) → Exact z b → read z s b ≡ read_exact z s b
unfolding read checked
read-exact z a s b e = rw (no-fault z a b e)

-- a board whose record is true, through origins: it stays true
pub kept-paint : (z : Size) (os : List Origin) (b : Board) → Covers (blocks z) os → Faithful z b
    → (paint_board z os b).kept ≡ unsettled (remap os b.map)
kept-paint z os b g f = ap (recount os b.map) f.kept ∙ recount-true os b.map (g.size ∙ sym f.exact.map)

pub faithful-paint : (z : Size) → allowed z ≡ true → (os : List Origin) (b : Board) → Covers (blocks z) os → Faithful z b → Faithful z (paint_board z os b)
faithful-paint z fine os b g f = record { exact = exact-paint z fine os b g; kept = kept-paint z os b g f }

-- and reading is as if there were no record: the answer and the picture are those of `decode`
pub read-faithful : (z : Size) → allowed z ≡ true → (s : List ℕ) (b : Board) → Faithful z b
    → read z s b ≡ left (verdict s (decode (blocks z) s)) (effect z (decode (blocks z) s) b)
read-faithful z fine s b f =
    read-exact z fine s b f.exact
    ∙ ap (λ o. left (verdict s o) (effect z o b))
    (recounted-true (blocks z) b f.kept f.exact.map (decode (blocks z) s) (decoded (blocks z) (allowed-size z fine).some s))

-- so a true record stays true, whatever the chunk
pub faithful-read : (z : Size) → allowed z ≡ true → (s : List ℕ) (b : Board) → Faithful z b → Faithful z (read z s b).board
faithful-read z fine s b f =
    let is = ap (λ (l : Left Answer). l.board) (read-faithful z fine s b f) in
    rw is (by (decode (blocks z) s) (decoded (blocks z) (allowed-size z fine).some s))
  where
    by : (o : Outcome) → Sound (blocks z) o → Faithful z (effect z o b)
    by (refused a) x = f
    by (accepted os) (accepts g) = faithful-paint z fine os b g f
