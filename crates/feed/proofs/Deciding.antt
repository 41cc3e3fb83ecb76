-- A board that a program shows is of an allowed size, and not too large. Assumes nothing.
use Prim.Native.Nat.{ℕ, ◌*◌, ◌≤◌}
use mathlib.Core.Path.{◌≡◌, refl, sym, ap, subst, ◌∙◌}
use mathlib.Core.List.{List}
use mathlib.Core.Bool.{true}
use native.Mathlib.Omega.{arith}
use lib.Dec.{eqb, ltb}
use lib.ListN.{length, get_or}
use borrow.Author.Tests.{eqb-true, ltb-false}
use Rattle.spec.specs.declared.Size.{Size}
use Rattle.spec.specs.declared.Decision.{Decision}
use Rattle.spec.specs.Answers.{ok}
use Rattle.spec.specs.Sizes.{allowed, pixels, blocks}
use Rattle.spec.specs.Listing.{max_feed, max_shown_pixels, decide_by, decide, decision_says}
use Rattle.spec.specs.Feeds.{feed_size}
use Rattle.spec.proofs.Lists.{by-test}
use Rattle.spec.proofs.Limits.{area}
use Rattle.feed.proofs.Opening.{size-fine}

-- decisions that say the same are the same
pub decision-same : (x y : Decision) → decision_says x ≡ decision_says y → x ≡ y
decision-same Decision.TooLarge Decision.TooLarge h = refl
decision-same Decision.TooLarge (Decision.EndLine a) h = absurd (omega (arith, ap length h))
decision-same Decision.TooLarge (Decision.Board z p) h = absurd (omega (arith, ap length h))
decision-same (Decision.EndLine a) Decision.TooLarge h = absurd (omega (arith, ap length h))
decision-same (Decision.EndLine a) (Decision.EndLine b) h =
    ap (λ (l : List ℕ). Decision.EndLine (record { number = get_or l 0 0; place = get_or l 1 0; block = get_or l 2 0 })) h
decision-same (Decision.EndLine a) (Decision.Board z p) h = absurd (omega (arith, ap length h))
decision-same (Decision.Board z p) Decision.TooLarge h = absurd (omega (arith, ap length h))
decision-same (Decision.Board z p) (Decision.EndLine a) h = absurd (omega (arith, ap length h))
decision-same (Decision.Board z p) (Decision.Board y q) h =
    ap (λ (l : List ℕ). Decision.Board (record { width = get_or l 1 0; height = get_or l 2 0 }) (get_or l 3 0)) h

pub record Shown (z : Size) : Type 0 where
  pub fine : allowed z ≡ true
  pub few : pixels z ≤ max_shown_pixels
  pub few-blocks : 16 * blocks z ≤ max_shown_pixels

abbrev ShownBy : Decision → Type 0
ShownBy Decision.TooLarge = Unit {0}
ShownBy (Decision.EndLine a) = Unit {0}
ShownBy (Decision.Board z first) = Shown z

shown_by : (s : List ℕ) → ShownBy (decide_by (feed_size s))
shown_by s =
    let f = feed_size s in
    by-test ShownBy (eqb f.answer.number ok)
    (λ t. by-test ShownBy (ltb max_shown_pixels (pixels f.size)) (λ u. tt) (λ u.
    let few = ltb-false max_shown_pixels (pixels f.size) u in
    let fine = size-fine s (eqb-true _ _ t) in
    record { fine = fine; few = few; few-blocks = omega (arith, area f.size fine) }))
    (λ t. tt)

decided : (s : List ℕ) → ShownBy (decide s)
unfolding decide
decided s = by-test ShownBy (ltb max_feed (length s)) (λ t. tt) (λ t. shown_by s)

-- of a board that code was given
pub shown : (s : List ℕ) (x : Decision) {z : Size} {first : ℕ} → decision_says x ≡ decision_says (decide s) → x ≡ Decision.Board z first → Shown z
shown s x says e = subst ShownBy (sym (decision-same x (decide s) says) ∙ e) (decided s)
