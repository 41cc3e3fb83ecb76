use mathlib.Core.Path.{sym, ap, ◌∙◌}
use Rattle.spec.specs.declared.FeedSize.{FeedSize}
use Rattle.spec.specs.Sizes.{allowed}
use native.Mathlib.Omega.{arith}
use borrow.Author.Tests.{eqb-true}
use Rattle.spec.specs.Basics.{if}
use Rattle.spec.specs.Listing.{decide}
use Rattle.spec.proofs.Cases.{cases}
use Rattle.spec.proofs.Limits.{allowed-size}
use Rattle.feed.proofs.Opening.{size-fine}
use Rattle.feed.proofs.decide.Goals as goal

pub returns-then-feed-gt-MAX_FEED : goal.returns-then-feed-gt-MAX_FEED
unfolding decide if
returns-then-feed-gt-MAX_FEED c = search cases

pub returns-then-not-is_ok : goal.returns-then-not-is_ok
unfolding decide if
returns-then-not-is_ok c = rw (← c.feed_size-own.ensures) (search cases)

pub overflow_mul-size : goal.overflow_mul-size
overflow_mul-size c = let own = c.feed_size-own.ensures in
    let told = ap (λ (f : FeedSize). f.answer.number) (sym own) ∙ eqb-true _ _ (sym c.is_ok.ensures ∙ c.if-not-is_ok.false) in
    let fine = ap (λ (f : FeedSize). allowed f.size) own ∙ size-fine _ told in
    omega (arith, (allowed-size _ fine).small)

pub returns-then-size-gt-MAX_SHOWN_PIXELS : goal.returns-then-size-gt-MAX_SHOWN_PIXELS
unfolding decide if
returns-then-size-gt-MAX_SHOWN_PIXELS c = rw (← c.feed_size-own.ensures) (search cases)

pub returns : goal.returns
unfolding decide if
returns c = rw (← c.feed_size-own.ensures) (search cases)
