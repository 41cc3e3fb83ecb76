use Rattle.spec.proofs.Cases.{cases}
use Rattle.sprite.specs.Files.{is_sprite}
use Rattle.sprite.proofs.files.is_sprite.Goals as goal

pub returns-then-s-lt-HEAD_BYTES : goal.returns-then-s-lt-HEAD_BYTES
unfolding is_sprite
returns-then-s-lt-HEAD_BYTES c = search cases

pub returns-then-version-lt-FIRST_VERSION : goal.returns-then-version-lt-FIRST_VERSION
unfolding is_sprite
returns-then-version-lt-FIRST_VERSION c = rw (← c.long-version.ensures) (search cases)

pub returns : goal.returns
unfolding is_sprite
returns c = rw (← c.long-version.ensures, ← c.long.ensures) (search cases)
