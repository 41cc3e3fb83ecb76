-- What holds of a file's head and offset table, and of a frame's head. Assumes nothing. Here s are the file's bytes.
use Prim.Native.Nat.{ℕ, ◌+◌, ◌*◌, ◌≤◌}
use mathlib.Core.Path.{◌≡◌}
use mathlib.Core.Logic.{◌≢◌}
use mathlib.Core.List.{List, []}
use mathlib.Core.Bool.{true, ◌&&◌, and-eq-true_iff}
use lib.Dec.{leb}
use lib.ListN.{length}
use borrow.Author.Tests.{leb-true, ne_eqb}
use Rattle.spec.specs.Basics.{if}
use Rattle.spec.specs.Answers.{ok}
use Rattle.sprite.specs.Files.{head_bytes, first_version, last_version, version, frame_count, offset_of, height_at, width_at, frame_bytes, is_sprite, is_frame, frame_fault}
use Rattle.sprite.specs.Frames.{ended, rows, frame}

module _ (s : List ℕ) where
  pub table-whole : is_sprite s ≡ true → head_bytes + 4 * frame_count s ≤ length s
  unfolding is_sprite
  table-whole e =
      let before = leb head_bytes (length s) && (leb first_version (version s) && leb (version s) last_version) in
      leb-true _ _ ((and-eq-true_iff before (leb (head_bytes + 4 * frame_count s) (length s))).0 e).1

  pub head-whole : (at : ℕ) → is_frame s at ≡ true → at + frame_bytes ≤ length s
  unfolding is_frame
  head-whole at e = leb-true _ _ ((and-eq-true_iff (leb (at + frame_bytes) (length s)) _).0 e).0

  -- the frame, where that number is known
  pub frame_refused : (k e : ℕ) → e ≡ frame_fault s k → e ≢ ok → frame s k ≡ ended e []
  unfolding frame if
  frame_refused k e f h = rw (← f, ne_eqb e ok h)

  pub frame-there : (k : ℕ) → frame_fault s k ≡ ok
      → frame s k ≡ rows s (height_at s (offset_of s k)) (width_at s (offset_of s k)) (offset_of s k + frame_bytes)
  unfolding frame if
  frame-there k e = rw e
