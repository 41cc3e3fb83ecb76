-- Laws of shades laid on a picture. Assumes nothing.
use Prim.Native.Nat.{ℕ, ◌/◌, ◌%◌, ◌<◌}
use mathlib.Core.Path.{◌≡◌, sym, ap, ◌∙◌}
use mathlib.Core.List.{List}
use lib.ListN.{length, get_or, length-map}
use lib.Seq.{ext_get_or}
use Rattle.spec.specs.declared.Size.{Size}
use Rattle.spec.specs.Basics.{from}
use Rattle.spec.specs.Sizes.{pixels}
use Rattle.spec.proofs.Lists.{length_from, get_or-rule}
use Rattle.sprite.specs.Frames.{Shade, background}
use Rattle.sprite.specs.Symbols.{upon, overlay}

module _ (z : Size) where
  -- the shade that lies on the picture's place p
  abbrev pub at : (ℕ → ℕ → Shade) → ℕ → Shade
  at f p = f (p % z.width) (p / z.width)

  pub length-overlay : (f : ℕ → ℕ → Shade) (pic : List ℕ) → length (overlay z f pic) ≡ pixels z
  unfolding overlay
  length-overlay f pic = length-map (from 0 (pixels z)) _ ∙ length_from 0 (pixels z)

  overlay-at : (f : ℕ → ℕ → Shade) (pic : List ℕ) (p : ℕ) → p < pixels z → get_or (overlay z f pic) p 0 ≡ upon (at f p) (get_or pic p 0)
  unfolding overlay
  overlay-at f pic p h = get_or-rule (λ p. upon (at f p) (get_or pic p 0)) (pixels z) p 0 h

  -- a picture of this size that has at each place what the overlay has
  pub is-overlay : (f : ℕ → ℕ → Shade) (pic pic' : List ℕ) → length pic' ≡ pixels z
      → ((p : ℕ) → p < pixels z → get_or pic' p 0 ≡ upon (at f p) (get_or pic p 0)) → pic' ≡ overlay z f pic
  is-overlay f pic pic' l h =
      ext_get_or 0 pic' (overlay z f pic) (l ∙ sym (length-overlay f pic)) (λ p g.
      let b : p < pixels z = rw l at g in
      h p b ∙ sym (overlay-at f pic p b))

  -- the same shades wherever the picture is
  pub overlay-same : (f g : ℕ → ℕ → Shade) (pic : List ℕ) → ((p : ℕ) → p < pixels z → at f p ≡ at g p) → overlay z f pic ≡ overlay z g pic
  overlay-same f g pic h =
      is-overlay g pic (overlay z f pic) (length-overlay f pic) (λ p b.
      overlay-at f pic p b ∙ ap (λ (s : Shade). upon s (get_or pic p 0)) (h p b))

  -- nothing but background
  pub overlay-none : (f : ℕ → ℕ → Shade) (pic : List ℕ) → length pic ≡ pixels z → ((p : ℕ) → p < pixels z → at f p ≡ background) → pic ≡ overlay z f pic
  overlay-none f pic l h =
      is-overlay f pic pic l (λ p b. sym (ap (λ (s : Shade). upon s (get_or pic p 0)) (h p b)))

  -- one after the other
  pub overlay-over : (f g h : ℕ → ℕ → Shade) (pic : List ℕ)
      → ((p old : ℕ) → p < pixels z → upon (at f p) (upon (at g p) old) ≡ upon (at h p) old)
      → overlay z f (overlay z g pic) ≡ overlay z h pic
  overlay-over f g h pic e =
      is-overlay h pic (overlay z f (overlay z g pic)) (length-overlay f _) (λ p b.
      overlay-at f (overlay z g pic) p b
      ∙ ap (λ (old : ℕ). upon (at f p) old) (overlay-at g pic p b)
      ∙ e p (get_or pic p 0) b)
