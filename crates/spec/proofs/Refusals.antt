-- A refusal is never 0, and is known by its number. Assumes nothing.
use Prim.Native.Nat.{ℕ, ◌-◌}
use mathlib.Core.Path.{◌≡◌, refl, sym, ap, ◌∙◌}
use mathlib.Core.Logic.{◌≢◌}
use mathlib.Core.List.{List, [], ◌∷◌}
use native.Mathlib.Omega.{arith}
use lib.ListN.{get_or}
use Rattle.std.specs.Prelude.{Result, Ok, Err}
use Rattle.spec.specs.declared.Refusal.{Refusal}
use Rattle.spec.specs.declared.Refusal.TheVariants as Why
use Rattle.spec.specs.Answers.{ok, refusal_number, number_of}

-- the refusals in the order of their numbers, from 1 on
abbrev in_order : List Refusal
in_order =
    Why.BadSize ∷ Why.BadLength ∷ Why.ChunkShort ∷ Why.LengthDiffers ∷ Why.BlocksRemain ∷ Why.OpcodeCut ∷ Why.OpcodeUnknown
    ∷ Why.NoneBefore ∷ Why.PastLastBlock ∷ Why.EntryEmpty ∷ Why.BytesFollow ∷ Why.BadVarint ∷ Why.FeedCut ∷ Why.OutputShort
    ∷ Why.BadSprite ∷ Why.NoSuchFrame ∷ Why.BadFrame ∷ Why.BadRow ∷ Why.BadSegment ∷ Why.NoEndMarker ∷ Why.BadCount ∷ []

abbrev refusal_of : ℕ → Refusal
refusal_of number = get_or in_order (number - 1) Why.BadSize

numbered-back : (why : Refusal) → refusal_of (refusal_number why) ≡ why
numbered-back Why.BadSize = refl
numbered-back Why.BadLength = refl
numbered-back Why.ChunkShort = refl
numbered-back Why.LengthDiffers = refl
numbered-back Why.BlocksRemain = refl
numbered-back Why.OpcodeCut = refl
numbered-back Why.OpcodeUnknown = refl
numbered-back Why.NoneBefore = refl
numbered-back Why.PastLastBlock = refl
numbered-back Why.EntryEmpty = refl
numbered-back Why.BytesFollow = refl
numbered-back Why.BadVarint = refl
numbered-back Why.FeedCut = refl
numbered-back Why.OutputShort = refl
numbered-back Why.BadSprite = refl
numbered-back Why.NoSuchFrame = refl
numbered-back Why.BadFrame = refl
numbered-back Why.BadRow = refl
numbered-back Why.BadSegment = refl
numbered-back Why.NoEndMarker = refl
numbered-back Why.BadCount = refl

pub refused-not-ok : (why : Refusal) → refusal_number why ≢ ok
refused-not-ok why e =
    let first : why ≡ Why.BadSize = sym (numbered-back why) ∙ ap refusal_of e in
    omega (arith, e, ap refusal_number first)

-- refusals of one number are the same
pub refusal-same : (x y : Refusal) → refusal_number x ≡ refusal_number y → x ≡ y
refusal-same x y h = sym (numbered-back x) ∙ ap refusal_of h ∙ numbered-back y

-- and so are the results of checks
pub check-same : (x y : Result (Unit {0}) Refusal) → number_of x ≡ number_of y → x ≡ y
check-same (Ok u) (Ok v) h = refl
check-same (Ok u) (Err why) h = absurd (refused-not-ok why (sym h))
check-same (Err why) (Ok v) h = absurd (refused-not-ok why h)
check-same (Err why) (Err other) h = ap (λ (w : Refusal). Err w) (refusal-same why other h)
