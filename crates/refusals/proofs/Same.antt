-- A refusal and a verdict back from their number and their place.
--   same-refusal, same-verdict   two refusals with the same number and place are the same; so are two verdicts
use Rattle.std.proofs.Common.{Ok, Err, ◌≡◌}
use Rattle.lists.proofs.Kit.{refl, ap, cond, ℕ, arith, eqb}
use Rattle.refusals.specs.Refusals.{number_of, place_of, number_in, place_in, Refusal, Verdict, NoScheme, BadLength, Short, PublicOver, MessageOver}
use Rattle.refusals.specs.Refusals.{SecretBeyond, RanOut, Misfit, OutOfStage, OutOfTurn, NoRule, NewerFormat, NoStudio, Blank, NotAscending}
use Rattle.refusals.proofs.Laws.{some}

refusal_by : ℕ → ℕ → Refusal
refusal_by k p =
    cond (eqb k 1) NoScheme
    (cond (eqb k 2) BadLength
    (cond (eqb k 3) Short
    (cond (eqb k 4) (PublicOver p)
    (cond (eqb k 5) (MessageOver p)
    (cond (eqb k 6) (SecretBeyond p)
    (cond (eqb k 7) (RanOut p)
    (cond (eqb k 8) Misfit
    (cond (eqb k 10) OutOfStage
    (cond (eqb k 11) OutOfTurn
    (cond (eqb k 12) NoRule
    (cond (eqb k 15) NewerFormat
    (cond (eqb k 16) NoStudio
    (cond (eqb k 17) Blank
    (NotAscending p))))))))))))))

back : (r : Refusal) → refusal_by (number_of r) (place_of r) ≡ r
unfolding refusal_by
back NoScheme = refl
back BadLength = refl
back Short = refl
back (PublicOver k) = refl
back (MessageOver k) = refl
back (SecretBeyond k) = refl
back (RanOut k) = refl
back Misfit = refl
back OutOfStage = refl
back OutOfTurn = refl
back NoRule = refl
back NewerFormat = refl
back NoStudio = refl
back Blank = refl
back (NotAscending k) = refl

pub same-refusal : (a b : Refusal) → number_of a ≡ number_of b → place_of a ≡ place_of b → a ≡ b
same-refusal a b e f = cc (back a, back b)

pub same-verdict : (v w : Verdict) → number_in v ≡ number_in w → place_in v ≡ place_in w → v ≡ w
same-verdict (Ok _) (Ok _) e f = refl
same-verdict (Ok _) (Err s) e f = absurd (omega (arith, some s))
same-verdict (Err r) (Ok _) e f = absurd (omega (arith, some r))
same-verdict (Err r) (Err s) e f = ap Err (same-refusal r s e f)
