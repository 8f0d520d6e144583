-- The four schemes' intervals: what `specs/Shown.antt` states of them, by tests that the checker computes.
--   quarters, each-scheme
use Rattle.lists.proofs.Kit.{refl, ℕ, arith, lit≤}
use Rattle.std.proofs.Common.{◌≡◌}
use Rattle.schemes.specs.declared.Scheme.TheVariants.{Bcns, NewHope, Challenge, Classical, Recommended, Paranoid}
use Rattle.frodo.specs.Shown.{Quarters, EachScheme}

pub quarters : Quarters
quarters = (refl, refl, refl, refl)

pub each-scheme : EachScheme
each-scheme Bcns e = let z : ◌≡◌ {A = ℕ} 0 1 = cc in absurd (omega arith)
each-scheme NewHope e = let z : ◌≡◌ {A = ℕ} 0 1 = cc in absurd (omega arith)
each-scheme Challenge e = record { round = record { some = lit≤ tt; quarters = refl; room = lit≤ tt }; whole = refl }
each-scheme Classical e = record { round = record { some = lit≤ tt; quarters = refl; room = lit≤ tt }; whole = refl }
each-scheme Recommended e = record { round = record { some = lit≤ tt; quarters = refl; room = lit≤ tt }; whole = refl }
each-scheme Paranoid e = record { round = record { some = lit≤ tt; quarters = refl; room = lit≤ tt }; whole = refl }
