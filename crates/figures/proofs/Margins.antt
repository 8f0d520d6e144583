-- The margins: what `specs/Margins.antt` states, of the agreement that each family shows and one case beyond it.
--   margins   all of it
use Rattle.lists.proofs.Kit.{refl, subst, ℕ, arith, lit≤}
use Rattle.std.proofs.Common.{◌<◌}
use Rattle.schemes.specs.declared.Scheme.TheVariants.{Bcns, NewHope, Challenge, Classical, Recommended, Paranoid}
use Rattle.schemes.specs.{Schemes.fixed_of, declared.Scheme.Scheme}
use Rattle.numbers.specs.Residue.{residue, nearest, distance, apart}
use Rattle.newhope.specs.Group.{up_of, down_of, off_of, offs_of, k_of, p_of, less_of, last_of, hint_of, term_of, sum_of, bit_of}
use Rattle.newhope.specs.Shown.{apart_of}
use Rattle.bcns.proofs.Formula.{formula}
use Rattle.frodo.specs.Rounding.{interval}
use Rattle.frodo.proofs.Schemes.{each-scheme}
use Rattle.figures.specs.Margins.{FrodoFrom, EachSet, BcnsFrom, NewHopeFrom, Margins}
use Rattle.figures.proofs.Edge.{any-interval}
use Rattle.bcns.specs.Rounding as bcns
use Rattle.bcns.proofs.Margin as bcns-margin
use Rattle.newhope.proofs.Margin as newhope-margin

some_bits : (s : Scheme) → 0 < (fixed_of s).keybits
some_bits Bcns = lit≤ tt
some_bits NewHope = lit≤ tt
some_bits Challenge = lit≤ tt
some_bits Classical = lit≤ tt
some_bits Recommended = lit≤ tt
some_bits Paranoid = lit≤ tt

each_set : EachSet
each_set s e =
    let I = interval (fixed_of s) in
    let B = (fixed_of s).keybits in
    let r = each-scheme s e in
    subst (λ (q : ℕ). FrodoFrom q I B) r.whole (any-interval I B r.round.some r.round.quarters (some_bits s))

bcns-from : BcnsFrom
unfolding bcns.coin_of_lem bcns.doubled bcns.hint_of bcns.key_of residue nearest distance apart
bcns-from =
    record {
      witness = record { coin = 2; v = 1073741824; w = 1610612736 };
      may = (omega arith, omega arith, omega arith);
      there = refl;
      differ = λ e. omega (arith, e, formula 0 1610612736 (omega arith) (omega arith));
      below = λ x m l. bcns-margin.agreement x.coin x.v x.w m.0 m.1 m.2 (omega arith);
    }

newhope-from : NewHopeFrom
unfolding up_of down_of off_of offs_of k_of p_of less_of last_of hint_of term_of sum_of bit_of apart_of residue nearest distance apart
newhope-from =
    record {
      witness = record { coin = 1; v = record { e0 = 765; e1 = 767; e2 = 6914; e3 = 3841 }; w = record { e0 = 10748; e1 = 10753; e2 = 4611; e3 = 1538 } };
      may = (
        omega arith,
        record { s0 = omega arith; s1 = omega arith; s2 = omega arith; s3 = omega arith },
        record { s0 = omega arith; s1 = omega arith; s2 = omega arith; s3 = omega arith },
      );
      there = refl;
      differ = λ e. omega arith;
      below = λ x m l. newhope-margin.agreement x.coin x.v x.w m.0 m.1 m.2 (omega arith);
    }

pub margins : Margins
margins = record { any-interval = any-interval; each_set = each_set; bcns = bcns-from; newhope = newhope-from }
