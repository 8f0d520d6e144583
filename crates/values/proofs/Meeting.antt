-- How far the values of the two ends lie apart, by the scheme: d = s'e + e'' - e's, of any a, lent as it is.
--   difference_of c s e s' e' e'' k   entry k of d, before any remainder
--   values-apart                     the values are as far apart as d is from a multiple of q
use Rattle.lists.proofs.Kit.{subst, List, ℕ, div-add-mod', arith, ℤ, get_or}
use Rattle.std.proofs.Common.{◌≡◌, ◌/◌, ◌%◌, ◌<◌}
use Rattle.numbers.specs.Residue.{distance, apart}
use Rattle.schemes.specs.{Schemes.by_family, Schemes.family_of, Schemes.fixed_of, declared.Fixed.Fixed, declared.Family.Family, declared.Scheme.Scheme}
use Rattle.transform.specs.Transform.{transformed, inverted}
use Rattle.transform.proofs.Mixing.{apart-through}
use Rattle.values.specs.Values.{offered, replied, mixed_value, bare_value}
use Rattle.values.proofs.Numbers.{Numbers, numbers_of}
use Rattle.polynomial.specs.Product as polynomial
use Rattle.polynomial.specs.Difference as polynomials-apart
use Rattle.polynomial.proofs.Mixing as polynomial-laws
use Rattle.matrix.specs.Matrix as matrix
use Rattle.matrix.specs.Difference as matrices-apart
use Rattle.matrix.proofs.Mixing as matrix-laws

-- by the family and the numbers
abbrev between : Family → Fixed → List ℤ → List ℤ → List ℤ → List ℤ → List ℤ → ℕ → ℤ
between F f s e s' e' e'' k =
    by_family F (polynomials-apart.difference f.n s e s' e' e'' k) (polynomials-apart.difference f.n s e s' e' e'' k)
    (matrices-apart.difference f.n 8 s e s' e' e'' (k / 8) (k % 8))

abbrev pub difference_of : Scheme → List ℤ → List ℤ → List ℤ → List ℤ → List ℤ → ℕ → ℤ
difference_of c = between (family_of c) (fixed_of c)

module _ (a : List ℕ) (s e s' e' e'' : List ℤ) (k : ℕ) where
  -- the replier's value and the initiator's, of what travelled
  abbrev replier : Family → Fixed → List ℕ
  replier F f =
      by_family F (polynomial.mixed f.q f.n (polynomial.mixed f.q f.n a s e) s' e'')
      (polynomial.mixed f.q f.n (inverted (transformed (polynomial.mixed f.q f.n (inverted a) s e))) s' e'')
      (matrix.left_mixed f.q f.n 8 8 s' (matrix.right_mixed f.q f.n f.n 8 a s e) e'')

  abbrev initiator : Family → Fixed → List ℕ
  initiator F f =
      by_family F (polynomial.bare f.q f.n (polynomial.mixed f.q f.n a s' e') s)
      (polynomial.bare f.q f.n (inverted (transformed (polynomial.mixed f.q f.n (inverted a) s' e'))) s)
      (matrix.bare f.q f.n 8 (matrix.left_mixed f.q f.n f.n 8 s' a e') s)

  meet : (F : Family) (f : Fixed) → Numbers F f → k < f.mixed
      → apart f.q (get_or (replier F f) k 0) (get_or (initiator F f) k 0) ≡ distance f.q (between F f s e s' e' e'' k)
  meet Family.Bcns f n l = polynomial-laws.apart-difference f.q f.n (omega (arith, n.q)) a s e s' e' e'' k (omega (arith, n.n, n.mixed))
  meet Family.NewHope f n l = rw (n.q, n.n) (apart-through a s e s' e' e'' k (omega (arith, n.mixed)))
  meet Family.Frodo f n l =
      let m : k < 64 = omega (arith, n.mixed) in
      subst
      (λ (j : ℕ).
      apart f.q (get_or (replier Family.Frodo f) j 0) (get_or (initiator Family.Frodo f) j 0) ≡ distance f.q (between Family.Frodo f s e s' e' e'' k))
      (div-add-mod' k 8)
      (matrix-laws.apart-difference f.q f.n 8 n.q-some a s e s' e' e'' (k / 8) (k % 8) (omega arith) (omega arith))

  pub values-apart : (c : Scheme) → k < (fixed_of c).mixed
      → apart (fixed_of c).q (get_or (mixed_value c (offered c a s e) s' e'') k 0) (get_or (bare_value c (replied c a s' e') s) k 0)
      ≡ distance (fixed_of c).q (difference_of c s e s' e' e'' k)
  unfolding offered replied mixed_value bare_value
  values-apart Scheme.Bcns l = meet Family.Bcns (fixed_of Scheme.Bcns) (numbers_of Scheme.Bcns) l
  values-apart Scheme.NewHope l = meet Family.NewHope (fixed_of Scheme.NewHope) (numbers_of Scheme.NewHope) l
  values-apart Scheme.Challenge l = meet Family.Frodo (fixed_of Scheme.Challenge) (numbers_of Scheme.Challenge) l
  values-apart Scheme.Classical l = meet Family.Frodo (fixed_of Scheme.Classical) (numbers_of Scheme.Classical) l
  values-apart Scheme.Recommended l = meet Family.Frodo (fixed_of Scheme.Recommended) (numbers_of Scheme.Recommended) l
  values-apart Scheme.Paranoid l = meet Family.Frodo (fixed_of Scheme.Paranoid) (numbers_of Scheme.Paranoid) l
