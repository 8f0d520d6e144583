-- What each end computes, by the scheme: 01, "The calls": b = as + e; u = as' + e'; v = bs' + e''; w = us, all reduced to 0 .. q - 1.
-- Polynomials are multiplied modulo X^1024 + 1; in Frodo all are matrices. In NewHope the lent a lies transformed, and b and u travel
-- transformed (01, "The NewHope transform" and "Bytes on the wire").
--   offered c a s e         b, as it travels
--   replied c a s' e'       u, as it travels
--   mixed_value c b s' e''   the replier's value v, of the b that travelled
--   bare_value c u s         the initiator's value w, of the u that travelled
use Rattle.std.specs.Prelude.{List, ℕ, ℤ}
use Rattle.schemes.specs.{Schemes.by_family, Schemes.family_of, Schemes.fixed_of, declared.Scheme.Scheme}
use Rattle.transform.specs.Transform.{transformed, inverted}
use Rattle.polynomial.specs.Product as polynomial
use Rattle.matrix.specs.Matrix as matrix

unfoldable pub offered : Scheme → List ℕ → List ℤ → List ℤ → List ℕ
offered c a s e =
    by_family (family_of c)
    (polynomial.mixed (fixed_of c).q (fixed_of c).n a s e)
    (transformed (polynomial.mixed (fixed_of c).q (fixed_of c).n (inverted a) s e))
    (matrix.right_mixed (fixed_of c).q (fixed_of c).n (fixed_of c).n 8 a s e)

unfoldable pub replied : Scheme → List ℕ → List ℤ → List ℤ → List ℕ
replied c a s' e' =
    by_family (family_of c)
    (polynomial.mixed (fixed_of c).q (fixed_of c).n a s' e')
    (transformed (polynomial.mixed (fixed_of c).q (fixed_of c).n (inverted a) s' e'))
    (matrix.left_mixed (fixed_of c).q (fixed_of c).n (fixed_of c).n 8 s' a e')

unfoldable pub mixed_value : Scheme → List ℕ → List ℤ → List ℤ → List ℕ
mixed_value c b s' e'' =
    by_family (family_of c)
    (polynomial.mixed (fixed_of c).q (fixed_of c).n b s' e'')
    (polynomial.mixed (fixed_of c).q (fixed_of c).n (inverted b) s' e'')
    (matrix.left_mixed (fixed_of c).q (fixed_of c).n 8 8 s' b e'')

unfoldable pub bare_value : Scheme → List ℕ → List ℤ → List ℕ
bare_value c u s =
    by_family (family_of c)
    (polynomial.bare (fixed_of c).q (fixed_of c).n u s)
    (polynomial.bare (fixed_of c).q (fixed_of c).n (inverted u) s)
    (matrix.bare (fixed_of c).q (fixed_of c).n 8 u s)
