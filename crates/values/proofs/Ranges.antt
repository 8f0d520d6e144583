-- The values of both ends: as many as the scheme has, each below q, of whatever they are computed.
--   offered-counted, replied-counted   b and u, as they travel
--   mixed-counted, bare-counted        v and w
use Rattle.lists.proofs.Kit.{◌∙◌, sym, List, ℕ, mul_comm, arith, ℤ}
use Rattle.std.proofs.Common.{◌≡◌, ◌*◌, ◌<◌}
use Rattle.numbers.specs.Residue.{residue}
use Rattle.numbers.proofs.Congruence.{residue-lt}
use Rattle.schemes.specs.{Schemes.family_of, Schemes.fixed_of, declared.Fixed.Fixed, declared.Scheme.Scheme}
use Rattle.matrix.specs.Matrix.{rows, right_mixed, left_mixed, bare}
use Rattle.matrix.proofs.Rows.{rows-length, rows-below}
use Rattle.transform.specs.Transform.{transformed}
use Rattle.transform.proofs.Sizes.{transformed-length, transformed-below}
use Rattle.values.specs.{Fit.Counted, Values.offered, Values.replied, Values.mixed_value, Values.bare_value}
use Rattle.values.proofs.{Numbers.NewHope, Numbers.Frodo, Numbers.numbers_of, Numbers.in-each, Settling.counted}
use Rattle.polynomial.specs.Product as polynomial-spec
use Rattle.polynomial.proofs.Mixing as polynomial

-- as + e and us of polynomials, in BCNS and NewHope
module _ {q n m : ℕ} {r : ℕ} (d : q ≡ r) (p : n ≡ m) (a : List ℕ) (s : List ℤ) where
  mixed-fit : 0 < r → (e : List ℤ) → Counted m q (polynomial-spec.mixed q n a s e)
  mixed-fit h e = record { long = polynomial.mixed-length q n a s e ∙ p; below = polynomial.mixed-below q n a s e (rw d h) }

  bare-fit : 0 < r → Counted m q (polynomial-spec.bare q n a s)
  bare-fit h = record { long = polynomial.bare-length q n a s ∙ p; below = polynomial.bare-below q n a s (rw d h) }

newhope-fit : {f : Fixed} → NewHope f → (g : List ℕ) → Counted f.secret f.q (transformed g)
newhope-fit k g = counted (sym k.secret) (sym k.q) (record { long = transformed-length g; below = transformed-below g })

frodo-fit : {f : Fixed} {m : ℕ} → Frodo f → (r c : ℕ) → m ≡ r * c → (x : ℕ → ℕ → ℤ) → Counted m f.q (rows r c (λ i j. residue f.q (x i j)))
frodo-fit {f} k r c p x =
    record { long = rows-length r c _ ∙ sym p; below = rows-below f.q r c _ k.q-some (λ i j. residue-lt f.q (x i j) k.q-some) }

module _ (c : Scheme) (a : List ℕ) (s : List ℤ) where
  pub offered-counted : (e : List ℤ) → Counted (fixed_of c).secret (fixed_of c).q (offered c a s e)
  unfolding offered right_mixed
  offered-counted e =
      in-each (Counted (fixed_of c).secret (fixed_of c).q) (family_of c) (numbers_of c)
      (λ k. mixed-fit k.q (k.n ∙ sym k.secret) a s (omega arith) e)
      (λ k. newhope-fit k _)
      (λ k. frodo-fit k (fixed_of c).n 8 (k.secret ∙ mul_comm 8 (fixed_of c).n) _)

  pub replied-counted : (e : List ℤ) → Counted (fixed_of c).secret (fixed_of c).q (replied c a s e)
  unfolding replied left_mixed
  replied-counted e =
      in-each (Counted (fixed_of c).secret (fixed_of c).q) (family_of c) (numbers_of c)
      (λ k. mixed-fit k.q (k.n ∙ sym k.secret) a s (omega arith) e)
      (λ k. newhope-fit k _)
      (λ k. frodo-fit k 8 (fixed_of c).n k.secret _)

  pub mixed-counted : (e : List ℤ) → Counted (fixed_of c).mixed (fixed_of c).q (mixed_value c a s e)
  unfolding mixed_value left_mixed
  mixed-counted e =
      in-each (Counted (fixed_of c).mixed (fixed_of c).q) (family_of c) (numbers_of c)
      (λ k. mixed-fit k.q (k.n ∙ sym k.mixed) a s (omega arith) e)
      (λ k. mixed-fit k.q (k.n ∙ sym k.mixed) _ s (omega arith) e)
      (λ k. frodo-fit k 8 8 k.mixed _)

  pub bare-counted : Counted (fixed_of c).mixed (fixed_of c).q (bare_value c a s)
  unfolding bare_value bare
  bare-counted =
      in-each (Counted (fixed_of c).mixed (fixed_of c).q) (family_of c) (numbers_of c)
      (λ k. bare-fit k.q (k.n ∙ sym k.mixed) a s (omega arith))
      (λ k. bare-fit k.q (k.n ∙ sym k.mixed) _ s (omega arith))
      (λ k. frodo-fit k 8 8 k.mixed _)
