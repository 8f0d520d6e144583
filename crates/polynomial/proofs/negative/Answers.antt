-- `polynomial::negative` meets its contract.
use Rattle.lists.proofs.Kit.{◌≡◌, ◌∙◌, ap, arith, ℤ, pos, neg_ℤ, w64}
use Rattle.numbers.specs.Residue.{residue}
use Rattle.numbers.proofs.{Congruence.residue-lt, Machine.to_z_pos}
use Rattle.polynomial.proofs.negative.Goals as goal
use Rattle.polynomial.proofs.negative.Goals.{After-negate64}

rest : (c : After-negate64) → let a = c.args in c.negate64.result ≡ residue a.q (neg_ℤ (pos a.x))
rest c = let a = c.args in c.negate64.ensures ∙ ap (λ (z : ℤ). residue a.q (neg_ℤ z)) (to_z_pos w64 a.x (omega arith))

pub overflow_cast-result : goal.overflow_cast-result
overflow_cast-result c =
    let a = c.args in
    record { fits = omega (arith, rest (goal.at.overflow_cast-result c).After-negate64, residue-lt a.q (neg_ℤ (pos a.x)) (omega (arith, c.requires))) }
