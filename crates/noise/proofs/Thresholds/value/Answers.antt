-- `noise::Thresholds::value` meets its contract: the size is at most the number of thresholds, so it fits with either sign.
use Rattle.lists.proofs.Kit.{◌∙◌, ap, ℕ, arith, eq-eqb, ne_eqb, pos, neg_ℤ, +ℤ_idl, w16}
use Rattle.std.proofs.Common.{◌≡◌, ◌/◌, ◌%◌, ◌^◌, ◌<◌}
use Rattle.numbers.proofs.Machine.{to_z_pos, less-fits, less-is}
use Rattle.noise.specs.Noise.{at_most, threshold_of_lem}
use Rattle.noise.proofs.{Noise.at-most-le}
use Rattle.noise.proofs.Thresholds.value.Given.{Over}
use Rattle.noise.proofs.Thresholds.value.Goals as goal
use Rattle.noise.proofs.Thresholds.value.Goals.{After-at_most-size}

-- the size, which the callees give
size : {g : Over} (c : After-at_most-size g) → let s = c.args.self.now in c.at_most-size.result ≡ at_most s.all (c.args.w / 2 % 2 ^ s.bits)
size c =
    c.at_most-size.ensures ∙ ap (at_most c.args.self.now.all) c.next_bits.ensures

room : {g : Over} (c : After-at_most-size g) → c.at_most-size.result < 2 ^ 15
room c =
    omega (arith, c.at_most-size.ensures, at-most-le c.args.self.now.all c.next_bits.result, c.args.self.now.few)

pub returns-then-w-eq1 : goal.returns-then-w-eq1
unfolding threshold_of_lem
returns-then-w-eq1 g c =
    let n = c.at_most-size.result in
    rw (eq-eqb _ 1 c.if-w-eq1.true)
    (less-is w16 0 n (omega arith) (room (goal.at.returns-then-w-eq1 g c).After-at_most-size) ∙ +ℤ_idl (neg_ℤ (pos n)) ∙ ap (λ (n : ℕ). neg_ℤ (pos n)) (size (goal.at.returns-then-w-eq1 g c).After-at_most-size))

pub overflow_cast-size : goal.overflow_cast-size
overflow_cast-size g c = record { sfits = room (goal.at.overflow_cast-size g c).After-at_most-size }

pub overflow_sub-result : goal.overflow_sub-result
overflow_sub-result g c = less-fits w16 0 _ (omega arith) (room (goal.at.overflow_sub-result g c).After-at_most-size)

pub returns-else-w-eq1 : goal.returns-else-w-eq1
unfolding threshold_of_lem
returns-else-w-eq1 g c = rw (ne_eqb _ 1 c.if-w-eq1.false) (to_z_pos w16 _ (room (goal.at.returns-else-w-eq1 g c).After-at_most-size) ∙ ap pos (size (goal.at.returns-else-w-eq1 g c).After-at_most-size))
