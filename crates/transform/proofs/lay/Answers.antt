-- `transform::lay` meets its contract: each turn lays one more power and its factor.
use Rattle.lists.proofs.Kit.{◌≡◌, refl, ℕ, ◌+◌, ◌*◌, ◌/◌, ◌≤◌, arith, mul-le-mul_right, get_or}
use Rattle.transform.specs.Level.{factor}
use Rattle.transform.proofs.{Joins.block-≤, Joins.powers-more}
use Rattle.transform.proofs.lay.Goals as goal
use Rattle.transform.proofs.lay.Goals.{In-loop-i}

-- the power that is read
abbrev exponent : In-loop-i → ℕ
exponent c = c.args.h * (c.args.a + 2 * c.loop-i.i)

fits : (c : In-loop-i) → c.args.m ≤ 512
fits c = omega (arith, mul-le-mul_right c.args.m c.requires.a_bound.1)

below : (c : In-loop-i) → exponent c ≤ 1536
below c = block-≤ c.args.a c.args.h c.args.m c.loop-i.i c.requires.a_bound.0 c.requires.a_bound.2 (omega arith)

pub loop-i-preserved : goal.loop-i-preserved
loop-i-preserved c =
    let b = (goal.at.loop-i-preserved c).In-loop-i in
    let x = get_or c.args.t.now.powers (exponent b) 0 in
    let e : 65536 * x / 12289 ≡ factor x = unfold factor in refl in
    powers-more c.args.a c.args.h c.loop-i.i _ _ _ _ (omega (arith, fits b))
    (c.args.t.now.rule.power (exponent b) (omega (arith, below b)))
    e c.loop-i.invariant
