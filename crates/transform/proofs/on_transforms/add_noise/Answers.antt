-- `transform::on_transforms::add_noise` meets its contract: it fills with the sums.
use Rattle.lists.proofs.Kit.{◌≡◌, ◌∙◌, ap, ℕ, ◌+◌, ◌%◌, ◌<◌, arith, get_or, pos, to_z-of_z, w32}
use Rattle.numbers.specs.Residue.{residue}
use Rattle.numbers.proofs.Congruence.{residue-lt}
use Rattle.lists.specs.Entries.{ints}
use Rattle.lists.proofs.Fill.{fill_start, fill-next, fill-whole}
use Rattle.transform.proofs.{Entrywise.noised}
use Rattle.transform.proofs.on_transforms.add_noise.Goals as goal
use Rattle.transform.proofs.on_transforms.add_noise.Goals.{After-lifted}

-- what the callee says of the entry that it was handed
remainder : (c : After-lifted)
    → c.lifted.result ≡ residue 12289 (ints c.args.e.now c.loop-k.k)
unfolding ints
remainder c = rw (to_z-of_z {w = w32} {z = get_or c.args.e.now c.loop-k.k (pos 0)} (record { sfits = omega arith })) at c.lifted.ensures

-- a sum of two numbers below q
sum_lt : (c : After-lifted)
    → get_or c.args.x.now c.loop-k.k 0 + c.lifted.result < 24578
sum_lt c =
    omega (arith, c.requires.0.below c.loop-k.k, remainder c, residue-lt 12289 (ints c.args.e.now c.loop-k.k) (omega arith))

pub loop-k-preserved : goal.loop-k-preserved
loop-k-preserved c =
    fill-next _ c.loop-k.invariant (omega arith)
    (c.wrapped.ensures ∙ ap (λ (r : ℕ). (get_or c.args.x.now c.loop-k.k 0 + r) % 12289) (remainder (goal.at.loop-k-preserved c).After-lifted))

pub returns : goal.returns
returns c =
    fill-whole c.loop-k.invariant c.requires.3 (omega arith) ∙ noised _ _

pub loop-k-init : goal.loop-k-init
loop-k-init c = fill_start _ _

pub overflow_add-x : goal.overflow_add-x
overflow_add-x c = omega (arith, sum_lt (goal.at.overflow_add-x c).After-lifted)

pub wrapped-requires : goal.wrapped-requires
wrapped-requires c = sum_lt (goal.at.wrapped-requires c).After-lifted
