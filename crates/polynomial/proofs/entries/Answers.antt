-- `polynomial::entries` meets its contract: it fills with the sums, reduced.
use Rattle.lists.proofs.Kit.{◌≡◌, ◌∙◌, sym, ap₂, subst, ◌^◌, ◌≤◌, arith, get_or, ℤ, pos, nat_abs, ◌+ℤ◌, w32, w64, to_z, of_z}
use Rattle.lists.proofs.Kit.{to_z-of_z}
use Rattle.numbers.specs.Residue.{residue}
use Rattle.schemes.specs.Schemes.{bcns}
use Rattle.lists.specs.Entries.{ints}
use Rattle.lists.proofs.Fill.{fill_start, fill-next}
use Rattle.polynomial.proofs.entries.Goals as goal
use Rattle.polynomial.proofs.entries.Goals.{After-reduce-arg-in-loop-k-1}

sum_is : (c : After-reduce-arg-in-loop-k-1)
    → to_z w64 (of_z w64 (get_or c.args.o.now c.loop-k.k (pos 0))) ≡ ints c.args.o.now c.loop-k.k
unfolding ints
sum_is c = to_z-of_z {w = w64} {z = get_or c.args.o.now c.loop-k.k (pos 0)} (record { sfits = c.reduce-arg-1.given })

noise-is : (c : After-reduce-arg-in-loop-k-1)
    → to_z w32 (of_z w32 (get_or c.args.e.now c.loop-k.k (pos 0))) ≡ ints c.args.e.now c.loop-k.k
unfolding ints
noise-is c = to_z-of_z {w = w32} {z = get_or c.args.e.now c.loop-k.k (pos 0)} (record { sfits = c.reduce-arg-in-loop-k-1.given })

pub reduce-requires : goal.reduce-requires
reduce-requires c = subst (λ (z : ℤ). nat_abs z ≤ 2 ^ 60) (sym (sum_is (goal.at.reduce-requires c).After-reduce-arg-in-loop-k-1)) (c.requires.by_index c.loop-k.k (omega arith))

pub loop-k-preserved : goal.loop-k-preserved
loop-k-preserved c = fill-next _ c.loop-k.invariant (omega arith) (c.reduce.ensures ∙ ap₂ (λ (x y : ℤ). residue bcns.q (x +ℤ y)) (sum_is (goal.at.loop-k-preserved c).After-reduce-arg-in-loop-k-1) (noise-is (goal.at.loop-k-preserved c).After-reduce-arg-in-loop-k-1))

pub loop-k-init : goal.loop-k-init
loop-k-init c = fill_start _ _
