-- `packing::quad` meets its contract: a number more at each turn, from the last to the first.
use Rattle.lists.proofs.Kit.{refl, ◌∙◌, suc, add-zero, sub-zero, arith, get_or, take, drop}
use Rattle.std.proofs.Common.{◌≡◌, ◌+◌, ◌*◌, ◌-◌, ◌^◌}
use Rattle.packing.specs.Packing.{value}
use Rattle.packing.proofs.{Groups.few, Groups.one_more}
use Rattle.packing.proofs.quad.Goals as goal
use Rattle.packing.proofs.quad.Goals.{In-loop-k}

-- with the number before them
more : (c : In-loop-k)
    → let a = c.args in let l = c.loop-k in
    l.v * 2 ^ a.w + get_or a.xs.now (a.j + (l.k - 1)) 0 ≡ value (2 ^ a.w) (take (4 - (l.k - 1)) (drop (a.j + (l.k - 1)) a.xs.now))
more c =
    let a = c.args in
    let l = c.loop-k in
    let e : 4 - (l.k - 1) ≡ suc (4 - l.k) = omega arith in
    rw e (one_more (2 ^ a.w) (4 - l.k) a.xs.now (a.j + (l.k - 1)) (a.j + l.k) l.v (omega arith) l.invariant.1)

pub onto-v-requires : goal.onto-v-requires
onto-v-requires c =
    let l = c.loop-k in
    (omega arith, rw (more (goal.at.onto-v-requires c).In-loop-k) (few c.requires.0 c.requires.1 (4 - (l.k - 1)) (c.args.j + (l.k - 1)) (omega arith)))

pub loop-k-preserved : goal.loop-k-preserved
loop-k-preserved c = (omega arith, c.onto-v.ensures ∙ more (goal.at.loop-k-preserved c).In-loop-k)

pub returns : goal.returns
returns c =
    let e : c.loop-k.k ≡ 0 = omega arith in
    simp (e, add-zero, sub-zero) at c.loop-k.invariant.1

pub loop-k-init : goal.loop-k-init
loop-k-init c = unfold value in (omega arith, refl)
