-- `matrix::packed` meets its contract: a number that fits meets neither bound.
use Rattle.lists.proofs.Kit.{◌≡◌, ◌∙◌, ap, arith, mod-eq_of_lt, pos, w32, to_z, of_z}
use Rattle.std.proofs.lemmas.Int.{ints, clamps}
use Rattle.numbers.specs.Residue.{residue}
use Rattle.matrix.proofs.packed.Goals as goal

pub returns : goal.returns
unfolding residue
returns c = λ h.
    let e : to_z w32 (of_z w32 c.clamp.result) ≡ pos c.args.x = omega (arith, ints, clamps) in
    c.word.ensures ∙ ap (residue 65536) e ∙ mod-eq_of_lt (omega arith)
