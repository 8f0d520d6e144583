-- `packing::number` meets its contract: the number's bits lie within the eight bytes.
use Rattle.lists.proofs.Kit.{mod-lt, lt_of_lt_of_le, arith, take, drop, drop-drop, pow_mono, pow_pos}
use Rattle.std.proofs.Common.{◌≡◌, ◌+◌, ◌*◌, ◌/◌}
use Rattle.lists.specs.Ranges.{Below}
use Rattle.packing.specs.Packing.{value}
use Rattle.packing.proofs.{Laws.value-parts, Groups.based, Groups.bits_at}
use Rattle.packing.proofs.number.Goals as goal
use Rattle.packing.proofs.number.Goals.{After-four-2}

pub nonzero_rem-result-2 : goal.nonzero_rem-result-2
nonzero_rem-result-2 c =
    let w = c.args.w in
    rw (based w (omega arith)) (pow_pos w)

pub overflow_cast-result-3 : goal.overflow_cast-result-3
overflow_cast-result-3 c =
    let w = c.args.w in
    rw (based w (omega arith)) (record { fits = lt_of_lt_of_le (mod-lt _ (pow_pos w)) (pow_mono {j = 32} (omega arith)) })

-- what the eight bytes make
eight : (c : After-four-2)
    → let a = c.args in
    c.four.result + 4294967296 * c.four-2.result ≡ value 256 (take 8 (drop (a.i + a.t / 8) a.bytes.now))
eight c =
    let a = c.args in
    rw (value-parts 256 4 4 (drop (a.i + a.t / 8) a.bytes.now), drop-drop, c.four.ensures.0, c.four-2.ensures.0)

pub returns : goal.returns
returns c =
    let a = c.args in
    let bytes : Below 256 a.bytes.now = record { below = λ n. omega (arith, c.type_inv.bytes n) } in
    rw (based a.w (omega arith), eight (goal.at.returns c).After-four-2) (bits_at bytes a.i a.t a.w (omega arith))
