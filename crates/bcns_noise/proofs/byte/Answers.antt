-- `bcns_noise::byte` meets its contract: a shift divides, and a word has 64 bits.
use Rattle.lists.proofs.Kit.{refl, arith}
use Rattle.bcns_noise.specs.Limbs.{byte_of}
use Rattle.bcns_noise.proofs.byte.Goals as goal

pub returns : goal.returns
unfolding byte_of
returns c = (refl, omega arith, record { below = λ n. omega (arith, c.type_inv.table n) })
