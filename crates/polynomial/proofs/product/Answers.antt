-- `polynomial::product` meets its contract.
use Rattle.lists.proofs.Kit.{◌∙◌, get_or, ℤ, pos}
use Rattle.polynomial.proofs.{Kernel.one, Kernel.span-one, Kernel.secret-small}
use Rattle.polynomial.proofs.product.Goals as goal
use Rattle.polynomial.proofs.product.Goals.{Start}

-- the two entries, which fit 16 bits
abbrev half : Start → ℤ
half s = get_or s.args.w.now s.args.i (pos 0)

abbrev small : Start → ℤ
small s = get_or s.args.s.now s.args.i (pos 0)

pub returns : goal.returns
returns c =
    let p = c.requires.0 in
    one (half c.before.before) (small c.before.before) (record { sfits = c.result-1.given }) (record { sfits = c.result-2-1.given })
    (p.w-within.within c.args.i) (secret-small _ _ c.args.i p c.requires.1)
    ∙ span-one c.args.w.now c.args.s.now c.args.i
