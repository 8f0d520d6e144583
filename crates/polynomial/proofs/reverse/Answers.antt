-- `polynomial::reverse` meets its contract: it writes the entries of the secret, the last one first.
use Rattle.lists.proofs.Kit.{◌∙◌, ap, List, ℕ, ◌-◌, arith, length, get_or, ℤ, pos}
use Rattle.lists.specs.{Entries.ints}
use Rattle.lists.proofs.Stored.{store-front}
use Rattle.polynomial.proofs.{Kernel.secret}
use Rattle.polynomial.proofs.reverse.Goals as goal

-- the entry that the code reads
abbrev at : List ℤ → ℕ → ℤ
at s j = get_or s (length s - 1 - j) (pos 0)

pub loop-j-preserved : goal.loop-j-preserved
unfolding ints
loop-j-preserved c = let j = c.loop-j.j in
    store-front c.loop-j.invariant (omega arith)
    (secret (at c.args.s.now j) (record { sfits = c.t-1.given }) (c.requires.1.within (length c.args.s.now - 1 - j))
    ∙ ap (λ (k : ℕ). get_or c.args.s.now k (pos 0)) (omega arith))
