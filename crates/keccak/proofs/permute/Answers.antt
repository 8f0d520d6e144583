-- `keccak::permute` meets its contract: what the rounds that are left make of the state is what all of them make of the first.
use Rattle.lists.proofs.Kit.{refl, sym, ap, ◌∙◌, ℕ, arith, drop}
use Rattle.std.proofs.Common.{◌≡◌, ◌+◌}
use Rattle.keccak.specs.Keccak.{rounds, keccak_f, constants}
use Rattle.keccak.proofs.{Rounds.round-next}
use Rattle.keccak.proofs.permute.Goals as goal

pub loop-rc-init : goal.loop-rc-init
loop-rc-init c = unfold keccak_f in refl

pub loop-rc-preserved : goal.loop-rc-preserved
loop-rc-preserved c =
    let l = c.loop-rc in
    let i = l.rc-index in
    ap (rounds (drop (i + 1) constants)) c.round-t.ensures ∙ sym (round-next l.s i (omega arith)) ∙ l.invariant

pub returns : goal.returns
unfolding rounds
returns c =
    let l = c.loop-rc in
    let h : 24 ≡ l.rc-index = omega arith in
    ap (λ (k : ℕ). rounds (drop k constants) l.s) h ∙ l.invariant
