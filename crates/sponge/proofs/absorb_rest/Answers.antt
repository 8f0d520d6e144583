-- `sponge::absorb_rest` meets its contract.
use Rattle.lists.proofs.Kit.{sym, ap, subst, ◌∙◌, ℕ, length, take, replicate}
use Rattle.std.proofs.Common.{◌≡◌, ◌++◌, ◌-◌, ◌<◌}
use Rattle.lists.proofs.Parts.{buffer-long}
use Rattle.keccak.specs.Keccak.{keccak_f}
use Rattle.sponge.specs.{Sponge.over, Sponge.ending, Fit.WholeLanes}
use Rattle.sponge.proofs.absorb_rest.Goals as goal
use Rattle.sponge.proofs.absorb_rest.Goals.{Start}

-- the part of the local array that is lent
long : (b : Start) → length {A = ℕ} (take b.args.rate (replicate 168 0)) ≡ b.args.rate
long b = buffer-long b.args.rate 168 b.requires.2.room

pub slice_bounds-absorb_last-end : goal.slice_bounds-absorb_last-end
slice_bounds-absorb_last-end c = sym (long (goal.at.slice_bounds-absorb_last-end c).Start)

pub absorb_last-requires : goal.absorb_last-requires
absorb_last-requires c =
    subst (λ (n : ℕ). (length c.args.rest.now < n) × (c.args.suffix < 128) × WholeLanes n) (sym (long (goal.at.absorb_last-requires c).Start)) (c.requires.0, c.requires.1, c.requires.2.lanes)

pub returns : goal.returns
returns c =
    let m = c.args.rest.now in
    c.absorb_last.ensures ∙ ap (λ (n : ℕ). keccak_f (over c.args.s (m ++ ending (n - length m) c.args.suffix))) (long (goal.at.returns c).Start)
