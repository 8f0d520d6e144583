-- `rack::lay_empty` meets its contract.
use Rattle.std.proofs.Common.{◌≡◌}
use Rattle.lists.proofs.Kit.{ap, ◌∙◌, ℕ, add-one, arith, replicate}
use Rattle.rack.proofs.Calls.{with_numbers, laid-empty}
use Rattle.rack.proofs.lay_empty.Goals as goal

pub loop-studio-init : goal.loop-studio-init
unfolding with_numbers
loop-studio-init c = c.fill.ensures.after (λ y e. e) ∙ ap (λ (n : ℕ). replicate n 0) c.requires

pub loop-studio-preserved : goal.loop-studio-preserved
unfolding with_numbers
loop-studio-preserved c = rw (add-one c.loop-studio.studio, c.loop-studio.invariant)

pub returns : goal.returns
returns c =
    let e : c.loop-studio.studio ≡ 8 = omega arith in
    c.loop-studio.invariant ∙ ap (λ (n : ℕ). with_numbers n (replicate 1048 0)) e ∙ laid-empty
