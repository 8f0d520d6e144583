-- `exchange::drawing::draw` meets its contract: Noise's answer.
use Rattle.lists.proofs.Kit.{ℕ, ap, ◌∙◌}
use Rattle.schemes.specs.Schemes.{scheme_of_lem}
use Rattle.schemes.proofs.Laws.{by_number}
use Rattle.lists.proofs.Parts.{front_long}
use Rattle.refusals.proofs.Ends.{given_up}
use Rattle.exchange.proofs.Drawn.{draw-failed, draw-passed}
use Rattle.exchange.proofs.drawing.draw.Goals as goal

pub returns-in_err-noise-clause-value : goal.returns-in_err-noise-clause-value
returns-in_err-noise-clause-value c =
    let a = c.args in
    let n = ap scheme_of_lem c.number.ensures ∙ by_number a.scheme in
    given_up _ c.from_residual.ensures
    ∙ (draw-failed c.requires.0 n (front_long _ a.out.now c.requires.1) c.noise.result _ c.noise.ensures {X = ℕ} c.in_err-noise.was).0

pub returns-in_err-noise-clause-drew : goal.returns-in_err-noise-clause-drew
returns-in_err-noise-clause-drew c =
    let a = c.args in
    let n = ap scheme_of_lem c.number.ensures ∙ by_number a.scheme in
    (draw-failed c.requires.0 n (front_long _ a.out.now c.requires.1) c.noise.result _ c.noise.ensures c.in_err-noise.was).1

pub returns : goal.returns
returns c =
    let a = c.args in
    let n = ap scheme_of_lem c.number.ensures ∙ by_number a.scheme in
    let p = draw-passed c.requires.0 n (front_long _ a.out.now c.requires.1) c.noise.result _ c.noise.ensures a.out.now c.in_ok-noise.was in
    record { value = p.0; drew = p.1 }
