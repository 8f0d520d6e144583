-- `rows::opener::send` meets its contract: by the scheme that the state names, turn and room, and the verdict on the part about to be sent.
use Rattle.lists.proofs.Kit.{refl, sym, ap, ◌∙◌, length, get_or}
use Rattle.schemes.specs.declared.Fixed.{Fixed}
use Rattle.lists.proofs.Parts.{front_long}
use Rattle.refusals.proofs.Ends.{given_up}
use Rattle.values.proofs.Numbers.{numbers-in}
use Rattle.rows.proofs.Opening.{end-unknown, end-failed, end-begun, end-fits, end-blank, end-done}
use Rattle.rows.proofs.{Ends.none_named, Ends.frodo-known}
use Rattle.rows.proofs.opener.send.Goals as goal

pub returns-in_err-scheme : goal.returns-in_err-scheme
returns-in_err-scheme c =
    let u = none_named _ c.in_err-scheme.ensures.value in
    rw (given_up _ c.from_residual.ensures, u.1) (end-unknown c.args.state.now (length c.args.message.now) c.named.ensures (c.fill.ensures.after (λ y e. e)) u.0)

pub end_tests-requires : goal.end_tests-requires
end_tests-requires c = (numbers-in _ (frodo-known (get_or c.args.state.now 1 0) c.named.ensures c.in_ok-scheme.ensures.ok_part)).few

pub slice_bounds-lay-end : goal.slice_bounds-lay-end
slice_bounds-lay-end c = end-fits c.args.state.now (length c.args.message.now) c.named.ensures (c.fill.ensures.after (λ y e. e)) c.in_ok-scheme.ensures.ok_part c.in_ok-end_tests.ensures refl c.fixed-f.ensures

pub slice_bounds-lay-end-2 : goal.slice_bounds-lay-end-2
slice_bounds-lay-end-2 c =
    sym (front_long _ _ (end-fits c.args.state.now (length c.args.message.now) c.named.ensures (c.fill.ensures.after (λ y e. e)) c.in_ok-scheme.ensures.ok_part c.in_ok-end_tests.ensures refl c.fixed-f.ensures))

pub lay-requires : goal.lay-requires
lay-requires c = (
  frodo-known (get_or c.args.state.now 1 0) c.named.ensures c.in_ok-scheme.ensures.ok_part,
  end-begun c.args.state.now (length c.args.message.now) c.named.ensures (c.fill.ensures.after (λ y e. e)) c.in_ok-scheme.ensures.ok_part c.in_ok-end_tests.ensures refl,
  front_long _ _ (end-fits c.args.state.now (length c.args.message.now) c.named.ensures (c.fill.ensures.after (λ y e. e)) c.in_ok-scheme.ensures.ok_part c.in_ok-end_tests.ensures refl c.fixed-f.ensures) ∙ ap (λ (g : Fixed). g.opening) c.fixed-f.ensures,
)

pub returns-in_err-end_tests : goal.returns-in_err-end_tests
returns-in_err-end_tests c =
    rw (given_up _ c.from_residual-in_err-end_tests.ensures) (end-failed c.args.state.now (length c.args.message.now) c.named.ensures (c.fill.ensures.after (λ y e. e)) c.in_ok-scheme.ensures.ok_part c.in_err-end_tests.ensures refl)

pub returns-in_err-lay : goal.returns-in_err-lay
returns-in_err-lay c =
    rw (given_up _ c.from_residual-in_err-lay.ensures)
    (end-blank c.args.state.now (length c.args.message.now) c.named.ensures (c.fill.ensures.after (λ y e. e)) c.in_ok-scheme.ensures.ok_part c.in_ok-end_tests.ensures refl c.fixed-f.result.opening c.in_err-lay.ensures.value c.in_err-lay.ensures.laid refl)

pub returns : goal.returns
returns c =
    end-done c.args.state.now (length c.args.message.now) c.named.ensures (c.fill.ensures.after (λ y e. e)) c.in_ok-scheme.ensures.ok_part c.in_ok-end_tests.ensures refl c.fixed-f.result.opening c.in_ok-lay.ensures.value c.in_ok-lay.ensures.laid refl
    (ap (λ (g : Fixed). g.opening) c.fixed-f.ensures)
