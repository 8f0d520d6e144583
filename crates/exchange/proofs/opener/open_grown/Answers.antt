-- `exchange::opener::open_grown` meets its contract: Grow's refusal, or open by the numbers that are grown.
use Rattle.lists.proofs.Kit.{refl, ◌∙◌, sym, arith}
use Rattle.lists.proofs.Parts.{front_long}
use Rattle.refusals.proofs.Ends.{given_up}
use Rattle.exchange.specs.Random.{public_from}
use Rattle.exchange.proofs.{Opening.open-passed, Opening.open-ran-out}
use Rattle.exchange.proofs.opener.open_grown.Goals as goal

pub returns-in_err-grow : goal.returns-in_err-grow
returns-in_err-grow c =
    let p = open-ran-out c.requires.open_sized c.grow.ensures.value c.args.s.now {s = c.args.s.now} c.in_err-grow.was c.requires.opening_value in
    record { opening_value_2 = rw (given_up _ c.from_residual.ensures) p.0; open_holds = p.1 }

pub returns : goal.returns
unfolding public_from
returns c =
    let e = c.in_ok-grow.was in
    let p = open-passed c.requires.open_sized c.args.s.now (sym c.grow.ensures.value ∙ e) (c.grow.ensures.numbers_value e)
    (c.open_drawn.ensures.opening_value_2, c.open_drawn.ensures.s_value) in
    record { opening_value_2 = p.0; open_holds = p.1 }

pub slice_bounds-grow-end : goal.slice_bounds-grow-end
slice_bounds-grow-end c = sym (front_long 32 c.args.random.now (omega (arith, c.requires.open_sized.lent.random-long)))

pub grow-requires : goal.grow-requires
grow-requires c =
    (c.requires.open_sized.lent.ruled, front_long 32 c.args.random.now (omega (arith, c.requires.open_sized.lent.random-long)), refl)
