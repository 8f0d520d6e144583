-- `rows_state::part::part_in` meets its contract: by its turn, then by its numbers.
use Rattle.lists.proofs.Kit.{refl, ◌∙◌, ap}
use Rattle.schemes.specs.{Schemes.fixed_of, declared.Fixed.Fixed}
use Rattle.refusals.specs.Seen.{if_passed}
use Rattle.values.proofs.Numbers.{numbers-in, Frodo}
use Rattle.refusals.proofs.{Ends.given_up}
use Rattle.rows_state.specs.State.{stepped}
use Rattle.rows_state.proofs.{Tests.started, Tests.frodos, Turns.turn-fails, Turns.turn-goes, Turns.turn-begins}
use Rattle.rows_state.proofs.part.part_in.Goals as goal
use Rattle.rows_state.proofs.part.part_in.Goals.{Start}

frodo : (s : Start) → Frodo (fixed_of s.args.scheme)
frodo s = numbers-in s.args.scheme s.requires

pub may_take-requires : goal.may_take-requires
may_take-requires c =
    rw c.fixed-f.ensures ((frodo (goal.at.may_take-requires c).Start).some, (frodo (goal.at.may_take-requires c).Start).few)

pub take_part-requires : goal.take_part-requires
take_part-requires c =
    let b = turn-begins c.args.call c.args.scheme c.args.state.now c.args.p.now c.fixed-f.ensures c.may_take.ensures c.in_turn.ensures c.in_ok-in_turn.was in
    rw c.fixed-f.ensures ((frodo (goal.at.take_part-requires c).Start).q-some, (frodo (goal.at.take_part-requires c).Start).q_room, record { some = (frodo (goal.at.take_part-requires c).Start).some; few = (frodo (goal.at.take_part-requires c).Start).few; sixteens = (frodos c.args.scheme c.requires).sixteens; long = (started _ _ _ b.0).is-long }, b.1)

pub returns-in_err-in_turn : goal.returns-in_err-in_turn
returns-in_err-in_turn c =
    rw (given_up _ c.from_residual.ensures) (record { value = turn-fails c.args.call c.args.scheme c.args.state.now c.args.p.now c.fixed-f.ensures c.may_take.ensures c.in_turn.ensures c.in_err-in_turn.was; state_value = refl })

pub returns : goal.returns
returns c =
    let a = c.args in record { value = turn-goes a.call a.scheme a.state.now a.p.now c.fixed-f.ensures c.may_take.ensures c.in_turn.ensures c.in_ok-in_turn.was c.take_part.ensures.value; state_value = c.take_part.ensures.state_value ∙ ap (λ (g : Fixed). if_passed c.take_part.result (stepped a.call g.n a.state.now a.p.now) a.state.now) c.fixed-f.ensures }
