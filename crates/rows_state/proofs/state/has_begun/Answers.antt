-- `rows_state::state::has_begun` meets its contract: one test after the other.
use Rattle.lists.proofs.Kit.{◌∙◌, sym, arith, eq-eqb, ne_eqb, le-leb, lt-leb}
use Rattle.lists.proofs.Parts.{slice-long}
use Rattle.rows_state.specs.State.{begun}
use Rattle.rows_state.proofs.{Tests.stops, Tests.goes, Tests.square}
use Rattle.rows_state.proofs.state.has_begun.Goals as goal

pub returns-then-state-tag : goal.returns-then-state-tag
unfolding begun
returns-then-state-tag c =
    goes (eq-eqb _ _ c.if-state-f.false) (stops _ (ne_eqb _ _ (λ e. c.if-state-tag.true (e ∙ sym c.tag.ensures))))

pub returns-then-f-state : goal.returns-then-f-state
unfolding begun
returns-then-f-state c =
    goes (eq-eqb _ _ c.if-state-f.false) (goes (eq-eqb _ _ (c.if-state-tag.false ∙ c.tag.ensures)) (stops _ (lt-leb _ _ c.if-f-state.true)))

pub kept_in-requires : goal.kept_in-requires
kept_in-requires c =
    slice-long 3 64 c.args.state.now (omega (arith, c.if-state-f.false))

pub returns : goal.returns
unfolding begun
returns c =
    goes (eq-eqb _ _ c.if-state-f.false) (goes (eq-eqb _ _ (c.if-state-tag.false ∙ c.tag.ensures)) (goes (le-leb _ _ c.if-f-state.false) c.kept_in.ensures))

pub returns-then-state-f : goal.returns-then-state-f
returns-then-state-f c = unfold begun in stops _ (ne_eqb _ _ c.if-state-f.true)

pub overflow_mul-f-2 : goal.overflow_mul-f-2
overflow_mul-f-2 c = record { fits = omega (arith, square c.args.f.n c.requires) }

pub overflow_cast-state : goal.overflow_cast-state
overflow_cast-state c = omega (arith, c.type_inv.state 2)
