-- `rows_state::part::put_part` meets its contract: the part, then the rows that it ends.
use Rattle.lists.proofs.Kit.{refl, ◌∙◌, sym, ap, List, ℕ, arith, rules, length}
use Rattle.std.proofs.Common.{◌+◌, ◌*◌, ◌-◌, ◌/◌, ◌%◌, ◌≤◌}
use Rattle.rows_state.specs.{State.taken, Inside.entered}
use Rattle.rows_state.proofs.Taking.{with-long, sized-held, entered-wide, step-holds, step-enters}
use Rattle.rows_state.proofs.Filling.{block-fits, row-some, row_is, row_fits, row-sixteenth}
use Rattle.rows_state.proofs.{Tests.Fits, Tests.fits, Tests.square, Laying.held-words, Laying.with-below}
use Rattle.rows_state.proofs.part.put_part.Goals as goal
use Rattle.rows_state.proofs.part.put_part.Goals.{Start}

module _ (s : Start) where
  abbrev st : List ℕ
  st = s.args.state.now

  abbrev m : ℕ
  m = length s.args.p.now

  fit : Fits s.args.n (taken st) m
  fit = fits s.args.n (taken st) m s.requires.1

  inside : taken st + m ≤ 746496
  inside = omega (arith, fit.in_all, square s.args.n s.requires.0.few)

  in_block : taken st % (16 * s.args.n) + m ≤ 16 * s.args.n
  in_block = block-fits s.args.n (taken st) m s.requires.0.some fit.in_row

pub overflow_sub-e : goal.overflow_sub-e
overflow_sub-e c =
    row-some c.args.n (taken c.args.state.now) (length c.args.p.now) c.requires.0.some (fit (goal.at.overflow_sub-e c).Start).in_row (sym c.fills.ensures ∙ c.if-fills.true)

pub enter-requires : goal.enter-requires
enter-requires c =
    let full = sym c.fills.ensures ∙ c.if-fills.true in (
      sized-held c.args.n c.args.state.now c.requires.0 c.args.p.now (in_block (goal.at.enter-requires c).Start) c.hold.ensures,
      row_fits c.args.n (taken c.args.state.now) (length c.args.p.now) c.requires.0.some (fit (goal.at.enter-requires c).Start).in_row full (fit (goal.at.enter-requires c).Start).in_all,
      row-sixteenth c.args.n (taken c.args.state.now) (length c.args.p.now) c.requires.0.some (fit (goal.at.enter-requires c).Start).in_row full,
    )

pub shape_of-state-then-fills : goal.shape_of-state-then-fills
shape_of-state-then-fills c =
    ap length c.enter.ensures
    ∙ entered-wide c.args.n _ (sized-held c.args.n c.args.state.now c.requires.0 c.args.p.now (in_block (goal.at.shape_of-state-then-fills c).Start) c.hold.ensures) c.args.call _
    ∙ sym c.requires.0.long

pub returns-then-fills : goal.returns-then-fills
returns-then-fills c =
    let a = c.args in
    let full = sym c.fills.ensures ∙ c.if-fills.true in
    let small = with-below a.n c.args.state.now a.p.now (record { below = λ j. search rules }) c.requires.2 in
    c.enter.ensures
    ∙ ap (λ (l : List ℕ). entered a.call a.n (((taken c.args.state.now + length c.args.p.now) / a.n - 16) * a.n) l) c.hold.ensures
    ∙ step-enters a.n c.args.state.now c.requires.0 a.call a.p.now _ full (row_is a.n (taken c.args.state.now) (length c.args.p.now) c.requires.0.some (fit (goal.at.returns-then-fills c).Start).in_row full)
    (held-words a.n _ (with-long a.n c.args.state.now c.requires.0 a.p.now (in_block (goal.at.returns-then-fills c).Start)) small)

pub shape_of-state-else-fills : goal.shape_of-state-else-fills
shape_of-state-else-fills c =
    (sized-held c.args.n c.args.state.now c.requires.0 c.args.p.now (in_block (goal.at.shape_of-state-else-fills c).Start) c.hold.ensures).long ∙ sym c.requires.0.long

pub returns-else-fills : goal.returns-else-fills
returns-else-fills c =
    c.hold.ensures ∙ step-holds c.args.n c.args.state.now c.requires.0 c.args.call c.args.p.now (sym c.fills.ensures ∙ c.if-fills.false)

pub bounds-state-2 : goal.bounds-state-2
bounds-state-2 c = omega (arith, c.requires.0.long)

pub overflow_cast-at : goal.overflow_cast-at
overflow_cast-at c = omega (arith, c.type_inv.state 2)

pub overflow_add-e : goal.overflow_add-e
overflow_add-e c = record { fits = omega (arith, inside (goal.at.overflow_add-e c).Start) }

pub hold-requires : goal.hold-requires
hold-requires c = record { sized = (c.requires.0, refl, in_block (goal.at.hold-requires c).Start, (fit (goal.at.hold-requires c).Start).in_all); below = c.requires.2 }

pub fills-requires : goal.fills-requires
fills-requires c = (c.requires.0.some, c.requires.0.few, (fit (goal.at.fills-requires c).Start).in_all)
