-- `matrix::lay` meets its contract: it fills with the words of column after column.
use Rattle.lists.proofs.Kit.{◌≡◌, ◌∙◌, sym, ap₂, subst, ℕ, ◌+◌, ◌*◌, ◌<◌, arith, digits_lt, digits_div, digits_mod}
use Rattle.lists.proofs.Fill.{Filled, fill-next, fill-whole, rows_start}
use Rattle.matrix.proofs.lay.Invariants.{from}
use Rattle.matrix.proofs.lay.Goals as goal

pub loop-j-init : goal.loop-j-init
loop-j-init g c = λ f h. rows_start _ _ c.args.n

pub loop-t-preserved : goal.loop-t-preserved
loop-t-preserved g c = λ f h.
    let n = c.args.n in
    let j = c.loop-j.j in
    let t = c.loop-t.t in
    let room : j * n + t < 8 * n = digits_lt c.loop-j-test.true c.loop-t-test.true in
    let next : j * n + t + 1 ≡ j * n + (t + 1) = omega arith in
    subst (Filled (from n f) c.args.cols.now _) next
    (fill-next _ (c.loop-t.invariant f h) (omega (arith, room, c.requires.cols_len))
    (h (t * 8 + j) _ (omega arith) c.at.ensures
    ∙ ap₂ (λ (a b : ℕ). f (a * 8 + b)) (sym (digits_mod j c.loop-t-test.true)) (sym (digits_div j c.loop-t-test.true))))

pub returns : goal.returns
returns g c = λ f h. let k : c.loop-j.j ≡ 8 = omega arith in fill-whole (c.loop-j.invariant f h) c.requires.cols_len (rw k (omega arith))
