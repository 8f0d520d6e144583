-- `transform::scale` meets its contract: it fills with the entries of the inverse.
use Rattle.lists.proofs.Kit.{◌≡◌, ◌∙◌, sym, ap, ap₂, ℕ, ◌-◌, ◌*◌, ◌%◌, ◌<◌, arith, mod-eq_of_lt, length, get_or, length-set}
use Rattle.lists.specs.Entries.{tab}
use Rattle.lists.proofs.Fill.{fill-next, fill_end, fill-first}
use Rattle.transform.specs.Level.{scaled}
use Rattle.transform.proofs.scale.Invariants.{entry}
use Rattle.transform.proofs.scale.Goals as goal

pub loop-k-init : goal.loop-k-init
loop-k-init c =
    let z : 0 < length c.args.dst.now = omega arith in (
      simp length-set c.requires.1,
      fill-first _ c.args.dst.now _ z (ap (λ (x : ℕ). get_or c.args.src.now 0 0 * (12 * x) % 12289) (c.args.t.now.rule.power 1024 (omega arith))),
    )

pub loop-k-preserved : goal.loop-k-preserved
loop-k-preserved c =
    let l = c.loop-k in
    let m : 1024 - l.k ≡ (1024 - l.k) % 1024 = sym (mod-eq_of_lt (omega arith)) in (
      l.invariant.0,
      fill-next _ l.invariant.1 (omega arith)
          (ap₂ (λ (r x : ℕ). get_or c.args.src.now r 0 * (12 * x) % 12289) m (c.args.t.now.rule.power (1024 - l.k) (omega arith))),
    )

pub returns : goal.returns
unfolding scaled
returns c =
    let l = c.loop-k in
    fill_end l.invariant.1 (omega arith) ∙ ap (λ (n : ℕ). tab n (entry c.args.src.now)) l.invariant.0
