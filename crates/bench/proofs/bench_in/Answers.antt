-- `bench::bench_in` meets its contract: it lends two keys just the room that they take.
use Rattle.lists.proofs.Kit.{sym, ap, ap₂, ◌∙◌, ℕ, arith}
use Rattle.std.proofs.Common.{◌≡◌, ◌+◌, ◌≤◌}
use Rattle.schemes.specs.{Schemes.fixed_of, declared.Fixed.Fixed, declared.Scheme.Scheme}
use Rattle.schemes.proofs.Sound.{sound}
use Rattle.lists.proofs.Parts.{buffer-long}
use Rattle.bench.proofs.bench_in.Goals as goal

module _ (s : Scheme) {f : Fixed} (e : f ≡ fixed_of s) where
  is : f.key ≡ (fixed_of s).key
  is = ap (λ (g : Fixed). g.key) e

  few : f.key + f.key ≤ 256
  few = omega (arith, is, (sound s).keys)

pub run-requires : goal.run-requires
run-requires c =
    let e = is c.args.scheme c.fixed-f.ensures in
    buffer-long _ 256 (few c.args.scheme c.fixed-f.ensures) ∙ ap₂ (λ (m n : ℕ). m + n) e e

pub overflow_add-n : goal.overflow_add-n
overflow_add-n c = omega (arith, few c.args.scheme c.fixed-f.ensures)

pub slice_bounds-keys-end : goal.slice_bounds-keys-end
slice_bounds-keys-end c = few c.args.scheme c.fixed-f.ensures

pub slice_bounds-run-end : goal.slice_bounds-run-end
slice_bounds-run-end c = sym (buffer-long _ 256 (few c.args.scheme c.fixed-f.ensures))
