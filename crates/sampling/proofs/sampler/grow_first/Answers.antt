-- `sampling::sampler::grow_first` meets its contract: by the first bytes where they are enough, and by all after their refusal, which has left zeros.
use Rattle.lists.proofs.Kit.{refl, ◌∙◌, sym, ap, List, ℕ, arith, length, take, length-take-le}
use Rattle.std.proofs.Common.{◌≡◌, ◌*◌, ◌≤◌}
use Rattle.lists.proofs.Same.{zeros, zeros-long}
use Rattle.sampling.specs.Steps.{grow_sizes_lem}
use Rattle.sampling.proofs.{Expanding.refused-zeros, Growing.went_well, Growing.went-badly, Growing.grown-all, Growing.grown-first, Growing.grow-named}
use Rattle.sampling.proofs.sampler.grow_first.Goals as goal

-- how many bytes are lent for the first
lent : (bytes : List ℕ) (n : ℕ) → length bytes ≡ 24 * 168 → n ≤ 24 * 168 → length (take n bytes) ≡ n
lent bytes n e l = length-take-le n bytes (omega arith)

pub slice_bounds-grow_from-end-2 : goal.slice_bounds-grow_from-end-2
slice_bounds-grow_from-end-2 c =
    sym (lent c.args.bytes.now _ c.requires.out_value.1 c.first_bytes-n.ensures.0)

pub grow_from-a-requires : goal.grow_from-a-requires
grow_from-a-requires c =
    record {
      out_value = (c.requires.out_value.0, omega (arith, lent c.args.bytes.now _ c.requires.out_value.1 c.first_bytes-n.ensures.0));
      out_value_2 = c.requires.out_value_2;
    }

pub returns-then-is_ok : goal.returns-then-is_ok
returns-then-is_ok c =
    let l = lent c.args.bytes.now _ c.requires.out_value.1 c.first_bytes-n.ensures.0 in
    grown-first c.args.name c.args.seed.now _ c.requires.out_value.0 _ (omega (arith, l)) _ (omega (arith, l, c.first_bytes-n.ensures.1))
    (went_well _ (sym c.is_ok.ensures.value ∙ c.if-is_ok.true)).1 c.grow_from-a.ensures

pub grow_from-requires : goal.grow_from-requires
grow_from-requires c =
    let z = refused-zeros _ _ _ (went-badly _ (sym c.is_ok.ensures.value ∙ c.if-is_ok.false)).1 c.grow_from-a.ensures in
    let n = length c.args.out.now in
    record { out_value = (ap (grow_sizes_lem c.args.seed.now) (zeros-long n 0 z) ∙ c.requires.out_value.0, omega (arith, c.bytes-1.given.1, c.requires.out_value.1)); out_value_2 = zeros n 0 z }

pub returns : goal.returns
returns c =
    let z = refused-zeros _ _ _ (went-badly _ (sym c.is_ok.ensures.value ∙ c.if-is_ok.false)).1 c.grow_from-a.ensures in
    let n = length c.args.out.now in
    let e = ap (grow_sizes_lem c.args.seed.now) (zeros-long n 0 z) ∙ c.requires.out_value.0 in
    grow-named refl _ n refl z
    (grown-all c.args.name c.args.seed.now _ e _ (omega (arith, c.bytes-1.given.1, c.requires.out_value.1)) (c.bytes-1.given.1 ∙ c.requires.out_value.1) c.grow_from.ensures)
