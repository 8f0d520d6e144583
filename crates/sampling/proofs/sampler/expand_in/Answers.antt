-- `sampling::sampler::expand_in` meets its contract: the part that was lent is filled, or is zero again.
use Rattle.std.proofs.Common.{Some, ◌≡◌, ◌++◌}
use Rattle.lists.proofs.Kit.{◌∙◌, sym, ap, List, ℕ, arith, length, drop, length-take, length-take-le}
use Rattle.refusals.proofs.Seen.{shown-passed, shown-restored}
use Rattle.sampling.specs.Expand.{expand_numbers}
use Rattle.sampling.proofs.Expanding.{room-enough, ran_out, full, numbers-few, whole_part}
use Rattle.sampling.proofs.sampler.expand_in.Goals as goal

pub slice_bounds-fill-end : goal.slice_bounds-fill-end
slice_bounds-fill-end c =
    omega (arith, c.out-1.given.1, room-enough c.args.name c.args.stream.now _ c.requires.out_value)

pub slice_bounds-fill-end-then-n-lt-PUBLIC : goal.slice_bounds-fill-end-then-n-lt-PUBLIC
slice_bounds-fill-end-then-n-lt-PUBLIC c =
    simp length-take (omega (arith, c.out-1.given.1, room-enough c.args.name c.args.stream.now _ c.requires.out_value))

pub returns-then-n-lt-PUBLIC : goal.returns-then-n-lt-PUBLIC
unfolding expand_numbers
returns-then-n-lt-PUBLIC c =
    let e = ran_out c.args.name c.args.stream.now _ c.requires.out_value c.expand-n.ensures.value c.if-n-lt-PUBLIC.true in
    let l = c.out-1.given.0 ∙ length-take-le 1024 c.args.out.now (room-enough c.args.name c.args.stream.now _ c.requires.out_value) in
    shown-restored _ _ _ e c.args.out.now c.expand-n.new.out c.requires.out_value_2 (room-enough c.args.name c.args.stream.now _ c.requires.out_value) l (c.fill.ensures.after (λ y e. e))

pub returns : goal.returns
unfolding expand_numbers
returns c =
    let xs = expand_numbers (Some c.args.name) c.args.stream.now in
    let l = c.if-n-lt-PUBLIC.false in
    let e = full c.args.name c.args.stream.now _ c.requires.out_value c.expand-n.ensures.value l in
    let long : length xs ≡ 1024 = omega (arith, c.expand-n.ensures.value, numbers-few c.args.name c.args.stream.now) in
    let w = whole_part xs c.args.out.now _ _ c.expand-n.ensures.out_after l in
    let many = c.expand-n.ensures.value ∙ long in
    rw many (shown-passed _ _ _ e c.args.out.now long c.requires.out_value_2 (ap (λ (ys : List ℕ). ys ++ drop 1024 c.args.out.now) w))

pub slice_bounds-expand-end : goal.slice_bounds-expand-end
slice_bounds-expand-end c = room-enough c.args.name c.args.stream.now _ c.requires.out_value

pub slice_bounds-expand-end-2 : goal.slice_bounds-expand-end-2
slice_bounds-expand-end-2 c = sym (length-take-le 1024 c.args.out.now (room-enough c.args.name c.args.stream.now _ c.requires.out_value))

pub expand-n-requires : goal.expand-n-requires
expand-n-requires c = length-take-le 1024 c.args.out.now (room-enough c.args.name c.args.stream.now _ c.requires.out_value)
