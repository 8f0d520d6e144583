-- `finish::initiator::derive` meets its contract: value, hints, and what they settle, with room for each.
use Rattle.lists.proofs.Kit.{sym, ap₂, ◌∙◌, List, ℕ, arith, length}
use Rattle.std.proofs.Common.{◌≡◌, ◌≤◌}
use Rattle.schemes.specs.Schemes.{fixed_of}
use Rattle.schemes.proofs.Sound.{sound}
use Rattle.lists.specs.First.{peak_of_lem}
use Rattle.lists.proofs.Parts.{buffer-long, front_long}
use Rattle.packing.specs.Packing.{packed}
use Rattle.refusals.proofs.Steps.{front-is, front_fits}
use Rattle.values.specs.{Values.bare_value, Keys.peers, Keys.slacks}
use Rattle.values.proofs.Ranges.{bare-counted}
use Rattle.wire.specs.Wire.{hints_in}
use Rattle.wire.proofs.Travel.{hints-given}
use Rattle.finish.specs.Inside.{key_from, slack_from}
use Rattle.finish.proofs.initiator.derive.Goals as goal
use Rattle.finish.proofs.initiator.derive.Goals.{Start}

module _ (b : Start) where
  values : b.args.n ≤ 1024
  values = omega (arith, b.requires.n_value.0, (sound b.args.scheme).values)

  groups : b.args.g ≤ 1024
  groups = omega (arith, b.requires.n_value.1, (sound b.args.scheme).groups)

  value-long : length (bare_value b.args.scheme b.args.u.now b.args.s.now) ≡ b.args.n
  value-long = (bare-counted b.args.scheme b.args.u.now b.args.s.now).long ∙ sym b.requires.n_value.0

  hints-long : length (hints_in b.args.scheme b.args.reply.now) ≡ b.args.n
  hints-long = (hints-given b.args.scheme b.args.reply.now).long ∙ sym b.requires.n_value.0

pub slice_bounds-w-end : goal.slice_bounds-w-end
slice_bounds-w-end c = values (goal.at.slice_bounds-w-end c).Start

pub slice_bounds-multiply-end : goal.slice_bounds-multiply-end
slice_bounds-multiply-end c = sym (buffer-long c.args.n 1024 (values (goal.at.slice_bounds-multiply-end c).Start))

pub multiply-requires : goal.multiply-requires
multiply-requires c =
    record { counted = (c.requires.derives.0.numbers, buffer-long c.args.n 1024 (values (goal.at.multiply-requires c).Start) ∙ c.requires.n_value.0); small = c.requires.derives.0.secret }

pub slice_bounds-hints-end : goal.slice_bounds-hints-end
slice_bounds-hints-end c = values (goal.at.slice_bounds-hints-end c).Start

pub slice_bounds-take_hints-end : goal.slice_bounds-take_hints-end
slice_bounds-take_hints-end c = sym (buffer-long c.args.n 1024 (values (goal.at.slice_bounds-take_hints-end c).Start))

pub take_hints-requires : goal.take_hints-requires
take_hints-requires c = (c.requires.derives.0.reply-long, buffer-long c.args.n 1024 (values (goal.at.take_hints-requires c).Start) ∙ c.requires.n_value.0)

pub slice_bounds-hints-end-2 : goal.slice_bounds-hints-end-2
slice_bounds-hints-end-2 c =
    front_fits _ c.take_hints.ensures (hints-long (goal.at.slice_bounds-hints-end-2 c).Start) _

pub slice_bounds-settle-end : goal.slice_bounds-settle-end
slice_bounds-settle-end c =
    sym (front_long _ _ (front_fits _ c.take_hints.ensures (hints-long (goal.at.slice_bounds-settle-end c).Start) _))

pub slice_bounds-w-end-2 : goal.slice_bounds-w-end-2
slice_bounds-w-end-2 c =
    front_fits _ c.multiply.ensures (value-long (goal.at.slice_bounds-w-end-2 c).Start) _

pub slice_bounds-settle-end-2 : goal.slice_bounds-settle-end-2
slice_bounds-settle-end-2 c =
    sym (front_long _ _ (front_fits _ c.multiply.ensures (value-long (goal.at.slice_bounds-settle-end-2 c).Start) _))

pub slice_bounds-entries-end : goal.slice_bounds-entries-end
slice_bounds-entries-end c = groups (goal.at.slice_bounds-entries-end c).Start

pub slice_bounds-settle-end-3 : goal.slice_bounds-settle-end-3
slice_bounds-settle-end-3 c = sym (buffer-long c.args.g 1024 (groups (goal.at.slice_bounds-settle-end-3 c).Start))

pub settle-requires : goal.settle-requires
settle-requires c =
    let a = c.args in record { counted = (rw (front-is _ c.multiply.ensures (value-long (goal.at.settle-requires c).Start) _) (bare-counted a.scheme a.u.now a.s.now), buffer-long a.g 1024 (groups (goal.at.settle-requires c).Start) ∙ c.requires.n_value.1); counted_2 = (rw (front-is _ c.take_hints.ensures (hints-long (goal.at.settle-requires c).Start) _) (hints-given a.scheme a.reply.now), c.requires.derives.1) }

pub returns : goal.returns
unfolding key_from slack_from
returns c =
    let hs = front-is _ c.take_hints.ensures (hints-long (goal.at.returns c).Start) _ in
    let w = front-is _ c.multiply.ensures (value-long (goal.at.returns c).Start) _ in record { key_value = c.settle.ensures.key_value ∙ ap₂ (λ (hs w : List ℕ). packed (fixed_of c.args.scheme).keybits (peers c.args.scheme hs w)) hs w; value = c.settle.ensures.value ∙ ap₂ (λ (hs w : List ℕ). peak_of_lem (slacks c.args.scheme hs w)) hs w }
