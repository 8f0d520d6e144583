-- `bench::compare::both` meets its contract: it cuts the keys apart, and lends room for the bits.
use Rattle.lists.proofs.Kit.{sym, ap, ◌∙◌, List, ℕ, arith, length, take, drop, length-take, length-drop}
use Rattle.std.proofs.Common.{◌≡◌, ◌+◌, ◌-◌, ◌*◌, ◌≤◌}
use Rattle.lists.proofs.Parts.{buffer-long, front_long, to_end}
use Rattle.bench.specs.{Bench.differing, Inside.comparison}
use Rattle.bench.proofs.compare.both.Goals as goal

module _ (k : ℕ) (keys : List ℕ) (h : length keys ≡ k + k) where
  own-long : length (take k keys) ≡ k
  own-long = front_long k keys (omega (arith, h))

  peer-long : length (take (length keys - k) (drop k keys)) ≡ k
  peer-long = simp (length-take, length-drop) (omega (arith, h))

pub by_bits-requires : goal.by_bits-requires
by_bits-requires c =
    let a = c.args in
    let own = own-long a.k a.keys.now c.requires.1 in
    let peer = peer-long a.k a.keys.now c.requires.1 in
    let l = buffer-long (8 * a.k) 1024 (omega (arith, c.requires.0)) in
    (own ∙ sym peer, l ∙ ap (λ (n : ℕ). 8 * n) (sym own), l ∙ ap (λ (n : ℕ). 8 * n) (sym peer))

pub returns : goal.returns
returns c =
    let a = c.args in
    c.by_bits.ensures ∙ ap (λ (t : List ℕ). comparison (differing (take a.k a.keys.now) t) a.slack) (to_end a.keys.now a.k)

pub slice_bounds-by_bits-end : goal.slice_bounds-by_bits-end
slice_bounds-by_bits-end c = sym (own-long c.args.k c.args.keys.now c.requires.1)

pub slice_bounds-by_bits-end-3 : goal.slice_bounds-by_bits-end-3
slice_bounds-by_bits-end-3 c = sym (buffer-long (8 * c.args.k) 1024 (omega (arith, c.requires.0)))

pub slice_bounds-by_bits-end-4 : goal.slice_bounds-by_bits-end-4
slice_bounds-by_bits-end-4 c = sym (buffer-long (8 * c.args.k) 1024 (omega (arith, c.requires.0)))
