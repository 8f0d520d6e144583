-- `bench::from_offer` meets its contract: it lends room for the opening; Offer's refusal, or what follows from Reply on.
use Rattle.lists.proofs.Kit.{sym, ap, ◌∙◌, ℕ, arith, length, take, replicate}
use Rattle.std.proofs.Common.{◌≡◌, ◌≤◌}
use Rattle.schemes.specs.{Schemes.fixed_of, declared.Fixed.Fixed, declared.Scheme.Scheme}
use Rattle.schemes.proofs.Sound.{sound}
use Rattle.lists.proofs.Parts.{buffer-long, front_long}
use Rattle.refusals.proofs.{Ends.given_up, Steps.front_fits}
use Rattle.bench.specs.Bench.{bench}
use Rattle.bench.proofs.{Answering.named, Answering.offer-refused, Answering.offer-sent, Answering.offer-told}
use Rattle.bench.proofs.from_offer.Goals as goal

module _ (s : Scheme) {f : Fixed} (e : f ≡ fixed_of s) where
  is : f.opening ≡ (fixed_of s).opening
  is = ap (λ (g : Fixed). g.opening) e

  roomy : f.opening ≤ 12976
  roomy = omega (arith, is, (sound s).openings)

  -- the room for the opening
  long : length {A = ℕ} (take f.opening (replicate 12976 0)) ≡ (fixed_of s).opening
  long = buffer-long _ 12976 roomy ∙ is

pub slice_bounds-opening-end-2 : goal.slice_bounds-opening-end-2
slice_bounds-opening-end-2 c =
    let a = c.args in
    let x = bench a.a.now a.s.now a.e.now a.seed.now a.s1.now a.e1.now a.e2.now a.coins.now in
    let f = c.fixed-f.ensures in
    let sent = offer-sent a.scheme x (named a.scheme c.number.ensures) (long a.scheme f) _ _ c.in_ok-offer.ensures in
    front_fits _ sent.0 (sent.1 ∙ sym (is a.scheme f)) _

pub slice_bounds-from_reply-end : goal.slice_bounds-from_reply-end
slice_bounds-from_reply-end c =
    let a = c.args in
    let x = bench a.a.now a.s.now a.e.now a.seed.now a.s1.now a.e1.now a.e2.now a.coins.now in
    let f = c.fixed-f.ensures in
    let sent = offer-sent a.scheme x (named a.scheme c.number.ensures) (long a.scheme f) _ _ c.in_ok-offer.ensures in
    sym (front_long _ _ (front_fits _ sent.0 (sent.1 ∙ sym (is a.scheme f)) _))

pub returns-in_err-offer : goal.returns-in_err-offer
returns-in_err-offer c =
    let a = c.args in
    let x = bench a.a.now a.s.now a.e.now a.seed.now a.s1.now a.e1.now a.e2.now a.coins.now in
    rw (given_up _ c.from_residual.ensures) (offer-refused a.scheme x (named a.scheme c.number.ensures) (long a.scheme c.fixed-f.ensures) _ _ c.in_err-offer.ensures)

pub returns : goal.returns
returns c =
    let a = c.args in
    let x = bench a.a.now a.s.now a.e.now a.seed.now a.s1.now a.e1.now a.e2.now a.coins.now in
    let f = c.fixed-f.ensures in
    offer-told a.scheme x (named a.scheme c.number.ensures) (long a.scheme f) _ _ (is a.scheme f) _ c.in_ok-offer.ensures
    c.from_reply.ensures

pub slice_bounds-opening-end : goal.slice_bounds-opening-end
slice_bounds-opening-end c = roomy c.args.scheme c.fixed-f.ensures

pub slice_bounds-offer-end : goal.slice_bounds-offer-end
slice_bounds-offer-end c = sym (buffer-long _ 12976 (roomy c.args.scheme c.fixed-f.ensures))
