-- `offer::opener::send` meets its contract: what the output holds, by the verdict on the public numbers and on the part about to be sent.
use Rattle.lists.proofs.Kit.{sym, ap, ◌∙◌, List, ℕ, arith, length, take, drop, take-append-drop}
use Rattle.std.proofs.Common.{◌≡◌, ◌++◌, ◌≤◌}
use Rattle.schemes.specs.{Schemes.fixed_of, declared.Fixed.Fixed, declared.Scheme.Scheme}
use Rattle.refusals.specs.Refusals.{pass}
use Rattle.lists.proofs.Parts.{front_long}
use Rattle.refusals.proofs.{Ends.given_up, Seen.shown-passed, Seen.shown-failed}
use Rattle.offer.specs.{Offer.Offer, Offer.offer, Inside.offer_ahead, Offer.offer_message, Inside.Opens}
use Rattle.offer.proofs.{Offering.ahead-opens, Offering.opening-long, Offering.offer-last-decides}
use Rattle.offer.proofs.opener.send.Goals as goal

-- the part that the opening takes, of the message m
module _ (s : Scheme) (x : Offer) (m : List ℕ) {f : Fixed} (e : f ≡ fixed_of s) (t : offer_ahead s x (length m) ≡ pass) where
  opens : Opens s x × ((fixed_of s).opening ≤ length m)
  opens = ahead-opens _ _ _ t

  long : f.opening ≡ (fixed_of s).opening
  long = ap (λ (g : Fixed). g.opening) e

  roomy : f.opening ≤ length m
  roomy = omega (arith, long, opens.1)

  part-long : length (take f.opening m) ≡ f.opening
  part-long = front_long _ m roomy

pub lay-requires-clause-opens : goal.lay-requires-clause-opens
lay-requires-clause-opens c = (opens c.args.scheme _ c.args.message.now c.fixed-f.ensures c.requires.message_value).0

pub lay-requires-clause-n_value : goal.lay-requires-clause-n_value
lay-requires-clause-n_value c =
    let s = c.args.scheme in
    let m = c.args.message.now in
    let t = c.requires.message_value in
    (ap (λ (g : Fixed). g.secret) c.fixed-f.ensures, part-long s _ m c.fixed-f.ensures t ∙ long s _ m c.fixed-f.ensures t)

pub returns-in_err-lay : goal.returns-in_err-lay
unfolding offer_message
returns-in_err-lay c =
    let a = c.args in
    let k = c.fixed-f.result.opening in
    let e = offer-last-decides a.scheme (offer a.a.now a.s.now a.e.now a.seed.now) _ c.requires.message_value c.in_err-lay.ensures.value in
    let z = ap (λ (t : List ℕ). t ++ drop k a.message.now) c.in_err-lay.ensures.laid ∙ take-append-drop k a.message.now in
    rw (given_up _ c.from_residual.ensures) (shown-failed _ _ _ e (z ∙ c.requires.message_value_2))

pub returns : goal.returns
unfolding offer_message
returns c =
    let a = c.args in
    let x = offer a.a.now a.s.now a.e.now a.seed.now in
    let t = c.requires.message_value in
    let e = offer-last-decides a.scheme x _ t c.in_ok-lay.ensures.value in
    let n = opening-long _ _ (opens a.scheme x a.message.now c.fixed-f.ensures t).0.seed-long ∙ sym (long a.scheme x a.message.now c.fixed-f.ensures t) in
    shown-passed _ _ _ e a.message.now n c.requires.message_value_2 (ap (λ (xs : List ℕ). xs ++ drop c.fixed-f.result.opening a.message.now) c.in_ok-lay.ensures.laid)

pub slice_bounds-lay-end : goal.slice_bounds-lay-end
slice_bounds-lay-end c = roomy c.args.scheme _ c.args.message.now c.fixed-f.ensures c.requires.message_value

pub slice_bounds-lay-end-2 : goal.slice_bounds-lay-end-2
slice_bounds-lay-end-2 c = sym (part-long c.args.scheme _ c.args.message.now c.fixed-f.ensures c.requires.message_value)
