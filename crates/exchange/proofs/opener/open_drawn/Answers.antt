-- `exchange::opener::open_drawn` meets its contract: the table's refusal, or what Offer shows of s and e.
use Rattle.lists.proofs.Kit.{ℕ, sym, ap, ◌∙◌, arith, length}
use Rattle.std.proofs.Common.{◌≡◌, ◌≤◌}
use Rattle.schemes.specs.{Schemes.fixed_of, Schemes.scheme_of_lem, declared.Fixed.Fixed, declared.Scheme.Scheme}
use Rattle.schemes.proofs.{Laws.by_number, Laws.tied, Sound.sound}
use Rattle.refusals.proofs.Ends.{given_up}
use Rattle.exchange.specs.Open.{open_lent}
use Rattle.exchange.proofs.{Drawn.draws-secret, Opening.open-unordered, Opening.open-drawn}
use Rattle.exchange.proofs.opener.open_drawn.Goals as goal

module _ (s : Scheme) {f : Fixed} (e : f ≡ fixed_of s) where
  long : f.secret ≡ (fixed_of s).secret
  long = ap (λ (g : Fixed). g.secret) e

  few : f.secret ≤ 6912
  few = omega (arith, long, (sound s).secrets)

  at-is : f.seed ≡ (fixed_of s).seed
  at-is = ap (λ (g : Fixed). g.seed) e

  roomy : {n : ℕ} → (fixed_of s).secret ≤ n → f.secret ≤ n
  roomy h = omega (arith, long, h)

pub draw-requires : goal.draw-requires
draw-requires c =
    let s = c.args.scheme in
    let f = c.fixed-f.ensures in
    let h = c.requires.random_len in
    let k = c.lengths-l.ensures.secret_value.0 in
    (draws-secret s (omega (arith, at-is s f, k, h.0)) h.1 k (long s f ∙ sym (tied s).noise), roomy s f h.2)

pub draw-requires-2 : goal.draw-requires-2
draw-requires-2 c =
    let s = c.args.scheme in
    let f = c.fixed-f.ensures in
    let h = c.requires.random_len in
    let k = c.lengths-l.ensures.secret_value.0 in
    (draws-secret s (omega (arith, at-is s f, k, h.0)) h.1 k (long s f ∙ sym (tied s).noise), few s f)

pub returns-in_err-draw-clause-opening_value_2 : goal.returns-in_err-draw-clause-opening_value_2
returns-in_err-draw-clause-opening_value_2 c =
    let a = c.args in
    let p = open-unordered a.scheme (open_lent a.public.now a.table.now a.random.now) (length a.opening.now) c.draw.ensures.value {X = ℕ} c.in_err-draw.was
    c.requires.opening_value in
    rw (given_up _ c.from_residual.ensures) p.0

pub returns : goal.returns
returns c =
    let a = c.args in
    let p = open-drawn a.scheme (open_lent a.public.now a.table.now a.random.now) (length a.opening.now) c.draw-2.ensures.value c.fixed-f.ensures
    c.lengths-l.ensures.secret_value.0 c.draw.ensures.drew c.draw-2.ensures.drew c.in_ok-draw-2.was (ap scheme_of_lem c.number-number.ensures ∙ by_number a.scheme)
    c.offer.ensures in
    record { opening_value_2 = p.0; s_value = p.1 }
