-- `exchange::answerer::answer_drawn` meets its contract: the table's refusal, or what Reply shows of s', e', e'' and coins.
use Rattle.lists.proofs.Kit.{ℕ, ap, ◌∙◌, arith, length}
use Rattle.std.proofs.Common.{◌≡◌, ◌+◌, ◌≤◌}
use Rattle.schemes.specs.{Schemes.fixed_of, Schemes.scheme_of_lem, declared.Fixed.Fixed, declared.Scheme.Scheme}
use Rattle.schemes.proofs.{Laws.by_number, Sound.sound}
use Rattle.refusals.proofs.Ends.{given_up}
use Rattle.reply.specs.Reply.{reply_rooms_of}
use Rattle.exchange.specs.Random.{secret_bytes, mixed_bytes, answer_random}
use Rattle.exchange.specs.Answer.{answer_lent}
use Rattle.exchange.proofs.Answering.{answer-unordered, answer-drawn}
use Rattle.exchange.proofs.{Drawn.draws-secret, Drawn.draws-mixed}
use Rattle.exchange.proofs.answerer.answer_drawn.Goals as goal

module _ (s : Scheme) {f : Fixed} (e : f ≡ fixed_of s) where
  long : f.noise ≡ (fixed_of s).noise
  long = ap (λ (g : Fixed). g.noise) e

  few : f.noise ≤ 6912
  few = omega (arith, long, (sound s).noises)

  mixed-long : f.mixed ≡ (fixed_of s).mixed
  mixed-long = ap (λ (g : Fixed). g.mixed) e

  mixed-few : f.mixed ≤ 1024
  mixed-few = omega (arith, mixed-long, (sound s).values)

  random-long : {n i k : ℕ} → n ≡ answer_random s → (i ≡ secret_bytes s) × (k ≡ mixed_bytes s) → n ≡ i + i + k + f.coins
  random-long a b = omega (arith, a, b.0, b.1, ap (λ (g : Fixed). g.coins) e)

pub draw-requires : goal.draw-requires
draw-requires c =
    let s = c.args.scheme in
    let r = random-long s c.fixed-f.ensures c.requires.random_len.0 c.lengths-l.ensures.secret_value in
    (draws-secret s (omega (arith, r)) c.requires.random_len.1 c.lengths-l.ensures.secret_value.0 (long s c.fixed-f.ensures), few s c.fixed-f.ensures)

pub draw-requires-2 : goal.draw-requires-2
draw-requires-2 c =
    let s = c.args.scheme in
    let r = random-long s c.fixed-f.ensures c.requires.random_len.0 c.lengths-l.ensures.secret_value in
    (draws-secret s (omega (arith, r)) c.requires.random_len.1 c.lengths-l.ensures.secret_value.0 (long s c.fixed-f.ensures), few s c.fixed-f.ensures)

pub draw-requires-3 : goal.draw-requires-3
draw-requires-3 c =
    let s = c.args.scheme in
    let r = random-long s c.fixed-f.ensures c.requires.random_len.0 c.lengths-l.ensures.secret_value in
    (draws-mixed s (omega (arith, r)) c.requires.random_len.1 c.lengths-l.ensures.secret_value.1 (mixed-long s c.fixed-f.ensures), mixed-few s c.fixed-f.ensures)

pub returns-in_err-draw : goal.returns-in_err-draw
returns-in_err-draw c =
    let a = c.args in
    rw (given_up _ c.from_residual.ensures)
    (answer-unordered a.scheme (answer_lent a.opening.now a.public.now a.table.now a.random.now)
    (reply_rooms_of (length a.message.now) (length a.key.now) (length a.digest.now)) c.draw.ensures.value c.in_err-draw.was c.requires.message_value.0
    c.requires.message_value.1 c.requires.digest_value)

pub returns : goal.returns
returns c =
    let a = c.args in
    answer-drawn a.scheme (answer_lent a.opening.now a.public.now a.table.now a.random.now)
    (reply_rooms_of (length a.message.now) (length a.key.now) (length a.digest.now)) c.draw-3.ensures.value c.fixed-f.ensures c.lengths-l.ensures.secret_value
    (random-long a.scheme c.fixed-f.ensures c.requires.random_len.0 c.lengths-l.ensures.secret_value) c.draw.ensures.drew c.draw-2.ensures.drew
    c.draw-3.ensures.drew c.in_ok-draw-3.was (ap scheme_of_lem c.number-number.ensures ∙ by_number a.scheme) c.reply.ensures
