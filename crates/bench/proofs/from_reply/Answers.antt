-- `bench::from_reply` meets its contract: it lends room for the reply; Reply's refusal, or what follows from Finish on.
use Rattle.lists.proofs.Kit.{List, sym, ap, ◌∙◌, ℕ, arith, length, take, replicate, length-take, length-drop}
use Rattle.std.proofs.Common.{◌≡◌, ◌+◌, ◌≤◌}
use Rattle.schemes.specs.{Schemes.fixed_of, declared.Fixed.Fixed, declared.Scheme.Scheme}
use Rattle.schemes.proofs.Sound.{sound}
use Rattle.lists.proofs.Parts.{buffer-long, front_long}
use Rattle.refusals.proofs.{Ends.given_up, Steps.front_fits}
use Rattle.reply.specs.Reply.{reply}
use Rattle.bench.proofs.{Answering.named, Answering.reply-refused, Answering.reply-sent, Answering.reply-told}
use Rattle.reply.proofs.Replying as reply
use Rattle.bench.proofs.from_reply.Goals as goal

module _ (s : Scheme) {f : Fixed} (e : f ≡ fixed_of s) where
  reply-is : f.reply ≡ (fixed_of s).reply
  reply-is = ap (λ (g : Fixed). g.reply) e

  key-is : f.key ≡ (fixed_of s).key
  key-is = ap (λ (g : Fixed). g.key) e

  reply-room : f.reply ≤ 12968
  reply-room = omega (arith, reply-is, (sound s).replies)

  key-room : {n : ℕ} → n ≡ (fixed_of s).key + (fixed_of s).key → f.key ≤ n
  key-room h = omega (arith, key-is, h)

  rooms : (keys : List ℕ) → length keys ≡ (fixed_of s).key + (fixed_of s).key
      → (length {A = ℕ} (take f.reply (replicate 12968 0)) ≡ (fixed_of s).reply) × (length (take f.key keys) ≡ (fixed_of s).key)
  rooms keys h = (buffer-long _ 12968 reply-room ∙ reply-is, front_long _ keys (key-room h) ∙ key-is)

-- the message that Reply has made, and the other half of the keys
pub slice_bounds-reply-end-6 : goal.slice_bounds-reply-end-6
slice_bounds-reply-end-6 c =
    let a = c.args in
    let x = reply a.opening.now a.a.now a.s1.now a.e1.now a.e2.now a.coins.now in
    let f = c.fixed-f.ensures in
    let sent = reply-sent a.scheme x a.s.now (named a.scheme c.number.ensures) (rooms a.scheme f a.keys.now c.requires) _ _ _ _ c.in_ok-reply.ensures in
    front_fits _ sent (reply.message-length a.scheme x ∙ sym (reply-is a.scheme f)) _

pub slice_bounds-from_finish-end : goal.slice_bounds-from_finish-end
slice_bounds-from_finish-end c =
    let a = c.args in
    let x = reply a.opening.now a.a.now a.s1.now a.e1.now a.e2.now a.coins.now in
    let f = c.fixed-f.ensures in
    let sent = reply-sent a.scheme x a.s.now (named a.scheme c.number.ensures) (rooms a.scheme f a.keys.now c.requires) _ _ _ _ c.in_ok-reply.ensures in
    sym (front_long _ _ (front_fits _ sent (reply.message-length a.scheme x ∙ sym (reply-is a.scheme f)) _))

pub slice_bounds-from_finish-count : goal.slice_bounds-from_finish-count
slice_bounds-from_finish-count c = omega (arith, key-room c.args.scheme c.fixed-f.ensures c.requires)

pub slice_bounds-from_finish-start : goal.slice_bounds-from_finish-start
slice_bounds-from_finish-start c = omega (arith, key-room c.args.scheme c.fixed-f.ensures c.requires)

pub from_finish-requires : goal.from_finish-requires
from_finish-requires c = simp (length-take, length-drop) (omega (arith, c.requires, key-is c.args.scheme c.fixed-f.ensures))

pub returns-in_err-reply : goal.returns-in_err-reply
returns-in_err-reply c =
    let a = c.args in
    let x = reply a.opening.now a.a.now a.s1.now a.e1.now a.e2.now a.coins.now in
    rw (given_up _ c.from_residual.ensures)
    (reply-refused a.scheme x a.s.now (named a.scheme c.number.ensures) (rooms a.scheme c.fixed-f.ensures a.keys.now c.requires) _ _ _ _ c.in_err-reply.ensures)

pub returns : goal.returns
returns c =
    let a = c.args in
    let x = reply a.opening.now a.a.now a.s1.now a.e1.now a.e2.now a.coins.now in
    let f = c.fixed-f.ensures in
    reply-told a.scheme x a.s.now (named a.scheme c.number.ensures) (rooms a.scheme f a.keys.now c.requires) _ _ _ _ (reply-is a.scheme f) (key-is a.scheme f) _ a.keys.now
    c.in_ok-reply.ensures c.from_finish.ensures

pub slice_bounds-reply-end : goal.slice_bounds-reply-end
slice_bounds-reply-end c = reply-room c.args.scheme c.fixed-f.ensures

pub slice_bounds-reply-end-2 : goal.slice_bounds-reply-end-2
slice_bounds-reply-end-2 c = sym (buffer-long _ 12968 (reply-room c.args.scheme c.fixed-f.ensures))

pub slice_bounds-reply-end-3 : goal.slice_bounds-reply-end-3
slice_bounds-reply-end-3 c = key-room c.args.scheme c.fixed-f.ensures c.requires

pub slice_bounds-reply-end-4 : goal.slice_bounds-reply-end-4
slice_bounds-reply-end-4 c = sym (front_long _ c.args.keys.now (key-room c.args.scheme c.fixed-f.ensures c.requires))
