-- `reply::replier::reply_sized` meets its contract: what the outputs hold, by the verdict of the tests after the sizes.
use Rattle.lists.proofs.Kit.{sym, ap, ◌∙◌, List, ℕ, arith, length, drop, replicate, length-take, take-append-drop}
use Rattle.std.proofs.Common.{◌≡◌, ◌++◌, ◌≤◌}
use Rattle.schemes.specs.{Schemes.fixed_of, declared.Fixed.Fixed}
use Rattle.lists.proofs.Parts.{front_long}
use Rattle.sponge.proofs.{Output.sha3-length, Digest.digest-laid}
use Rattle.refusals.proofs.{Ends.given_up, Seen.written-passed, Steps.blank-front}
use Rattle.reply.specs.Reply.{Reply, reply, reply_rooms_of, reply_message, reply_key}
use Rattle.reply.proofs.Replying.{message-length, key-length, Sized, reply-sized, reply-rest-decides, reply-refused, reply-done}
use Rattle.reply.proofs.replier.reply_sized.Goals as goal
use Rattle.reply.proofs.replier.reply_sized.Goals.{After-fixed-f, Start}

abbrev lent : Start → Reply
lent b = let a = b.args in reply a.opening.now a.a.now a.s1.now a.e1.now a.e2.now a.coins.now

-- the parts that message and key take
module _ (c : After-fixed-f) where
  long : c.fixed-f.result.reply ≡ (fixed_of c.args.scheme).reply
  long = ap (λ (g : Fixed). g.reply) c.fixed-f.ensures

  key-long : c.fixed-f.result.key ≡ (fixed_of c.args.scheme).key
  key-long = ap (λ (g : Fixed). g.key) c.fixed-f.ensures

  sized : let a = c.args in Sized a.scheme (lent (goal.at.After-fixed-f c).Start) (reply_rooms_of (length a.message.now) (length a.key.now) (length a.digest.now))
  sized = reply-sized _ _ _ c.requires.digest_value

  roomy : c.fixed-f.result.reply ≤ length c.args.message.now
  roomy = omega (arith, long, sized.roomy)

  key-roomy : c.fixed-f.result.key ≤ length c.args.key.now
  key-roomy = omega (arith, key-long, sized.key-roomy)

pub with_opening-requires : goal.with_opening-requires
with_opening-requires c =
    let z = sized (goal.at.with_opening-requires c).After-fixed-f in record {
      replying = record {
        public-long = z.public-long;
        secret-long = z.secret-long;
        noise-long = z.noise-long;
        last-long = z.last-long;
        coins-long = z.coins-long;
        message-blank = blank-front _ 0 _ (roomy (goal.at.with_opening-requires c).After-fixed-f) c.requires.message_value.0 ∙ ap (λ (n : ℕ). replicate n 0) (long (goal.at.with_opening-requires c).After-fixed-f);
        key-blank = blank-front _ 0 _ (key-roomy (goal.at.with_opening-requires c).After-fixed-f) c.requires.message_value.1 ∙ ap (λ (n : ℕ). replicate n 0) (key-long (goal.at.with_opening-requires c).After-fixed-f);
      };
      opening_len = z.opening-long;
    }

pub returns-in_err-with_opening : goal.returns-in_err-with_opening
unfolding reply_message reply_key
returns-in_err-with_opening c =
    let a = c.args in
    let q = c.in_err-with_opening.ensures in
    let m = c.fixed-f.result.reply in
    let k = c.fixed-f.result.key in
    let e = reply-rest-decides a.scheme (lent (goal.at.returns-in_err-with_opening c).Start) _ c.requires.digest_value q.value in
    let zm = ap (λ (t : List ℕ). t ++ drop m a.message.now) q.laid ∙ take-append-drop m a.message.now ∙ c.requires.message_value.0 in
    let zk = ap (λ (t : List ℕ). t ++ drop k a.key.now) q.laid_2 ∙ take-append-drop k a.key.now ∙ c.requires.message_value.1 in
    rw (given_up _ c.from_residual.ensures) (reply-refused _ _ _ _ e zm zk c.requires.digest_value_2)

pub slice_bounds-lay_digest-end : goal.slice_bounds-lay_digest-end
slice_bounds-lay_digest-end c =
    omega (arith, c.key-1.given.1, key-roomy (goal.at.slice_bounds-lay_digest-end c).After-fixed-f)

pub slice_bounds-lay_digest-end-2 : goal.slice_bounds-lay_digest-end-2
slice_bounds-lay_digest-end-2 c =
    simp length-take (omega (arith, c.key-1.given.1, key-roomy (goal.at.slice_bounds-lay_digest-end-2 c).After-fixed-f))

pub returns : goal.returns
unfolding reply_message reply_key
returns c =
    let a = c.args in
    let q = c.in_ok-with_opening.ensures in
    let x = lent (goal.at.returns c).Start in
    let e = reply-rest-decides a.scheme x _ c.requires.digest_value q.value in
    let l = key-length a.scheme x ∙ sym (key-long (goal.at.returns c).After-fixed-f) in
    reply-done _ _ _ _ e
    (written-passed _ _ _ e a.message.now (message-length a.scheme x ∙ sym (long (goal.at.returns c).After-fixed-f)) c.requires.message_value.0
    (ap (λ (xs : List ℕ). xs ++ drop c.fixed-f.result.reply a.message.now) q.laid))
    (written-passed _ _ _ e a.key.now l c.requires.message_value.1 (ap (λ (xs : List ℕ). xs ++ drop c.fixed-f.result.key a.key.now) q.laid_2))
    (written-passed _ _ _ e a.digest.now (sha3-length _) c.requires.digest_value_2 (digest-laid _ _ a.digest.now _ q.laid_2 l c.lay_digest.ensures))

pub slice_bounds-with_opening-end : goal.slice_bounds-with_opening-end
slice_bounds-with_opening-end c = roomy (goal.at.slice_bounds-with_opening-end c).After-fixed-f

pub slice_bounds-with_opening-end-2 : goal.slice_bounds-with_opening-end-2
slice_bounds-with_opening-end-2 c = sym (front_long _ c.args.message.now (roomy (goal.at.slice_bounds-with_opening-end-2 c).After-fixed-f))

pub slice_bounds-with_opening-end-3 : goal.slice_bounds-with_opening-end-3
slice_bounds-with_opening-end-3 c = key-roomy (goal.at.slice_bounds-with_opening-end-3 c).After-fixed-f

pub slice_bounds-with_opening-end-4 : goal.slice_bounds-with_opening-end-4
slice_bounds-with_opening-end-4 c = sym (front_long _ c.args.key.now (key-roomy (goal.at.slice_bounds-with_opening-end-4 c).After-fixed-f))

pub lay_digest-requires : goal.lay_digest-requires
lay_digest-requires c = (sized (goal.at.lay_digest-requires c).After-fixed-f).digest-roomy
