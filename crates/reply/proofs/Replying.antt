-- Reply.
--   message-length, key-length   message and key are as long as the scheme says
--   message-taken, key-taken     those of the opening's own numbers are Reply's
--   Sized, reply-sized, reply-sized   what passed sizes say: the lengths, and room for message, key and digest
--   secrets-small                what the secrets' tests say
--   reply-rooms-failed, reply-rest-decides   its verdict by the test that decides
--   reply-unknown                its tests where the number names no scheme
--   reply-refused, reply-done    what is seen after a refusal, and where nothing is refused
use Rattle.std.proofs.Common.{Ok, Err, Some, None, Option, ◌≡◌, ◌≤◌}
use Rattle.lists.proofs.Kit.{refl, ◌∙◌, sym, List, ℕ, ℤ, length, replicate}
use Rattle.schemes.specs.{Schemes.fixed_of, declared.Scheme.Scheme}
use Rattle.lists.specs.Ranges.{Within}
use Rattle.refusals.specs.Refusals.{pass, ◌then◌, publics_in_lem, received_in}
use Rattle.refusals.specs.{Seen.output, Seen.written, Refusals.Verdict, declared.Refusal.Refusal, declared.Refusal.TheVariants.NoScheme}
use Rattle.refusals.proofs.Laws.{both, length-passed, room-passed, secrets-passed, then-assoc, failed, went_on}
use Rattle.refusals.proofs.Seen.{written-failed}
use Rattle.values.specs.Values.{mixed_value}
use Rattle.values.proofs.{Ranges.replied-counted, Ranges.mixed-counted, Settling.hints-counted, Settling.keys-counted}
use Rattle.wire.specs.{Wire.coins_in, Steps.reply_secrets_lem}
use Rattle.wire.proofs.Travel.{key-long, reply-length}
use Rattle.reply.specs.Reply.{Reply, ReplyRooms, opened_of, reply_value, reply_tests, reply_message, reply_key, outputs, reply_told, reply_seen, ReplyCounts}
use Rattle.reply.specs.Inside.{reply_lengths_lem, reply_sizes_lem, reply_last, reply_rest, message_from, key_from}

module _ (c : Scheme) (b : List ℕ) (s' e'' : List ℤ) (coins : List ℕ) where
  pub key-from-length : length (key_from c b s' e'' coins) ≡ (fixed_of c).key
  unfolding key_from
  key-from-length = key-long c (keys-counted c (coins_in c coins) (mixed_value c b s' e'') (mixed-counted c b s' e'').long)

  pub message-from-length : (a : List ℕ) (e' : List ℤ) → length (message_from c b a s' e' e'' coins) ≡ (fixed_of c).reply
  unfolding message_from
  message-from-length a e' =
      reply-length c (replied-counted c a s' e') (hints-counted c (coins_in c coins) (mixed_value c b s' e'') (mixed-counted c b s' e'').long)

module _ (c : Scheme) (x : Reply) where
  pub key-length : length (reply_key (Some c) x) ≡ (fixed_of c).key
  unfolding reply_key reply_value key_from
  key-length = key-from-length c (opened_of c x) x.s' x.e'' x.coins

  pub message-length : length (reply_message (Some c) x) ≡ (fixed_of c).reply
  unfolding reply_message reply_value message_from
  message-length = message-from-length c (opened_of c x) x.s' x.e'' x.coins x.a x.e'

  module _ {b : List ℕ} (t : b ≡ opened_of c x) where
    pub key-taken : key_from c b x.s' x.e'' x.coins ≡ reply_key (Some c) x
    unfolding reply_key reply_value key_from
    key-taken = rw t

    pub message-taken : message_from c b x.a x.s' x.e' x.e'' x.coins ≡ reply_message (Some c) x
    unfolding reply_message reply_value message_from
    message-taken = rw t

-- ---- its tests

grouped : (p m b s e f n : Verdict) → p then m then b then s then e then f then n ≡ p then (m then b then (s then e then f then n))
unfolding ◌then◌
grouped (Err r) m b s e f n = refl
grouped (Ok _) (Err r) b s e f n = refl
grouped (Ok _) (Ok _) (Err r) s e f n = refl
grouped (Ok _) (Ok _) (Ok _) s e f n = refl

pub record Sized (c : Scheme) (x : Reply) (m : ReplyRooms) : Type 0 where
  pub opening-long : length x.opening ≡ (fixed_of c).opening
  pub public-long : length x.a ≡ (fixed_of c).public
  pub secret-long : length x.s' ≡ (fixed_of c).secret
  pub noise-long : length x.e' ≡ (fixed_of c).noise
  pub last-long : length x.e'' ≡ (fixed_of c).mixed
  pub coins-long : length x.coins ≡ (fixed_of c).coins
  pub roomy : (fixed_of c).reply ≤ m.message
  pub key-roomy : (fixed_of c).key ≤ m.key
  pub digest-roomy : 32 ≤ m.digest

module _ (c : Scheme) (x : Reply) where
  pub reply-sized : (m : ReplyRooms) → reply_sizes_lem c x m ≡ pass → Sized c x m
  unfolding reply_lengths_lem
  reply-sized m t =
      let digest = both _ _ t in
      let key = both _ _ digest.0 in
      let roomy = both _ _ key.0 in
      let coins = both _ _ roomy.0 in
      let last = both _ _ coins.0 in
      let noise = both _ _ last.0 in
      let secret = both _ _ noise.0 in
      let first = both _ _ secret.0 in
      record {
        opening-long = length-passed _ _ first.0;
        public-long = length-passed _ _ first.1;
        secret-long = length-passed _ _ secret.1;
        noise-long = length-passed _ _ noise.1;
        last-long = length-passed _ _ last.1;
        coins-long = length-passed _ _ coins.1;
        roomy = room-passed _ _ roomy.1;
        key-roomy = room-passed _ _ key.1;
        digest-roomy = room-passed _ _ digest.1;
      }

  -- its tests in three parts: lengths and rooms, the public numbers, and what follows
  pub reply-apart : (m : ReplyRooms) → reply_tests (Some c) x m ≡ reply_sizes_lem c x m then publics_in_lem (fixed_of c).q x.a then reply_rest c x
  unfolding reply_tests reply_lengths_lem reply_rest reply_last reply_secrets_lem received_in
  reply-apart m = grouped (reply_sizes_lem c x m then publics_in_lem (fixed_of c).q x.a) _ _ _ _ _ _

  pub reply-sizes-failed : (m : ReplyRooms) {r : Refusal} → Err r ≡ reply_sizes_lem c x m → reply_tests (Some c) x m ≡ Err r
  reply-sizes-failed m e = reply-apart m ∙ failed _ refl (failed _ e refl)

  -- the public numbers and what follows
  pub reply-rest-decides : (m : ReplyRooms) {v : Verdict} → reply_sizes_lem c x m ≡ pass → v ≡ publics_in_lem (fixed_of c).q x.a then reply_rest c x
      → reply_tests (Some c) x m ≡ v
  reply-rest-decides m t e = reply-apart m ∙ then-assoc (reply_sizes_lem c x m) _ _ ∙ went_on _ refl t ∙ sym e

pub secrets-small : (c : Scheme) (s' e' e'' : List ℤ) → reply_secrets_lem c s' e' e'' ≡ pass
    → Within (fixed_of c).largest s' × Within (fixed_of c).largest e' × Within (fixed_of c).largest e''
unfolding reply_secrets_lem
secrets-small c s' e' e'' t =
    let last = both _ _ t in
    let first = both _ _ last.0 in
    (secrets-passed _ s' first.0, secrets-passed _ e' first.1, secrets-passed _ e'' last.1)

pub reply-unknown : {c : Option Scheme} (x : Reply) (m : ReplyRooms) → c ≡ None → reply_tests c x m ≡ Err NoScheme
unfolding reply_tests
reply-unknown x m e = rw e

-- ---- what is seen, of any three outputs

module _ (xs ys zs : List ℕ) (m : ReplyRooms) {v : Verdict} {message key digest : List ℕ} where
  pub reply-refused : {r : Refusal} → v ≡ Err r → message ≡ replicate m.message 0 → key ≡ replicate m.key 0 → digest ≡ replicate m.digest 0
      → reply_seen (reply_told (Err r)) message key digest ≡ outputs v xs ys zs m
  unfolding outputs reply_seen
  reply-refused e o p q = rw (← written-failed xs 0 m.message e o, ← written-failed ys 0 m.key e p, ← written-failed zs 0 m.digest e q, e)

  pub reply-done : {n : ReplyCounts} → v ≡ pass → output n.message message ≡ written v xs 0 m.message → output n.key key ≡ written v ys 0 m.key
      → output n.digest digest ≡ written v zs 0 m.digest → reply_seen (reply_told (Ok n)) message key digest ≡ outputs v xs ys zs m
  unfolding outputs reply_seen
  reply-done e o p q = rw (← o, ← p, ← q, e)
