-- Reply by rows: its tests, and what begin and end lay.
--   opened-tests         5 cannot arise in the unpack step: q is a power of 2, as wide as a packed number
--   Sized, begin-sized   what passed sizes of begin say
--   begin-apart, begin-failed, begin-decides   its tests in two parts, and its verdict by the test that decides
--   begin-unknown, begin-known   what is seen of begin where the number names no scheme of Frodo's, and where it names one
--   state-long, kept-counted   a state of Reply's, and V as it keeps it
--   message-length, key-length   message and key are as long as the scheme says
--   end-unknown, end-failed, end-blank, end-done   what end answers and leaves of message and key, by the test that decides
--   Roomy, end-roomy, end-fits   what passed sizes of end say
--   key_fits, digest-fits   a good end's key lies in its output, and the digest has room
--   end_kept, end-cleared   what is seen of end
use Rattle.std.proofs.Common.{Ok, Err, Some, None, Option, Result, ◌≡◌, ◌++◌, ◌-◌, ◌≤◌}
use Rattle.lists.proofs.Kit.{refl, ◌∙◌, sym, ap, true, List, [], ℕ, arith, length, get_or, take, drop, replicate, length-append}
use Rattle.schemes.specs.{Schemes.family_of, Schemes.fixed_of, declared.Family.Family, declared.Fixed.Fixed, declared.Scheme.Scheme}
use Rattle.lists.proofs.Same.{zeros-long}
use Rattle.packing.proofs.Laws.{unpacked-below}
use Rattle.sponge.specs.Sponge.{sha3}
use Rattle.sponge.proofs.Output.{sha3-length}
use Rattle.refusals.specs.declared.Refusal.TheVariants.{NoScheme, OutOfTurn}
use Rattle.refusals.specs.Refusals.{pass}
use Rattle.refusals.specs.Seen.{if_passed, Output, output, written, answer}
use Rattle.refusals.specs.{Refusals.◌then◌, Refusals.not_blank_lem, Refusals.received_in, Refusals.Verdict, declared.Refusal.Refusal}
use Rattle.refusals.proofs.Laws.{differ, both, length-passed, room-passed, turn-passed, message-passes, failed, went_on}
use Rattle.refusals.proofs.{Seen.written-passed, Seen.written-failed, Seen.written-answer, Steps.kept, Steps.laid_on}
use Rattle.values.specs.Fit.{Counted}
use Rattle.values.proofs.{Numbers.numbers-in, Settling.hints-counted, Settling.keys-counted}
use Rattle.wire.specs.{Wire.coins_in, Wire.numbers_in, Steps.reply_secrets_lem}
use Rattle.wire.proofs.Travel.{reply-length, key-long}
use Rattle.reply.specs.Reply.{ReplyRooms, reply_rooms_of, outputs, reply_told, reply_seen}
use Rattle.reply.specs.{declared.ReplyCounts.ReplyCounts}
use Rattle.rows_state.specs.{State.long, State.named, State.saved_of, State.begun, State.frodo_of_lem, Part.StateSeen, Part.state_seen, declared.Call.Call}
use Rattle.rows_state.proofs.{Turns.state-by, Laying.kept-long, Tests.all-below, Tests.started, Tests.completes, Tests.frodos}
use Rattle.rows.specs.Reply.{ReplyBegin, reply_begin_tests, reply_begin_result, reply_end_tests, reply_end_message, reply_end_key, reply_end_result}
use Rattle.rows.specs.{Offer.sent_part, Inside.reply_begin_sizes, Inside.reply_begin_rest, Inside.reply_end_sizes, Inside.Sent}
use Rattle.rows.proofs.{Ends.last-length, Ends.frodo-known, Ends.end_by, Sending.sent-counted}

pub opened-tests : (c : Scheme) → family_of c ≡ Family.Frodo → (p : List ℕ) → received_in (fixed_of c).q p (numbers_in c p) ≡ not_blank_lem p
unfolding received_in numbers_in
opened-tests c frodo p =
    went_on _ refl (message-passes (rw (frodos c frodo).power (unpacked-below (fixed_of c).width (fixed_of c).secret p)))

-- ---- begin

grouped : (p b s e f : Verdict) → p then b then s then e then f ≡ p then (b then (s then e then f))
unfolding ◌then◌
grouped (Err r) b s e f = refl
grouped (Ok _) (Err r) s e f = refl
grouped (Ok _) (Ok _) s e f = refl

pub record Sized (c : Scheme) (x : ReplyBegin) (m : ℕ) : Type 0 where
  pub opening-long : length x.opening ≡ (fixed_of c).opening
  pub secret-long : length x.s' ≡ (fixed_of c).secret
  pub noise-long : length x.e' ≡ (fixed_of c).noise
  pub last-long : length x.e'' ≡ (fixed_of c).mixed
  pub state-long : m ≡ long (fixed_of c).n

module _ (c : Scheme) (x : ReplyBegin) (m : ℕ) where
  pub begin-sized : reply_begin_sizes c x m ≡ pass → Sized c x m
  unfolding reply_begin_sizes
  begin-sized t =
      let state = last-length _ _ _ t in
      let last = last-length _ _ _ state.0 in
      let noise = last-length _ _ _ last.0 in
      let secret = last-length _ _ _ noise.0 in
      record { opening-long = length-passed _ _ secret.0; secret-long = secret.1; noise-long = noise.1; last-long = last.1; state-long = state.1 }

  -- its tests in two parts: sizes, and what follows
  pub begin-apart : reply_begin_tests (Some c) x m ≡ reply_begin_sizes c x m then reply_begin_rest c x
  unfolding reply_begin_tests reply_begin_sizes reply_begin_rest reply_secrets_lem
  begin-apart = grouped (reply_begin_sizes c x m) _ _ _ _

  pub begin-failed : {v : Verdict} {r : Refusal} → v ≡ reply_begin_sizes c x m → v ≡ Err r → reply_begin_tests (Some c) x m ≡ Err r
  begin-failed e f = begin-apart ∙ failed _ e f

  pub begin-decides : {v : Verdict} → reply_begin_sizes c x m ≡ pass → v ≡ reply_begin_rest c x → reply_begin_tests (Some c) x m ≡ v
  begin-decides t e = begin-apart ∙ went_on _ refl t ∙ sym e

module _ (k : ℕ) (x : ReplyBegin) (m : ℕ) {r : Option Scheme} {st : List ℕ} (e : r ≡ frodo_of_lem k) (z : st ≡ replicate m 0) where
  pub begin-unknown : r ≡ None → state_seen (Err NoScheme) st ≡ reply_begin_result (frodo_of_lem k) x m
  unfolding reply_begin_tests
  begin-unknown u = state-by _ _ (rw (sym e ∙ u)) z

  pub begin-known : {c : Scheme} {t : StateSeen} → r ≡ Some c → t ≡ reply_begin_result (Some c) x (length st) → t ≡ reply_begin_result (frodo_of_lem k) x m
  begin-known u b = rw (sym e ∙ u, ← zeros-long m 0 z) b

-- ---- end

-- ---- what is laid

module _ (c : Scheme) (st : List ℕ) (frodo : family_of c ≡ Family.Frodo) (b : begun Call.Reply (fixed_of c) st ≡ true) where
  pub state-long : length st ≡ long (fixed_of c).n
  state-long = (started Call.Reply (fixed_of c) st b).is-long

  pub kept-counted : Counted (fixed_of c).mixed (fixed_of c).q (saved_of st)
  kept-counted =
      let f = numbers-in c frodo in
      record {
        long = kept-long (fixed_of c).n st state-long ∙ sym f.mixed;
        below = all-below _ _ f.q-some (started Call.Reply (fixed_of c) st b).kept_in;
      }

  pub message-length : length (reply_end_message (Some c) st) ≡ (fixed_of c).reply
  unfolding reply_end_message
  message-length = reply-length c (sent-counted c st frodo state-long) (hints-counted c (coins_in c []) (saved_of st) kept-counted.long)

  pub key-length : length (reply_end_key (Some c) st) ≡ (fixed_of c).key
  unfolding reply_end_key
  key-length = key-long c (keys-counted c (coins_in c []) (saved_of st) kept-counted.long)

-- ---- what is seen

pub record Roomy (c : Scheme) (st : List ℕ) (m : ReplyRooms) : Type 0 where
  pub has-begun : begun Call.Reply (fixed_of c) st ≡ true
  pub roomy : (fixed_of c).reply ≤ m.message
  pub key-roomy : (fixed_of c).key ≤ m.key
  pub digest-roomy : 32 ≤ m.digest

module _ (c : Scheme) (st : List ℕ) (m : ReplyRooms) where
  sizes-roomy : reply_end_sizes c st m ≡ pass → Roomy c st m
  unfolding reply_end_sizes
  sizes-roomy t =
      let digest = both _ _ t in
      let key = both _ _ digest.0 in
      let first = both _ _ key.0 in
      record {
        has-begun = (completes Call.Reply (fixed_of c) st (turn-passed _ first.0)).0;
        roomy = room-passed _ _ first.1;
        key-roomy = room-passed _ _ key.1;
        digest-roomy = room-passed _ _ digest.1;
      }

sent-refused : {st : List ℕ} {m : ReplyRooms} {x : Refusal} {message key : List ℕ} → reply_end_tests (named st) st m ≡ Err x
    → message ≡ replicate m.message 0 → key ≡ replicate m.key 0 → Sent (Err x) st m message key
sent-refused e o p =
    record { verdict = e; message-is = written-failed _ 0 _ refl o; key-is = written-failed _ 0 _ refl p; digest-is = refl }

-- the state names r, and the outputs are zeroed
module _ (st : List ℕ) (m : ReplyRooms) {r : Option Scheme} {a b : List ℕ} (e : r ≡ named st) (o : a ≡ replicate m.message 0) (p : b ≡ replicate m.key 0) where
  pub end-unknown : r ≡ None → Sent (Err OutOfTurn) st m a b
  unfolding reply_end_tests
  end-unknown u = sent-refused (rw (sym e ∙ u)) o p

  module _ {c : Scheme} {v : Verdict} (u : r ≡ Some c) (d : v ≡ reply_end_sizes c st (reply_rooms_of (length a) (length b) m.digest)) where
    tests : reply_end_tests (named st) st m ≡ v then not_blank_lem (sent_part c st)
    unfolding reply_end_tests reply_end_sizes
    tests = rw (sym e ∙ u, d, zeros-long m.message 0 o, zeros-long m.key 0 p)

    pub end-failed : {x : Refusal} → v ≡ Err x → Sent (Err x) st m a b
    end-failed f = sent-refused (tests ∙ failed _ refl f) o p

    module _ (q : v ≡ pass) where
      pub end-roomy : Roomy c st (reply_rooms_of (length a) (length b) m.digest)
      end-roomy = sizes-roomy _ _ _ (sym d ∙ q)

      pub end-fits : {f : Fixed} → f ≡ fixed_of c → (f.reply ≤ length a) × (f.key ≤ length b)
      end-fits h =
          let z = end-roomy in
          (omega (arith, ap (λ (g : Fixed). g.reply) h, z.roomy), omega (arith, ap (λ (g : Fixed). g.key) h, z.key-roomy))

      module _ (i k : ℕ) {w : Verdict} {x y : List ℕ} (g : w ≡ not_blank_lem (sent_part c st)) (l : x ≡ if_passed w (reply_end_message (Some c) st) (take i a))
          (l' : y ≡ if_passed w (reply_end_key (Some c) st) (take k b)) where
        decides : reply_end_tests (named st) st m ≡ w
        decides = tests ∙ went_on _ refl q ∙ sym g

        pub end-blank : {z : Refusal} → w ≡ Err z → Sent (Err z) st m (x ++ drop i a) (y ++ drop k b)
        end-blank f = sent-refused (decides ∙ f) (kept _ i a f l ∙ o) (kept _ k b f l' ∙ p)

        pub end-done : w ≡ pass → i ≡ (fixed_of c).reply → k ≡ (fixed_of c).key
            → Sent (Ok (record { message = i; key = k; digest = 32 })) st m (x ++ drop i a) (y ++ drop k b)
        end-done f h j =
            let frodo = frodo-known (get_or st 1 0) e u in
            let begins = end-roomy.has-begun in
            let message : reply_end_message (named st) st ≡ reply_end_message (Some c) st = ap (λ t. reply_end_message t st) (sym e ∙ u) in
            let key : reply_end_key (named st) st ≡ reply_end_key (Some c) st = ap (λ t. reply_end_key t st) (sym e ∙ u) in
            record {
              verdict = decides ∙ f;
              message-is =
                  written-passed _ 0 _ refl a (ap length message ∙ message-length c st frodo begins ∙ sym h) o
                  (ap (λ (t : List ℕ). t ++ drop i a) (laid_on _ _ f l ∙ sym message));
              key-is =
                  written-passed _ 0 _ refl b (ap length key ∙ key-length c st frodo begins ∙ sym j) p
                  (ap (λ (t : List ℕ). t ++ drop k b) (laid_on _ _ f l' ∙ sym key));
              digest-is = refl;
            }

-- with the digest's output, which is zeroed before, and the state
module _ (st : List ℕ) (m : ReplyRooms) {zeros : List ℕ} (o : zeros ≡ replicate m.digest 0) {a : Result ReplyCounts Refusal} {message key : List ℕ}
    (s : Sent a st (reply_rooms_of m.message m.key (length zeros)) message key) where
  pub end_kept : {x : Refusal} → a ≡ Err x → record { answer = reply_seen (reply_told (Err x)) message key zeros; state = st } ≡ reply_end_result st m
  unfolding outputs reply_seen
  end_kept {x} f =
      let g : Sent (Err x) st m message key = rw (f, zeros-long m.digest 0 o) at s in
      let w : output 0 zeros ≡ written (Err x) (sha3 (reply_end_key (named st) st)) 0 m.digest = written-failed _ 0 _ refl o in
      end_by st g.verdict (rw (g.verdict, ← g.message-is, ← g.key-is, ← w)) refl

  module _ {n : ReplyCounts} (f : a ≡ Ok n) where
    done : Sent (Ok n) st m message key
    done = rw (f, zeros-long m.digest 0 o) at s

    pub key_fits : n.key ≤ length key
    unfolding written
    key_fits =
        let K = reply_end_key (named st) st in
        let e = done.key-is in
        omega (arith, ap (λ (x : Output ℕ). x.count) e, ap (λ (x : Output ℕ). length x.holds) e, length-append K (replicate (m.key - length K) 0))

    pub digest-fits : 32 ≤ length zeros
    unfolding reply_end_tests
    digest-fits = rw (zeros-long m.digest 0 o) (go (named st) done.verdict)
      where
        go : (c : Option Scheme) → reply_end_tests c st m ≡ pass → 32 ≤ m.digest
        go None e = differ e
        go (Some c) e = room-passed _ _ (both _ _ (both _ _ e).0).1

    pub end-cleared : {digest after : List ℕ} → digest ≡ sha3 (take n.key key) ++ drop 32 zeros
        → after ≡ replicate (length st) 0 → record { answer = reply_seen (reply_told (Ok n)) message key digest; state = after } ≡ reply_end_result st m
    unfolding outputs reply_seen
    end-cleared {digest} d z =
        let k : take n.key key ≡ reply_end_key (named st) st = ap (λ (x : Output ℕ). answer x) done.key-is ∙ written-answer _ 0 _ refl in
        let w : output 32 digest ≡ written pass (sha3 (reply_end_key (named st) st)) 0 m.digest =
        written-passed _ 0 m.digest refl zeros (sha3-length _) o (d ∙ ap (λ (t : List ℕ). sha3 t ++ drop 32 zeros) k)
        in
        end_by st done.verdict (rw (done.verdict, ← done.message-is, ← done.key-is, ← w, done.digest-is)) z
