-- Finish.
--   key-length     a key is as long as the scheme says
--   key-taken      the key of the reply's own numbers is Finish's; slack-taken: so is the slack
--   finish-sized, finish-passed   what passed sizes and what passed tests say of lengths and rooms
--   finish-apart   its tests in two parts
--   laid-front, held, held_fits, held-hashed   an output of which a step was lent the front
--   finish-unknown      its tests where the number names no scheme
--   finish-refused, finish-done   what is seen after a refusal, and where nothing is refused
use Rattle.std.proofs.Common.{Ok, Err, Some, None, Option}
use Rattle.lists.proofs.Kit.{refl, ◌∙◌, sym, ap, List, ℕ, arith, length, take, drop, replicate, length-append, take-append-drop, take_at}
use Rattle.std.proofs.Common.{◌≡◌, ◌++◌, ◌≤◌}
use Rattle.schemes.specs.{Schemes.fixed_of, declared.Scheme.Scheme}
use Rattle.sponge.specs.Sponge.{sha3}
use Rattle.refusals.specs.Refusals.{pass}
use Rattle.refusals.specs.Refusals.{◌then◌, room_for_lem, received_in}
use Rattle.refusals.specs.{Seen.output, Seen.written, Seen.if_passed, Refusals.Verdict, declared.Refusal.Refusal, declared.Refusal.TheVariants.NoScheme}
use Rattle.refusals.proofs.{Laws.both, Laws.length-passed, Laws.room-passed, Seen.written-failed, Steps.laid_on}
use Rattle.values.specs.Values.{bare_value}
use Rattle.values.proofs.{Ranges.bare-counted, Settling.peers-counted}
use Rattle.wire.specs.Wire.{hints_in}
use Rattle.wire.proofs.Travel.{key-long}
use Rattle.finish.specs.Finish.{Finish, FinishRooms, replied_of, finish_value, finish_tests, finish_key, finish_slack, finish_shown, finish_told, finish_seen}
use Rattle.finish.specs.Finish.{finish_result, FinishCounts}
use Rattle.finish.specs.{Inside.finish_sizes_lem, Inside.finish_rest, Inside.key_from, Inside.slack_from, Shown.FinishEnough}

grouped : (p m b s : Verdict) → p then m then b then s ≡ p then (m then b then s)
unfolding ◌then◌
grouped (Err r) m b s = refl
grouped (Ok _) m b s = refl

module _ (c : Scheme) (x : Finish) where
  pub key-from-length : (u : List ℕ) → length (key_from c u x) ≡ (fixed_of c).key
  unfolding key_from
  key-from-length u = key-long c (peers-counted c (hints_in c x.reply) (bare_value c u x.s) (bare-counted c u x.s).long)

  pub key-length : length (finish_key (Some c) x) ≡ (fixed_of c).key
  unfolding finish_key finish_value key_from
  key-length = key-from-length (replied_of c x)

  pub key-taken : {u : List ℕ} → u ≡ replied_of c x → key_from c u x ≡ finish_key (Some c) x
  unfolding finish_key finish_value key_from
  key-taken e = rw e

  pub slack-taken : {u : List ℕ} → u ≡ replied_of c x → slack_from c u x ≡ finish_slack (Some c) x
  unfolding finish_slack finish_value slack_from
  slack-taken e = rw e

  -- ---- its tests

  pub finish-sized : (room : ℕ) → finish_sizes_lem c x room ≡ pass
      → (length x.reply ≡ (fixed_of c).reply) × (length x.s ≡ (fixed_of c).secret) × ((fixed_of c).key ≤ room)
  unfolding finish_sizes_lem
  finish-sized room t =
      let key = both _ _ t in
      let lengths = both _ _ key.0 in
      (length-passed _ _ lengths.0, length-passed _ _ lengths.1, room-passed _ _ key.1)

  -- its tests as the code goes through them
  pub finish-apart : (m : FinishRooms) → finish_tests (Some c) x m ≡ finish_sizes_lem c x m.key then room_for_lem m.digest 32 then finish_rest c x
  unfolding finish_tests finish_sizes_lem finish_rest received_in
  finish-apart m = grouped _ _ _ _

  -- where all have passed: the reply's length, and the rooms
  pub finish-passed : (m : FinishRooms) → finish_tests (Some c) x m ≡ pass → (length x.reply ≡ (fixed_of c).reply) × FinishEnough c m
  finish-passed m t =
      let sizes = both _ _ (both _ _ (sym (finish-apart m) ∙ t)).0 in
      let s = finish-sized m.key sizes.0 in
      (s.0, (s.2, room-passed _ _ sizes.1))

pub finish-unknown : {c : Option Scheme} (x : Finish) (m : FinishRooms) → c ≡ None → finish_tests c x m ≡ Err NoScheme
unfolding finish_tests
finish-unknown x m e = rw e

-- the front of an output as a step has left it, and the rest behind it
pub laid-front : (v : Verdict) (xs old : List ℕ) (k : ℕ) {part : List ℕ} → part ≡ if_passed v xs (take k old) → part ++ drop k old ≡ if_passed v (xs ++ drop k old) old
laid-front (Ok _) xs old k e = ap (λ (t : List ℕ). t ++ drop k old) e
laid-front (Err r) xs old k e = ap (λ (t : List ℕ). t ++ drop k old) e ∙ take-append-drop k old

-- of one that held zeros, where nothing is refused: all of it, how much there is of it, and the hash of its front
module _ {v : Verdict} (xs : List ℕ) {old : List ℕ} {n k : ℕ} {out : List ℕ} (z : old ≡ replicate (length old) 0) (p : v ≡ pass) (i : n ≡ k) (l : length xs ≡ k)
    (e : out ≡ if_passed v (xs ++ drop k old) old) where
  pub held : out ≡ xs ++ drop n old
  held = laid_on (xs ++ drop k old) old p e ∙ ap (λ (j : ℕ). xs ++ drop j old) (sym i)

  pub held_fits : n ≤ length out
  held_fits = omega (arith, ap length held, l, i, length-append xs (drop n old))

  pub held-hashed : (behind : List ℕ) {hash : List ℕ} → hash ≡ sha3 (take n out) ++ behind → hash ≡ sha3 xs ++ behind
  held-hashed behind h = h ∙ ap (λ (t : List ℕ). sha3 t ++ behind) (ap (take n) held ∙ take_at xs (drop n old) n (l ∙ sym i))

module _ (c : Option Scheme) (x : Finish) (m : FinishRooms) {key digest : List ℕ} where
  pub finish-refused : {r : Refusal} → finish_tests c x m ≡ Err r → key ≡ replicate m.key 0 → digest ≡ replicate m.digest 0
      → finish_seen (finish_told (Err r)) key digest ≡ finish_result c x m
  unfolding finish_shown finish_seen
  finish-refused e o p = rw (← written-failed (finish_key c x) 0 m.key e o, ← written-failed (sha3 (finish_key c x)) 0 m.digest e p, e)

  pub finish-done : {n : FinishCounts} → let v = finish_tests c x m in v ≡ pass → output n.key key ≡ written v (finish_key c x) 0 m.key
      → output n.digest digest ≡ written v (sha3 (finish_key c x)) 0 m.digest → n.slack ≡ finish_slack c x → finish_seen (finish_told (Ok n)) key digest ≡ finish_result c x m
  unfolding finish_shown finish_seen
  finish-done e k d s = rw (← k, ← d, e, ← s)
