-- What the steps of Bench promise each other: the slack or the refusal by the verdict of the tests that are still to come, Finish's among them, and the keys.
--   tests_from_finish c x, tests_from_reply c x s, tests_from_offer c x   the tests that are still to come: x is what the call is lent, s what Finish will be
--   Keyed v key out             where nothing is refused, a buffer holds the key
--   FromFinish c x r peer       from Finish on: what it hands on, and the initiator's key
--   BothKeys c v x s r keys     from Offer or Reply on, where Reply is lent x and Finish its message and s: what is handed on by the verdict v of the tests
--                               that are still to come, and the replier's key before the initiator's
--   comparison d p              the answer without a refusal, where d says how the keys differ, and p is the slack
use Rattle.std.specs.Prelude.{Some, None, Result, ◌≡◌, List, ℕ, zero, suc, ℤ, take, drop}
use Rattle.schemes.specs.{Schemes.fixed_of, declared.Scheme.Scheme}
use Rattle.lists.specs.declared.Peak.{Peak}
use Rattle.refusals.specs.{Refusals.◌then◌, Steps.outcome, Refusals.Verdict, Refusals.pass, declared.Refusal.Refusal}
use Rattle.offer.specs.Offer.{offer_tests}
use Rattle.finish.specs.Finish.{Finish, finish, finish_rooms_of, finish_tests, finish_key, finish_slack}
use Rattle.reply.specs.Reply.{Reply, reply_rooms_of, reply_tests, reply_message, reply_key}
use Rattle.agreement.specs.Run.{offering, replying}
use Rattle.bench.specs.Bench.{Bench, Compared}

abbrev pub tests_from_finish : Scheme → Finish → Verdict
tests_from_finish c x = finish_tests (Some c) x (finish_rooms_of (fixed_of c).key 32)

abbrev pub tests_from_reply : Scheme → Reply → List ℤ → Verdict
tests_from_reply c x s =
    reply_tests (Some c) x (reply_rooms_of (fixed_of c).reply (fixed_of c).key 32) then tests_from_finish c (finish (reply_message (Some c) x) s)

abbrev pub tests_from_offer : Scheme → Bench → Verdict
tests_from_offer c x = offer_tests (Some c) (offering x) (fixed_of c).opening then tests_from_reply c (replying c x) x.s

abbrev pub Keyed : Verdict → List ℕ → List ℕ → Type 0
Keyed v key out = v ≡ pass → out ≡ key

pub record FromFinish (c : Scheme) (x : Finish) (r : Result Peak Refusal) (peer : List ℕ) : Type 0 where
  pub ended : r ≡ outcome (tests_from_finish c x) (finish_slack (Some c) x)
  pub peered : Keyed (tests_from_finish c x) (finish_key (Some c) x) peer

pub record BothKeys (c : Scheme) (v : Verdict) (x : Reply) (s : List ℤ) (r : Result Peak Refusal) (keys : List ℕ) : Type 0 where
  pub ended : r ≡ outcome v (finish_slack (Some c) (finish (reply_message (Some c) x) s))
  pub owned : Keyed v (reply_key (Some c) x) (take (fixed_of c).key keys)
  pub peered : Keyed v (finish_key (Some c) (finish (reply_message (Some c) x) s)) (drop (fixed_of c).key keys)

abbrev pub comparison : ℕ → Peak → Compared
comparison zero p = record { differ = None; slack = p }
comparison (suc i) p = record { differ = Some i; slack = p }
