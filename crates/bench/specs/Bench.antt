-- What Bench promises: 01, "The calls". It runs both ends on lent secrets and answers agree, or differ with the first differing key bit; and passes on the
-- slack that Finish used: 02, request f. The keys of BCNS cannot differ, and its bench has no such answer: 02, request i, and `Shown.antt`.
--   Bench                 what it is lent: public a, s, e and seed of the one end, s', e', e'' and coins of the other
--   BenchSeen             what its caller sees: differ is 0 where the keys agree and after a refusal, else 1 + the first bit that differs
--   bits k                the bits of a key, lowest first through the bytes
--   differing xs ys       0 where two keys are the same, else 1 + the first bit that differs
--   bench_tests c x        its tests, Offer's first, then Reply's
--   keys_differ c x        how the two keys differ
--   bench_differs c x      that number, and 0 in BCNS
--   bench_slack c x        the slack used and its first index
--   bench_result c x       its promise: what is seen, as a function of what is lent, in the scheme c; bench_shown v d p: by the verdict v, where the keys differ
--                         as d says and p is the slack
--   bench                  what is lent
--   differ_number d        0 where no bit differs, else 1 + the first that does
--   BenchAnswer            its answer; agrees p: the keys agree, with the slack p; differs_at i p: they differ first at bit i
--   bench_told r           the numbers of its answer r; bcns_told: of an answer of the bench of BCNS
use Rattle.std.specs.Prelude.{Ok, Err, Some, None, Option, Result, cond, List, [], ℕ, suc, ◌*◌, ltb, ℤ, length}
use Rattle.schemes.specs.{Schemes.by_family, Schemes.family_of, Schemes.fixed_of, declared.Scheme.Scheme}
use Rattle.lists.specs.{First.first_apart_lem, First.peak_of_lem, declared.Peak.Peak}
use Rattle.packing.specs.Packing.{unpacked}
use Rattle.refusals.specs.Refusals.{number_of, place_of, number_in, place_in, ◌then◌}
use Rattle.refusals.specs.{Seen.if_passed, Seen.unused, Refusals.Verdict, declared.Refusal.Refusal, declared.Refusal.TheVariants.NoScheme}
use Rattle.offer.specs.Offer.{offer_tests}
use Rattle.finish.specs.Finish.{finish_key, finish_slack}
use Rattle.reply.specs.Reply.{reply_rooms_of, reply_tests, reply_key}
use Rattle.agreement.specs.Run.{Run, offering, replying, finishing}
pub use Rattle.bench.specs.declared.Compared.{Compared}

abbrev pub Bench : Type 0
Bench = Run

pub record BenchSeen : Type 0 where
  pub number : ℕ
  pub place : ℕ
  pub differ : ℕ
  pub slack : Peak

-- ---- two keys

unfoldable pub bits : List ℕ → List ℕ
bits k = unpacked 1 (8 * length k) k

unfoldable pub differing : List ℕ → List ℕ → ℕ
differing xs ys = cond (ltb (first_apart_lem (bits xs) (bits ys)) (8 * length xs)) (suc (first_apart_lem (bits xs) (bits ys))) 0

-- ---- the promise

-- messages, keys and digests stay inside, each with just the room that it takes
unfoldable pub bench_tests : Option Scheme → Bench → Verdict
bench_tests None x = Err NoScheme
bench_tests (Some c) x =
    offer_tests (Some c) (offering x) (fixed_of c).opening
    then reply_tests (Some c) (replying c x) (reply_rooms_of (fixed_of c).reply (fixed_of c).key 32)

unfoldable pub keys_differ : Scheme → Bench → ℕ
keys_differ c x = differing (reply_key (Some c) (replying c x)) (finish_key (Some c) (finishing c x))

unfoldable pub bench_differs : Option Scheme → Bench → ℕ
bench_differs None x = 0
bench_differs (Some c) x = by_family (family_of c) 0 (keys_differ c x) (keys_differ c x)

unfoldable pub bench_slack : Option Scheme → Bench → Peak
bench_slack None x = peak_of_lem []
bench_slack (Some c) x = finish_slack (Some c) (finishing c x)

unfoldable pub bench_shown : Verdict → ℕ → Peak → BenchSeen
bench_shown v d p = record { number = number_in v; place = place_in v; differ = if_passed v d 0; slack = if_passed v p unused }

abbrev pub bench_result : Option Scheme → Bench → BenchSeen
bench_result c x = bench_shown (bench_tests c x) (bench_differs c x) (bench_slack c x)

-- ---- of a call

abbrev pub bench : List ℕ → List ℤ → List ℤ → List ℕ → List ℤ → List ℤ → List ℤ → List ℕ → Bench
bench a s e seed s' e' e'' coins = record { a = a; s = s; e = e; seed = seed; s' = s'; e' = e'; e'' = e''; coins = coins }

abbrev pub BenchAnswer : Type 0
BenchAnswer = Result Compared Refusal

abbrev pub agrees : Peak → BenchAnswer
agrees p = Ok (record { differ = None; slack = p })

abbrev pub differs_at : ℕ → Peak → BenchAnswer
differs_at i p = Ok (record { differ = Some i; slack = p })

abbrev pub differ_number : Option ℕ → ℕ
differ_number None = 0
differ_number (Some i) = suc i

abbrev pub bench_told : BenchAnswer → BenchSeen
bench_told (Ok n) = record { number = 0; place = 0; differ = differ_number n.differ; slack = n.slack }
bench_told (Err r) = record { number = number_of r; place = place_of r; differ = 0; slack = unused }

abbrev pub bcns_told : Result Peak Refusal → BenchSeen
bcns_told (Ok p) = bench_told (agrees p)
bcns_told (Err r) = bench_told (Err r)
