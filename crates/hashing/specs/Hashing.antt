-- What SHAKE-128 and SHA3-256 promise as calls: 02, request c, and 01, "Refusal numbers and their order".
--   shake_tests_lem input         the test of SHAKE-128: an output of any length has room, since the answer fills it
--   digest_tests_lem input n      the tests of SHA3-256 in 01's order, with room for n bytes
--   shake_result input n      what SHAKE-128 shows, with room for n bytes
--   digest_result input n     what SHA3-256 shows
use Rattle.std.specs.Prelude.{List, ℕ, length}
use Rattle.sponge.specs.Sponge.{shake128, sha3}
use Rattle.refusals.specs.{Refusals.◌then◌, Refusals.length_up_to_lem, Refusals.room_for_lem, Seen.Seen, Seen.shown, Refusals.Verdict}

unfoldable pub shake_tests_lem : List ℕ → Verdict
shake_tests_lem input = length_up_to_lem (length input) 65536

unfoldable pub digest_tests_lem : List ℕ → ℕ → Verdict
digest_tests_lem input n = length_up_to_lem (length input) 65536 then room_for_lem n 32

abbrev pub shake_result : List ℕ → ℕ → Seen ℕ
shake_result input n = shown (shake_tests_lem input) (shake128 input n) 0 n

abbrev pub digest_result : List ℕ → ℕ → Seen ℕ
digest_result input n = shown (digest_tests_lem input n) (sha3 input) 0 n
