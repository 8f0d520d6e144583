-- BCNS's reconciliation: 01, "Reconciliation", and the slack used: 02f; q is that of `schemes`.
--   coin_of_lem c        two coin bits: 0, 1 give 0; 2 gives 1; 3 gives -1
--   doubled c v     z = 2v - c modulo 2q
--   hint_of z        floor(2z / q) mod 2
--   key_of z         1 exactly if (q + 1)/2 <= z <= (3q - 1)/2
--   peer_of h w      the initiator's bit: 0 exactly if 2w lies, modulo 2q, within 1073741823 of some z with the hint h and the key bit 0
--   slack_of h w     how far 2w lies, around a circle of 2q, from the nearest z with the hint h
--   hints_of, keys_of, peers_of, slacks_of   hint, key, peer's key and slack, entry by entry
use Rattle.std.specs.Prelude.{Bool, true, false, cond, List, ℕ, zero, suc, ◌+◌, ◌*◌, ◌-◌, ◌/◌, ◌%◌, leb, eqb, ℤ, pos, negsuc, ◌-ℤ◌, length, get_or}
use Rattle.numbers.specs.{Residue.residue, Residue.apart, Least.gap_to}
use Rattle.schemes.specs.{Schemes.fixed_of, declared.Scheme.TheVariants.Bcns}
use Rattle.lists.specs.{Entries.tab, First.both}

abbrev pub q : ℕ
q = (fixed_of Bcns).q

unfoldable pub coin_of_lem : ℕ → ℤ
coin_of_lem c = cond (eqb c 2) (pos 1) (cond (eqb c 3) (negsuc 0) (pos 0))

unfoldable pub doubled : ℕ → ℕ → ℕ
doubled c v = residue (2 * q) (pos (2 * v) -ℤ coin_of_lem c)

unfoldable pub hint_of : ℕ → ℕ
hint_of z = 2 * z / q % 2

unfoldable pub key_of : ℕ → ℕ
key_of z = cond (both (leb ((q + 1) / 2) z) (leb z ((3 * q - 1) / 2))) 1 0

-- some number below n passes p
unfoldable pub some_below_lem : (ℕ → Bool) → ℕ → Bool
some_below_lem p zero = false
some_below_lem p (suc n) = cond (p n) true (some_below_lem p n)

-- z has the hint h and the key bit 0, and 2w lies within reach of it
unfoldable pub reached : ℕ → ℕ → ℕ → Bool
reached h w z = both (eqb (hint_of z) h) (both (eqb (key_of z) 0) (leb (apart (2 * q) (2 * w) z) 1073741823))

unfoldable pub peer_of : ℕ → ℕ → ℕ
peer_of h w = cond (some_below_lem (reached h w) (2 * q)) 0 1

unfoldable pub slack_of : ℕ → ℕ → ℕ
slack_of h w = gap_to (2 * q) (λ z. eqb (hint_of z) h) (2 * w)

unfoldable pub hints_of : List ℕ → List ℕ → List ℕ
hints_of cs vs = tab (length vs) (λ k. hint_of (doubled (get_or cs k 0) (get_or vs k 0)))

unfoldable pub keys_of : List ℕ → List ℕ → List ℕ
keys_of cs vs = tab (length vs) (λ k. key_of (doubled (get_or cs k 0) (get_or vs k 0)))

unfoldable pub peers_of : List ℕ → List ℕ → List ℕ
peers_of hs ws = tab (length ws) (λ k. peer_of (get_or hs k 0) (get_or ws k 0))

unfoldable pub slacks_of : List ℕ → List ℕ → List ℕ
slacks_of hs ws = tab (length ws) (λ k. slack_of (get_or hs k 0) (get_or ws k 0))
