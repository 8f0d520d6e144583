-- Frodo's reconciliation: 01, "Reconciliation", and the slack used: 02f, over the rounding interval I and the number B of key bits of an entry; q is I * 2^B.
--   interval f        I = q / 2^B of a scheme's fixed numbers
--   hint_of I v        floor(2v / I) mod 2
--   key_of I B v       floor((2v + I) / (2I)) mod 2^B
--   peer_of I B h w    the initiator's key: that of the z nearest to w, around the circle, among those with the hint h
--   slack_of I B h w   how far w lies, around the circle, from the nearest value with the hint h
--   hints_of, keys_of, peers_of, slacks_of   hint, key, peer's key and slack, entry by entry
use Rattle.std.specs.Prelude.{List, ℕ, ◌+◌, ◌*◌, ◌/◌, ◌%◌, ◌^◌, eqb, length, get_or}
use Rattle.numbers.specs.Least.{nearest_to, gap_to}
use Rattle.schemes.specs.declared.Fixed.{Fixed}
use Rattle.lists.specs.Entries.{tab}

abbrev pub interval : Fixed → ℕ
interval f = f.q / 2 ^ f.keybits

unfoldable pub hint_of : ℕ → ℕ → ℕ
hint_of I v = 2 * v / I % 2

unfoldable pub key_of : ℕ → ℕ → ℕ → ℕ
key_of I B v = (2 * v + I) / (2 * I) % 2 ^ B

unfoldable pub peer_of : ℕ → ℕ → ℕ → ℕ → ℕ
peer_of I B h w = key_of I B (nearest_to (I * 2 ^ B) (λ z. eqb (hint_of I z) h) w)

unfoldable pub slack_of : ℕ → ℕ → ℕ → ℕ → ℕ
slack_of I B h w = gap_to (I * 2 ^ B) (λ z. eqb (hint_of I z) h) w

unfoldable pub hints_of : ℕ → List ℕ → List ℕ
hints_of I vs = tab (length vs) (λ k. hint_of I (get_or vs k 0))

unfoldable pub keys_of : ℕ → ℕ → List ℕ → List ℕ
keys_of I B vs = tab (length vs) (λ k. key_of I B (get_or vs k 0))

unfoldable pub peers_of : ℕ → ℕ → List ℕ → List ℕ → List ℕ
peers_of I B hs ws = tab (length ws) (λ k. peer_of I B (get_or hs k 0) (get_or ws k 0))

unfoldable pub slacks_of : ℕ → ℕ → List ℕ → List ℕ → List ℕ
slacks_of I B hs ws = tab (length ws) (λ k. slack_of I B (get_or hs k 0) (get_or ws k 0))
