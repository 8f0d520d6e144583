-- NewHope's reconciliation: 01, "Reconciliation", as amended by request d (docs/RULES.md); q, the size 1024 and the 256 groups are those of `schemes`.
-- A group is the entries i, i + 256, i + 512 and i + 768, with a coin bit b.
--   up_of b x, down_of b x   P = floor((4X + q)/(2q)) and Q = floor(2X/q), where X = 2x + b
--   off_of b x, offs_of b v  |2X - q_p|, and the sum of the four
--   k_of b v, p_of b v x     k, and the vector's entry at x: P where the four sum below q, else Q
--   hint_of b v             (p0 - p3, p1 - p3, p2 - p3, k + 2 p3) modulo 4
--   term_of c x             how far 8x - qc lies from the nearest multiple of 8q
--   bit_of h x              1 (near) if the four sum to at most 8q, else 0 (far): both ends' bit
--   group_of xs i           group i of a list of 1,024 numbers
--   hints_of, keys_of, peers_of   over all 256 groups: hint j of group i stands at i + 256 j
use Rattle.std.specs.Prelude.{cond, List, ℕ, zero, suc, ◌+◌, ◌*◌, ◌/◌, ◌%◌, ltb, leb, pos, nat_abs, ◌-ℤ◌, get_or}
use Rattle.numbers.specs.Residue.{residue, apart}
use Rattle.schemes.specs.{Schemes.fixed_of, declared.Scheme.TheVariants.NewHope}
use Rattle.lists.specs.Entries.{tab}
pub use Rattle.newhope.specs.declared.Four.{Four}

abbrev pub q : ℕ
q = (fixed_of NewHope).q

abbrev pub size : ℕ
size = (fixed_of NewHope).n

abbrev pub groups : ℕ
groups = (fixed_of NewHope).groups

unfoldable pub up_of : ℕ → ℕ → ℕ
up_of b x = (4 * (2 * x + b) + q) / (2 * q)

unfoldable pub down_of : ℕ → ℕ → ℕ
down_of b x = 2 * (2 * x + b) / q

unfoldable pub off_of : ℕ → ℕ → ℕ
off_of b x = nat_abs (pos (2 * (2 * x + b)) -ℤ pos (q * up_of b x))

unfoldable pub offs_of : ℕ → Four → ℕ
offs_of b v = off_of b v.e0 + off_of b v.e1 + off_of b v.e2 + off_of b v.e3

unfoldable pub k_of : ℕ → Four → ℕ
k_of b v = cond (ltb (offs_of b v) q) 0 1

unfoldable pub p_of : ℕ → Four → ℕ → ℕ
p_of b v x = cond (ltb (offs_of b v) q) (up_of b x) (down_of b x)

unfoldable pub less_of : ℕ → Four → ℕ → ℕ
less_of b v x = residue 4 (pos (p_of b v x) -ℤ pos (p_of b v v.e3))

unfoldable pub last_of : ℕ → Four → ℕ
last_of b v = (k_of b v + 2 * p_of b v v.e3) % 4

unfoldable pub hint_of : ℕ → Four → Four
hint_of b v = record { e0 = less_of b v v.e0; e1 = less_of b v v.e1; e2 = less_of b v v.e2; e3 = last_of b v }

unfoldable pub term_of : ℕ → ℕ → ℕ
term_of c x = apart (8 * q) (8 * x) (q * c)

unfoldable pub sum_of : Four → Four → ℕ
sum_of h x =
    term_of (2 * h.e0 + h.e3) x.e0 + term_of (2 * h.e1 + h.e3) x.e1 + term_of (2 * h.e2 + h.e3) x.e2 + term_of h.e3 x.e3

unfoldable pub bit_of : Four → Four → ℕ
bit_of h x = cond (leb (sum_of h x) (8 * q)) 1 0

-- ---- over all groups

unfoldable pub group_of : List ℕ → ℕ → Four
group_of xs i = record { e0 = get_or xs i 0; e1 = get_or xs (i + groups) 0; e2 = get_or xs (i + 2 * groups) 0; e3 = get_or xs (i + 3 * groups) 0 }

-- entry j of a group
unfoldable pub entry_of : Four → ℕ → ℕ
entry_of g zero = g.e0
entry_of g (suc zero) = g.e1
entry_of g (suc (suc zero)) = g.e2
entry_of g (suc (suc (suc j))) = g.e3

unfoldable pub hints_of : List ℕ → List ℕ → List ℕ
hints_of cs vs = tab size (λ k. entry_of (hint_of (get_or cs (k % groups) 0) (group_of vs (k % groups))) (k / groups))

-- the replier's bits, of its own hints; and the initiator's, of the hints that came
unfoldable pub keys_of : List ℕ → List ℕ → List ℕ
keys_of cs vs = tab groups (λ i. bit_of (hint_of (get_or cs i 0) (group_of vs i)) (group_of vs i))

unfoldable pub peers_of : List ℕ → List ℕ → List ℕ
peers_of hs ws = tab groups (λ i. bit_of (group_of hs i) (group_of ws i))
