-- Hints and key entries by the scheme: 01, "Reconciliation".
--   interval c      I = q / 2^B, Frodo's rounding interval
--   hints c cs v    the hints of the replier's value v, with its coins
--   keys c cs v     the key entries of the replier's value
--   peers c hs w    those of the initiator's value w under the hints
--   slacks c hs w   the slack that each entry of w uses under the hints: 02, request f; none in NewHope
use Rattle.std.specs.Prelude.{List, ℕ, length, replicate}
use Rattle.schemes.specs.{Schemes.by_family, Schemes.family_of, Schemes.fixed_of, declared.Scheme.Scheme}
use Rattle.bcns.specs.Rounding as bcns
use Rattle.newhope.specs.Group as newhope
use Rattle.frodo.specs.Rounding as frodo

abbrev pub interval : Scheme → ℕ
interval c = frodo.interval (fixed_of c)

unfoldable pub hints : Scheme → List ℕ → List ℕ → List ℕ
hints c cs v = by_family (family_of c) (bcns.hints_of cs v) (newhope.hints_of cs v) (frodo.hints_of (interval c) v)

unfoldable pub keys : Scheme → List ℕ → List ℕ → List ℕ
keys c cs v = by_family (family_of c) (bcns.keys_of cs v) (newhope.keys_of cs v) (frodo.keys_of (interval c) (fixed_of c).keybits v)

unfoldable pub peers : Scheme → List ℕ → List ℕ → List ℕ
peers c hs w = by_family (family_of c) (bcns.peers_of hs w) (newhope.peers_of hs w) (frodo.peers_of (interval c) (fixed_of c).keybits hs w)

unfoldable pub slacks : Scheme → List ℕ → List ℕ → List ℕ
slacks c hs w = by_family (family_of c) (bcns.slacks_of hs w) (replicate (length w) 0) (frodo.slacks_of (interval c) (fixed_of c).keybits hs w)
