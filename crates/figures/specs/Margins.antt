-- The margins on the label are the real ones: 02, request n.
--   Pair, Tossed          v and w; with a coin
--   FailsFrom .. d        of all cases that may arise some at distance d fails, and none at less
-- "For each Frodo set there are v and w at distance I/4 + 1 whose two keys differ, and none at I/4 or less"
--   FrodoFrom q I B       v and w below q, over the interval I and the bits B of an entry's key
--   AnyInterval           once over the interval, any multiple of 4, and the bits: q is I * 2^B
--   EachSet               each Frodo set
-- "for BCNS there are v, coin and w at distance 536,870,912 whose bits differ, and none below"
--   BcnsFrom              v and w below q, a coin below 4
-- Beyond the request, NewHope, where the distance is the sum of a group's four:
--   NewHopeFrom           v and w of entries below q, a coin below 2
--   Margins               all of this
use Rattle.std.specs.Prelude.{◌≡◌, ℕ, ◌+◌, ◌*◌, ◌/◌, ◌%◌, ◌^◌, ◌<◌}
use Rattle.numbers.specs.Residue.{apart}
use Rattle.schemes.specs.{Schemes.family_of, Schemes.fixed_of, declared.Family.Family, declared.Scheme.Scheme}
use Rattle.newhope.specs.{Shown.BelowQ, Shown.apart_of, declared.Four.Four}
use Rattle.bcns.specs.Rounding as bcns
use Rattle.newhope.specs.Group as newhope
use Rattle.frodo.specs.Rounding as frodo

pub record Pair : Type 0 where
  pub v : ℕ
  pub w : ℕ

pub record Tossed (Value : Type 0) : Type 0 where
  pub coin : ℕ
  pub v : Value
  pub w : Value

-- X are the cases, May those that may arise, far is their distance, and Same says that both ends get the same key
pub record FailsFrom (X : Type 0) (May : X → Type 0) (far : X → ℕ) (Same : X → Type 0) (d : ℕ) : Type 0 where
  pub witness : X
  pub may : May witness
  pub there : far witness ≡ d
  pub differ : Same witness → ⊥
  pub below : (x : X) → May x → far x < d → Same x

abbrev pub FrodoFrom : ℕ → ℕ → ℕ → Type 0
FrodoFrom q I B =
    FailsFrom Pair
    (λ x. (x.v < q) × (x.w < q))
    (λ x. apart q x.v x.w)
    (λ x. frodo.peer_of I B (frodo.hint_of I x.v) x.w ≡ frodo.key_of I B x.v)
    (I / 4 + 1)

abbrev pub AnyInterval : Type 0
AnyInterval = (I B : ℕ) → 0 < I → I % 4 ≡ 0 → 0 < B → FrodoFrom (I * 2 ^ B) I B

abbrev pub EachSet : Type 0
EachSet = (s : Scheme) → family_of s ≡ Family.Frodo → FrodoFrom (fixed_of s).q (frodo.interval (fixed_of s)) (fixed_of s).keybits

abbrev pub BcnsFrom : Type 0
BcnsFrom =
    FailsFrom (Tossed ℕ)
    (λ x. (x.coin < 4) × (x.v < bcns.q) × (x.w < bcns.q))
    (λ x. apart bcns.q x.v x.w)
    (λ x. bcns.peer_of (bcns.hint_of (bcns.doubled x.coin x.v)) x.w ≡ bcns.key_of (bcns.doubled x.coin x.v))
    536870912

abbrev pub NewHopeFrom : Type 0
NewHopeFrom =
    FailsFrom (Tossed Four)
    (λ x. (x.coin < 2) × BelowQ x.v × BelowQ x.w)
    (λ x. apart_of x.v x.w)
    (λ x. newhope.bit_of (newhope.hint_of x.coin x.v) x.w ≡ newhope.bit_of (newhope.hint_of x.coin x.v) x.v)
    9215

pub record Margins : Type 0 where
  pub any-interval : AnyInterval
  pub each_set : EachSet
  pub bcns : BcnsFrom
  pub newhope : NewHopeFrom
