-- What the steps that Offer and Reply share with their calls by rows ask and promise.
--   reply_secrets_lem c s' e' e''       the tests of the replier's secrets
--   message_by c u v coins, key_by c v coins   the reply message and the key, of u and v
--   Rooms c tosses hints entries   there is room for the coins as numbers, the hints and the entries of the key
use Rattle.std.specs.Prelude.{◌≡◌, List, ◌++◌, ℕ, ℤ, length}
use Rattle.schemes.specs.{Schemes.fixed_of, declared.Scheme.Scheme}
use Rattle.packing.specs.Packing.{packed}
use Rattle.refusals.specs.{Refusals.◌then◌, Refusals.secrets_in_lem, Refusals.Verdict}
use Rattle.values.specs.Keys.{hints, keys}
use Rattle.wire.specs.Wire.{coins_in}

unfoldable pub reply_secrets_lem : Scheme → List ℤ → List ℤ → List ℤ → Verdict
reply_secrets_lem c s' e' e'' = secrets_in_lem (fixed_of c).largest s' then secrets_in_lem (fixed_of c).largest e' then secrets_in_lem (fixed_of c).largest e''

abbrev pub message_by : Scheme → List ℕ → List ℕ → List ℕ → List ℕ
message_by c u v coins = packed (fixed_of c).width u ++ packed (fixed_of c).hintbits (hints c (coins_in c coins) v)

abbrev pub key_by : Scheme → List ℕ → List ℕ → List ℕ
key_by c v coins = packed (fixed_of c).keybits (keys c (coins_in c coins) v)

pub record Rooms (c : Scheme) (tosses hints entries : List ℕ) : Type 0 where
  pub tosses-long : length tosses ≡ (fixed_of c).groups
  pub hints-long : length hints ≡ (fixed_of c).mixed
  pub entries-long : length entries ≡ (fixed_of c).groups
