-- What a product by halves promises as a call: 02, request j, and 01, "Refusal numbers and their order".
--   q                        BCNS's modulus, that of `schemes`
--   size_up_to k n             n is 32 times a power of two up to 2^k
--   size_in_lem n                 2: a factor's length is none of those, up to 1024
--   Factors                  what the call is lent to read: a and b
--   factors, factors       the factors from lists, and from what is lent in a contract
--   product_tests_lem x n m       the tests in their order, with room for n numbers and a scratch of m
--   plain x                  what the call gives: the product of 01's rule, modulo X^L + 1 and q
--   ProductSeen              what is seen of the call: the refusal's number and place, the output, and what the scratch holds
--   with_scratch s scratch    what is seen of a call with one output, with a scratch beside it
--   product_seen t out scratch   what is seen where the call tells t and leaves out and scratch
--   product_result x n m      what the call shows: a scratch of zeros, refused or not
--   ProductSeenAll           `product_seen` forgets nothing
use Rattle.std.specs.Prelude.{Err}
use Rattle.std.specs.Prelude.{◌≡◌, Bool, true, cond, List, ℕ, zero, suc, ◌*◌, ◌^◌, eqb, length, replicate}
use Rattle.numbers.specs.Residue.{residue}
use Rattle.schemes.specs.{Schemes.fixed_of, declared.Scheme.TheVariants.Bcns}
use Rattle.lists.specs.{Entries.tab, Entries.nums}
use Rattle.polynomial.specs.Product.{product}
use Rattle.refusals.specs.Refusals.{◌then◌, length_is_lem, room_for_lem, publics_in_lem}
use Rattle.refusals.specs.Refusals.{pass}
use Rattle.refusals.specs.{Seen.Output, Seen.Told, Seen.Seen, Seen.shown, Seen.seen, declared.Refusal.TheVariants.BadLength, Refusals.Verdict}

abbrev pub q : ℕ
q = (fixed_of Bcns).q

unfoldable pub size_up_to : ℕ → ℕ → Bool
size_up_to zero n = eqb n 32
size_up_to (suc k) n = cond (eqb n (32 * 2 ^ suc k)) true (size_up_to k n)

unfoldable pub size_in_lem : ℕ → Verdict
size_in_lem n = cond (size_up_to 5 n) pass (Err BadLength)

pub record Factors : Type 0 where
  pub a : List ℕ
  pub b : List ℕ

abbrev pub factors : List ℕ → List ℕ → Factors
factors a b = record { a = a; b = b }

unfoldable pub product_tests_lem : Factors → ℕ → ℕ → Verdict
product_tests_lem x n m =
    size_in_lem (length x.a)
    then length_is_lem (length x.b) (length x.a)
    then room_for_lem n (length x.a)
    then room_for_lem m (6 * length x.a)
    then publics_in_lem q x.a
    then publics_in_lem q x.b

unfoldable pub plain : Factors → List ℕ
plain x = tab (length x.a) (λ k. residue q (product (length x.a) (nums x.a) (nums x.b) k))

pub record ProductSeen : Type 0 where
  pub number : ℕ
  pub place : ℕ
  pub out : Output ℕ
  pub scratch : List ℕ

unfoldable pub with_scratch : Seen ℕ → List ℕ → ProductSeen
with_scratch s scratch = record { number = s.number; place = s.place; out = s.out; scratch = scratch }

abbrev pub product_seen : Told ℕ → List ℕ → List ℕ → ProductSeen
product_seen t out scratch = with_scratch (seen t out) scratch

abbrev pub product_result : Factors → ℕ → ℕ → ProductSeen
product_result x n m = with_scratch (shown (product_tests_lem x n m) (plain x) 0 n) (replicate m 0)

-- ---- what follows

abbrev pub ProductSeenAll : Type 0
ProductSeenAll =
    (t t' : Told ℕ) (out out' scratch scratch' : List ℕ) → product_seen t out scratch ≡ product_seen t' out' scratch'
    → (t.number ≡ t'.number) × (t.place ≡ t'.place) × (t.counts ≡ t'.counts) × (out ≡ out') × (scratch ≡ scratch')
