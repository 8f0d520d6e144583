-- The schemes' fixed numbers as 01 has them, a record for each scheme, and the schemes' own numbers.
--   bcns, new_hope      what is fixed in BCNS and in NewHope, in the order of the struct `Fixed`
--   frodo ..           what is fixed in a scheme of Frodo's, over the numbers in which the four differ
--   fixed_of s          what is fixed in the scheme s
--   family_of s         the family of a scheme
--   by_family F a b c   what is meant in each family: a in BCNS, b in NewHope, c in Frodo
--   scheme_number s     the number of a scheme, 0 to 5
--   scheme_of_lem k         the scheme that a number names, or that it names none
--   Names k r               r is that scheme, or the error where it names none
use Rattle.std.specs.Prelude.{ℕ, ◌+◌, ◌*◌, cond, eqb, Option, Some, None, Result, MatchResult, ◌≡◌}
pub use Rattle.schemes.specs.declared.Scheme.TheVariants.{Bcns, NewHope, Challenge, Classical, Recommended, Paranoid}
pub use Rattle.schemes.specs.{declared.Fixed.Fixed, declared.Family.Family, declared.Scheme.Scheme, declared.UnknownScheme.UnknownScheme}

-- 01, "The three families and their numbers", "The calls" and "Bytes on the wire"
abbrev pub bcns : Fixed
bcns =
    record {
      n = 1024;
      q = 4294967295;
      largest = 51;
      public = 1024;
      secret = 1024;
      noise = 1024;
      mixed = 1024;
      groups = 1024;
      width = 32;
      hintbits = 1;
      keybits = 1;
      coinbits = 2;
      packed = 4096;
      seed = 0;
      hint = 128;
      opening = 4096;
      reply = 4224;
      coins = 256;
      key = 128;
    }

abbrev pub new_hope : Fixed
new_hope =
    record {
      n = 1024;
      q = 12289;
      largest = 16;
      public = 1024;
      secret = 1024;
      noise = 1024;
      mixed = 1024;
      groups = 256;
      width = 14;
      hintbits = 2;
      keybits = 1;
      coinbits = 1;
      packed = 1792;
      seed = 32;
      hint = 256;
      opening = 1824;
      reply = 2048;
      coins = 32;
      key = 32;
    }

-- Frodo, over n, q, the largest noise, the bits D of a packed number, the bits B of an entry's key, and the key bytes
abbrev pub frodo : ℕ → ℕ → ℕ → ℕ → ℕ → ℕ → Fixed
frodo n q largest D B key =
    record {
      n = n;
      q = q;
      largest = largest;
      public = n * n;
      secret = 8 * n;
      noise = 8 * n;
      mixed = 64;
      groups = 64;
      width = D;
      hintbits = 1;
      keybits = B;
      coinbits = 0;
      packed = n * D;
      seed = 16;
      hint = 8;
      opening = 16 + n * D;
      reply = n * D + 8;
      coins = 0;
      key = key;
    }

abbrev pub fixed_of : Scheme → Fixed
fixed_of Bcns = bcns
fixed_of NewHope = new_hope
fixed_of Challenge = frodo 352 2048 3 11 1 8
fixed_of Classical = frodo 592 4096 4 12 2 16
fixed_of Recommended = frodo 752 32768 5 15 4 32
fixed_of Paranoid = frodo 864 32768 6 15 4 32

abbrev pub family_of : Scheme → Family
family_of Bcns = Family.Bcns
family_of NewHope = Family.NewHope
family_of Challenge = Family.Frodo
family_of Classical = Family.Frodo
family_of Recommended = Family.Frodo
family_of Paranoid = Family.Frodo

-- what differs from family to family
abbrev pub by_family : {A : Type 0} → Family → A → A → A → A
by_family Family.Bcns a b c = a
by_family Family.NewHope a b c = b
by_family Family.Frodo a b c = c

abbrev pub scheme_number : Scheme → ℕ
scheme_number Bcns = 0
scheme_number NewHope = 1
scheme_number Challenge = 2
scheme_number Classical = 3
scheme_number Recommended = 4
scheme_number Paranoid = 5

-- 01, "Refusal numbers and their order", 1: the scheme is not 0 to 5
abbrev pub scheme_of_lem : ℕ → Option Scheme
scheme_of_lem k =
    cond (eqb k 0) (Some Bcns)
    (cond (eqb k 1) (Some NewHope)
    (cond (eqb k 2) (Some Challenge)
    (cond (eqb k 3) (Some Classical)
    (cond (eqb k 4) (Some Recommended)
    (cond (eqb k 5) (Some Paranoid)
    None)))))

abbrev pub Names : ℕ → Result Scheme UnknownScheme → Type 0
Names k r = MatchResult r (λ c. scheme_of_lem k ≡ Some c) (λ e. scheme_of_lem k ≡ None)
