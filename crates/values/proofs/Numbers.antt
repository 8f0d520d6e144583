-- The fixed numbers of a scheme by its family, and what is meant by the family.
--   Same g f               f has the numbers that g has
--   Bcns, NewHope, Frodo   what the numbers are; in Frodo, what those of its four schemes have in common
--   Numbers F f            the one of the three that belongs to the family
--   numbers_of             each scheme has the numbers of its family
--   numbers-in             so has a scheme of which the family is known
--   in-each                a fact of what is meant by the family, from that of each family with its numbers
--   key-bits               an entry's key has fewer than 32 bits
--   packed-below           a number below q fits the width of a packed number
use Rattle.lists.proofs.Kit.{refl, subst, List, ℕ, lt_of_lt_of_le, arith, T, leb, lit≤}
use Rattle.std.proofs.Common.{◌≡◌, ◌*◌, ◌/◌, ◌%◌, ◌^◌, ◌≤◌, ◌<◌}
use Rattle.schemes.specs.Schemes.{by_family, family_of, fixed_of, bcns, new_hope, frodo}
use Rattle.schemes.specs.{declared.Family.Family, declared.Fixed.Fixed, declared.Scheme.Scheme}
use Rattle.schemes.proofs.Sound.{sound}
use Rattle.lists.specs.Ranges.{Below}
use Rattle.frodo.specs.Shown.{Round}

-- the rounding interval, `interval` of the scheme
abbrev wide : Fixed → ℕ
wide f = f.q / 2 ^ f.keybits

-- what the products and the rounding use of the numbers, as g has them
pub record Same (g f : Fixed) : Type 0 where
  pub n : f.n ≡ g.n
  pub q : f.q ≡ g.q
  pub largest : f.largest ≡ g.largest
  pub public : f.public ≡ g.public
  pub secret : f.secret ≡ g.secret
  pub noise : f.noise ≡ g.noise
  pub mixed : f.mixed ≡ g.mixed
  pub groups : f.groups ≡ g.groups
  pub hintbits : f.hintbits ≡ g.hintbits
  pub keybits : f.keybits ≡ g.keybits
  pub coinbits : f.coinbits ≡ g.coinbits

abbrev pub Bcns : Fixed → Type 0
Bcns f = Same bcns f

abbrev pub NewHope : Fixed → Type 0
NewHope f = Same new_hope f

pub record Frodo (f : Fixed) : Type 0 where
  pub some : 0 < f.n
  pub few : f.n ≤ 864
  pub q-some : 0 < f.q
  pub q_room : f.q ≤ 32768
  pub small : f.largest ≤ 6
  pub public : f.public ≡ f.n * f.n
  pub secret : f.secret ≡ 8 * f.n
  pub noise : f.noise ≡ 8 * f.n
  pub mixed : f.mixed ≡ 64
  pub groups : f.groups ≡ 64
  pub hintbits : f.hintbits ≡ 1
  pub whole : wide f * 2 ^ f.keybits ≡ f.q
  pub words : 65536 % f.q ≡ 0
  pub round : Round (wide f) f.keybits

abbrev pub Numbers : Family → Fixed → Type 0
Numbers Family.Bcns f = Bcns f
Numbers Family.NewHope f = NewHope f
Numbers Family.Frodo f = Frodo f

-- by tests that the checker computes
frodo-numbers : (n q largest D B key : ℕ) → T (leb 1 n) → T (leb n 864) → T (leb 1 q) → T (leb q 32768) → T (leb largest 6)
    → q / 2 ^ B * 2 ^ B ≡ q → 65536 % q ≡ 0 → T (leb 1 (q / 2 ^ B)) → q / 2 ^ B % 4 ≡ 0 → Frodo (frodo n q largest D B key)
frodo-numbers n q largest D B key t0 t1 t2 t3 t4 e w t5 d =
    record {
      some = lit≤ t0;
      few = lit≤ t1;
      q-some = lit≤ t2;
      q_room = lit≤ t3;
      small = lit≤ t4;
      public = refl;
      secret = refl;
      noise = refl;
      mixed = refl;
      groups = refl;
      hintbits = refl;
      whole = e;
      words = w;
      round = record { some = lit≤ t5; quarters = d; room = let r : q ≤ 32768 = lit≤ t3 in omega arith };
    }

same : (g : Fixed) → Same g g
same g =
    record {
      n = refl;
      q = refl;
      largest = refl;
      public = refl;
      secret = refl;
      noise = refl;
      mixed = refl;
      groups = refl;
      hintbits = refl;
      keybits = refl;
      coinbits = refl;
    }

pub numbers_of : (s : Scheme) → Numbers (family_of s) (fixed_of s)
numbers_of Scheme.Bcns = same bcns
numbers_of Scheme.NewHope = same new_hope
numbers_of Scheme.Challenge = frodo-numbers 352 2048 3 11 1 8 tt tt tt tt tt refl refl tt refl
numbers_of Scheme.Classical = frodo-numbers 592 4096 4 12 2 16 tt tt tt tt tt refl refl tt refl
numbers_of Scheme.Recommended = frodo-numbers 752 32768 5 15 4 32 tt tt tt tt tt refl refl tt refl
numbers_of Scheme.Paranoid = frodo-numbers 864 32768 6 15 4 32 tt tt tt tt tt refl refl tt refl

pub numbers-in : (s : Scheme) {F : Family} → family_of s ≡ F → Numbers F (fixed_of s)
numbers-in s e = subst (λ (F : Family). Numbers F (fixed_of s)) e (numbers_of s)

-- ---- what is meant by the family

pub in-each : {A : Type 0} (P : A → Type 0) (F : Family) {f : Fixed} {x y z : A} → Numbers F f
    → (Bcns f → P x) → (NewHope f → P y) → (Frodo f → P z) → P (by_family F x y z)
in-each P Family.Bcns k b n o = b k
in-each P Family.NewHope k b n o = n k
in-each P Family.Frodo k b n o = o k

-- ---- the size of numbers

pub key-bits : (s : Scheme) → (fixed_of s).keybits < 32
key-bits s = let k = (sound s).key-room in omega arith

pub packed-below : (s : Scheme) {xs : List ℕ} → Below (fixed_of s).q xs → Below (2 ^ (fixed_of s).width) xs
packed-below s h = record { below = λ k. lt_of_lt_of_le (h.below k) (sound s).q_room }
