-- How large the fixed numbers of any scheme are, by tests that are computed over all six.
--   Sound, sound   moduli, widths, bounds and counts of a scheme, and the largest of each
use mathlib.{Core.Path.◌≡◌, Core.Path.refl, Core.Bool.Bool, Core.Bool.true, Core.Bool.◌&&◌, Core.Bool.and-eq-true_iff}
use Prim.Native.Nat.{ℕ, suc, ◌^◌, ◌≤◌, ◌<◌}
use lib.Dec.{leb}
use borrow.Author.Tests.{leb-true}
use Rattle.schemes.specs.Schemes.{Fixed, Scheme, fixed_of, Bcns, NewHope, Challenge, Classical, Recommended, Paranoid}

pub record Sound (f : Fixed) : Type 0 where
  pub some : 1 < f.q
  pub q-word : f.q < 2 ^ 32
  pub q_room : f.q ≤ 2 ^ f.width
  pub noisy : 0 < f.largest
  pub small : f.largest ≤ 51
  pub width : 0 < f.width
  pub width_room : f.width ≤ 32
  pub hint : 0 < f.hintbits
  pub hint-room : f.hintbits ≤ 32
  pub key : 0 < f.keybits
  pub key-room : f.keybits ≤ 4
  pub coin-room : f.coinbits ≤ 32
  pub publics : f.public ≤ 746496
  pub secrets : f.secret ≤ 6912
  pub noises : f.noise ≤ 6912
  pub values : f.mixed ≤ 1024
  pub groups : f.groups ≤ 1024
  pub seeds : f.seed ≤ 32
  pub openings : f.opening ≤ 12976
  pub replies : f.reply ≤ 12968
  pub coins : f.coins ≤ 256
  pub keys : f.key ≤ 128

-- ---- a test of all schemes, and what it says of each

abbrev all : (Fixed → Bool) → Bool
all p =
    p (fixed_of Bcns) && (p (fixed_of NewHope) && (p (fixed_of Challenge) && (p (fixed_of Classical) && (p (fixed_of Recommended) && p (fixed_of Paranoid)))))

both : (a b : Bool) → a && b ≡ true → (a ≡ true) × (b ≡ true)
both a b e = (and-eq-true_iff a b).0 e

at : (p : Fixed → Bool) → all p ≡ true → (s : Scheme) → p (fixed_of s) ≡ true
at p e s =
    let b = both _ _ e in
    let n = both _ _ b.1 in
    let c = both _ _ n.1 in
    let d = both _ _ c.1 in
    let r = both _ _ d.1 in
    go s b.0 n.0 c.0 d.0 r.0 r.1
  where
    go : (s : Scheme) → p (fixed_of Bcns) ≡ true → p (fixed_of NewHope) ≡ true → p (fixed_of Challenge) ≡ true → p (fixed_of Classical) ≡ true
        → p (fixed_of Recommended) ≡ true → p (fixed_of Paranoid) ≡ true → p (fixed_of s) ≡ true
    go Bcns b n c d r t = b
    go NewHope b n c d r t = n
    go Challenge b n c d r t = c
    go Classical b n c d r t = d
    go Recommended b n c d r t = r
    go Paranoid b n c d r t = t

module _ (s : Scheme) where
  at-most : (g h : Fixed → ℕ) → all (λ f. leb (g f) (h f)) ≡ true → g (fixed_of s) ≤ h (fixed_of s)
  at-most g h e = leb-true _ _ (at (λ f. leb (g f) (h f)) e s)

  pub sound : Sound (fixed_of s)
  sound =
      record {
        some = at-most (λ f. 2) (λ f. f.q) refl;
        q-word = at-most (λ f. suc f.q) (λ f. 2 ^ 32) refl;
        q_room = at-most (λ f. f.q) (λ f. 2 ^ f.width) refl;
        noisy = at-most (λ f. 1) (λ f. f.largest) refl;
        small = at-most (λ f. f.largest) (λ f. 51) refl;
        width = at-most (λ f. 1) (λ f. f.width) refl;
        width_room = at-most (λ f. f.width) (λ f. 32) refl;
        hint = at-most (λ f. 1) (λ f. f.hintbits) refl;
        hint-room = at-most (λ f. f.hintbits) (λ f. 32) refl;
        key = at-most (λ f. 1) (λ f. f.keybits) refl;
        key-room = at-most (λ f. f.keybits) (λ f. 4) refl;
        coin-room = at-most (λ f. f.coinbits) (λ f. 32) refl;
        publics = at-most (λ f. f.public) (λ f. 746496) refl;
        secrets = at-most (λ f. f.secret) (λ f. 6912) refl;
        noises = at-most (λ f. f.noise) (λ f. 6912) refl;
        values = at-most (λ f. f.mixed) (λ f. 1024) refl;
        groups = at-most (λ f. f.groups) (λ f. 1024) refl;
        seeds = at-most (λ f. f.seed) (λ f. 32) refl;
        openings = at-most (λ f. f.opening) (λ f. 12976) refl;
        replies = at-most (λ f. f.reply) (λ f. 12968) refl;
        coins = at-most (λ f. f.coins) (λ f. 256) refl;
        keys = at-most (λ f. f.key) (λ f. 128) refl;
      }
