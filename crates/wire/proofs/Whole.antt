-- Numbers that fill whole bytes, once over their count and bits.
--   Whole w n b    n numbers of w bits, from 1 to 32, fill b bytes
--   numbers, hints, keys, coins   those of a message, of a reply, of a key and, where there are any, of the coins
--   fit            what `pack` asks: such numbers, and a buffer for their bytes
--   hold           what `unpack` asks: such bytes, and a buffer for their numbers
--   long           how many bytes they take
--   back           numbers packed and unpacked are the same
--   as-blank       they are blank where their bytes are
--   again          bytes unpacked and packed are the same
use Rattle.lists.proofs.Kit.{sym, ap, ◌∙◌, List, ℕ, lt_of_lt_of_le, arith, length}
use Rattle.std.proofs.Common.{◌≡◌, ◌*◌, ◌^◌, ◌≤◌, ◌<◌}
use Rattle.schemes.specs.{Schemes.fixed_of, declared.Scheme.Scheme}
use Rattle.schemes.proofs.{Laws.tied, Sound.sound}
use Rattle.lists.specs.Ranges.{Below}
use Rattle.packing.specs.Packing.{packed, unpacked}
use Rattle.packing.proofs.Laws.{packed-length, unpack-pack, pack-unpack}
use Rattle.refusals.specs.Refusals.{not_blank_lem}
use Rattle.refusals.proofs.Laws.{not-blank-packed}
use Rattle.values.specs.Fit.{Counted}

pub record Whole (w n b : ℕ) : Type 0 where
  pub some : 0 < w
  pub room : w ≤ 32
  pub whole : 8 * b ≡ w * n

module _ (c : Scheme) where
  pub numbers : Whole (fixed_of c).width (fixed_of c).secret (fixed_of c).packed
  numbers = record { some = (sound c).width; room = (sound c).width_room; whole = (tied c).numbers }

  pub hints : Whole (fixed_of c).hintbits (fixed_of c).mixed (fixed_of c).hint
  hints = record { some = (sound c).hint; room = (sound c).hint-room; whole = (tied c).hints }

  pub keys : Whole (fixed_of c).keybits (fixed_of c).groups (fixed_of c).key
  keys = record { some = (sound c).key; room = omega (arith, (sound c).key-room); whole = (tied c).keys }

  pub coins : 0 < (fixed_of c).coinbits → Whole (fixed_of c).coinbits (fixed_of c).groups (fixed_of c).coins
  coins h = record { some = h; room = (sound c).coin-room; whole = (tied c).coins }

module _ {w n b : ℕ} (h : Whole w n b) where
  pub hold : {m k : ℕ} → m ≡ b → k ≡ n → ((0 < w) × (w ≤ 32)) × (8 * m ≡ w * k)
  hold l e = ((h.some, h.room), omega (arith, h.whole, ap (λ (i : ℕ). w * i) e))

  module _ {q : ℕ} {xs : List ℕ} (p : Counted n q xs) where
    filled : w * length xs ≡ 8 * b
    filled = omega (arith, h.whole, ap (λ (i : ℕ). w * i) p.long)

    pub long : length (packed w xs) ≡ b
    long = packed-length w xs ∙ omega (arith, filled)

    module _ (r : q ≤ 2 ^ w) where
      small : Below (2 ^ w) xs
      small = record { below = λ k. lt_of_lt_of_le (p.below.below k) r }

      pub fit : {m : ℕ} → m ≡ b → ((0 < w) × (w ≤ 32) × Below (2 ^ w) xs) × (w * length xs ≡ 8 * m)
      fit l = ((h.some, h.room, small), omega (arith, filled))

      pub back : unpacked w n (packed w xs) ≡ xs
      back = ap (λ (i : ℕ). unpacked w i (packed w xs)) (sym p.long) ∙ unpack-pack w b xs filled small

      pub as-blank : not_blank_lem (packed w xs) ≡ not_blank_lem xs
      as-blank = not-blank-packed w b xs filled small

  pub again : {p : List ℕ} → Below 256 p → length p ≡ b → packed w (unpacked w n p) ≡ p
  again {p} d l = pack-unpack w n p (omega (arith, h.whole)) d
