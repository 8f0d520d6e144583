-- Zero bytes are zero numbers, at every width: a list of zeros has the number 0, whose digits are zeros, and packing and unpacking undo each other.
--   blank-packed, blank-unpacked   as specs/Blank states them
--   blank-zeros, zeros-blank       a blank list is one of zeros
use Rattle.lists.proofs.Kit.{refl, sym, ap₂, List, [], Bool, true, false, cond, ℕ, zero, suc, zero-div, zero-mod, arith, eqb, length}
use Rattle.std.proofs.Common.{◌≡◌, ◌∷◌, ◌*◌, ◌/◌, ◌^◌}
use Rattle.lists.proofs.Kit.{replicate, eqb-true}
use Rattle.packing.specs.Packing.{value, digits, packed, unpacked}
use Rattle.packing.proofs.Laws.{unpack-pack, pack-unpack}
use Rattle.blank.specs.Blank.{blank, BlankPacked, BlankUnpacked}

never : {X : Type 0} → false ≡ true → X
never e = let z : ◌≡◌ {A = ℕ} 0 1 = cc in absurd (omega arith)

first : (x : ℕ) (t r : Bool) → eqb x 0 ≡ t → cond t r false ≡ true → (x ≡ 0) × (r ≡ true)
first x true r e h = (eqb-true x 0 e, h)
first x false r e h = never h

pub blank-zeros : (n : ℕ) → blank (replicate n 0) ≡ true
unfolding blank
blank-zeros zero = refl
blank-zeros (suc n) = blank-zeros n

pub zeros-blank : (xs : List ℕ) → blank xs ≡ true → xs ≡ replicate (length xs) 0
unfolding blank
zeros-blank [] h = refl
zeros-blank (x ∷ xs) h = let f = first x (eqb x 0) (blank xs) refl h in ap₂ (λ (n : ℕ) (l : List ℕ). n ∷ l) f.0 (zeros-blank xs f.1)

zero-value : (b : ℕ) (xs : List ℕ) → blank xs ≡ true → value b xs ≡ 0
unfolding value blank
zero-value b [] h = refl
zero-value b (x ∷ xs) h = let f = first x (eqb x 0) (blank xs) refl h in rw (f.0, zero-value b xs f.1) (omega arith)

zero-digits : (b n : ℕ) → blank (digits b n 0) ≡ true
unfolding digits blank
zero-digits b zero = refl
zero-digits b (suc n) = rw (zero-mod b, zero-div b) (zero-digits b n)

to-packed : (w : ℕ) (xs : List ℕ) → blank xs ≡ true → blank (packed w xs) ≡ true
unfolding packed
to-packed w xs h = rw (zero-value (2 ^ w) xs h) (zero-digits 256 (w * length xs / 8))

to-unpacked : (w n : ℕ) (bs : List ℕ) → blank bs ≡ true → blank (unpacked w n bs) ≡ true
unfolding unpacked
to-unpacked w n bs h = rw (zero-value 256 bs h) (zero-digits (2 ^ w) n)

alike : (s t : Bool) → (s ≡ true → t ≡ true) → (t ≡ true → s ≡ true) → s ≡ t
alike true t f g = sym (f refl)
alike false true f g = g refl
alike false false f g = refl

pub blank-packed : BlankPacked
blank-packed w m xs e h =
    alike _ _ (λ t. rw (unpack-pack w m xs e h) at (to-unpacked w (length xs) (packed w xs) t)) (to-packed w xs)

pub blank-unpacked : BlankUnpacked
blank-unpacked w n bs e h = alike _ _ (λ t. rw (pack-unpack w n bs e h) at (to-packed w (unpacked w n bs) t)) (to-unpacked w n bs)
