-- Parts of a list that are lent, and what the whole holds after that.
--   ints-is                  an entry of a list of secrets, as the code reads it
--   rest-long, part-entry    the part from entry a on: how long, and which entries
--   put-back, copied-back, copied-front, rest-back   what was lent is put back: the entries from a up to e; those, or the first ones, with a copy; all from a on
--   stored-within            a copy inside one list
--   sum-stored               whole numbers added to others in front of them
--   take_within              the first m entries, where each of them is small
use Rattle.lists.proofs.Kit.{◌≡◌, refl, ◌∙◌, sym, ap, List, ◌++◌, ℕ, ◌+◌, ◌-◌, ◌<◌, ◌≤◌, arith, dec_lt, length, get_or, take, drop, length-take, length-drop}
use Rattle.lists.proofs.Kit.{List·getD-append, List·getD-eq-default, get_or-take, get_or-drop, get_or-append-add, length-take-le, ℤ, pos, nat_abs, put_mid, ◌+ℤ◌}
use Rattle.lists.proofs.Kit.{same_len_mid}
use Rattle.std.specs.List.{CopiedTo, SameBelow, SameFrom}
use Rattle.lists.specs.{Entries.ints, Ranges.Within, Ranges.Stored}
use Rattle.polynomial.specs.Steps.{Summed}
use Rattle.lists.proofs.Parts.{part-long, to_end}

pub ints-is : (o : List ℤ) (k : ℕ) → ints o k ≡ get_or o k (pos 0)
unfolding ints
ints-is o k = refl

-- ---- parts

pub rest-long : {A : Type 0} (a : ℕ) (xs : List A) → length (take (length xs - a) (drop a xs)) ≡ length xs - a
rest-long a xs = simp (length-take, length-drop) (omega arith)

pub part-entry : {A : Type 0} (z : A) (a : ℕ) (xs : List A) (k : ℕ) → get_or (take (length xs - a) (drop a xs)) k z ≡ get_or xs (a + k) z
part-entry z a xs k = ap (λ (l : List _). get_or l k z) (to_end xs a) ∙ get_or-drop a xs k z

put-entries : {A : Type 0} {z : A} (a m : ℕ) (xs ys : List A) → a + m ≤ length xs → length ys ≡ m → Stored z xs a m (λ k. get_or ys k z) (put_mid a m xs ys)
put-entries {A} {z} a m xs ys fits long =
    record {
      long = same_len_mid a m xs ys (long ∙ sym (part-long a m xs fits));
      inside = λ k l. before k ∙ List·getD-append ys _ z k (omega arith);
      below = λ i l. List·getD-append (take a xs) _ z i (rw first l) ∙ get_or-take a xs i z l;
      above = λ i g.
          let f : i ≡ a + (m + (i - (a + m))) = omega arith in
          let e : i ≡ a + m + (i - (a + m)) = omega arith in
          ap (λ (n : ℕ). get_or (put_mid a m xs ys) n z) f
          ∙ before (m + (i - (a + m)))
          ∙ ap (λ (n : ℕ). get_or (ys ++ drop m (drop a xs)) (n + (i - (a + m))) z) (sym long)
          ∙ get_or-append-add ys _ (i - (a + m)) z
          ∙ get_or-drop m (drop a xs) (i - (a + m)) z
          ∙ get_or-drop a xs (m + (i - (a + m))) z
          ∙ ap (λ (n : ℕ). get_or xs n z) (sym f);
    }
  where
    first : length (take a xs) ≡ a
    first = length-take-le a xs (omega arith)

    before : (k : ℕ) → get_or (put_mid a m xs ys) (a + k) z ≡ get_or (ys ++ drop m (drop a xs)) k z
    before k = ap (λ (n : ℕ). get_or (put_mid a m xs ys) (n + k) z) (sym first) ∙ get_or-append-add (take a xs) _ k z

-- what was lent from a up to e is put back
pub put-back : {A : Type 0} {z : A} (a e n : ℕ) (xs ys : List A) → e ≡ a + n → e ≤ length xs → length ys ≡ n → Stored z xs a n (λ k. get_or ys k z) (put_mid a (e - a) xs ys)
put-back a e n xs ys f fits long = let d : e - a ≡ n = omega arith in rw d (put-entries a n xs ys (omega arith) long)

-- and holds what was copied into it
pub copied-back : {A : Type 0} {z : A} (a e : ℕ) (xs ys src : List A) → e ≡ a + length src → e ≤ length xs → ys ≡ src → Stored z xs a (length src) (λ k. get_or src k z) (put_mid a (e - a) xs ys)
copied-back a e xs ys src f fits same = rw same (put-back a e (length src) xs src f fits refl)

-- at the front
pub copied-front : {A : Type 0} {z : A} (n : ℕ) (xs ys src : List A) → length src ≡ n → n ≤ length xs → ys ≡ src → Stored z xs 0 (length src) (λ k. get_or src k z) (ys ++ drop n xs)
copied-front n xs ys src long fits same = rw (same, ← long) (put-entries 0 (length src) xs src (omega arith) refl)

-- to the end
pub rest-back : {A : Type 0} {z : A} (a : ℕ) (xs ys : List A) → a ≤ length xs → length ys ≡ length (take (length xs - a) (drop a xs)) → Stored z xs a (length xs - a) (λ k. get_or ys k z) (put_mid a (length xs - a) xs ys)
rest-back a xs ys fits long = put-back a (length xs) (length xs - a) xs ys (omega arith) (omega arith) (long ∙ rest-long a xs)

-- what `copy_within` leaves of the n entries from x up to b
pub stored-within :
    {A : Type 0} {z : A} {w w' : List A} {f : ℕ → A} (x b to n : ℕ) → b ≡ x + n → length w' ≡ length w → CopiedTo w w' x to (b - x) × SameBelow w w' to × SameFrom w w' (to + (b - x)) →
    ((k : ℕ) → k < n → get_or w (x + k) z ≡ f k) → Stored z w to n f w'
stored-within {z = z} {w} x b to n s e h g =
    record {
      long = e;
      inside = λ k l.
          let f : x + (to + k - to) ≡ x + k = omega arith in
          h.0 (to + k) z (omega arith) (omega arith) ∙ ap (λ (i : ℕ). get_or w i z) f ∙ g k l;
      below = λ i l. h.1 i z l;
      above = λ i l. h.2 i z (omega arith);
    }

-- whole numbers added to others in front of them
pub sum-stored : {w w' : List ℤ} {to x n : ℕ} → Summed (λ (a b r : ℤ). r ≡ a +ℤ b) w to x n w' → Stored (pos 0) w to n (λ k. ints w (to + k) +ℤ ints w (x + k)) w'
unfolding ints
sum-stored s = record { long = s.long; inside = s.inside (pos 0); below = s.below (pos 0); above = s.above (pos 0) }

pub take_within : (B m : ℕ) (l : List ℤ) → ((k : ℕ) → k < m → nat_abs (get_or l k (pos 0)) ≤ B) → Within B (take m l)
take_within B m l h = record { within = λ k. go k (dec_lt k m) }
  where
    go : (k : ℕ) → Dec (k < m) → nat_abs (get_or (take m l) k (pos 0)) ≤ B
    go k (yes p) = rw (get_or-take m l k (pos 0) p) (h k p)
    go k (no p) = rw (List·getD-eq-default (take m l) (pos 0) {n = k} (omega (arith, length-take m l))) (omega arith)
