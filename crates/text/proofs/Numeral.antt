-- Decimal digits and the number that they make, both ways.
--   Numeral ds n    ds are the digits of n, highest first and no leading zero unless 0
--   made, made-length   the digits that `digits_up_to` makes
--   only, enough    there are no others, however many are allowed
--   decimal-length  a number below 10^k has at most k
--   value           what they are read as
--   small           k digits make a number below 10^k
--   some, runs, front   at least one; a text that begins with them begins with no more; a leading zero stands alone
--   taken           the digits that a well-formed text begins with
use Rattle.lists.proofs.Kit.{refl, ◌∙◌, ap, subst, Bool, true, false, cond, List, [], append_assoc, append-nil, ℕ, zero, suc}
use Rattle.std.proofs.Common.{◌≡◌, ◌∷◌, ◌++◌, ◌+◌, ◌*◌, ◌-◌, ◌/◌, ◌%◌, ◌^◌, ◌≤◌, ◌<◌}
use Rattle.lists.proofs.Kit.{dec_lt, not-suc-le-zero, pow-succ', zero-add, add-one, arith, leb, ltb, length, get_or, take, length-append}
use Rattle.lists.proofs.Kit.{leb-true, lt-ltb, le-ltb, le-leb}
use Rattle.lists.specs.First.{first_where, both}
use Rattle.text.specs.Text.{digits_up_to, decimal, is_digit_lem, not_digit_lem, run, value_of}
use Rattle.text.proofs.Reading.{Formed}

differ : true ≡ false → ⊥
differ e = let z : ◌≡◌ {A = ℕ} 0 1 = cc in omega arith

pub data Numeral : List ℕ → ℕ → Type 0 where
  one : (d : ℕ) → d < 10 → Numeral ((48 + d) ∷ []) d
  more : {ds : List ℕ} {n : ℕ} (d : ℕ) → Numeral ds n → 0 < n → d < 10 → Numeral (ds ++ (48 + d) ∷ []) (10 * n + d)

-- ---- from a number

pub made : (k n : ℕ) → n < 10 ^ suc k → Numeral (digits_up_to (suc k) n) n
unfolding digits_up_to
made zero n h = rw (lt-ltb n 10 h) (one n h)
made (suc k) n h = go (made k (n / 10) (omega (arith, pow-succ' 10 (suc k)))) (dec_lt n 10)
  where
    go : Numeral (digits_up_to (suc k) (n / 10)) (n / 10) → Dec (n < 10) → Numeral (digits_up_to (suc (suc k)) n) n
    go r (yes l) = rw (lt-ltb n 10 l) (one n l)
    go r (no l) =
        let e : 10 * (n / 10) + n % 10 ≡ n = omega arith in
        rw (le-ltb n 10 (omega arith)) (subst (Numeral (digits_up_to (suc k) (n / 10) ++ (48 + n % 10) ∷ [])) e (more (n % 10) r (omega arith) (omega arith)))

pub made-length : (k n : ℕ) → length (digits_up_to k n) ≤ k
unfolding digits_up_to
made-length zero n = omega arith
made-length (suc k) n = go (ltb n 10) (made-length k (n / 10))
  where
    go : (t : Bool) → length (digits_up_to k (n / 10)) ≤ k → length (cond t ((48 + n) ∷ []) (digits_up_to k (n / 10) ++ (48 + n % 10) ∷ [])) ≤ suc k
    go true r = omega arith
    go false r = rw length-append (omega arith)

pub only : {ds : List ℕ} {n : ℕ} → Numeral ds n → (k : ℕ) → length ds ≤ k → digits_up_to k n ≡ ds
unfolding digits_up_to
only (one d h) zero l = absurd (not-suc-le-zero l)
only (one d h) (suc k) l = rw (lt-ltb d 10 h)
only (more {ds} d r p h) zero l = absurd (omega (arith, length-append ds ((48 + d) ∷ [])))
only (more {ds} {n} d r p h) (suc k) l =
    let q : (10 * n + d) / 10 ≡ n = omega arith in
    let m : (10 * n + d) % 10 ≡ d = omega arith in
    rw (le-ltb (10 * n + d) 10 (omega arith), q, m) (ap (λ (s : List ℕ). s ++ (48 + d) ∷ []) (only r k (omega (arith, length-append ds ((48 + d) ∷ [])))))

-- no more digits than are needed
pub enough : (k m n : ℕ) → n < 10 ^ suc k → suc k ≤ m → digits_up_to m n ≡ digits_up_to (suc k) n
enough k m n h l = only (made k n h) m (omega (arith, made-length (suc k) n))

pub decimal-length : (k n : ℕ) → n < 10 ^ suc k → suc k ≤ 20 → length (decimal n) ≤ suc k
unfolding decimal
decimal-length k n h l = rw (enough k 20 n h l) (made-length (suc k) n)

-- ---- what they are

value-last : (ds : List ℕ) (c m : ℕ) → value_of (ds ++ c ∷ []) m ≡ 10 * value_of ds m + (c - 48)
unfolding value_of
value-last [] c m = refl
value-last (x ∷ ds) c m = value-last ds c (10 * m + (x - 48))

pub value : {ds : List ℕ} {n : ℕ} → Numeral ds n → value_of ds 0 ≡ n
unfolding value_of
value (one d h) = omega arith
value (more {ds} {n} d r p h) = value-last ds (48 + d) 0 ∙ omega (arith, value r)

pub small : {ds : List ℕ} {n : ℕ} → Numeral ds n → n < 10 ^ length ds
small (one d h) = h
small (more {ds} {n} d r p h) = rw (length-append ds ((48 + d) ∷ []), add-one, pow-succ') (omega (arith, small r))

pub some : {ds : List ℕ} {n : ℕ} → Numeral ds n → 1 ≤ length ds
some (one d h) = omega arith
some (more {ds} d r p h) = rw (length-append ds ((48 + d) ∷ [])) (omega arith)

is_digit : (d : ℕ) → d < 10 → not_digit_lem (48 + d) ≡ false
unfolding not_digit_lem is_digit_lem
is_digit d h = rw (le-leb 48 (48 + d) (omega arith), le-leb (48 + d) 57 (omega arith))

digit-is : (x : ℕ) → not_digit_lem x ≡ false → (48 ≤ x) × (x ≤ 57)
unfolding not_digit_lem is_digit_lem
digit-is x e = go (leb 48 x) (leb x 57) refl refl e
  where
    go : (s t : Bool) → leb 48 x ≡ s → leb x 57 ≡ t → cond (both s t) false true ≡ false → (48 ≤ x) × (x ≤ 57)
    go true true a b e = (leb-true 48 x a, leb-true x 57 b)
    go true false a b e = absurd (differ e)
    go false t a b e = absurd (differ e)

pub runs : {ds : List ℕ} {n : ℕ} → Numeral ds n → (ys : List ℕ) → run (ds ++ ys) ≡ length ds + run ys
unfolding run first_where
runs (one d h) ys = rw (is_digit d h) (omega arith)
runs (more {ds} d r p h) ys =
    rw (append_assoc ds ((48 + d) ∷ []) ys, length-append ds ((48 + d) ∷ []))
    (runs r ((48 + d) ∷ ys) ∙ rw (is_digit d h) (omega arith))

no_zero : {ds : List ℕ} {n : ℕ} → Numeral ds n → 0 < n → (ys : List ℕ) → get_or (ds ++ ys) 0 0 ≡ 48 → ⊥
no_zero (one d h) p ys e = omega arith
no_zero (more {ds} d r p h) q ys e = no_zero r p ((48 + d) ∷ ys) (rw (append_assoc ds ((48 + d) ∷ []) ys) at e)

pub front : {ds : List ℕ} {n : ℕ} → Numeral ds n → (ys : List ℕ) → get_or (ds ++ ys) 0 0 ≡ 48 → length ds ≡ 1
front (one d h) ys e = refl
front (more {ds} d r p h) ys e = absurd (no_zero r p ((48 + d) ∷ ys) (rw (append_assoc ds ((48 + d) ∷ []) ys) at e))

-- ---- from a text

-- a digit, and one digit more, where the byte x is one
first : (x : ℕ) → not_digit_lem x ≡ false → Numeral (x ∷ []) (x - 48)
first x e =
    let b = digit-is x e in
    let s : 48 + (x - 48) ≡ x = omega (arith, b) in
    subst (λ (y : ℕ). Numeral (y ∷ []) (x - 48)) s (one (x - 48) (omega (arith, b)))

longer : {ds : List ℕ} {n : ℕ} (x : ℕ) → Numeral ds n → 0 < n → not_digit_lem x ≡ false → Numeral (ds ++ x ∷ []) (10 * n + (x - 48))
longer {ds} {n} x r p e =
    let b = digit-is x e in
    let s : 48 + (x - 48) ≡ x = omega (arith, b) in
    subst (λ (y : ℕ). Numeral (ds ++ y ∷ []) (10 * n + (x - 48))) s (more (x - 48) r p (omega (arith, b)))

grown : (xs ds : List ℕ) (n : ℕ) → Numeral ds n → 0 < n → Numeral (ds ++ take (run xs) xs) (value_of (take (run xs) xs) n)
unfolding run first_where value_of
grown [] ds n r p = rw append-nil r
grown (x ∷ xs) ds n r p = go (not_digit_lem x) refl (grown xs)
  where
    go : (t : Bool) → not_digit_lem x ≡ t → ((es : List ℕ) (m : ℕ) → Numeral es m → 0 < m → Numeral (es ++ take (run xs) xs) (value_of (take (run xs) xs) m))
        → Numeral (ds ++ take (cond t zero (suc (run xs))) (x ∷ xs)) (value_of (take (cond t zero (suc (run xs))) (x ∷ xs)) n)
    go true e h = rw append-nil r
    go false e h = rw append_assoc at (h (ds ++ x ∷ []) (10 * n + (x - 48)) (longer x r p e) (omega arith))

pub taken : (xs : List ℕ) → Formed xs → Numeral (take (run xs) xs) (value_of (take (run xs) xs) 0)
unfolding run first_where value_of
taken [] f = absurd (not-suc-le-zero f.some)
taken (x ∷ xs) f = go (not_digit_lem x) refl f.some f.plain
  where
    go : (t : Bool) → not_digit_lem x ≡ t → 1 ≤ cond t zero (suc (run xs)) → (x ≡ 48 → cond t zero (suc (run xs)) ≡ 1)
        → Numeral (take (cond t zero (suc (run xs))) (x ∷ xs)) (value_of (take (cond t zero (suc (run xs))) (x ∷ xs)) 0)
    go true e s z = absurd (not-suc-le-zero s)
    go false e s z = lead (dec_lt 48 x)
      where
        lead : Dec (48 < x) → Numeral (x ∷ take (run xs) xs) (value_of (take (run xs) xs) (0 + (x - 48)))
        lead (yes l) = rw (zero-add (x - 48)) (grown xs (x ∷ []) (x - 48) (first x e) (omega arith))
        lead (no l) =
            let o : x ≡ 48 = omega (arith, digit-is x e) in
            let r : run xs ≡ 0 = omega (arith, z o) in
            rw (r, o) (one 0 (omega arith))
