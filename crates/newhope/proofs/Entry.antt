-- One entry of a group: how its term under a hint depends on the hint and on the entry.
--   term-same        the term depends on c modulo 8 alone
--   named            the c that the hint names is 2 p + k, and 4 more exactly where p3 is 2 or 3
--   moved            another entry in place of x: the term changes by at most 8 times the distance
--   opposite         the terms of c and of c + 4 sum to half of the circle at least
--   own-up, own-down   the replier's own term: at most 2 |2X - q_p| + 4b where k is 0, q - 2 |2X - q_p| + 4b where it is 1
--   off-half, up-five, down-five   |2X - q_p| is at most half of q; P and Q are below 5
use Rattle.lists.proofs.Kit.{refl, ◌∙◌, ap, ℕ, arith, dec_lt, ℤ, pos, neg_ℤ}
use Rattle.std.proofs.Common.{◌≡◌, ◌+◌, ◌*◌, ◌-◌, ◌/◌, ◌%◌, ◌<◌, ◌≤◌, ◌+ℤ◌, ◌-ℤ◌, ◌*ℤ◌}
use lib.{IntN.-ℤ-+ℤ_cancel}
use Rattle.numbers.specs.{Residue.residue, Residue.nearest, Residue.distance, Residue.apart, Congruence.◌≅⟨◌⟩◌}
use Rattle.numbers.proofs.Congruence.{refl-≅, eq-≅, ◌⨾◌, add-≅, sub-≅, scale-≅, residue-≅, same-mod, multiples-≅}
use Rattle.numbers.proofs.Nearest.{distance-≤, distance-same, distance-neg, distance-add, distance-scale}
use Rattle.numbers.proofs.{Difference.as-diff, Difference.diff-≡, Difference.diffs, Size.abs-difference}
use Rattle.newhope.specs.Group.{q, up_of, down_of, off_of, term_of}

-- ---- the hint

pub term-same : {c d : ℕ} (x : ℕ) → pos c ≅⟨ 8 ⟩ pos d → term_of c x ≡ term_of d x
unfolding term_of apart
term-same x f = distance-same (8 * q) (omega arith) (sub-≅ (refl-≅ (pos (8 * x))) (scale-≅ q f))

-- p - r, modulo 4
less-mod : (p r : ℕ) → (residue 4 (pos p -ℤ pos r) + r) % 4 ≡ p % 4
less-mod p r = same-mod (omega arith) (add-≅ (residue-≅ 4 (pos p -ℤ pos r) (omega arith)) (refl-≅ (pos r)) ⨾ eq-≅ (-ℤ-+ℤ_cancel (pos p) (pos r)))

named-at : (l h p r k u w a : ℕ) → l + r ≡ 4 * u + p % 4 → p ≡ 4 * w + p % 4 → r ≡ 2 * a + r % 2 → h ≡ k + 2 * (r % 2)
    → pos (2 * l + h) ≅⟨ 8 ⟩ pos (2 * p + k + 4 * (a % 2))
named-at l h p r k u w a e f g i = multiples-≅ 8 (2 * l + h) (2 * p + k + 4 * (a % 2)) (w + a / 2 + a % 2) u (omega arith)

pub named : (k p r : ℕ) → k < 2 → pos (2 * residue 4 (pos p -ℤ pos r) + (k + 2 * r) % 4) ≅⟨ 8 ⟩ pos (2 * p + k + 4 * (r / 2 % 2))
named k p r h =
    let l = residue 4 (pos p -ℤ pos r) in
    named-at l ((k + 2 * r) % 4) p r k ((l + r) / 4) (p / 4) (r / 2) (omega (arith, less-mod p r)) (omega arith) (omega arith) (omega arith)

-- ---- another entry

group-move : (t x y z : ℤ) → t *ℤ y -ℤ z ≡ neg_ℤ (t *ℤ (x -ℤ y)) +ℤ (t *ℤ x -ℤ z)
group-move t x y z = rw (as-diff t, as-diff x, as-diff y, as-diff z) (simp diffs (diff-≡ _ _ _ _ (omega arith)))

pub moved : (c x y : ℕ) → term_of c y ≤ 8 * apart q x y + term_of c x
unfolding term_of apart
moved c x y =
    let d = pos 8 *ℤ (pos x -ℤ pos y) in
    let a = pos (8 * x) -ℤ pos (q * c) in
    rw (group-move (pos 8) (pos x) (pos y) (pos (q * c)))
    (omega (arith, distance-add (8 * q) (omega arith) (neg_ℤ d) a, distance-neg (8 * q) (omega arith) d, distance-scale 8 q (pos x -ℤ pos y) (omega arith) (omega arith)))

group-across : (x z t : ℤ) → t ≡ (x -ℤ z) +ℤ neg_ℤ (x -ℤ (z +ℤ t))
group-across x z t = rw (as-diff t, as-diff x, as-diff z) (simp diffs (diff-≡ _ _ _ _ (omega arith)))

half : distance (8 * q) (pos (4 * q)) ≡ 4 * q
unfolding distance nearest residue
half = refl

pub opposite : (c x : ℕ) → 4 * q ≤ term_of c x + term_of (c + 4) x
unfolding term_of apart
opposite c x =
    let a = pos (8 * x) -ℤ pos (q * c) in
    let d = pos (8 * x) -ℤ pos (q * (c + 4)) in
    let s : q * c + q * 4 ≡ q * (c + 4) = omega arith in
    let e : pos (4 * q) ≡ a +ℤ neg_ℤ d =
    group-across (pos (8 * x)) (pos (q * c)) (pos (q * 4)) ∙ ap (λ (n : ℕ). a +ℤ neg_ℤ (pos (8 * x) -ℤ pos n)) s in
    omega (arith, half, ap (distance (8 * q)) e, distance-add (8 * q) (omega arith) a (neg_ℤ d), distance-neg (8 * q) (omega arith) d)

-- ---- the replier's own

term-most : (c x : ℕ) → term_of c x ≤ (8 * x - q * c) + (q * c - 8 * x)
unfolding term_of apart
term-most c x = rw (← abs-difference (8 * x) (q * c)) (distance-≤ (8 * q) (omega arith) (refl-≅ (pos (8 * x) -ℤ pos (q * c))))

off-is : (b x : ℕ) → off_of b x ≡ (2 * (2 * x + b) - q * up_of b x) + (q * up_of b x - 2 * (2 * x + b))
unfolding off_of
off-is b x = abs-difference (2 * (2 * x + b)) (q * up_of b x)

pub own-up : (b x : ℕ) → term_of (2 * up_of b x + 0) x ≤ 2 * off_of b x + 4 * b
own-up b x = omega (arith, term-most (2 * up_of b x + 0) x, off-is b x)

pub own-down : (b x : ℕ) → term_of (2 * down_of b x + 1) x + 2 * off_of b x ≤ q + 4 * b
unfolding down_of up_of
own-down b x = go (dec_lt (2 * (2 * x + b)) (q * up_of b x))
  where
    go : Dec (2 * (2 * x + b) < q * up_of b x) → term_of (2 * down_of b x + 1) x + 2 * off_of b x ≤ q + 4 * b
    go (yes h) = let e : up_of b x ≡ down_of b x + 1 = omega arith in omega (arith, term-most (2 * down_of b x + 1) x, off-is b x)
    go (no h) = let e : up_of b x ≡ down_of b x = omega arith in omega (arith, term-most (2 * down_of b x + 1) x, off-is b x)

pub off-half : (b x : ℕ) → off_of b x ≤ 6144
unfolding up_of
off-half b x = omega (arith, off-is b x)

pub up-five : (b x : ℕ) → b < 2 → x < q → up_of b x < 5
unfolding up_of
up-five b x hb hx = omega arith

pub down-five : (b x : ℕ) → b < 2 → x < q → down_of b x < 5
unfolding down_of
down-five b x hb hx = omega arith
