-- The products that the sums gain: how the parts of the matrices that are lent make up the whole. Row i of a matrix with n columns lies from i n on.
--   row_in                 a row ends inside
--   Row, row_of            row i of a list that is filled row by row: it ends inside, and is as it was
--   column-row             column j is row j of the columns
--   eight-terms            the sums of SY where Y has 8 columns, by its columns
--   right-sums             row i of the sums of XS
--   in-s, block-long, block_row   a block of rows of Y and their words, for row i of SY
--   in-y, part-terms       a block as it lies in Y
use Rattle.lists.proofs.Kit.{◌∙◌, sym, ap, ap₂, List, ℕ, suc, arith, mul-le-mul_right, mul_comm, mod-lt, digits_div}
use Rattle.std.proofs.Common.{◌≡◌, ◌+◌, ◌*◌, ◌-◌, ◌/◌, ◌%◌, ◌<◌, ◌≤◌}
use Rattle.lists.proofs.Kit.{digits_mod, digits_lt, length, get_or, take, drop}
use Rattle.numbers.specs.Sum.{sum_ℕ}
use Rattle.numbers.proofs.Sums.{natural, sum-ext}
use Rattle.lists.specs.Entries.{tab}
use Rattle.lists.proofs.{Entries.tab-at, Entries.tab-ext, Parts.slice-long, Parts.slice_at, Fill.Filled, Fill.fill-rest}
use Rattle.matrix.specs.{Steps.turned, Steps.dot_term, Steps.block_term, Steps.part_term, Steps.block_gained, Words.gained, Words.right_term, Words.left_term}

pub row_in : (r n i : ℕ) → i < r → i * n + n ≤ r * n
row_in r n i h = let m : suc i * n ≤ r * n = mul-le-mul_right n h in omega arith

pub record Row (n i : ℕ) (d out : List ℕ) : Type 0 where
  pub first : i * n + n ≤ length d
  pub room : i * n + n ≤ length out
  pub same : take (i * n + n - i * n) (drop (i * n) out) ≡ take (i * n + n - i * n) (drop (i * n) d)

pub row_of : {f : ℕ → ℕ} {d out : List ℕ} (r n i : ℕ) → Filled f d out (i * n) → r * n ≤ length d → i < r → Row n i d out
row_of r n i h l p =
    let e = row_in r n i p in
    record { first = omega arith; room = omega (arith, h.long); same = ap (take (i * n + n - i * n)) (fill-rest h) }

pub column-row : (f : ℕ → ℕ) (n m j : ℕ) → m ≡ n → tab m (λ t. f (t * 8 + j)) ≡ tab n (λ t. f ((j * n + t) % n * 8 + (j * n + t) / n))
column-row f n m j e =
    ap (λ (k : ℕ). tab k (λ t. f (t * 8 + j))) e ∙ tab-ext n _ _ (λ t p. ap₂ (λ (a b : ℕ). f (a * 8 + b)) (sym (digits_mod j p)) (sym (digits_div j p)))

turned-at : (n : ℕ) (y : List ℕ) (j t : ℕ) → j < 8 → t < n → get_or (turned n y) (j * n + t) 0 ≡ get_or y (t * 8 + j) 0
unfolding turned
turned-at n y j t p l =
    tab-at (8 * n) _ (j * n + t) 0 (digits_lt p l) ∙ ap₂ (λ (a b : ℕ). get_or y (a * 8 + b) 0) (digits_mod j l) (digits_div j l)

-- the sums of SY, by the columns of Y
pub eight-terms :
    (m n : ℕ) (s y ws : List ℕ) {cols x : List ℕ} → cols ≡ turned n y → x ≡ gained m n (right_term n s cols) ws →
    x ≡ gained m n (left_term n 8 s y) ws
unfolding gained right_term left_term
eight-terms m n s y ws c o =
    o
    ∙ rw c
    (tab-ext (length ws) _ _
    (λ k p.
    ap (λ (z : ℕ). (get_or ws k 0 + z) % m)
    (sum-ext natural n _ _
    (λ t l.
    mul_comm (get_or s (k / 8 * n + t) 0) _
    ∙ ap (λ (z : ℕ). z * get_or s (k / 8 * n + t) 0) (turned-at n y (k % 8) t (mod-lt k (omega arith)) l)))))

module _ (n i : ℕ) (x cols : List ℕ) where
  -- row i of X with column j
  dot-terms : (j : ℕ) → j < 8 → sum_ℕ n (dot_term n (take (i * n + n - i * n) (drop (i * n) x)) cols j) ≡ sum_ℕ n (right_term n x cols (i * 8 + j))
  unfolding dot_term right_term
  dot-terms j p =
      sum-ext natural n _ _
      (λ t l.
      ap₂ (λ (a b : ℕ). a * b)
      (slice_at (i * n) n x 0 t l ∙ ap (λ (k : ℕ). get_or x (k * n + t) 0) (sym (digits_div i p)))
      (ap (λ (k : ℕ). get_or cols (k * n + t) 0) (sym (digits_mod i p))))

  pub right-sums :
      (sums l : List ℕ) → i * 8 + 8 ≤ length sums → l ≡ take (i * 8 + 8 - i * 8) (drop (i * 8) sums) → {p : List ℕ} →
      p ≡ gained 65536 n (dot_term n (take (i * n + n - i * n) (drop (i * n) x)) cols) l →
      p ≡ tab 8 (λ j. (get_or sums (i * 8 + j) 0 + sum_ℕ n (right_term n x cols (i * 8 + j))) % 65536)
  unfolding gained
  right-sums sums l h d o =
      o
      ∙ rw d
      (ap (λ (k : ℕ). tab k (λ j. (get_or (take (i * 8 + 8 - i * 8) (drop (i * 8) sums)) j 0 + sum_ℕ n (dot_term n (take (i * n + n - i * n) (drop (i * n) x)) cols j)) % 65536))
      (slice-long (i * 8) 8 sums h)
      ∙ tab-ext 8 _ _ (λ j p. ap₂ (λ (z s : ℕ). (z + s) % 65536) (slice_at (i * 8) 8 sums 0 j p) (dot-terms j p)))

-- the block y of m rows, from row t of Y on, into row i of the 8 rows of sums
module _ (n c t m : ℕ) (s y : List ℕ) (hs : length s ≡ 8 * n) (b : t + m ≤ n) (hy : length y ≡ m * c) (i : ℕ) (r : i < 8) where
  pub in-s : i * n + t + m ≤ length s
  in-s = omega (arith, row_in 8 n i r, hs, b)

  module _ (sums l : List ℕ) (h : length sums ≡ 8 * c) (d : l ≡ take (i * c + c - i * c) (drop (i * c) sums)) where
    wide : length l ≡ c
    wide = rw d (slice-long (i * c) c sums (rw h (row_in 8 c i r)))

    pub block-long : length y ≡ length (take (i * n + t + m - (i * n + t)) (drop (i * n + t) s)) * length l
    block-long = rw (slice-long (i * n + t) m s in-s, wide) hy

    pub block_row : {p : List ℕ} → p ≡ block_gained (take (i * n + t + m - (i * n + t)) (drop (i * n + t) s)) y l
        → p ≡ tab c (λ j. (get_or sums (i * c + j) 0 + sum_ℕ m (part_term n c t s y (i * c + j))) % 65536)
    unfolding block_gained gained block_term part_term
    block_row e =
        e
        ∙ rw (wide, slice-long (i * n + t) m s in-s)
        (tab-ext c _ _
        (λ j p.
        ap₂ (λ (z x : ℕ). (z + x) % 65536)
        (ap (λ (k : List ℕ). get_or k j 0) d ∙ slice_at (i * c) c sums 0 j p)
        (sum-ext natural m _ _
        (λ u g.
        let e : i * n + t + u ≡ i * n + (t + u) = omega arith in
        ap₂ (λ (a b : ℕ). a * b)
        (ap (λ (k : ℕ). get_or y (u * c + k) 0) (sym (digits_mod i p)))
        (slice_at (i * n + t) m s 0 u g ∙ ap (λ (k : ℕ). get_or s k 0) e ∙ ap (λ (k : ℕ). get_or s (k * n + (t + u)) 0) (sym (digits_div i p)))))))

module _ (n c t m : ℕ) (s y : List ℕ) (f : length y ≡ c * n) (b : t + m ≤ n) where
  pub in-y : t * c + m * c ≤ length y
  in-y = omega (arith, mul-le-mul_right c b, f)

  pub part-terms :
      (ws : List ℕ) → length ws ≡ 8 * c → {l : List ℕ} → l ≡ gained 65536 m (part_term n c t s (take (t * c + m * c - t * c) (drop (t * c) y))) ws →
      l ≡ gained 65536 m (λ k u. left_term n c s y k (t + u)) ws
  unfolding gained part_term left_term
  part-terms ws h o =
      o
      ∙ tab-ext (length ws) _ _
      (λ k l.
      ap (λ (x : ℕ). (get_or ws k 0 + x) % 65536)
      (sum-ext natural m _ _
      (λ u g.
      let j : k % c < c = mod-lt k (omega arith) in
      let a : t * c + (u * c + k % c) ≡ (t + u) * c + k % c = omega arith in
      ap (λ (x : ℕ). x * get_or s (k / c * n + (t + u)) 0)
      (slice_at (t * c) (m * c) y 0 (u * c + k % c) (digits_lt g j) ∙ ap (λ (x : ℕ). get_or y x 0) a))))
