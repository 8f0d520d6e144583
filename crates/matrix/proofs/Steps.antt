-- Sums of words that start as the noise, gain products and are reduced once: what XS + E, SY + E and US have in common. Words wrap at m, a multiple of q.
--   words-length, words-at     secrets or noise as words: how many, and an entry
--   gained-length, gained-at, gained-none   a list of sums: its length, its entries, and with no product yet
--   wrapped, gain-next, gained-next, gained-more   a sum that wrapped before it gained; one product more for a sum; for each; n more
--   on-zeros                   sums that start as zeros and are added at the end
--   reduced-gained, steps-are  from the noise to the remainders, by place; in three steps
--   mixed                      they are those of the whole sums, by row and column
use Rattle.lists.proofs.Kit.{refl, ◌∙◌, sym, ap, List, ℕ, arith, mod-add-mod, mod-eq_of_lt, div-add-mod', add-one, length, get_or}
use Rattle.std.proofs.Common.{◌≡◌, ◌+◌, ◌*◌, ◌/◌, ◌%◌, ◌<◌, ◌+ℤ◌, ◌*ℤ◌}
use Rattle.lists.proofs.Kit.{replicate, length-replicate, ℤ, pos, +ℤ_comm}
use Rattle.numbers.specs.{Sum.sum, Sum.sum_ℕ, Sum.sum_ℤ, Residue.residue, Congruence.◌≅⟨◌⟩◌}
use Rattle.numbers.proofs.Congruence.{finer-≅, eq-≅, ◌⨾◌, add-≅, sum-≅, mod-≅, residue-≅, same-residue}
use Rattle.numbers.proofs.Sums.{natural, sum-split, pos_sum}
use Rattle.lists.specs.Entries.{tab, ints}
use Rattle.lists.proofs.{Entries.tab-length, Entries.tab-at, Entries.tab-ext, Entries.tab-getD, Same.equal-all}
use Rattle.matrix.specs.{Matrix.times, Matrix.rows, Matrix.ints_at, Words.words_of, Words.gained, Words.reduced}

pub words-length : (m : ℕ) (zs : List ℤ) → length (words_of m zs) ≡ length zs
unfolding words_of
words-length m zs = tab-length (length zs) _

pub words-at : (m : ℕ) (zs : List ℤ) (k : ℕ) → k < length zs → get_or (words_of m zs) k 0 ≡ residue m (ints zs k)
unfolding words_of
words-at m zs k p = tab-at (length zs) _ k 0 p

-- ---- products

pub gained-length : (m : ℕ) (n : ℕ) (f : ℕ → ℕ → ℕ) (ws : List ℕ) → length (gained m n f ws) ≡ length ws
unfolding gained
gained-length m n f ws = tab-length (length ws) _

pub gained-at : (m : ℕ) (n : ℕ) (f : ℕ → ℕ → ℕ) (ws : List ℕ) (k : ℕ) → k < length ws → get_or (gained m n f ws) k 0 ≡ (get_or ws k 0 + sum_ℕ n (f k)) % m
unfolding gained
gained-at m n f ws k p = tab-at (length ws) _ k 0 p

pub gained-none : (m : ℕ) (f : ℕ → ℕ → ℕ) (ws : List ℕ) → ((k : ℕ) → get_or ws k 0 < m) → gained m 0 f ws ≡ ws
unfolding gained sum
gained-none m f ws b = tab-ext (length ws) _ _ (λ k p. ap (λ (x : ℕ). x % m) (omega arith) ∙ mod-eq_of_lt (b k)) ∙ tab-getD ws 0

pub wrapped : (m : ℕ) (z s x : ℕ) → ((z + s) % m + x) % m ≡ (z + (s + x)) % m
wrapped m z s x = mod-add-mod (z + s) m x ∙ ap (λ (k : ℕ). k % m) (omega arith)

pub gain-next : (m : ℕ) (t z : ℕ) (f : ℕ → ℕ) → ((z + sum_ℕ t f) % m + f t) % m ≡ (z + sum_ℕ (t + 1) f) % m
unfolding sum
gain-next m t z f = rw add-one (wrapped m z (sum_ℕ t f) (f t))

-- of sums l that have gained t products
pub gained-next : (m : ℕ) (t n : ℕ) (f : ℕ → ℕ → ℕ) (ws : List ℕ) {l x : List ℕ} → length ws ≡ n → l ≡ gained m t f ws
    → x ≡ tab n (λ k. (get_or l k 0 + f k t) % m) → x ≡ gained m (t + 1) f ws
unfolding gained
gained-next m t n f ws s e d =
    d
    ∙ rw (e, ← s)
    (tab-ext (length ws) _ _ (λ k p. ap (λ (z : ℕ). (z + f k t) % m) (gained-at m t f ws k p) ∙ gain-next m t (get_or ws k 0) (f k)))

pub gained-more : (m : ℕ) (t n : ℕ) (f : ℕ → ℕ → ℕ) (ws : List ℕ) {l x : List ℕ} → l ≡ gained m t f ws → x ≡ gained m n (λ k u. f k (t + u)) l
    → x ≡ gained m (t + n) f ws
unfolding gained
gained-more m t n f ws e d =
    d
    ∙ ap (gained m n (λ k u. f k (t + u))) e
    ∙ ap (λ (l : ℕ). tab l (λ k. (get_or (gained m t f ws) k 0 + sum_ℕ n (λ u. f k (t + u))) % m)) (gained-length m t f ws)
    ∙ tab-ext (length ws) _ _
    (λ k p.
    ap (λ (z : ℕ). (z + sum_ℕ n (λ u. f k (t + u))) % m) (gained-at m t f ws k p)
    ∙ wrapped m (get_or ws k 0) (sum_ℕ t (f k)) (sum_ℕ n (λ u. f k (t + u)))
    ∙ ap (λ (z : ℕ). (get_or ws k 0 + z) % m) (sym (sum-split natural t n (f k))))

-- on sums l of their own, which start as zeros and are added at the end
pub on-zeros : (m n r : ℕ) (f : ℕ → ℕ → ℕ) (ws : List ℕ) {l x : List ℕ} → length ws ≡ r → l ≡ gained m n f (replicate r 0)
    → x ≡ tab (length ws) (λ k. (get_or ws k 0 + get_or l k 0) % m) → x ≡ gained m n f ws
unfolding gained
on-zeros m n r f ws {l} s e d =
    d
    ∙ tab-ext (length ws) _ _
    (λ k p.
    let z : get_or (replicate r 0) k 0 ≡ 0 = equal-all (λ (y : ℕ). y ≡ 0) 0 r refl k in
    let j : k < length (replicate {A = ℕ} r 0) = rw (length-replicate {A = ℕ} r 0) (rw s at p) in
    let a : get_or l k 0 ≡ (0 + sum_ℕ n (f k)) % m =
    ap (λ (y : List ℕ). get_or y k 0) e ∙ gained-at m n f (replicate r 0) k j ∙ ap (λ (y : ℕ). (y + sum_ℕ n (f k)) % m) z
    in
    let b : get_or ws k 0 + (0 + sum_ℕ n (f k)) % m ≡ (0 + sum_ℕ n (f k)) % m + get_or ws k 0 = omega arith in
    let c : 0 + (sum_ℕ n (f k) + get_or ws k 0) ≡ get_or ws k 0 + sum_ℕ n (f k) = omega arith in
    ap (λ (y : ℕ). (get_or ws k 0 + y) % m) a
    ∙ ap (λ (y : ℕ). y % m) b
    ∙ wrapped m 0 (sum_ℕ n (f k)) (get_or ws k 0)
    ∙ ap (λ (y : ℕ). y % m) c)

-- ---- from the noise e to the remainders

reduced-gained : (m : ℕ) (q n : ℕ) (f : ℕ → ℕ → ℕ) (e : List ℤ)
    → reduced q (gained m n f (words_of m e)) ≡ tab (length e) (λ k. (residue m (ints e k) + sum_ℕ n (f k)) % m % q)
unfolding reduced
reduced-gained m q n f e =
    ap (λ (l : ℕ). tab l (λ k. get_or (gained m n f (words_of m e)) k 0 % q)) (gained-length m n f (words_of m e) ∙ words-length m e)
    ∙ tab-ext (length e) _ _
    (λ k p.
    ap (λ (x : ℕ). x % q)
    (gained-at m n f (words_of m e) k (rw (words-length m e) p) ∙ ap (λ (x : ℕ). (x + sum_ℕ n (f k)) % m) (words-at m e k p)))

-- sums l that start as the noise, m with n products more, and out, their remainders
pub steps-are : (m : ℕ) (q n : ℕ) (f : ℕ → ℕ → ℕ) (e : List ℤ) {l x out : List ℕ} → l ≡ words_of m e → x ≡ gained m n f l → out ≡ reduced q x
    → out ≡ reduced q (gained m n f (words_of m e))
steps-are m q n f e s g d = d ∙ ap (reduced q) (g ∙ ap (gained m n f) s)

-- a remainder of words is that of whole numbers which they are modulo m, a multiple of q
module _ (m q n : ℕ) (o : 0 < q) (some : 0 < m) (w : m % q ≡ 0) where
  sum-≅-words : (z : ℤ) (f : ℕ → ℕ) (g : ℕ → ℤ) → ((t : ℕ) → t < n → pos (f t) ≅⟨ m ⟩ g t)
      → pos ((residue m z + sum_ℕ n f) % m) ≅⟨ q ⟩ z +ℤ sum_ℤ n g
  sum-≅-words z f g h =
      finer-≅ w (mod-≅ m (residue m z + sum_ℕ n f) ⨾ add-≅ (residue-≅ m z some) (eq-≅ (pos_sum n f) ⨾ sum-≅ n _ g h))

  total : (z : ℤ) (f : ℕ → ℕ) (g : ℕ → ℤ) → ((t : ℕ) → t < n → pos (f t) ≅⟨ m ⟩ g t)
      → (residue m z + sum_ℕ n f) % m % q ≡ residue q (z +ℤ sum_ℤ n g)
  unfolding residue
  total z f g h = same-residue o (sum-≅-words z f g h)

  pub mixed :
      (r c : ℕ) (f : ℕ → ℕ → ℕ) (a b : ℕ → ℕ → ℤ) (e : List ℤ) → length e ≡ r * c →
      ((k t : ℕ) → k < r * c → t < n → pos (f k t) ≅⟨ m ⟩ a (k / c) t *ℤ b t (k % c)) →
      reduced q (gained m n f (words_of m e)) ≡ rows r c (λ i j. residue q (times n a b i j +ℤ ints_at c e i j))
  unfolding rows times ints_at
  mixed r c f a b e d h =
      reduced-gained m q n f e
      ∙ ap (λ (l : ℕ). tab l (λ k. (residue m (ints e k) + sum_ℕ n (f k)) % m % q)) d
      ∙ tab-ext (r * c) _ _
      (λ k p.
      total (ints e k) (f k) _ (λ t l. h k t p l)
      ∙ ap (residue q)
      (+ℤ_comm (ints e k) _ ∙ ap (λ (i : ℕ). sum_ℤ n (λ t. a (k / c) t *ℤ b t (k % c)) +ℤ ints e i) (sym (div-add-mod' k c))))
