-- What r rows of A, from row i on, bring to the sums: the words `held`.
--   gained-ext, gained-below   products that are equal; sums are words
--   one-row, one_block   a row of A by itself, for its eight sums; a block of rows, for all sums: as they lie, two words in each number
--   columns-row, columns-met   of S' only the columns that they meet
--   right-put, right-back   Offer: the 8 r sums of these rows are exchanged, and no other; as they lie, two in each number
--   left_is         Reply: of all rows of A it is these that meet something
use Rattle.lists.proofs.Kit.{◌≡◌, ◌∙◌, sym, ap, ap₂, List, ◌++◌, ℕ, ◌+◌, ◌*◌, ◌-◌, ◌/◌, ◌%◌, ◌<◌, ◌≤◌, arith, mul-le-mul_right, mod-eq_of_lt, mod-lt}
use Rattle.lists.proofs.Kit.{div-lt_iff_lt-mul, le-div_iff_mul-le, length, get_or, take, drop, digits_lt, digits_div, digits_mod}
use native.Mathlib.Nat.{mul-add-div_right, mul-add-mod_self_right}
use Rattle.numbers.specs.Sum.{sum_ℕ}
use Rattle.numbers.proofs.Sums.{natural, sum-ext, sum-none, sum-split}
use Rattle.lists.specs.{Entries.tab, Ranges.Below}
use Rattle.lists.proofs.{Entries.tab-ext, Entries.tab-at, Entries.tab-getD, Entries.below-tab, Parts.part-long, Parts.part_at, Parts.slice-long, Parts.slice_at}
use Rattle.matrix.specs.{Steps.part_term, Steps.columns_from, Words.gained, Words.right_term, Words.left_term}
use Rattle.matrix.proofs.Steps.{gained-length, gained-at}
use Rattle.parts.specs.Parts.{wrap, words, pairs, placed}
use Rattle.parts.proofs.Words.{words_long, words_append, words_take, words-drop, words-below, slice-words-long, slice-words-at, pairs-words, words-pairs}
use Rattle.parts.proofs.{Joining.placed-before, Joining.placed-in, Joining.placed-after, Put.put-tab}

-- ---- sums

gained-ext : (m r : ℕ) (f g : ℕ → ℕ → ℕ) (ws : List ℕ) → ((k u : ℕ) → u < r → f k u ≡ g k u) → gained m r f ws ≡ gained m r g ws
unfolding gained
gained-ext m r f g ws h = tab-ext (length ws) _ _ (λ k l. ap (λ (a : ℕ). (get_or ws k 0 + a) % m) (sum-ext natural r (f k) (g k) (h k)))

pub gained-below : (m n : ℕ) (f : ℕ → ℕ → ℕ) (ws : List ℕ) → 0 < m → Below m (gained m n f ws)
unfolding gained
gained-below m n f ws o = below-tab m (length ws) _ o (λ k l. mod-lt _ o)

-- ---- a row by itself

-- as it lies, two words in each number
pub one-row :
    (n h i : ℕ) (x cols sums l line : List ℕ) → n ≡ 2 * h → i * 8 + 8 ≤ length sums → l ≡ take (i * 8 + 8 - i * 8) (drop (i * 8) sums) →
    line ≡ words (take (i * h + h - i * h) (drop (i * h) x)) → {p : List ℕ} → p ≡ gained wrap n (right_term n line cols) l →
    p ≡ tab 8 (λ j. (get_or sums (i * 8 + j) 0 + sum_ℕ n (right_term n (words x) cols (i * 8 + j))) % wrap)
unfolding gained right_term
one-row n h i x cols sums l line two f d g o =
    let wide : length l ≡ 8 = ap length d ∙ slice-long (i * 8) 8 sums f in
    o
    ∙ ap (λ (k : ℕ). tab k (λ j. (get_or l j 0 + sum_ℕ n (λ t. get_or line (j / 8 * n + t) 0 * get_or cols (j % 8 * n + t) 0)) % wrap)) wide
    ∙ tab-ext 8 _ _
    (λ j p.
    ap₂ (λ (z s : ℕ). (z + s) % wrap)
    (ap (λ (k : List ℕ). get_or k j 0) d ∙ slice_at (i * 8) 8 sums 0 j p)
    (sum-ext natural n _ _
    (λ t q.
    let z : j / 8 ≡ 0 = omega arith in
    let e : j / 8 * n + t ≡ t = ap (λ (k : ℕ). k * n + t) z ∙ omega arith in
    let u : 2 * (i * h) + t ≡ i * n + t = rw two (omega arith) in
    ap₂ (λ (a b : ℕ). a * get_or cols (b * n + t) 0)
    (ap₂ (λ (k : List ℕ) (u : ℕ). get_or k u 0) g e
    ∙ slice-words-at (i * h) h x t (omega arith)
    ∙ ap (λ (k : ℕ). get_or (words x) k 0) u
    ∙ ap (λ (k : ℕ). get_or (words x) (k * n + t) 0) (sym (digits_div i p)))
    (mod-eq_of_lt p ∙ sym (digits_mod i p)))))

-- ---- a block of b rows, from row t on, as it lies

pub one_block :
    (m n h w t b : ℕ) (s x ws : List ℕ) {y z : List ℕ} → 0 < n → n ≡ 2 * h → y ≡ words (take (t * h + b * h - t * h) (drop (t * h) x)) →
    z ≡ gained m b (part_term w n t s y) ws → z ≡ gained m b (λ k u. part_term w n 0 s (words x) k (t + u)) ws
unfolding part_term
one_block m n h w t b s x ws {y} o two e d =
    d
    ∙ gained-ext m b _ _ ws
    (λ k u l.
    let room : u * n + k % n < b * n = digits_lt l (mod-lt k o) in
    let most : u * n + k % n < 2 * (b * h) = omega (arith, room, ap (λ (j : ℕ). b * j) two) in
    let a : 2 * (t * h) + (u * n + k % n) ≡ (t + u) * n + k % n = omega (arith, ap (λ (j : ℕ). t * j) two) in
    let c : t + u ≡ 0 + (t + u) = omega arith in
    ap₂ (λ (v r : ℕ). v * get_or s (k / n * w + r) 0)
    (ap (λ (q : List ℕ). get_or q (u * n + k % n) 0) e
    ∙ slice-words-at (t * h) (b * h) x (u * n + k % n) most
    ∙ ap (λ (j : ℕ). get_or (words x) j 0) a) c)

-- ---- the columns of S' that rows meet

-- as they lie, two in each number, in a row of 2 h words
pub columns-row : (h r c k : ℕ) (xs : List ℕ) → k * h + r + c ≤ length xs → {p : List ℕ}
    → p ≡ words (take (k * h + r + c - (k * h + r)) (drop (k * h + r) xs))
    → p ≡ tab (2 * c) (λ j. get_or (words xs) ((k * (2 * c) + j) / (2 * c) * (2 * h) + (2 * r + (k * (2 * c) + j) % (2 * c))) 0)
columns-row h r c k xs l {p} e =
    sym (tab-getD p 0)
    ∙ ap (λ (q : ℕ). tab q (λ j. get_or p j 0)) (slice-words-long (k * h + r) c xs l e)
    ∙ tab-ext (2 * c) _ _
    (λ j g.
    let a : 2 * (k * h + r) + j ≡ k * (2 * h) + (2 * r + j) = omega arith in
    ap (λ (q : List ℕ). get_or q j 0) e
    ∙ slice-words-at (k * h + r) c xs j g
    ∙ ap (λ (q : ℕ). get_or (words xs) q 0) a
    ∙ ap₂ (λ (u v : ℕ). get_or (words xs) (u * (2 * h) + (2 * r + v)) 0) (sym (digits_div k g)) (sym (digits_mod k g)))

pub columns-met : (m n i c : ℕ) (s y ws : List ℕ) → 0 < n → length ws ≡ 8 * n
    → gained m c (part_term c n 0 (columns_from n i c s) y) ws ≡ gained m c (part_term n n i s y) ws
unfolding gained part_term columns_from
columns-met m n i c s y ws o wide =
    tab-ext (length ws) _ _
    (λ k l.
    ap (λ (a : ℕ). (get_or ws k 0 + a) % m)
    (sum-ext natural c _ _
    (λ u g.
    let j : k / n < 8 = (div-lt_iff_lt-mul o).1 (omega arith) in
    let e : k / n * c + (0 + u) ≡ k / n * c + u = omega arith in
    ap (λ (z : ℕ). get_or y (u * n + k % n) 0 * z)
    (ap (λ (q : ℕ). get_or (tab (8 * c) (λ v. get_or s (v / c * n + (i + v % c)) 0)) q 0) e
    ∙ tab-at (8 * c) _ (k / n * c + u) 0 (digits_lt j g)
    ∙ ap₂ (λ (a b : ℕ). get_or s (a * n + (i + b)) 0) (digits_div (k / n) g) (digits_mod (k / n) g)))))

-- ---- r rows

module _ (n i r : ℕ) (held : List ℕ) (fits : i + r ≤ n) (long : length held ≡ r * n) where
  -- the entry at row t of them
  in_block : (t j : ℕ) → get_or (placed (i * n) held) ((i + t) * n + j) 0 ≡ get_or held (t * n + j) 0
  in_block t j =
      let e : (i + t) * n + j ≡ i * n + (t * n + j) = omega arith in
      ap (λ (k : ℕ). get_or (placed (i * n) held) k 0) e ∙ placed-in (i * n) held (t * n + j)

  above : (t j : ℕ) → t < i → j < n → get_or (placed (i * n) held) (t * n + j) 0 ≡ 0
  above t j h l = placed-before (i * n) held (t * n + j) (omega (arith, mul-le-mul_right n h))

  below : (t j : ℕ) → i + r ≤ t → get_or (placed (i * n) held) (t * n + j) 0 ≡ 0
  below t j h = placed-after (i * n) held (t * n + j) (omega (arith, mul-le-mul_right n h))

  -- ---- Offer

  right-here : (cols : List ℕ) (j t : ℕ) → right_term n (placed (i * n) held) cols (i * 8 + j) t ≡ right_term n held cols j t
  unfolding right_term
  right-here cols j t =
      let d : (i * 8 + j) / 8 ≡ i + j / 8 = mul-add-div_right (omega arith) i j in
      let e : (i * 8 + j) % 8 ≡ j % 8 = mul-add-mod_self_right i 8 j in
      ap₂ (λ (a b : ℕ). get_or (placed (i * n) held) (a * n + t) 0 * get_or cols (b * n + t) 0) d e
      ∙ ap (λ (a : ℕ). a * get_or cols (j % 8 * n + t) 0) (in_block (j / 8) t)

  module _ (m : ℕ) (cols su x : List ℕ) (wide : length su ≡ 8 * n) (b : Below m su)
      (e : x ≡ gained m n (right_term n held cols) (take (8 * r) (drop (i * 8) su))) where
    room : i * 8 + 8 * r ≤ length su
    room = omega arith

    x-long : length x ≡ 8 * r
    x-long = ap length e ∙ gained-length m _ _ _ ∙ part-long (i * 8) (8 * r) su room

    -- where the rows bring nothing
    same : (k : ℕ) → ((t : ℕ) → t < n → get_or (placed (i * n) held) (k / 8 * n + t) 0 ≡ 0)
        → get_or su k 0 ≡ (get_or su k 0 + sum_ℕ n (right_term n (placed (i * n) held) cols k)) % m
    unfolding right_term
    same k o =
        let z = sum-none natural n (right_term n (placed (i * n) held) cols k) (λ t l. ap (λ (a : ℕ). a * get_or cols (k % 8 * n + t) 0) (o t l) ∙ omega arith) in
        sym (ap (λ (y : ℕ). y % m) (omega (arith, z)) ∙ mod-eq_of_lt (b.below k))

    pub right-put : take (i * 8) su ++ (x ++ drop (8 * r) (drop (i * 8) su)) ≡ gained m n (right_term n (placed (i * n) held) cols) su
    unfolding gained
    right-put =
        put-tab (i * 8) (8 * r) su x room x-long (λ k. (get_or su k 0 + sum_ℕ n (right_term n (placed (i * n) held) cols k)) % m)
        (λ k l. same k (λ t o. above (k / 8) t ((div-lt_iff_lt-mul (omega arith)).1 l) o))
        (λ j l.
        ap (λ (z : List ℕ). get_or z j 0) e
        ∙ gained-at m n (right_term n held cols) (take (8 * r) (drop (i * 8) su)) j (rw (part-long (i * 8) (8 * r) su room) l)
        ∙ ap₂ (λ (z y : ℕ). (z + y) % m) (part_at (i * 8) (8 * r) su 0 j l) (sym (sum-ext natural n _ _ (λ t o. right-here cols j t))))
        (λ k l o. let u : (i + r) * 8 ≤ k = omega arith in same k (λ t p. below (k / 8) t ((le-div_iff_mul-le (omega arith)).1 u)))

  -- ---- Reply

  one-term : (s : List ℕ) (k u : ℕ) → left_term n n s (placed (i * n) held) k (i + u) ≡ part_term n n i s held k u
  unfolding left_term part_term
  one-term s k u = ap (λ (a : ℕ). a * get_or s (k / n * n + (i + u)) 0) (in_block u (k % n))

  left-sum : (s : List ℕ) (k : ℕ) → sum_ℕ n (left_term n n s (placed (i * n) held) k) ≡ sum_ℕ r (part_term n n i s held k)
  unfolding left_term
  left-sum s k =
      let d = n - (i + r) in
      let f = left_term n n s (placed (i * n) held) k in
      let e : i + (r + d) ≡ n = omega arith in
      ap (λ (a : ℕ). sum_ℕ a f) (sym e)
      ∙ sum-split natural i (r + d) f
      ∙ ap₂ (λ (a b : ℕ). a + b)
      (sum-none natural i f
      (λ t l. ap (λ (a : ℕ). a * get_or s (k / n * n + t) 0) (above t (k % n) l (mod-lt k (omega arith))) ∙ omega arith))
      (sum-split natural r d (λ t. f (i + t))
      ∙ ap₂ (λ (a b : ℕ). a + b) (sum-ext natural r _ _ (λ u l. one-term s k u))
      (sum-none natural d _ (λ t l. ap (λ (a : ℕ). a * get_or s (k / n * n + (i + (r + t))) 0) (below (i + (r + t)) (k % n) (omega arith)) ∙ omega arith)))
      ∙ omega arith

  pub left_is : (m : ℕ) (s ws : List ℕ) → gained m r (part_term n n i s held) ws ≡ gained m n (left_term n n s (placed (i * n) held)) ws
  unfolding gained
  left_is m s ws = tab-ext (length ws) _ _ (λ k l. ap (λ (a : ℕ). (get_or ws k 0 + a) % m) (sym (left-sum s k)))

-- ---- as they lie

-- Offer: xs are the sums, two in each number, and y what the rows make of theirs
pub right-back :
    (n i r : ℕ) (held cols xs y : List ℕ) → i + r ≤ n → length held ≡ r * n → length xs ≡ 4 * n → Below (wrap * wrap) xs →
    y ≡ gained wrap n (right_term n held cols) (words (take (4 * r) (drop (i * 4) xs))) →
    take (i * 4) xs ++ (pairs y ++ drop (4 * r) (drop (i * 4) xs)) ≡ pairs (gained wrap n (right_term n (placed (i * n) held) cols) (words xs))
right-back n i r held cols xs y fits long wide b e =
    let a : 2 * (i * 4) ≡ i * 8 = omega arith in
    let c : 2 * (4 * r) ≡ 8 * r = omega arith in
    let behind : words (drop (i * 4) xs) ≡ drop (i * 8) (words xs) = words-drop (i * 4) xs ∙ ap (λ (k : ℕ). drop k (words xs)) a in
    let part : words (take (4 * r) (drop (i * 4) xs)) ≡ take (8 * r) (drop (i * 8) (words xs)) =
    words_take (4 * r) (drop (i * 4) xs) ∙ ap₂ (λ (k : ℕ) (l : List ℕ). take k l) c behind
    in
    let all : length (words xs) ≡ 8 * n = words_long xs ∙ omega arith in
    let made : y ≡ gained wrap n (right_term n held cols) (take (8 * r) (drop (i * 8) (words xs))) = e ∙ ap (gained wrap n (right_term n held cols)) part in
    let many : length y ≡ 2 * (4 * r) = x-long n i r held fits long wrap cols (words xs) y all (words-below xs b) made ∙ sym c in
    let small : Below wrap y = rw e (gained-below wrap n _ _ (omega arith)) in
    sym (pairs-words _)
    ∙ ap pairs
    (words_append (take (i * 4) xs) _
    ∙ ap₂ (λ (u v : List ℕ). u ++ v) (words_take (i * 4) xs ∙ ap (λ (k : ℕ). take k (words xs)) a)
    (words_append (pairs y) _
    ∙ ap₂ (λ (u v : List ℕ). u ++ v) (words-pairs y (4 * r) many small)
    (words-drop (4 * r) (drop (i * 4) xs) ∙ ap₂ (λ (k : ℕ) (l : List ℕ). drop k l) c behind))
    ∙ right-put n i r held fits long wrap cols (words xs) y all (words-below xs b) made)
