-- Words, two in each number.
--   words_long, words-even, words-odd   how many, and each of them
--   words_append, words_take, words-drop   of lists joined and cut
--   slice-words-long, slice-words-at   of a part, as the code lends it
--   words-below        words of numbers of 32 bits
--   append-below       two lists of small numbers joined
--   pairs-long, pairs-words, words-pairs   there and back
--   set-lower, set-upper   a number with one of its words exchanged
--   put_whole          words in the middle that start and end on whole numbers
use Rattle.lists.proofs.Kit.{◌≡◌, refl, ◌∙◌, sym, ap, ap₂, List, [], ◌∷◌, ◌++◌, ℕ, zero, suc, ◌+◌, ◌*◌, ◌-◌, ◌/◌, ◌%◌, ◌<◌, ◌≤◌, arith, mod-lt, length, get_or}
use Rattle.lists.proofs.Kit.{set, take, drop, ext_get_or, drop-drop}
use Rattle.lists.specs.{Entries.tab, Ranges.Below}
use Rattle.lists.proofs.{Entries.tab-at, Entries.tab-length, Entries.tab-ext, Entries.tab-getD, Parts.slice-long, Parts.part_at, Same.append-all}
use Rattle.parts.specs.Parts.{wrap, words, pairs}

pub words_long : (xs : List ℕ) → length (words xs) ≡ 2 * length xs
unfolding words
words_long [] = refl
words_long (x ∷ xs) = omega (arith, words_long xs)

twice : (i : ℕ) → 2 * suc i ≡ suc (suc (2 * i))
twice i = omega arith

pub words-even : (xs : List ℕ) (i : ℕ) → get_or (words xs) (2 * i) 0 ≡ get_or xs i 0 % wrap
unfolding words
words-even [] i = refl
words-even (x ∷ xs) zero = refl
words-even (x ∷ xs) (suc i) = ap (λ (k : ℕ). get_or (words (x ∷ xs)) k 0) (twice i) ∙ words-even xs i

pub words-odd : (xs : List ℕ) (i : ℕ) → get_or (words xs) (2 * i + 1) 0 ≡ get_or xs i 0 / wrap
unfolding words
words-odd [] i = refl
words-odd (x ∷ xs) zero = refl
words-odd (x ∷ xs) (suc i) =
    let e : 2 * suc i + 1 ≡ suc (suc (2 * i + 1)) = omega arith in
    ap (λ (k : ℕ). get_or (words (x ∷ xs)) k 0) e ∙ words-odd xs i

pub words_append : (xs ys : List ℕ) → words (xs ++ ys) ≡ words xs ++ words ys
unfolding words
words_append [] ys = refl
words_append (x ∷ xs) ys = ap (λ (l : List ℕ). x % wrap ∷ x / wrap ∷ l) (words_append xs ys)

pub words_take : (k : ℕ) (xs : List ℕ) → words (take k xs) ≡ take (2 * k) (words xs)
unfolding words
words_take zero xs = refl
words_take (suc k) [] = sym (ap (λ (i : ℕ). take i []) (twice k))
words_take (suc k) (x ∷ xs) = ap (λ (l : List ℕ). x % wrap ∷ x / wrap ∷ l) (words_take k xs) ∙ ap (λ (i : ℕ). take i (words (x ∷ xs))) (sym (twice k))

pub words-drop : (k : ℕ) (xs : List ℕ) → words (drop k xs) ≡ drop (2 * k) (words xs)
unfolding words
words-drop zero xs = refl
words-drop (suc k) [] = sym (ap (λ (i : ℕ). drop i []) (twice k))
words-drop (suc k) (x ∷ xs) = words-drop k xs ∙ ap (λ (i : ℕ). drop i (words (x ∷ xs))) (sym (twice k))

module _ (a m : ℕ) (xs : List ℕ) where
  pub slice-words-long : a + m ≤ length xs → {l : List ℕ} → l ≡ words (take (a + m - a) (drop a xs)) → length l ≡ 2 * m
  slice-words-long h e = ap length e ∙ words_long _ ∙ ap (λ (k : ℕ). 2 * k) (slice-long a m xs h)

  pub slice-words-at : (j : ℕ) → j < 2 * m → get_or (words (take (a + m - a) (drop a xs))) j 0 ≡ get_or (words xs) (2 * a + j) 0
  slice-words-at j l =
      let e : a + m - a ≡ m = omega arith in
      ap (λ (k : ℕ). get_or (words (take k (drop a xs))) j 0) e
      ∙ ap (λ (y : List ℕ). get_or y j 0) (words_take m (drop a xs) ∙ ap (take (2 * m)) (words-drop a xs))
      ∙ part_at (2 * a) (2 * m) (words xs) 0 j l

-- each number is even or odd
by_two : (P : ℕ → Type 0) → ((j : ℕ) → P (2 * j)) → ((j : ℕ) → P (2 * j + 1)) → (k : ℕ) → P k
by_two P even odd k = go (k % 2) refl
  where
    go : (r : ℕ) → k % 2 ≡ r → P k
    go zero e = let d : 2 * (k / 2) ≡ k = omega arith in rw d at (even (k / 2))
    go (suc r) e = let d : 2 * (k / 2) + 1 ≡ k = omega arith in rw d at (odd (k / 2))

upper-below : (x : ℕ) → x < wrap * wrap → x / wrap < wrap
upper-below x h = omega arith

pub words-below : (xs : List ℕ) → Below (wrap * wrap) xs → Below wrap (words xs)
words-below xs b =
    record {
      below =
          by_two (λ (k : ℕ). get_or (words xs) k 0 < wrap) (λ j. rw (words-even xs j) (mod-lt _ (omega arith)))
          (λ j. rw (words-odd xs j) (upper-below (get_or xs j 0) (b.below j)));
    }

pub append-below : {m : ℕ} (xs ys : List ℕ) → Below m xs → Below m ys → Below m (xs ++ ys)
append-below {m} xs ys f g = record { below = append-all (λ (x : ℕ). x < m) 0 xs ys f.below g.below }

-- ---- there and back

pub pairs-long : (ws : List ℕ) (k : ℕ) → length ws ≡ 2 * k → length (pairs ws) ≡ k
unfolding pairs
pairs-long ws k e = tab-length _ _ ∙ omega arith

pairs-at : (ws : List ℕ) (j : ℕ) → 2 * j + 1 < length ws → get_or (pairs ws) j 0 ≡ get_or ws (2 * j) 0 + wrap * get_or ws (2 * j + 1) 0
unfolding pairs
pairs-at ws j h = tab-at (length ws / 2) _ j 0 (omega arith)

pub pairs-words : (xs : List ℕ) → pairs (words xs) ≡ xs
unfolding pairs
pairs-words xs =
    let e : length (words xs) / 2 ≡ length xs = omega (arith, words_long xs) in
    ap (λ (n : ℕ). tab n (λ k. get_or (words xs) (2 * k) 0 + wrap * get_or (words xs) (2 * k + 1) 0)) e
    ∙ tab-ext (length xs) _ _ (λ k l. ap₂ (λ (a b : ℕ). a + wrap * b) (words-even xs k) (words-odd xs k) ∙ omega arith)
    ∙ tab-getD xs 0

pub words-pairs : (ws : List ℕ) (k : ℕ) → length ws ≡ 2 * k → Below wrap ws → words (pairs ws) ≡ ws
words-pairs ws k e b =
    let n : length (words (pairs ws)) ≡ length ws = words_long (pairs ws) ∙ omega (arith, pairs-long ws k e) in
    ext_get_or 0 _ _ n
    (by_two (λ (i : ℕ). i < length (words (pairs ws)) → get_or (words (pairs ws)) i 0 ≡ get_or ws i 0)
    (λ j l. words-even (pairs ws) j ∙ ap (λ (x : ℕ). x % wrap) (pairs-at ws j (omega arith)) ∙ lower (get_or ws (2 * j) 0) _ (b.below (2 * j)))
    (λ j l. words-odd (pairs ws) j ∙ ap (λ (x : ℕ). x / wrap) (pairs-at ws j (omega arith)) ∙ upper (get_or ws (2 * j) 0) _ (b.below (2 * j))))
  where
    lower : (x y : ℕ) → x < wrap → (x + wrap * y) % wrap ≡ x
    lower x y h = omega arith

    upper : (x y : ℕ) → x < wrap → (x + wrap * y) / wrap ≡ y
    upper x y h = omega arith

-- ---- words into numbers

pub set-lower : (xs : List ℕ) (i w : ℕ) → w < wrap → words (set xs i (get_or xs i 0 / wrap * wrap + w)) ≡ set (words xs) (2 * i) w
unfolding words
set-lower [] i w h = refl
set-lower (x ∷ xs) zero w h =
    let e : (x / wrap * wrap + w) % wrap ≡ w = omega arith in
    let d : (x / wrap * wrap + w) / wrap ≡ x / wrap = omega arith in
    ap₂ (λ (a b : ℕ). a ∷ b ∷ words xs) e d
set-lower (x ∷ xs) (suc i) w h =
    ap (λ (l : List ℕ). x % wrap ∷ x / wrap ∷ l) (set-lower xs i w h) ∙ sym (ap (λ (k : ℕ). set (words (x ∷ xs)) k w) (twice i))

pub set-upper : (xs : List ℕ) (i w : ℕ) → words (set xs i (get_or xs i 0 % wrap + wrap * w)) ≡ set (words xs) (2 * i + 1) w
unfolding words
set-upper [] i w = refl
set-upper (x ∷ xs) zero w =
    let e : (x % wrap + wrap * w) % wrap ≡ x % wrap = omega arith in
    let d : (x % wrap + wrap * w) / wrap ≡ w = omega arith in
    ap₂ (λ (a b : ℕ). a ∷ b ∷ words xs) e d
set-upper (x ∷ xs) (suc i) w =
    let e : suc (suc (2 * i + 1)) ≡ 2 * suc i + 1 = omega arith in
    ap (λ (l : List ℕ). x % wrap ∷ x / wrap ∷ l) (set-upper xs i w) ∙ ap (λ (k : ℕ). set (words (x ∷ xs)) k w) e

-- m numbers from number a on, exchanged for the words ws
pub put_whole : (a m : ℕ) (xs ws : List ℕ) {p : List ℕ} → length ws ≡ 2 * m → Below wrap ws → p ≡ pairs ws
    → take a xs ++ (p ++ drop (a + m - a) (drop a xs)) ≡ pairs (take (2 * a) (words xs) ++ (ws ++ drop (2 * a + length ws) (words xs)))
put_whole a m xs ws {p} e b d =
    let f : a + (a + m - a) ≡ a + m = omega arith in
    let g : 2 * (a + m) ≡ 2 * a + length ws = omega arith in
    sym (pairs-words _)
    ∙ ap pairs
    (words_append (take a xs) _
    ∙ ap₂ (λ (u v : List ℕ). u ++ v) (words_take a xs)
    (words_append p _
    ∙ ap₂ (λ (u v : List ℕ). u ++ v) (ap words d ∙ words-pairs ws m e b)
    (ap words (drop-drop (a + m - a) a xs ∙ ap (λ (k : ℕ). drop k xs) f)
    ∙ words-drop (a + m) xs
    ∙ ap (λ (k : ℕ). drop k (words xs)) g)))
