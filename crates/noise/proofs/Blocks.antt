-- Frodo's values, some at a time.
--   stored_same   entries that are stored, by another rule for the same entries
--   stored_more   some at the front, and then those behind them
--   stored-tab    all of them
--   filled_part   a part behind those that are made
--   part-noise    the values of a part of the bytes
--   made, made-next   the values that are made, and n more
--   wide_fits, wide   a number of 16 bits in 32
use Rattle.lists.proofs.Kit.{◌∙◌, sym, ap, ap₂, List, append_assoc, ℕ, arith, dec_lt, ℤ, to_z-of_z, sfits_widen, w16, w32, SFits, to_z, of_z, length, get_or, take, drop, drop-drop, put_mid, same_len_mid}
use Rattle.lists.proofs.Kit.{take_at}
use Rattle.std.proofs.Common.{◌≡◌, ◌++◌, ◌+◌, ◌-◌, ◌*◌, ◌/◌, ◌<◌, ◌≤◌}
use Rattle.lists.specs.{Entries.tab, Ranges.Stored}
use Rattle.lists.proofs.{Entries.tab-length, Entries.tab-append, Entries.tab-getD, Entries.tab-ext, Stored.front_at, Fill.Filled, Fill.fill-rest, Parts.part-long, Parts.part_at}
use Rattle.noise.specs.Noise.{word_at, threshold_of_lem, frodo_noise_lem}

module _ {A : Type 0} {z : A} where
  pub stored_same : {w w' : List A} {to n : ℕ} {f : ℕ → A} (g : ℕ → A) → Stored z w to n f w' → ((k : ℕ) → k < n → f k ≡ g k) → Stored z w to n g w'
  stored_same g s e = record { long = s.long; inside = λ k l. s.inside k l ∙ e k l; below = s.below; above = s.above }

  module _ {w w' w'' : List A} (i n : ℕ) {f : ℕ → A} (one : Stored z w 0 i f w') (two : Stored z w' i n (λ (k : ℕ). f (i + k)) w'') where
    inside-at : (k : ℕ) → k < i + n → Dec (k < i) → get_or w'' (0 + k) z ≡ f k
    inside-at k l (yes p) = two.below (0 + k) (omega arith) ∙ one.inside k p
    inside-at k l (no p) =
        let e : i + (k - i) ≡ k = omega arith in
        let o : 0 + k ≡ i + (k - i) = omega arith in
        ap (λ (j : ℕ). get_or w'' j z) o ∙ two.inside (k - i) (omega arith) ∙ ap f e

    pub stored_more : Stored z w 0 (i + n) f w''
    stored_more = record {
      long = two.long ∙ one.long;
      inside = λ k l. inside-at k l (dec_lt k i);
      below = λ j l. absurd (omega arith);
      above = λ j l. two.above j (omega arith) ∙ one.above j (omega arith);
    }

  pub stored-tab : {w w' : List A} {n : ℕ} {f : ℕ → A} → Stored z w 0 n f w' → length w ≤ n → w' ≡ tab (length w) f
  stored-tab {w} {w'} {n} {f} s h =
      sym (tab-getD w' z)
      ∙ ap (λ (m : ℕ). tab m (λ (k : ℕ). get_or w' k z)) s.long
      ∙ tab-ext (length w) (λ (k : ℕ). get_or w' k z) f (λ k l. front_at s k (omega arith))

pub filled_part : {f : ℕ → ℤ} {d out : List ℤ} {i : ℕ} (n : ℕ) (p : List ℤ) → Filled f d out i → i + n ≤ length d → p ≡ tab n (λ k. f (i + k))
    → Filled f d (put_mid i n out p) (i + n)
filled_part {f} {d} {out} {i} n p h l e =
    let s : length p ≡ n = rw e (tab-length n (λ k. f (i + k))) in
    record {
      seen = l;
      long = same_len_mid i n out p (s ∙ sym (part-long i n out (omega (arith, h.long)))) ∙ h.long;
      made =
          ap₂ (λ (x y : List ℤ). x ++ (p ++ y))
          (ap (take i) h.made ∙ take_at (tab i f) (drop i d) i (tab-length i f))
          (ap (drop n) (fill-rest h) ∙ drop-drop n i d)
          ∙ ap (λ (x : List ℤ). tab i f ++ (x ++ drop (i + n) d)) e
          ∙ sym (append_assoc (tab i f) (tab n (λ k. f (i + k))) (drop (i + n) d))
          ∙ ap (λ (x : List ℤ). x ++ drop (i + n) d) (sym (tab-append i n f));
    }

part-word : (bs : List ℕ) (i n k : ℕ) → k < n → word_at (take (2 * n) (drop (2 * i) bs)) k ≡ word_at bs (i + k)
unfolding word_at
part-word bs i n k l =
    let low : 2 * i + 2 * k ≡ 2 * (i + k) = omega arith in
    let high : 2 * i + (2 * k + 1) ≡ 2 * (i + k) + 1 = omega arith in
    ap₂ (λ (a b : ℕ). a + 256 * b)
    (part_at (2 * i) (2 * n) bs 0 (2 * k) (omega arith) ∙ ap (λ (j : ℕ). get_or bs j 0) low)
    (part_at (2 * i) (2 * n) bs 0 (2 * k + 1) (omega arith) ∙ ap (λ (j : ℕ). get_or bs j 0) high)

pub part-noise : (ts : List ℕ) (m : ℕ) (bs : List ℕ) (i n : ℕ) → 2 * (i + n) ≤ length bs
    → frodo_noise_lem ts m (take (2 * n) (drop (2 * i) bs)) ≡ tab n (λ k. threshold_of_lem ts m (word_at bs (i + k)))
unfolding frodo_noise_lem
part-noise ts m bs i n h =
    let part = take (2 * n) (drop (2 * i) bs) in
    let half : length part / 2 ≡ n = omega (arith, part-long (2 * i) (2 * n) bs (omega arith)) in
    ap (λ (j : ℕ). tab j (λ k. threshold_of_lem ts m (word_at part k))) half
    ∙ tab-ext n (λ k. threshold_of_lem ts m (word_at part k)) (λ k. threshold_of_lem ts m (word_at bs (i + k)))
    (λ k l. ap (threshold_of_lem ts m) (part-word bs i n k l))

-- i values are made
abbrev pub made : List ℕ → ℕ → List ℕ → List ℤ → List ℤ → ℕ → Type 0
made ts m bs d out i = Filled (λ (k : ℕ). threshold_of_lem ts m (word_at bs k)) d out i

pub made-next :
    (ts : List ℕ) (m : ℕ) (bs : List ℕ) (d out p : List ℤ) (i n u v j : ℕ) → made ts m bs d out i → length bs ≡ 2 * length d → i + n ≤ length d
    → u ≡ 2 * n → v ≡ n → j ≡ i + n → p ≡ frodo_noise_lem ts m (take u (drop (2 * i) bs)) → made ts m bs d (put_mid i v out p) j
made-next ts m bs d out p i n u v j h s l e f g q =
    rw (f, g) (filled_part n p h l (rw e at q ∙ part-noise ts m bs i n (omega arith)))

pub wide_fits : (z : ℤ) → SFits w16 z → SFits w32 (to_z w16 (of_z w16 z))
wide_fits z f = rw (to_z-of_z f) (sfits_widen tt f)

pub wide : (z r : ℤ) → SFits w16 z → r ≡ to_z w16 (of_z w16 z) → to_z w32 (of_z w32 r) ≡ z
wide z r f e = let same : r ≡ z = e ∙ to_z-of_z f in rw same (to_z-of_z {w = w32} (sfits_widen tt f))
