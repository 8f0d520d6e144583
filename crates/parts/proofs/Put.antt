-- m entries of a list from entry a on, exchanged.
--   put-tab   the list is then a table, where what stands before, in and behind them is its entries
use Rattle.lists.proofs.Kit.{◌≡◌, ◌∙◌, sym, ap, List, ◌++◌, ℕ, ◌+◌, ◌-◌, ◌<◌, ◌≤◌, arith, dec_lt, length, get_or, take, drop, length-take, length-drop}
use Rattle.lists.proofs.Kit.{length-append, List·getD-append, ext_get_or, get_or-take, get_or-drop, get_or-append-add, length-take-le}
use Rattle.lists.specs.Entries.{tab}
use Rattle.lists.proofs.Entries.{tab-at, tab-length}

module _ (a m : ℕ) (l x : List ℕ) (h : a + m ≤ length l) (e : length x ≡ m) where
  abbrev put : List ℕ
  put = take a l ++ (x ++ drop m (drop a l))

  put-long : length put ≡ length l
  put-long = simp (length-append, length-take, length-drop) (omega arith)

  put-from : (k : ℕ) → get_or put (a + k) 0 ≡ get_or (x ++ drop m (drop a l)) k 0
  put-from k =
      let s : length (take a l) ≡ a = length-take-le a l (omega arith) in
      ap (λ (i : ℕ). get_or put (i + k) 0) (sym s) ∙ get_or-append-add (take a l) (x ++ drop m (drop a l)) k 0

  module _ (f : ℕ → ℕ) (before : (k : ℕ) → k < a → get_or l k 0 ≡ f k) (inside : (k : ℕ) → k < m → get_or x k 0 ≡ f (a + k))
      (behind : (k : ℕ) → a + m ≤ k → k < length l → get_or l k 0 ≡ f k) where
    entry : (k : ℕ) → k < length l → Dec (k < a) → Dec (k < a + m) → get_or put k 0 ≡ f k
    entry k o (yes b) d =
        List·getD-append (take a l) (x ++ drop m (drop a l)) 0 k (omega (arith, length-take-le a l (omega arith))) ∙ get_or-take a l k 0 b ∙ before k b
    entry k o (no b) (yes d) =
        let j = k - a in
        let r : a + j ≡ k = omega arith in
        ap (λ (i : ℕ). get_or put i 0) (sym r)
        ∙ put-from j
        ∙ List·getD-append x (drop m (drop a l)) 0 j (omega arith)
        ∙ inside j (omega arith)
        ∙ ap f r
    entry k o (no b) (no d) =
        let j = k - (a + m) in
        let r : a + (m + j) ≡ k = omega arith in
        ap (λ (i : ℕ). get_or put i 0) (sym r)
        ∙ put-from (m + j)
        ∙ ap (λ (i : ℕ). get_or (x ++ drop m (drop a l)) (i + j) 0) (sym e)
        ∙ get_or-append-add x (drop m (drop a l)) j 0
        ∙ get_or-drop m (drop a l) j 0
        ∙ get_or-drop a l (m + j) 0
        ∙ ap (λ (i : ℕ). get_or l i 0) r
        ∙ behind k (omega arith) o

    pub put-tab : take a l ++ (x ++ drop m (drop a l)) ≡ tab (length l) f
    put-tab =
        ext_get_or 0 _ _ (put-long ∙ sym (tab-length _ _))
        (λ k o. let i : k < length l = rw put-long at o in entry k i (dec_lt k a) (dec_lt k (a + m)) ∙ sym (tab-at (length l) f k 0 i))
