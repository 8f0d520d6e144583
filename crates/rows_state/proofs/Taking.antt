-- A part into the state, as the code lays it.
--   linear                    what the numbers of A bring adds up
--   hold-is                   the part behind the numbers that are held back, then the count
--   sized-holding, sized-held   the state stays as long
--   secret-room, held-room    how long the slices are that hold secret and rows
--   right-made, left-made     the sums with sixteen rows, of the slices that the code takes
--   back-right, back-left     they are written in their place
--   entered-wide              the state stays as long
--   step-holds, step-enters   so the part is in the state, whether it ends a block or not
use Rattle.lists.proofs.Kit.{refl, ◌∙◌, sym, ap, ap₂, true, false, List, [], append_assoc, append-nil, ℕ, arith}
use Rattle.std.proofs.Common.{◌≡◌, ◌∷◌, ◌++◌, ◌+◌, ◌*◌, ◌-◌, ◌/◌, ◌%◌, ◌≤◌}
use Rattle.lists.proofs.Kit.{length, get_or, take, drop, set, length-append, length-take, length-drop, take-append-drop, drop_of_length-le, put_mid, take-add}
use Rattle.lists.proofs.Kit.{take-take, take-append-le, drop-append-le, drop-drop}
use Rattle.lists.specs.Ranges.{Below}
use Rattle.lists.proofs.Parts.{below-drop, below-take, to_end}
use Rattle.matrix.specs.{Steps.part_term, Steps.columns_from, Words.gained, Words.right_term}
use Rattle.matrix.proofs.Steps.{gained-length}
use Rattle.parts.specs.{Parts.wrap, Parts.words, Parts.pairs, Parts.placed, Joining.Linear}
use Rattle.parts.proofs.{Joining.right-linear, Joining.left-linear, Words.pairs-long, Words.pairs-words, Blocks.right-back, Blocks.columns-met, Blocks.left_is}
use Rattle.rows_state.specs.State.{long, taken, saved_of, secret_of, sums_of, held_of, Layout, laid, onward, terms, fills, held_with, sums_with, stepped, Call}
use Rattle.rows_state.specs.Inside.{holding, sums_entered, entered, Sized}
use Rattle.rows_state.proofs.Laying.{held_at, front, kept-long, secret-long, sums-long, held-long, again-words, laid-long, laid_kept, laid-secret}
use Rattle.rows_state.proofs.Laying.{laid-sums, laid-behind, laid-held}
use Rattle.rows_state.proofs.Filling.{halves}

pub linear : (k : Call) (n : ℕ) (s : List ℕ) → Linear (terms k n s)
linear Call.Offer n s = right-linear n s
linear Call.Reply n s = left-linear n s

-- ---- the part

-- three numbers, of which the last is set
set-third : (a b c d : ℕ) (u v w g : List ℕ) → set ((a ∷ b ∷ c ∷ ((u ++ v) ++ w)) ++ g) 2 d ≡ a ∷ b ∷ d ∷ (u ++ (v ++ (w ++ g)))
set-third a b c d u v w g = ap (λ (l : List ℕ). a ∷ b ∷ d ∷ l) (append_assoc (u ++ v) w g ∙ append_assoc u v (w ++ g))

module _ (n : ℕ) (st : List ℕ) (z : Sized n st) where
  -- the front, up to the sums
  front-sums : take (67 + 8 * n) st ≡ get_or st 0 0 ∷ get_or st 1 0 ∷ get_or st 2 0 ∷ ((saved_of st ++ pairs (secret_of n st)) ++ pairs (sums_of n st))
  front-sums =
      let e : 67 + 8 * n ≡ 67 + 4 * n + 4 * n = omega arith in
      ap (λ (k : ℕ). take k st) e
      ∙ take-add (67 + 4 * n) (4 * n) st
      ∙ ap₂ (λ (u v : List ℕ). u ++ v) (front n st (omega (arith, z.long))) (sym (pairs-words (take (4 * n) (drop (67 + 4 * n) st))))

  module _ (p : List ℕ) where
    -- by the count that the code has read, of the slice that it takes
    pub hold_at : (a : ℕ) (x : List ℕ) → a ≡ taken st
        → x ≡ pairs (take (a % (16 * n)) (words (take (length st - (67 + 8 * n)) (drop (67 + 8 * n) st))) ++ (p ++ drop (a % (16 * n) + length p) (words (take (length st - (67 + 8 * n)) (drop (67 + 8 * n) st)))))
        → set (put_mid (67 + 8 * n) (length st - (67 + 8 * n)) st x) 2 (a + length p) ≡ holding n st p
    unfolding holding held_with
    hold_at a x e d =
        let o = taken st % (16 * n) in
        let none : drop (length st - (67 + 8 * n)) (drop (67 + 8 * n) st) ≡ [] =
        drop_of_length-le (drop (67 + 8 * n) st) {i = length st - (67 + 8 * n)} (omega (arith, length-drop (67 + 8 * n) st))
        in
        let held : x ≡ pairs (take o (held_of n st) ++ (p ++ drop (o + length p) (held_of n st))) =
        d
        ∙ ap₂ (λ (j : ℕ) (l : List ℕ). pairs (take (j % (16 * n)) (words l) ++ (p ++ drop (j % (16 * n) + length p) (words l)))) e (to_end st (67 + 8 * n))
        in
        ap₂ (λ (j : ℕ) (l : List ℕ). set (take (67 + 8 * n) st ++ (x ++ l)) 2 (j + length p)) e none
        ∙ ap₂ (λ (u v : List ℕ). set (u ++ v) 2 (taken st + length p)) front-sums (append-nil x ∙ held)
        ∙ set-third (get_or st 0 0) (get_or st 1 0) (get_or st 2 0) (taken st + length p) (saved_of st) (pairs (secret_of n st)) (pairs (sums_of n st)) _

  module _ (p : List ℕ) (f : taken st % (16 * n) + length p ≤ 16 * n) where
    pub with-long : length (held_with n st p) ≡ 16 * n
    unfolding held_with
    with-long = simp (length-append, length-take, length-drop) (omega (arith, held-long n st z.long))

    pub sized-holding : Sized n (holding n st p)
    unfolding holding
    sized-holding =
        record {
          some = z.some;
          few = z.few;
          sixteens = z.sixteens;
          long =
              laid-long n (onward n st (taken st + length p) (sums_of n st) (held_with n st p)) (kept-long n st z.long) (secret-long n st z.long)
              (sums-long n st z.long) with-long;
        }

    pub sized-held : {x : List ℕ} → x ≡ holding n st p → Sized n x
    sized-held e = rw e sized-holding

  -- ---- sixteen rows into the sums

  -- the slice that holds the secret
  pub secret-room : length (take (67 + 4 * n - 67) (drop 67 st)) ≡ 8 * (n / 2)
  secret-room = simp (length-take, length-drop) (omega (arith, z.long, halves n z.sixteens))

  -- and that which holds the rows
  pub held-room : length (take (length st - (67 + 8 * n)) (drop (67 + 8 * n) st)) ≡ 16 * (n / 2)
  held-room = simp (length-take, length-drop) (omega (arith, z.long, halves n z.sixteens))

  module _ (i : ℕ) (fits : i + 16 ≤ n) where
    abbrev numbers : List ℕ
    numbers = take (4 * n) (drop (67 + 4 * n) st)

    numbers-long : length numbers ≡ 4 * n
    numbers-long = simp (length-take, length-drop) (omega (arith, z.long))

    abbrev behind : List ℕ
    behind = drop (67 + 8 * n) st

    numbers-rest : drop (67 + 4 * n) st ≡ numbers ++ behind
    numbers-rest = sym (take-append-drop (4 * n) (drop (67 + 4 * n) st)) ∙ ap (λ (l : List ℕ). numbers ++ l) (held_at n st)

    inside : drop (67 + 4 * n + i * 4) st ≡ drop (i * 4) numbers ++ behind
    inside =
        sym (drop-drop (i * 4) (67 + 4 * n) st)
        ∙ ap (drop (i * 4)) numbers-rest
        ∙ drop-append-le (i * 4) numbers behind (omega (arith, numbers-long))

    room : 64 ≤ length (drop (i * 4) numbers)
    room = rw (length-drop (i * 4) numbers) (omega (arith, numbers-long))

    -- as the code makes them, of the slices that it takes
    pub right-made :
        {cols old x : List ℕ} → cols ≡ words (take (67 + 4 * n - 67) (drop 67 st)) →
        old ≡ words (take (67 + 4 * n + i * 4 + 64 - (67 + 4 * n + i * 4)) (drop (67 + 4 * n + i * 4) st)) →
        x ≡ gained wrap n (right_term n (words (take (length st - (67 + 8 * n)) (drop (67 + 8 * n) st))) cols) old →
        x ≡ gained wrap n (right_term n (held_of n st) (secret_of n st)) (words (take 64 (drop (67 + 4 * n + i * 4) st)))
    right-made {cols} {old} d u e =
        let m : 67 + 4 * n - 67 ≡ 4 * n = omega arith in
        let o : 67 + 4 * n + i * 4 + 64 - (67 + 4 * n + i * 4) ≡ 64 = omega arith in
        e
        ∙ ap₂ (λ (v y : List ℕ). gained wrap n (right_term n (words v) y) old) (to_end st (67 + 8 * n)) (d ∙ ap (λ (k : ℕ). words (take k (drop 67 st))) m)
        ∙ ap (gained wrap n (right_term n (held_of n st) (secret_of n st))) (u ∙ ap (λ (k : ℕ). words (take k (drop (67 + 4 * n + i * 4) st))) o)

    pub left-made :
        i % 16 ≡ 0 → {secret old x : List ℕ} → secret ≡ columns_from (2 * (n / 2)) (2 * (i / 2)) 16 (words (take (67 + 4 * n - 67) (drop 67 st))) →
        old ≡ words (take (67 + 4 * n + 4 * n - (67 + 4 * n)) (drop (67 + 4 * n) st)) →
        x ≡ gained wrap 16 (part_term 16 n 0 secret (words (take (length st - (67 + 4 * n + 4 * n)) (drop (67 + 4 * n + 4 * n) st)))) old →
        x ≡ gained wrap 16 (part_term n n i (secret_of n st) (held_of n st)) (sums_of n st)
    left-made sixteenth {secret} {old} d u e =
        let m : 67 + 4 * n - 67 ≡ 4 * n = omega arith in
        let o : 67 + 4 * n + 4 * n - (67 + 4 * n) ≡ 4 * n = omega arith in
        let h : 67 + 4 * n + 4 * n ≡ 67 + 8 * n = omega arith in
        e
        ∙ ap₂ (λ (v y : List ℕ). gained wrap 16 (part_term 16 n 0 y (words v)) old)
        (to_end st (67 + 4 * n + 4 * n) ∙ ap (λ (k : ℕ). drop k st) h)
        (d
        ∙ ap₂ (λ (k j : ℕ). columns_from k j 16 (words (take (67 + 4 * n - 67) (drop 67 st)))) (halves n z.sixteens) (halves i sixteenth)
        ∙ ap (λ (k : ℕ). columns_from n i 16 (words (take k (drop 67 st)))) m)
        ∙ ap (gained wrap 16 (part_term 16 n 0 (columns_from n i 16 (secret_of n st)) (held_of n st))) (u ∙ ap (λ (k : ℕ). words (take k (drop (67 + 4 * n) st))) o)
        ∙ columns-met wrap n i 16 (secret_of n st) (held_of n st) (sums_of n st) z.some (sums-long n st z.long)

    pub back-right : (y x : List ℕ) → Below 4294967296 st
        → y ≡ gained wrap n (right_term n (held_of n st) (secret_of n st)) (words (take 64 (drop (67 + 4 * n + i * 4) st))) → x ≡ pairs y
        → take (67 + 4 * n + i * 4) st ++ (x ++ drop (67 + 4 * n + i * 4 + 64 - (67 + 4 * n + i * 4)) (drop (67 + 4 * n + i * 4) st))
        ≡ entered Call.Offer n (i * n) st
    unfolding entered
    back-right y x b e d =
        let m : 67 + 4 * n + i * 4 + 64 - (67 + 4 * n + i * 4) ≡ 64 = omega arith in
        let part : take 64 (drop (67 + 4 * n + i * 4) st) ≡ take 64 (drop (i * 4) numbers) =
        ap (take 64) inside ∙ take-append-le 64 (drop (i * 4) numbers) behind room
        in
        let first : take (i * 4) (drop (67 + 4 * n) st) ≡ take (i * 4) numbers = sym (take-take (i * 4) (4 * n) (drop (67 + 4 * n) st) (omega arith)) in
        ap (λ (k : ℕ). take (67 + 4 * n + i * 4) st ++ (x ++ drop k (drop (67 + 4 * n + i * 4) st))) m
        ∙ ap₂ (λ (u v : List ℕ). u ++ (x ++ v)) (take-add (67 + 4 * n) (i * 4) st ∙ ap (λ (l : List ℕ). take (67 + 4 * n) st ++ l) first)
        (ap (drop 64) inside ∙ drop-append-le 64 (drop (i * 4) numbers) behind room)
        ∙ append_assoc (take (67 + 4 * n) st) _ _
        ∙ ap (λ (l : List ℕ). take (67 + 4 * n) st ++ l)
        (ap (λ (l : List ℕ). take (i * 4) numbers ++ l) (sym (append_assoc x _ behind))
        ∙ sym (append_assoc (take (i * 4) numbers) _ behind)
        ∙ ap (λ (l : List ℕ). l ++ behind)
        (ap (λ (l : List ℕ). take (i * 4) numbers ++ (l ++ drop 64 (drop (i * 4) numbers))) d
        ∙ right-back n i 16 (held_of n st) (secret_of n st) numbers y fits (held-long n st z.long) numbers-long
        (below-take (below-drop b (67 + 4 * n)) (4 * n))
        (e ∙ ap (λ (l : List ℕ). gained wrap n (right_term n (held_of n st) (secret_of n st)) (words l)) part)))

    pub back-left : (y x : List ℕ)
        → y ≡ gained wrap 16 (part_term n n i (secret_of n st) (held_of n st)) (sums_of n st) → x ≡ pairs y
        → take (67 + 4 * n) st ++ (x ++ drop (67 + 4 * n + 4 * n - (67 + 4 * n)) (drop (67 + 4 * n) st))
        ≡ entered Call.Reply n (i * n) st
    unfolding entered
    back-left y x e d =
        let m : 67 + 4 * n + 4 * n - (67 + 4 * n) ≡ 4 * n = omega arith in
        ap (λ (k : ℕ). take (67 + 4 * n) st ++ (x ++ drop k (drop (67 + 4 * n) st))) m
        ∙ ap₂ (λ (u v : List ℕ). take (67 + 4 * n) st ++ (u ++ v))
        (d ∙ ap pairs (e ∙ left_is n i 16 (held_of n st) fits (held-long n st z.long) wrap (secret_of n st) (sums_of n st)))
        (held_at n st)

  pub entered-wide : (k : Call) (at : ℕ) → length (entered k n at st) ≡ long n
  unfolding entered
  entered-wide k at =
      let u = pairs-long (sums_entered k n at st) (4 * n) (gained-length wrap n _ (sums_of n st) ∙ sums-long n st z.long ∙ omega arith) in
      simp (length-append, length-take) (omega (arith, u, length-drop (67 + 8 * n) st, z.long))

  -- ---- the part is in the state

  module _ (k : Call) (p : List ℕ) where
    pub step-holds : fills n (taken st) (length p) ≡ false → holding n st p ≡ stepped k n st p
    unfolding holding stepped sums_with
    step-holds h = rw h refl

    abbrev holds : Layout
    holds = onward n st (taken st + length p) (sums_of n st) (held_with n st p)

    pub step-enters : (at : ℕ) → fills n (taken st) (length p) ≡ true → at ≡ taken st + length p - 16 * n → words (pairs (held_with n st p)) ≡ held_with n st p
        → entered k n at (holding n st p) ≡ stepped k n st p
    unfolding holding stepped sums_with entered
    step-enters at h e w =
        let l = z.long in
        let a = get_or st 0 0 in
        let b = get_or st 1 0 in
        let t = taken st + length p in
        let s = laid-secret n holds (kept-long n st l) (secret-long n st l) (sums-long n st l) (again-words _) in
        let u = laid-sums n holds (kept-long n st l) (secret-long n st l) (sums-long n st l) (again-words _) in
        let v = laid-held n holds (kept-long n st l) (secret-long n st l) (sums-long n st l) w in
        let f : take (67 + 4 * n) (laid holds) ≡ a ∷ b ∷ t ∷ (saved_of st ++ pairs (secret_of n st)) =
        front n (laid holds) (omega arith)
        ∙ ap₂ (λ (x y : List ℕ). a ∷ b ∷ t ∷ (x ++ pairs y)) (laid_kept n holds (kept-long n st l) (secret-long n st l) (sums-long n st l)) s
        in
        let g : sums_entered k n at (laid holds) ≡ gained wrap n (terms k n (secret_of n st) (placed (t - 16 * n) (held_with n st p))) (sums_of n st) =
        rw (s, u, v, e) refl
        in
        ap₂ (λ (x y : List ℕ). x ++ (pairs y ++ drop (67 + 8 * n) (laid holds))) f g
        ∙ ap (λ (x : List ℕ). (a ∷ b ∷ t ∷ (saved_of st ++ pairs (secret_of n st))) ++ (pairs (gained wrap n (terms k n (secret_of n st) (placed (t - 16 * n) (held_with n st p))) (sums_of n st)) ++ x))
        (laid-behind n holds (kept-long n st l) (secret-long n st l) (sums-long n st l))
        ∙ ap (λ (x : List ℕ). a ∷ b ∷ t ∷ x) (append_assoc (saved_of st) (pairs (secret_of n st)) _)
        ∙ rw h refl
