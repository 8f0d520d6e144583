-- Parts, one after the other, over any n.
--   kept-still       a verdict with a number leaves what was there
--   unchanged        so does a refused part, and a refused end
--   after            the state st, once the numbers xs have come, with the rows `held` behind
--   after_kept, after-sums, after-held, after-long, after_none   its parts, its length, and where none has come
--   Behind           the numbers behind the blocks that have come whole are held back, as words
--   whole-front      all of A is whole blocks
--   Stepped, stepped-after   a part behind the numbers xs that have come
--   below-front, below-behind   of two lists joined
--   Walked, walked   what any parts leave: the state after the numbers that they join into
use Rattle.std.proofs.Common.{Ok, Err, ◌≡◌, ◌∷◌, ◌++◌, ◌+◌, ◌*◌, ◌-◌, ◌/◌, ◌%◌, ◌≤◌, ◌<◌}
use Rattle.lists.proofs.Kit.{refl, ◌∙◌, sym, ap, ap₂, subst, Bool, true, false, cond, List, [], append_assoc, append-nil, ℕ}
use Rattle.lists.proofs.Kit.{arith, zero-mod, div-mul-le_self, length, take, drop, length-append, length-take, length-drop, take-append-drop}
use Rattle.lists.proofs.Kit.{drop_of_length-le, take_at, take_all, take-nil, drop-nil, take-append-le, drop-append-le, length-take-le}
use Rattle.lists.specs.Ranges.{Below}
use Rattle.lists.proofs.Parts.{below-drop, below-take}
use Rattle.matrix.specs.Words.{gained}
use Rattle.matrix.proofs.Steps.{gained-length}
use Rattle.parts.specs.Parts.{wrap, words, pairs, placed}
use Rattle.parts.proofs.{Joining.append_at, Joining.placed-in, Joining.so_far, Joining.nothing, Words.append-below}
use Rattle.refusals.specs.{Refusals.number_in, Seen.if_passed, Seen.shown, Refusals.Verdict}
use Rattle.reply.specs.Reply.{outputs}
use Rattle.rows_state.specs.State.{long, named, taken, saved_of, secret_of, sums_of, held_of, laid, onward, terms, fills, held_with, sums_with, stepped}
use Rattle.rows_state.specs.{Part.state_shown, Part.part_tests, declared.Call.Call}
use Rattle.rows_state.proofs.Laying.{apart, kept-long, secret-long, sums-long, held-long, again-words, made-words, held-words, laid-long, laid_kept}
use Rattle.rows_state.proofs.Laying.{laid-secret, laid-sums, laid-held, laid-ext}
use Rattle.rows_state.proofs.Filling.{fills_up, holds-back, held-div, held-mod, filled-div, filled-mod, start_is, whole-blocks}
use Rattle.rows_state.proofs.Taking.{linear}
use Rattle.rows.specs.{Offer.offer_end_tests, Reply.reply_end_tests, Shown.blocks, Runs.Refused, Runs.joined, Runs.steps, Runs.WithinRows}

pub kept-still : {A : Type 0} (v : Verdict) (x old : A) → 0 < number_in v → if_passed v x old ≡ old
kept-still (Ok _) x old h = absurd (omega arith)
kept-still (Err r) x old h = refl

pub unchanged : {st after : List ℕ} → Refused st after → after ≡ st
unfolding state_shown shown outputs
unchanged {st} (Refused.part k p h) = kept-still (part_tests k (named st) st p) _ st h
unchanged {st} (Refused.offer_end_lem n h) = kept-still (offer_end_tests (named st) st n) _ st h
unchanged {st} (Refused.reply_end_lem m h) = kept-still (reply_end_tests (named st) st m) _ st h

module _ (k : Call) (n : ℕ) (st : List ℕ) where
  abbrev pub sums : List ℕ → List ℕ
  sums xs = gained wrap n (terms k n (secret_of n st) (take (blocks n xs) xs)) (sums_of n st)

  abbrev pub after : List ℕ → List ℕ → List ℕ
  after xs held = laid (onward n st (length xs) (sums xs) held)

  module _ (l : length st ≡ long n) where
    sums-wide : (xs : List ℕ) → length (sums xs) ≡ 8 * n
    sums-wide xs = gained-length wrap n (terms k n (secret_of n st) (take (blocks n xs) xs)) (sums_of n st) ∙ sums-long n st l

    module _ (xs held : List ℕ) where
      pub after_kept : saved_of (after xs held) ≡ saved_of st
      after_kept =
          laid_kept n (onward n st (length xs) (sums xs) held) (kept-long n st l) (secret-long n st l) (sums-wide xs)

      after-secret : secret_of n (after xs held) ≡ secret_of n st
      after-secret =
          laid-secret n (onward n st (length xs) (sums xs) held) (kept-long n st l) (secret-long n st l) (sums-wide xs)
          (again-words _)

      pub after-sums : sums_of n (after xs held) ≡ sums xs
      after-sums =
          laid-sums n (onward n st (length xs) (sums xs) held) (kept-long n st l) (secret-long n st l) (sums-wide xs)
          (made-words n n _ (sums_of n st) (sums-long n st l))

      pub after-held : words (pairs held) ≡ held → held_of n (after xs held) ≡ held
      after-held =
          laid-held n (onward n st (length xs) (sums xs) held) (kept-long n st l) (secret-long n st l) (sums-wide xs)

      pub after-long : length held ≡ 16 * n → length (after xs held) ≡ long n
      after-long =
          laid-long n (onward n st (length xs) (sums xs) held) (kept-long n st l) (secret-long n st l) (sums-wide xs)

    pub after_none : taken st ≡ 0 → Below wrap (sums_of n st) → after [] (held_of n st) ≡ st
    unfolding placed
    after_none t b =
        ap₂ (λ (c : ℕ) (s : List ℕ). laid (onward n st c s (held_of n st))) (sym t)
        (ap (λ (x : List ℕ). gained wrap n (terms k n (secret_of n st) x) (sums_of n st)) (take-nil (blocks n []))
        ∙ nothing wrap n _ (linear k n (secret_of n st)) 0 (sums_of n st) b)
        ∙ sym (apart n st l)

-- ---- what is held back

pub record Behind (n : ℕ) (xs held : List ℕ) : Type 0 where
  pub is-long : length held ≡ 16 * n
  pub below : Below wrap held
  pub is : take (length xs % (16 * n)) held ≡ drop (blocks n xs) xs

module _ (n : ℕ) (xs p held : List ℕ) (some : 0 < n) (row : length xs % n + length p ≤ n) (small : Below wrap p) (h : Behind n xs held) where
  abbrev o : ℕ
  o = length xs % (16 * n)

  abbrev b : ℕ
  b = length xs / (16 * n) * (16 * n)

  few : b ≤ length xs
  few = div-mul-le_self (length xs) (16 * n)

  -- the rows with the part
  abbrev more : List ℕ
  more = take o held ++ (p ++ drop (o + length p) held)

  more-below : Below wrap more
  more-below = append-below (take o held) _ (below-take h.below o) (append-below p _ small (below-drop h.below (o + length p)))

  joint : take o held ++ p ≡ drop b (xs ++ p)
  joint = ap (λ (l : List ℕ). l ++ p) h.is ∙ sym (drop-append-le b xs p few)

  module _ (f : fills n (length xs) (length p) ≡ false) where
    same_blocks : blocks n (xs ++ p) ≡ b
    same_blocks = ap (λ (m : ℕ). m / (16 * n) * (16 * n)) (length-append xs p) ∙ ap (λ (m : ℕ). m * (16 * n)) (held-div n (length xs) (length p) some row f)

    same-front : take (blocks n (xs ++ p)) (xs ++ p) ≡ take b xs
    same-front = ap (λ (m : ℕ). take m (xs ++ p)) same_blocks ∙ take-append-le b xs p few

    still-behind : Behind n (xs ++ p) more
    still-behind =
        let e = holds-back n (length xs) (length p) some row f in
        let m : length (xs ++ p) % (16 * n) ≡ o + length p = ap (λ (j : ℕ). j % (16 * n)) (length-append xs p) ∙ held-mod n (length xs) (length p) some row f in
        let s : length (take o held ++ p) ≡ o + length p = simp (length-append, length-take) (omega (arith, e, h.is-long)) in
        record {
          is-long = simp (length-append, length-take, length-drop) (omega (arith, e, h.is-long));
          below = more-below;
          is =
              ap₂ (λ (j : ℕ) (l : List ℕ). take j l) m (sym (append_assoc (take o held) p (drop (o + length p) held)))
              ∙ take_at (take o held ++ p) (drop (o + length p) held) (o + length p) s
              ∙ joint
              ∙ ap (λ (j : ℕ). drop j (xs ++ p)) (sym same_blocks);
        }

  module _ (f : fills n (length xs) (length p) ≡ true) where
    all-front : take (blocks n (xs ++ p)) (xs ++ p) ≡ xs ++ p
    all-front =
        let e : blocks n (xs ++ p) ≡ length (xs ++ p) =
        ap (λ (m : ℕ). m / (16 * n) * (16 * n)) (length-append xs p) ∙ filled-div n (length xs) (length p) some row f ∙ sym (length-append xs p)
        in
        take_all (blocks n (xs ++ p)) (xs ++ p) (omega arith)

    -- the sixteen rows
    sixteen : more ≡ drop b xs ++ p
    sixteen =
        let e = fills_up n (length xs) (length p) some row f in
        let g : drop (o + length p) held ≡ [] = drop_of_length-le held {i = o + length p} (omega (arith, e, h.is-long)) in
        ap₂ (λ (u v : List ℕ). u ++ (p ++ v)) h.is g ∙ ap (λ (l : List ℕ). drop b xs ++ l) (append-nil p)

    none-behind : Behind n (xs ++ p) more
    none-behind =
        let m : length (xs ++ p) % (16 * n) ≡ 0 = ap (λ (j : ℕ). j % (16 * n)) (length-append xs p) ∙ filled-mod n (length xs) (length p) some row f in
        let e : blocks n (xs ++ p) ≡ length (xs ++ p) =
        ap (λ (j : ℕ). j / (16 * n) * (16 * n)) (length-append xs p) ∙ filled-div n (length xs) (length p) some row f ∙ sym (length-append xs p)
        in
        record {
          is-long = simp (length-append, length-take, length-drop) (omega (arith, fills_up n (length xs) (length p) some row f, h.is-long));
          below = more-below;
          is = ap (λ (j : ℕ). take j more) m ∙ sym (drop_of_length-le (xs ++ p) {i = blocks n (xs ++ p)} (omega arith));
        }

pub whole-front : (n : ℕ) (a : List ℕ) → 0 < n → n % 16 ≡ 0 → length a ≡ n * n → take (blocks n a) a ≡ a
whole-front n a o e h =
    let d : blocks n a ≡ length a = ap (λ (m : ℕ). m / (16 * n) * (16 * n)) h ∙ whole-blocks n o e ∙ sym h in
    take_all (blocks n a) a (omega arith)

-- ---- a part

pub record Stepped (k : Call) (n : ℕ) (st xs p held : List ℕ) : Type 0 where
  pub rows : List ℕ
  pub is : stepped k n (after k n st xs held) p ≡ after k n st (xs ++ p) rows
  pub behind : Behind n (xs ++ p) rows

module _ (k : Call) (n : ℕ) (st : List ℕ) (l : length st ≡ long n) (xs p held : List ℕ) where
  abbrev now : List ℕ
  now = after k n st xs held

  abbrev T : List ℕ → ℕ → ℕ → ℕ
  T = terms k n (secret_of n st)

  step_of : (s h : List ℕ) → sums_with k n now p ≡ s → held_with n now p ≡ h → stepped k n now p ≡ laid (onward n st (length (xs ++ p)) s h)
  unfolding stepped
  step_of s h d e = laid-ext (sym (length-append xs p)) (after_kept k n st l xs held) (after-secret k n st l xs held) d e

  with-is : Behind n xs held → held_with n now p ≡ take (length xs % (16 * n)) held ++ (p ++ drop (length xs % (16 * n) + length p) held)
  unfolding held_with
  with-is h =
      ap (λ (h : List ℕ). take (length xs % (16 * n)) h ++ (p ++ drop (length xs % (16 * n) + length p) h)) (after-held k n st l xs held (held-words n held h.is-long h.below))

  module _ (some : 0 < n) (row : length xs % n + length p ≤ n) (small : Below wrap p) (h : Behind n xs held) where
    holds : fills n (length xs) (length p) ≡ false → Stepped k n st xs p held
    unfolding sums_with
    holds f =
        record {
          rows = more n xs p held some row small h;
          is =
              step_of _ _
              (ap (λ (t : Bool). cond t (gained wrap n (terms k n (secret_of n now) (placed (length xs + length p - 16 * n) (held_with n now p))) (sums_of n now)) (sums_of n now)) f
              ∙ after-sums k n st l xs held
              ∙ ap (λ (x : List ℕ). gained wrap n (T x) (sums_of n st)) (sym (same-front n xs p held some row small h f)))
              (with-is h);
          behind = still-behind n xs p held some row small h f;
        }

    enters : fills n (length xs) (length p) ≡ true → Stepped k n st xs p held
    unfolding sums_with
    enters f =
        let c = length xs / (16 * n) * (16 * n) in
        let s : length (take c xs) ≡ c = length-take-le c xs (div-mul-le_self (length xs) (16 * n)) in
        record {
          rows = more n xs p held some row small h;
          is =
              step_of _ _
              (ap (λ (t : Bool). cond t (gained wrap n (terms k n (secret_of n now) (placed (length xs + length p - 16 * n) (held_with n now p))) (sums_of n now)) (sums_of n now)) f
              ∙ ap₂ (λ (x y : List ℕ). gained wrap n (terms k n x (placed (length xs + length p - 16 * n) (held_with n now p))) y) (after-secret k n st l xs held) (after-sums k n st l xs held)
              ∙ ap₂ (λ (i : ℕ) (x : List ℕ). gained wrap n (T (placed i x)) (sums k n st xs)) (start_is n (length xs) (length p) some row f ∙ sym s) (with-is h ∙ sixteen n xs p held some row small h f)
              ∙ so_far wrap n T (linear k n (secret_of n st)) (take c xs) (drop c xs ++ p) (sums_of n st)
              ∙ ap (λ (x : List ℕ). gained wrap n (T x) (sums_of n st))
              (sym (append_assoc (take c xs) (drop c xs) p)
              ∙ ap (λ (x : List ℕ). x ++ p) (take-append-drop c xs)
              ∙ sym (all-front n xs p held some row small h f)))
              (with-is h);
          behind = none-behind n xs p held some row small h f;
        }

    pub stepped-after : Stepped k n st xs p held
    stepped-after = go (fills n (length xs) (length p)) refl
      where
        go : (t : Bool) → fills n (length xs) (length p) ≡ t → Stepped k n st xs p held
        go true f = enters f
        go false f = holds f

-- ---- any parts

pub below-front : {q : ℕ} (p p' : List ℕ) → Below q (p ++ p') → Below q p
below-front p p' h = record { below = λ i. omega (arith, append_at p p' i, h.below i) }

pub below-behind : {q : ℕ} (p p' : List ℕ) → Below q (p ++ p') → Below q p'
below-behind p p' h =
    record { below = λ i. omega (arith, append_at p p' (length p + i), placed-in (length p) p' i, h.below (length p + i)) }

pub record Walked (k : Call) (n : ℕ) (st xs last : List ℕ) : Type 0 where
  pub held : List ℕ
  pub is : last ≡ after k n st xs held
  pub behind : Behind n xs held

module _ (k : Call) (n : ℕ) (st : List ℕ) (some : 0 < n) (l : length st ≡ long n) where
  walk : (xs : List ℕ) {s : List ℕ} → Walked k n st xs s → (ps : List (List ℕ)) → WithinRows n (length xs) ps → Below wrap (joined ps)
      → Walked k n st (xs ++ joined ps) (steps k n s ps)
  unfolding joined steps
  walk xs {s} w [] r b = subst (λ (y : List ℕ). Walked k n st y s) (sym (append-nil xs)) w
  walk xs {s} w (p ∷ ps) r b =
      let g = stepped-after k n st l xs p w.held some r.0 (below-front p (joined ps) b) w.behind in
      let next : Walked k n st (xs ++ p) (stepped k n s p) = record {
        held = g.rows;
        is = ap (λ (y : List ℕ). stepped k n y p) w.is ∙ g.is;
        behind = g.behind;
      } in
      subst (λ (y : List ℕ). Walked k n st y (steps k n (stepped k n s p) ps)) (append_assoc xs p (joined ps))
      (walk (xs ++ p) next ps (subst (λ (m : ℕ). WithinRows n m ps) (sym (length-append xs p)) r.1) (below-behind p (joined ps) b))

  pub walked : (ps : List (List ℕ)) → taken st ≡ 0 → Below wrap (sums_of n st) → Below wrap (held_of n st) → WithinRows n 0 ps → Below wrap (joined ps)
      → Walked k n st (joined ps) (steps k n st ps)
  walked ps t b h r w =
      walk []
      (record {
        held = held_of n st;
        is = sym (after_none k n st l t b);
        behind =
            record {
              is-long = held-long n st l;
              below = h;
              is = ap (λ (j : ℕ). take j (held_of n st)) (zero-mod (16 * n)) ∙ sym (drop-nil (blocks n []));
            };
      }) ps r w
