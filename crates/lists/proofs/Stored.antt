-- Loops that write n entries in order, at one place of a list.
--   store-none, store-next   before, and at each turn
--   not_yet                  what is not yet written is as it was
--   stored-all               at the end, by another count
--   store-front, front-not-yet, front_at   a turn, what is not yet written and what is, at the front of a list
use Rattle.lists.proofs.Kit.{refl, ◌∙◌, sym, ap, subst, List, ℕ, arith, length, get_or, set, length-set, get_or-set_same, get_or-set_other}
use Rattle.std.proofs.Common.{◌≡◌, ◌+◌, ◌<◌}
use borrow.Author.Count.{below_more}
use Rattle.lists.specs.Ranges.{Stored}

module _ {A : Type 0} {z : A} where
  pub store-none : (w : List A) (to : ℕ) (f : ℕ → A) → Stored z w to 0 f w
  store-none w to f = record { long = refl; inside = λ k p. absurd (none k p); below = λ i p. refl; above = λ i p. refl }
    where
      none : (k : ℕ) → k < 0 → ⊥
      none k p = omega arith

  module _ {w w' : List A} {to i : ℕ} {f : ℕ → A} (old : Stored z w to i f w') where
    pub store-next : {v : A} → to + i < length w → v ≡ f i → Stored z w to (i + 1) f (set w' (to + i) v)
    store-next {v} l e =
        record {
          long = simp length-set old.long;
          inside =
              below_more _ i
              (λ j p. get_or-set_other w' (to + i) (to + j) v z (omega arith) ∙ old.inside j p)
              (get_or-set_same w' (to + i) v z (omega (arith, old.long)) ∙ e);
          below = λ j p. get_or-set_other w' (to + i) j v z (omega arith) ∙ old.below j p;
          above = λ j p. get_or-set_other w' (to + i) j v z (omega arith) ∙ old.above j (omega arith);
        }

    pub not_yet : get_or w' (to + i) z ≡ get_or w (to + i) z
    not_yet = old.above (to + i) (omega arith)

  -- at the front of a list
  pub store-front : {w w' : List A} {i : ℕ} {f : ℕ → A} → Stored z w 0 i f w' → {v : A} → i < length w → v ≡ f i → Stored z w 0 (i + 1) f (set w' i v)
  store-front {w} {w'} {i} {f} old {v} l e =
      let o : 0 + i ≡ i = omega arith in
      subst (λ (j : ℕ). Stored z w 0 (i + 1) f (set w' j v)) o (store-next old (omega arith) e)

  pub front-not-yet : {w w' : List A} {i : ℕ} {f : ℕ → A} → Stored z w 0 i f w' → get_or w' i z ≡ get_or w i z
  front-not-yet {i = i} old = old.above i (omega arith)

  pub stored-all : {w w' : List A} {to i n : ℕ} {f : ℕ → A} → Stored z w to i f w' → i ≡ n → Stored z w to n f w'
  stored-all {w} {w'} {to} {i} {n} {f} s e = subst (λ (k : ℕ). Stored z w to k f w') e s

  pub front_at : {w w' : List A} {n : ℕ} {f : ℕ → A} → Stored z w 0 n f w' → (k : ℕ) → k < n → get_or w' k z ≡ f k
  front_at {w} {w'} s k l = let e : 0 + k ≡ k = omega arith in ap (λ (i : ℕ). get_or w' i z) (sym e) ∙ s.inside k l
