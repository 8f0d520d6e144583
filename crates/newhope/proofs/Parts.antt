-- The hint, from its parts.
--   hint-small   its entries are below 4
--   hint-is      the parts, as the code computes them one after the other, are together the hint
--   ranged       what equals the hint has its range
use Rattle.lists.proofs.Kit.{◌∙◌, sym, ap, ap₂, subst, cond, ℕ, arith, ltb, pos}
use Rattle.std.proofs.Common.{◌≡◌, ◌+◌, ◌*◌, ◌%◌, ◌<◌, ◌-ℤ◌}
use Rattle.numbers.specs.Residue.{residue}
use Rattle.numbers.proofs.Congruence.{residue-lt}
use Rattle.newhope.specs.Group.{Four, q, up_of, down_of, offs_of, k_of, p_of, less_of, last_of, hint_of}
use Rattle.newhope.specs.Shown.{Hint}

pub hint-small : (b : ℕ) (v : Four) → Hint (hint_of b v)
unfolding hint_of less_of last_of
hint-small b v =
    let l : (x : ℕ) → less_of b v x < 4 = λ x. residue-lt 4 (pos (p_of b v x) -ℤ pos (p_of b v v.e3)) (omega arith) in
    record { h0 = l v.e0; h1 = l v.e1; h2 = l v.e2; h3 = omega arith }

-- the vector's entry at x and k, where the four sum to s; a difference modulo 4
abbrev pick : ℕ → ℕ → ℕ → ℕ
pick b s x = cond (ltb s q) (up_of b x) (down_of b x)

abbrev side : ℕ → ℕ
side s = cond (ltb s q) 0 1

abbrev less : ℕ → ℕ → ℕ
less p r = residue 4 (pos p -ℤ pos r)

picked : (b : ℕ) (v : Four) (x : ℕ) {s p : ℕ} → s ≡ offs_of b v → p ≡ pick b s x → p ≡ p_of b v x
unfolding p_of
picked b v x o e = e ∙ ap (λ (t : ℕ). pick b t x) o

pub hint-is : (b : ℕ) (v : Four) {s p0 p1 p2 p3 k h0 h1 h2 : ℕ} → s ≡ offs_of b v
    → p0 ≡ pick b s v.e0 → p1 ≡ pick b s v.e1 → p2 ≡ pick b s v.e2 → p3 ≡ pick b s v.e3 → k ≡ side s
    → h0 ≡ less p0 p3 → h1 ≡ less p1 p3 → h2 ≡ less p2 p3
    → ◌≡◌ {A = Four} (record { e0 = h0; e1 = h1; e2 = h2; e3 = (k + 2 * p3) % 4 }) (hint_of b v)
unfolding hint_of less_of last_of k_of
hint-is b v o e0 e1 e2 e3 ek l0 l1 l2 =
    let r = picked b v v.e3 o e3 in
    let g0 = l0 ∙ ap₂ less (picked b v v.e0 o e0) r in
    let g1 = l1 ∙ ap₂ less (picked b v v.e1 o e1) r in
    let g2 = l2 ∙ ap₂ less (picked b v v.e2 o e2) r in
    let g3 = ap₂ (λ (x y : ℕ). (x + 2 * y) % 4) (ek ∙ ap side o) r in
    λ i. record { e0 = g0 i; e1 = g1 i; e2 = g2 i; e3 = g3 i }

pub ranged : (b : ℕ) (v : Four) {h : Four} → h ≡ hint_of b v → (h ≡ hint_of b v) × Hint h
ranged b v e = (e, subst Hint (sym e) (hint-small b v))
