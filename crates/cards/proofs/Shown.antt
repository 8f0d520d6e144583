-- The table of bench cards holds, by one computed test. The initiator's rules are searches, and are computed by their formulas.
use Rattle.lists.proofs.Kit.{◌≡◌, refl, ◌∙◌, ap, Bool, true, false, List, [], ◌∷◌, ◌*◌, ◌^◌, T, eqb, ltb, eqb→eq, ℤ, pos, negsuc}
use lib.{Count.ones, Dec.ltb→lt, Dec.lit<}
use Rattle.numbers.specs.Residue.{residue, nearest, distance, apart}
use Rattle.lists.specs.{Entries.tab, First.both}
use Rattle.lists.proofs.Table.{both-T}
use Rattle.newhope.specs.declared.Four.{Four}
use Rattle.cards.specs.Table.{Card, bcns-value, bcns-peer, frodo-value, frodo-peer, newhope-group, newhope-noise, frodo-noise, four, I, B, Says, All, table, Shown}
use Rattle.bcns.specs.Rounding as bcns
use Rattle.bcns.specs.Shown as bcns-shown
use Rattle.frodo.specs.Rounding as frodo
use Rattle.frodo.specs.Shown as frodo-shown
use Rattle.newhope.specs.Group as newhope
use Rattle.noise.specs.Noise as noise
use Rattle.bcns.proofs.Formula as bcns_formula
use Rattle.frodo.proofs.Rule as frodo_rule

-- two tests at once, as one name that stays put
and : Bool → Bool → Bool
and a b = both a b

parts : (a b : Bool) → T (and a b) → T a × T b
unfolding and
parts a b t = (both-T a b).0 t

same : Four → Four → Bool
same v w = and (eqb v.e0 w.e0) (and (eqb v.e1 w.e1) (and (eqb v.e2 w.e2) (eqb v.e3 w.e3)))

same-four : (v w : Four) → T (same v w) → v ≡ w
unfolding same
same-four v w t =
    let t1 = parts _ _ t in
    let t2 = parts _ _ t1.1 in
    let t3 = parts _ _ t2.1 in
    let p = eqb→eq v.e0 w.e0 t1.0 in
    let q = eqb→eq v.e1 w.e1 t2.0 in
    let r = eqb→eq v.e2 w.e2 t3.0 in
    let s = eqb→eq v.e3 w.e3 t3.1 in
    λ i. record { e0 = p i; e1 = q i; e2 = r i; e3 = s i }

-- whole numbers, tested
same_ℤ : ℤ → ℤ → Bool
same_ℤ (pos a) (pos b) = eqb a b
same_ℤ (pos a) (negsuc b) = false
same_ℤ (negsuc a) (pos b) = false
same_ℤ (negsuc a) (negsuc b) = eqb a b

same_ℤ-≡ : (y z : ℤ) → T (same_ℤ y z) → y ≡ z
unfolding same_ℤ
same_ℤ-≡ (pos a) (pos b) t = ap pos (eqb→eq a b t)
same_ℤ-≡ (pos a) (negsuc b) t = absurd t
same_ℤ-≡ (negsuc a) (pos b) t = absurd t
same_ℤ-≡ (negsuc a) (negsuc b) t = ap negsuc (eqb→eq a b t)

-- a card, tested
right : Card → Bool
right (bcns-value v coin hint bit) = and (eqb (bcns.hint_of (bcns.doubled coin v)) hint) (eqb (bcns.key_of (bcns.doubled coin v)) bit)
right (bcns-peer w hint bit) = and (ltb w bcns.q) (and (ltb hint 2) (eqb (bcns-shown.formula_of hint w) bit))
right (frodo-value v hint key) = and (eqb (frodo.hint_of I v) hint) (eqb (frodo.key_of I B v) key)
right (frodo-peer w hint key) = and (ltb w (I * 2 ^ B)) (and (ltb hint 2) (eqb (frodo-shown.formula_of I B hint w) key))
right (newhope-group coin a b c d h0 h1 h2 h3 bit) =
    and (same (newhope.hint_of coin (four a b c d)) (four h0 h1 h2 h3)) (eqb (newhope.bit_of (four h0 h1 h2 h3) (four a b c d)) bit)
right (newhope-noise a b c d z) = same_ℤ (noise.ones_less_lem (a ∷ b ∷ c ∷ d ∷ []) 0) z
right (frodo-noise word z) = same_ℤ (noise.threshold_of_lem noise.d3 11 word) z

sound : (c : Card) → T (right c) → Says c
unfolding right noise.new_hope_noise tab
sound (bcns-value v coin hint bit) t = let u = parts _ _ t in (eqb→eq _ _ u.0, eqb→eq _ _ u.1)
sound (bcns-peer w hint bit) t =
    let u = parts _ _ t in
    let s = parts _ _ u.1 in
    bcns_formula.formula hint w (ltb→lt w bcns.q u.0) (ltb→lt hint 2 s.0) ∙ eqb→eq _ _ s.1
sound (frodo-value v hint key) t = let u = parts _ _ t in (eqb→eq _ _ u.0, eqb→eq _ _ u.1)
sound (frodo-peer w hint key) t =
    let u = parts _ _ t in
    let s = parts _ _ u.1 in
    frodo_rule.formula I B hint w (lit< tt) refl (ltb→lt w (I * 2 ^ B) u.0) (ltb→lt hint 2 s.0) ∙ eqb→eq _ _ s.1
sound (newhope-group coin a b c d h0 h1 h2 h3 bit) t = let u = parts _ _ t in (same-four _ _ u.0, eqb→eq _ _ u.1)
sound (newhope-noise a b c d z) t = ap (λ (y : ℤ). y ∷ []) (same_ℤ-≡ _ _ t)
sound (frodo-noise word z) t = same_ℤ-≡ _ _ t

every : List Card → Bool
every [] = true
every (c ∷ cs) = and (right c) (every cs)

all : (cs : List Card) → T (every cs) → All cs
unfolding every
all [] t = tt
all (c ∷ cs) t = let u = parts _ _ t in (sound c u.0, all cs u.1)

-- the one statement
pub shown : Shown
unfolding frodo-shown.formula_of and every right same same_ℤ table bcns.doubled bcns.coin_of_lem bcns.hint_of bcns.key_of frodo.hint_of frodo.key_of newhope.up_of newhope.down_of newhope.off_of newhope.offs_of newhope.k_of newhope.p_of newhope.less_of newhope.last_of newhope.hint_of newhope.term_of newhope.sum_of newhope.bit_of residue nearest distance apart noise.word_at noise.ones_less_lem noise.at_most noise.threshold_of_lem ones
shown = all table tt
