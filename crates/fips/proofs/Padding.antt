-- The padding in bytes is the padding in bits, once over suffix and rate.
--   string-append, string-length  the string of bytes in two parts, and its length
--   padded-is                     the padded bytes are the string M ‖ suffix ‖ pad10*1
use Rattle.lists.proofs.Kit.{refl, sym, ap, ◌∙◌, List, [], append_assoc, ℕ, zero, suc, mod-eq_of_lt, mod-lt}
use Rattle.std.proofs.Common.{◌≡◌, ◌∷◌, ◌++◌, ◌+◌, ◌-◌, ◌*◌, ◌/◌, ◌%◌, ◌≤◌, ◌<◌}
use Rattle.lists.proofs.Kit.{div-add-mod', arith, digits_mod, length, replicate, length-append, replicate-append-replicate}
use Rattle.packing.specs.Packing.{digits}
use Rattle.sponge.specs.Sponge.{padded, ending}
use Rattle.fips.specs.Strings.{string, pad}

abbrev zeros : ℕ → List ℕ
zeros n = replicate n 0

joined : (a b : ℕ) (t : List ℕ) → zeros a ++ (zeros b ++ t) ≡ zeros (a + b) ++ t
joined a b t = sym (append_assoc (zeros a) (zeros b) t) ∙ ap (λ (s : List ℕ). s ++ t) (replicate-append-replicate {A = ℕ} a b 0)

pub string-append : (a b : List ℕ) → string (a ++ b) ≡ string a ++ string b
unfolding string
string-append [] b = refl
string-append (x ∷ a) b =
    ap (λ (l : List ℕ). digits 2 8 x ++ l) (string-append a b) ∙ sym (append_assoc (digits 2 8 x) (string a) (string b))

pub string-length : (a : List ℕ) → length (string a) ≡ 8 * length a
unfolding string digits
string-length [] = refl
string-length (x ∷ a) = omega (arith, string-length a)

string-zeros : (n : ℕ) → string (zeros n) ≡ zeros (8 * n)
unfolding string digits
string-zeros zero = refl
string-zeros (suc n) =
    let e : 8 + 8 * n ≡ 8 * suc n = omega arith in
    ap (λ (l : List ℕ). zeros 8 ++ l) (string-zeros n) ∙ replicate-append-replicate {A = ℕ} 8 (8 * n) 0 ∙ ap zeros e

-- how many zeros pad10*1 has, behind q whole blocks, r bytes and a suffix of l bits
count : (rate l q r : ℕ) → l ≤ 5 → r < rate → (8 * rate - (8 * (q * rate + r) + l + 2) % (8 * rate)) % (8 * rate) ≡ 8 * (rate - r) - l - 2
count rate l q r hl hr =
    let e : 8 * (q * rate + r) + l + 2 ≡ q * (8 * rate) + (8 * r + l + 2) = omega arith in
    let b : 8 * r + l + 2 < 8 * rate = omega arith in
    let s : 8 * rate - (8 * r + l + 2) ≡ 8 * (rate - r) - l - 2 = omega arith in
    let c : 8 * (rate - r) - l - 2 < 8 * rate = omega arith in
    ap (λ (x : ℕ). (8 * rate - x % (8 * rate)) % (8 * rate)) e
    ∙ ap (λ (x : ℕ). (8 * rate - x) % (8 * rate)) (digits_mod q b)
    ∙ ap (λ (x : ℕ). x % (8 * rate)) s
    ∙ mod-eq_of_lt c

-- d is a suffix of l bits and a 1; with 128 it ends in a 1 besides
module _ (d l : ℕ) (suffix : List ℕ) (el : length suffix ≡ l) (hl : l ≤ 5)
    (first : digits 2 8 d ≡ suffix ++ 1 ∷ zeros (7 - l)) (both : digits 2 8 (d + 128) ≡ suffix ++ 1 ∷ (zeros (6 - l) ++ 1 ∷ [])) where
  end : (k : ℕ) → string (ending (suc k) d) ≡ suffix ++ 1 ∷ (zeros (8 * suc k - l - 2) ++ 1 ∷ [])
  unfolding string digits
  end zero =
      let e : 6 - l ≡ 8 * 1 - l - 2 = omega arith in
      both ∙ ap (λ (n : ℕ). suffix ++ 1 ∷ (zeros n ++ 1 ∷ [])) e
  end (suc n) =
      let e : 7 - l + (8 * n + 7) ≡ 8 * suc (suc n) - l - 2 = omega arith in
      let last : string (zeros n ++ 128 ∷ []) ≡ zeros (8 * n + 7) ++ 1 ∷ [] =
      string-append (zeros n) (128 ∷ []) ∙ ap (λ (x : List ℕ). x ++ (zeros 7 ++ 1 ∷ [])) (string-zeros n) ∙ joined (8 * n) 7 (1 ∷ []) in
      ap (λ (x : List ℕ). x ++ string (zeros n ++ 128 ∷ [])) first
      ∙ append_assoc suffix (1 ∷ zeros (7 - l)) (string (zeros n ++ 128 ∷ []))
      ∙ ap (λ (x : List ℕ). suffix ++ 1 ∷ (zeros (7 - l) ++ x)) last
      ∙ ap (λ (x : List ℕ). suffix ++ 1 ∷ x) (joined (7 - l) (8 * n + 7) (1 ∷ []) ∙ ap (λ (k : ℕ). zeros k ++ 1 ∷ []) e)

  pub padded-is : (rate : ℕ) → 0 < rate → (m : List ℕ) → string (padded rate d m) ≡ (string m ++ suffix) ++ pad (8 * rate) (length (string m ++ suffix))
  unfolding padded pad
  padded-is rate hr m =
      let q = length m / rate in
      let r = length m % rate in
      let hm : r < rate = mod-lt (length m) hr in
      let em : q * rate + r ≡ length m = div-add-mod' (length m) rate in
      let k = rate - r - 1 in
      let ek : rate - r ≡ suc k = omega arith in
      let long = length (string m ++ suffix) in
      let zs = (8 * rate - (long + 2) % (8 * rate)) % (8 * rate) in
      let n : long + 2 ≡ 8 * (q * rate + r) + l + 2 = omega (arith, string-length m, length-append (string m) suffix) in
      let j : zs ≡ 8 * suc k - l - 2 =
      ap (λ (x : ℕ). (8 * rate - x % (8 * rate)) % (8 * rate)) n ∙ count rate l q r hl hm ∙ ap (λ (x : ℕ). 8 * x - l - 2) ek in
      string-append m (ending (rate - r) d)
      ∙ ap (λ (x : List ℕ). string m ++ x)
      (ap (λ (x : ℕ). string (ending x d)) ek ∙ end k ∙ ap (λ (x : ℕ). suffix ++ 1 ∷ (zeros x ++ 1 ∷ [])) (sym j))
      ∙ sym (append_assoc (string m) suffix (1 ∷ (zeros zs ++ 1 ∷ [])))
