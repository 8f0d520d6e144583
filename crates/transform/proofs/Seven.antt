-- Powers of 7 modulo 12289.
--   x ≈ y             x and y are congruent
--   seven-turn        the exponent counts modulo 2048
--   seven-minus       1024 more are a minus, which is 12288
--   forty-nine, seven-back, forty-nine-back   49, 8778 and 1254 as powers of 7
--   table-rule        where the test passes over a table of 2,048 entries, each entry is its power of 7
--   power-lt          an entry of the table is below 12289
use Rattle.lists.proofs.Kit.{◌≡◌, sym, ap, Bool, List, ℕ, ◌+◌, ◌*◌, ◌%◌, ◌^◌, ◌<◌, mul-one, mod-lt, arith, dec_lt, pos, pow-add, T, eqb, eqb→eq, length, get_or}
use Rattle.lists.proofs.Kit.{List·getD-eq-default}
use Rattle.numbers.specs.Congruence.{◌≅⟨◌⟩◌}
use Rattle.numbers.proofs.Congruence.{eq-≅, refl-≅, sym-≅, ◌⨾◌, mul-≅, mod-≅}
use Rattle.numbers.proofs.{Natural.one-pow, Natural.power-power, Modular.pow-≅}
use Rattle.lists.proofs.Table.{every, at}
use Rattle.transform.specs.Theorems.{TableRule}

infix 4 ◌≈◌
abbrev pub ◌≈◌ : ℕ → ℕ → Type 0
x ≈ y = pos x ≅⟨ 12289 ⟩ pos y

-- 7 ^ 2048 is 1, and its powers are
order : (k : ℕ) → 7 ^ (2048 * k) ≈ 1
order k = eq-≅ (ap pos (sym (power-power 7 2048 k))) ⨾ pow-≅ k (sym-≅ (mod-≅ 12289 (7 ^ 2048))) ⨾ eq-≅ (ap pos (one-pow k))

pub seven-turn : (n k : ℕ) → 7 ^ (n + 2048 * k) ≈ 7 ^ n
seven-turn n k = eq-≅ (ap pos (pow-add 7 n (2048 * k))) ⨾ mul-≅ (refl-≅ (pos (7 ^ n))) (order k) ⨾ eq-≅ (ap pos (mul-one (7 ^ n)))

pub seven-minus : (n : ℕ) → 7 ^ (1024 + n) ≈ 12288 * 7 ^ n
seven-minus n = eq-≅ (ap pos (pow-add 7 1024 n)) ⨾ mul-≅ (sym-≅ (mod-≅ 12289 (7 ^ 1024))) (refl-≅ (pos (7 ^ n)))

pub forty-nine : (n : ℕ) → 49 ^ n ≡ 7 ^ (2 * n)
forty-nine n = power-power 7 2 n

pub seven-back : (n : ℕ) → 8778 ^ n ≈ 7 ^ (2047 * n)
seven-back n = pow-≅ n (mod-≅ 12289 (7 ^ 2047)) ⨾ eq-≅ (ap pos (power-power 7 2047 n))

pub forty-nine-back : (n : ℕ) → 1254 ^ n ≈ 7 ^ (2046 * n)
forty-nine-back n = pow-≅ n (mod-≅ 12289 (7 ^ 2046)) ⨾ eq-≅ (ap pos (power-power 7 2046 n))

-- the test of an entry, which the checker computes over the whole table
abbrev right : ℕ → ℕ → Bool
right k x = eqb x (7 ^ k % 12289)

pub table-rule : (t : List ℕ) → T (every right 0 t) → length t ≡ 2048 → TableRule t
table-rule t p l = record { size = l; power = power; minus = power 1024 (omega arith) }
  where
    power : (k : ℕ) → k < 2048 → get_or t k 0 ≡ 7 ^ k % 12289
    power k h = eqb→eq (get_or t k 0) (7 ^ k % 12289) (at right 0 t p k (rw l h))

-- past its end the table reads 0
pub power-lt : {t : List ℕ} → TableRule t → (k : ℕ) → get_or t k 0 < 12289
power-lt {t} r k = go (dec_lt k 2048)
  where
    go : Dec (k < 2048) → get_or t k 0 < 12289
    go (yes h) = rw (r.power k h) (mod-lt (7 ^ k) (omega arith))
    go (no h) = rw (List·getD-eq-default t 0 {n = k} (omega (arith, r.size))) (omega arith)
