-- The first 50 bytes of a text tell what is read (`specs/Shown.antt`): settings have at most 49, and the line of a newer format at most 18.
use Rattle.lists.proofs.Kit.{refl, ◌∙◌, sym, ap, List, append_assoc, ℕ, dec_le, arith, eqb, length, take, drop, length-take, take-append-drop, take_all}
use Rattle.std.proofs.Common.{◌≡◌, ◌++◌, ◌+◌, ◌-◌, ◌^◌, ◌≤◌, ◌<◌}
use lib.Seq.{take-append-add}
use Rattle.lists.proofs.Table.{cond-all}
use Rattle.text.specs.Text.{line}
use Rattle.text.proofs.{Numeral.decimal-length, Lines.line-forth, Lines.line-back, Writing.line-length}
use Rattle.settings.specs.Settings.{Setup, format_name, Reading, setup, newer, misfit, reads}
use Rattle.settings.specs.{Steps.size_of, Shown.Is, Shown.Enough}
use Rattle.settings.proofs.{Inverse.no_other, Inverse.newer-told, Inverse.newer-only, Store.size_is}

text-short : {reader : ℕ} {xs : List ℕ} {x : Setup} → Is reader xs x → length xs ≤ 49
text-short {reader} {xs} {x} h =
    let v = h.valid in
    let l = x.label in
    let s : size_of (length l) ≤ 49 = cond-all (λ (x : ℕ). x ≤ 49) (eqb (length l) 0) (omega arith) (omega (arith, v.short)) in
    omega (arith, ap length h.text, size_is x v.scheme v.rule, s)

starts : {reader n : ℕ} {xs : List ℕ} (ys : List ℕ) → xs ≡ line format_name n ++ ys → n < 10 ^ 10 → reader < n → reads reader xs ≡ newer n
starts {reader} {n} {xs} ys e l h =
    newer-told reader xs n (record { behind = ys; first = rw e (line-forth format_name n ys l); above = h })

first_short : (n : ℕ) → n < 10 ^ 10 → length (line format_name n) ≤ 18
first_short n l = rw line-length (omega (arith, decimal-length 9 n l (omega arith)))

module _ (reader : ℕ) (xs : List ℕ) where
  whole-newer : {n : ℕ} → reads reader xs ≡ newer n → reads reader (take 50 xs) ≡ newer n
  whole-newer {n} e =
      let o = newer-only reader xs n e in
      let b = line-back format_name xs o.first in
      let m = length (line format_name n) in
      let k : 50 ≡ m + (50 - m) = omega (arith, first_short n b.1) in
      starts (take (50 - m) o.behind)
      (ap (take 50) b.0 ∙ ap (λ (j : ℕ). take j (line format_name n ++ o.behind)) k ∙ take-append-add (line format_name n) o.behind (50 - m))
      b.1 o.above

  part-newer : {n : ℕ} → reads reader (take 50 xs) ≡ newer n → reads reader xs ≡ newer n
  part-newer {n} e =
      let o = newer-only reader (take 50 xs) n e in
      let b = line-back format_name (take 50 xs) o.first in
      starts (o.behind ++ drop 50 xs)
      (sym (take-append-drop 50 xs) ∙ ap (λ (t : List ℕ). t ++ drop 50 xs) b.0 ∙ append_assoc (line format_name n) o.behind (drop 50 xs))
      b.1 o.above

pub enough : Enough
enough reader xs = go (dec_le (length xs) 49)
  where
    go : Dec (length xs ≤ 49) → reads reader (take 50 xs) ≡ reads reader xs
    go (yes l) = ap (reads reader) (take_all 50 xs (omega arith))
    go (no l) = pick (reads reader xs) (reads reader (take 50 xs)) refl refl
      where
        pick : (r q : Reading) → reads reader xs ≡ r → reads reader (take 50 xs) ≡ q → q ≡ r
        pick (setup x) q e f = absurd (omega (arith, text-short (no_other reader xs x e)))
        pick (newer n) q e f = sym f ∙ whole-newer reader xs e
        pick misfit (setup x) e f =
            absurd (omega (arith, text-short (no_other reader (take 50 xs) x f), length-take 50 xs))
        pick misfit (newer n) e f = let z = part-newer reader xs f in cc
        pick misfit misfit e f = refl
