-- A question is exactly its four lines (`specs/Exactly.antt`), a line at a time.
--   exactly                     a question is read as its numbers, and no other text is
--   question-short, enough      a question has at most 60 bytes, so the first 61 of a text tell
use Rattle.lists.proofs.Kit.{refl, ◌∙◌, sym, ap, List, [], append_assoc, append-nil, ℕ, dec_le, arith, length, take, length-append, length-take, take_all}
use Rattle.std.proofs.Common.{◌≡◌, ◌∷◌, ◌++◌, ◌^◌, ◌≤◌, ◌<◌}
use Rattle.text.specs.Text.{scheme_name, decimal, line, Read, number, other, field_in}
use Rattle.text.proofs.{Numeral.decimal-length, Lines.line-forth, Lines.line-back}
use Rattle.line.specs.Line.{coin_name, v_name, w_name, question, Asked, numbers, text, shifted, moved, asked, refusal, answer_to, answered}
use Rattle.line.specs.Exactly.{Is, Exactly, bytes, Enough}

abbrev lines_of : ℕ → ℕ → ℕ → ℕ → List ℕ
lines_of a b c d = line scheme_name a ++ (line coin_name b ++ (line v_name c ++ (line w_name d ++ [])))

question-lines : (a b c d : ℕ) → question a b c d ≡ lines_of a b c d
unfolding question
question-lines a b c d = simp (append_assoc, append-nil)

question-read : (xs : List ℕ) (a b c d : ℕ) → Is xs a b c d → asked xs ≡ numbers a b c d []
unfolding asked
question-read xs a b c d h =
    rw (
      h.text,
      question-lines a b c d,
      line-forth scheme_name a (line coin_name b ++ (line v_name c ++ (line w_name d ++ []))) h.scheme,
      line-forth coin_name b (line v_name c ++ (line w_name d ++ [])) h.coin,
      line-forth v_name c (line w_name d ++ []) h.v,
      line-forth w_name d [] h.w,
    )

-- what was read before a line, where it was read
record Before (name : List ℕ) (p : Asked) (b c d x : ℕ) (ys : List ℕ) : Type 0 where
  first : ℕ
  whole : p ≡ numbers first b c d (line name x ++ ys)
  small : x < 10 ^ 10

moved_back : {b c d x : ℕ} {ys : List ℕ} (name : List ℕ) (p : Asked) → moved name p ≡ numbers b c d x ys → Before name p b c d x ys
moved_back name text = λ e. let z : ◌≡◌ {A = ℕ} 0 1 = cc in absurd (omega arith)
moved_back {b} {c} {d} {x} {ys} name (numbers a k l m xs) = go (field_in name xs) refl
  where
    go : (r : Read) → field_in name xs ≡ r → shifted k l m r ≡ numbers b c d x ys → Before name (numbers a k l m xs) b c d x ys
    go (number y zs) f e =
        let o = line-back {n = x} {ys = ys} name xs (f ∙ cc) in
        record { first = a; whole = ap (numbers a k l m) o.0 ∙ cc; small = o.1 }
    go other f e = let z : ◌≡◌ {A = ℕ} 0 1 = cc in absurd (omega arith)

behind : {a b c d k l m n : ℕ} {xs ys : List ℕ} → numbers a b c d xs ≡ numbers k l m n ys → xs ≡ ys
behind e = cc

no_other : (xs : List ℕ) (a b c d : ℕ) → asked xs ≡ numbers a b c d [] → Is xs a b c d
unfolding asked
no_other xs a b c d e =
    let p = numbers 0 0 0 0 xs in
    let q = moved scheme_name p in
    let r = moved coin_name q in
    let h = moved_back w_name (moved v_name r) e in
    let i = moved_back v_name r h.whole in
    let j = moved_back coin_name q i.whole in
    let k = moved_back scheme_name p j.whole in
    record { text = behind k.whole ∙ sym (question-lines a b c d); scheme = k.small; coin = j.small; v = i.small; w = h.small }

pub exactly : Exactly
exactly = record { question-read = question-read; no_other = no_other }

pub question-short : {xs : List ℕ} {a b c d : ℕ} → Is xs a b c d → length xs ≤ 60
unfolding question line
question-short {xs} {a} {b} {c} {d} h =
    let few : (n : ℕ) → n < 10 ^ 10 → length (decimal n) ≤ 10 = λ n l. decimal-length 9 n l (omega arith) in
    rw h.text (simp length-append (omega (arith, few a h.scheme, few b h.coin, few c h.v, few d h.w)))

long : (xs : List ℕ) → 60 < length xs → answered xs ≡ refusal 8
unfolding answered answer_to
long xs h = go (asked xs) refl
  where
    go : (r : Asked) → asked xs ≡ r → answer_to r ≡ refusal 8
    go (numbers a b c d []) e = absurd (omega (arith, question-short (no_other xs a b c d e)))
    go (numbers a b c d (y ∷ ys)) e = refl
    go text e = refl

pub enough : Enough
enough xs = go (dec_le (length xs) bytes)
  where
    go : Dec (length xs ≤ bytes) → answered (take bytes xs) ≡ answered xs
    go (yes l) = ap answered (take_all bytes xs l)
    go (no l) = long (take bytes xs) (rw length-take (omega arith)) ∙ sym (long xs (omega arith))
