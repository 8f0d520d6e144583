-- Digits of wi bits turned into digits of wo bits by an accumulator of 64 bits: the invariant of both loops, of packing at wo = 8 and of
-- unpacking at wi = 8.
--   written b k v j out   `out` with the k lowest digits of v written from place j on
--   filled b v j out      `out` up to place j, then the digits of v to the end
--   one, full, fill       one digit is stored; at the end nothing is to follow; k digits written leave that many fewer to follow
--   Flow                  what holds at each turn: with what is held and what is still to come, `out` comes to hold all
--   take_in, emit         it holds after k digits are taken in, and after k are written; where it starts, `resume` of Groups says
--   fits, room            what is held fits the accumulator; what is held and written has room
--   all_in, all-out       once all is taken in, the digits of what is held complete `out`; once all is written, it is complete
use Rattle.lists.proofs.Kit.{sym, ap, ◌∙◌, List, append_assoc, append-nil, ℕ, add-mul-div_left}
use Rattle.std.proofs.Common.{◌≡◌, ◌++◌, ◌+◌, ◌*◌, ◌-◌, ◌/◌, ◌%◌, ◌^◌, ◌≤◌, ◌<◌}
use Rattle.lists.proofs.Kit.{lt_of_lt_of_le, mul-le-mul_left, one-le-pow, add-one, arith, w64, Fits, length, take, drop, set, length-append, length-drop}
use Rattle.lists.proofs.Kit.{drop_of_length-le, drop-drop, length-take-le, set_split, take_all, take_at, pow-add, pow_mono, pow_pos, shl_exact, shr_lt}
use Rattle.lists.proofs.Kit.{digits_lt}
use lib.Seq.{append_snoc}
use Rattle.numbers.proofs.Natural.{power-power}
use Rattle.packing.specs.Packing.{value, digits}
use Rattle.packing.proofs.Laws.{value-split, digits_append, digits-length, digits_low}

abbrev pub written : ℕ → ℕ → ℕ → ℕ → List ℕ → List ℕ
written b k v j out = take j out ++ digits b k v ++ drop (j + k) out

abbrev pub filled : ℕ → ℕ → ℕ → List ℕ → List ℕ
filled b v j out = take j out ++ digits b (length out - j) v

pub one : (b v j : ℕ) (out : List ℕ) → j < length out → set out j (v % b) ≡ written b 1 v j out
unfolding digits
one b v j out l = set_split out j (v % b) l ∙ rw (append_snoc, add-one)

pub full : (b v j : ℕ) (out : List ℕ) → length out ≤ j → filled b v j out ≡ out
unfolding digits
full b v j out l =
    let n : length out - j ≡ 0 = omega arith in
    rw (n, take_all, append-nil)

module _ (b k v j : ℕ) (out : List ℕ) (l : j + k ≤ length out) where
  front : length (take j out ++ digits b k v) ≡ j + k
  front = rw (length-append, length-take-le j out (omega arith), digits-length)

  pub written-length : length (written b k v j out) ≡ length out
  written-length = rw (length-append, front, length-drop) (omega arith)

  pub fill : (t : ℕ) → 0 < b → filled b (v / b ^ k + t) (j + k) (written b k v j out) ≡ filled b (v + b ^ k * t) j out
  fill t p =
      let n : length out - j ≡ k + (length out - (j + k)) = omega arith in
      let taken = take_at (take j out ++ digits b k v) (drop (j + k) out) (j + k) front in
      rw (written-length, taken, n, append_assoc, digits_append, digits_low b k v t p, add-mul-div_left v t (one-le-pow k b p))

pub record Flow (wi wo : ℕ) (xs : List ℕ) (n : ℕ) (out : List ℕ) (acc held i j : ℕ) : Type 0 where
  pub len : length out ≡ n
  pub bits : held + wo * j ≡ wi * i
  pub small : acc < 2 ^ held
  pub same : filled (2 ^ wo) (acc + 2 ^ held * value (2 ^ wi) (drop i xs)) j out ≡ digits (2 ^ wo) n (value (2 ^ wi) xs)

module _ {wi wo : ℕ} {xs : List ℕ} {n : ℕ} {out : List ℕ} {acc held i j : ℕ} (f : Flow wi wo xs n out acc held i j) where
  pub take_in : (k d x : ℕ) → wi * k ≡ d → held + d ≤ 64 → x < 2 ^ d → x ≡ value (2 ^ wi) (take k (drop i xs))
      → Flow wi wo xs n out (acc + x * 2 ^ held % 2 ^ 64) (held + d) (i + k) j
  take_in k d x e h l v = rw (shl_exact d held 64 l (omega arith)) (record {
    len = f.len;
    bits = omega (arith, f.bits, e);
    small = rw pow-add (omega (arith, digits_lt l f.small));
    same = rw more f.same;
  })
    where
      more : acc + x * 2 ^ held + 2 ^ (held + d) * value (2 ^ wi) (drop (i + k) xs) ≡ acc + 2 ^ held * value (2 ^ wi) (drop i xs)
      more = rw (value-split (2 ^ wi) k (drop i xs), ← v, drop-drop, power-power, e, pow-add) (omega arith)

  pub emit : (k d : ℕ) → wo * k ≡ d → d ≤ held → j + k ≤ n
      → Flow wi wo xs n (written (2 ^ wo) k acc j out) (acc / 2 ^ d) (held - d) i (j + k)
  emit k d e h m = record {
    len = written-length (2 ^ wo) k acc j out l ∙ f.len;
    bits = omega (arith, f.bits, e);
    small = shr_lt (held - d) d (rw up at f.small);
    same = rw (← base) (fill (2 ^ wo) k acc j out l (2 ^ (held - d) * rest) (pow_pos wo) ∙ rw (← split) f.same);
  }
    where
      rest : ℕ
      rest = value (2 ^ wi) (drop i xs)

      l : j + k ≤ length out
      l = omega (arith, f.len)

      up : held ≡ held - d + d
      up = omega arith

      base : (2 ^ wo) ^ k ≡ 2 ^ d
      base = rw (power-power, e)

      split : 2 ^ held * rest ≡ (2 ^ wo) ^ k * (2 ^ (held - d) * rest)
      split = rw (base, ap (λ (n : ℕ). 2 ^ n) up, pow-add) (omega arith)

  pub fits : held ≤ 64 → Fits w64 acc
  fits h = record { fits = lt_of_lt_of_le f.small (pow_mono h) }

  pub room : i ≤ length xs → wi * length xs ≡ wo * n → held + wo * j ≤ wo * n
  room h e = omega (arith, f.bits, mul-le-mul_left wi h)

  pub all_in : length xs ≤ i → filled (2 ^ wo) acc j out ≡ digits (2 ^ wo) n (value (2 ^ wi) xs)
  unfolding value
  all_in h =
      let e : acc + 2 ^ held * value (2 ^ wi) (drop i xs) ≡ acc = rw (drop_of_length-le xs h) (omega arith) in
      rw e at f.same

  pub all-out : n ≤ j → out ≡ digits (2 ^ wo) n (value (2 ^ wi) xs)
  all-out h = sym (full (2 ^ wo) _ j out (omega (arith, f.len))) ∙ f.same
