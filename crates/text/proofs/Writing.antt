-- Writing into a buffer from a position on.
--   written_byte, written-copy   one byte, a text
--   written_then           one text behind another
--   written_as             a text under another name
--   written-length         the buffer keeps its length
--   joined, Left, left-all, left-room, left-next, left-none   a text in parts: at the start, the room for a part, behind it, at the end
--   one-digit, last-digit  the text of a number, by its last digit
--   one-room, one_written, more_room, Ending, ending   writing it so
--   line-length, line-room, number-room, Lined, lined   a line: its label, a number, LF
use Rattle.lists.proofs.Kit.{refl, ◌∙◌, sym, ap, ap₂, List, [], append_assoc, append-nil, ℕ, add-zero}
use Rattle.std.proofs.Common.{◌≡◌, ◌∷◌, ◌++◌, ◌+◌, ◌-◌, ◌/◌, ◌%◌, ◌^◌, ◌≤◌, ◌<◌}
use Rattle.lists.proofs.Kit.{add-one, arith, length, set, take, drop, length-append, length-drop, take-append-drop, length-take-le, take_at, drop_at, drop-drop}
use Rattle.lists.proofs.Kit.{set_split, lt-ltb, le-ltb, put_mid}
use Rattle.text.specs.{Text.LF, Text.digits_up_to, Text.decimal, Text.line, Steps.Written}
use Rattle.text.proofs.Numeral.{enough}

written_byte : (d : List ℕ) (i x : ℕ) → i < length d → Written i (x ∷ []) d (set d i x) (i + 1)
written_byte d i x h = record { count = refl; text = set_split d i x h ∙ rw (append_assoc, add-one) }

-- xs was written to the part of d from i on that is as long
pub written-copy : (d : List ℕ) (i : ℕ) {p xs : List ℕ} → p ≡ xs → Written i xs d (put_mid i (i + length xs - i) d p) (i + length xs)
written-copy d i {p} {xs} e =
    let l : i + length xs - i ≡ length xs = omega arith in
    record { count = refl; text = rw (e, l, append_assoc, drop-drop) }

pub written_as : {i : ℕ} {xs ys d e : List ℕ} {j : ℕ} → xs ≡ ys → Written i ys d e j → Written i xs d e j
written_as q h = rw q h

module _ {i : ℕ} {xs d e : List ℕ} {j : ℕ} (h : Written i xs d e j) (l : j ≤ length d) where
  front : length (take i d ++ xs) ≡ j
  front = rw (length-append, length-take-le i d (omega (arith, h.count))) (sym h.count)

  pub written-length : length e ≡ length d
  written-length = ap length h.text ∙ rw length-append (rw (front, length-drop) (omega (arith, h.count)))

  front-is : take j e ≡ take i d ++ xs
  front-is = ap (take j) h.text ∙ take_at (take i d ++ xs) (drop (i + length xs) d) j front

  rest-is : drop j e ≡ drop j d
  rest-is = ap (drop j) h.text ∙ drop_at (take i d ++ xs) (drop (i + length xs) d) j front ∙ rw h.count

  written_then : {ys f : List ℕ} {r : ℕ} → Written j ys e f r → Written i (xs ++ ys) d f r
  written_then {ys} {f} {r} g =
      let n : i + length (xs ++ ys) ≡ j + length ys = omega (arith, h.count, length-append xs ys) in
      record {
        count = g.count ∙ sym n;
        text =
            g.text
            ∙ ap₂ (λ (s t : List ℕ). s ++ ys ++ t) front-is
            (sym (drop-drop (length ys) j e) ∙ ap (drop (length ys)) rest-is ∙ drop-drop (length ys) j d)
            ∙ rw (append_assoc (take i d) xs ys, n);
      }

pub one-digit : (n : ℕ) → n < 10 → decimal n ≡ (48 + n) ∷ []
unfolding decimal digits_up_to
one-digit n h = rw (lt-ltb n 10 h)

last-digit : (n : ℕ) → 10 ≤ n → n < 10 ^ 20 → decimal n ≡ decimal (n / 10) ++ (48 + n % 10) ∷ []
unfolding decimal digits_up_to
last-digit n l u =
    rw (le-ltb n 10 l)
    (ap (λ (s : List ℕ). s ++ (48 + n % 10) ∷ []) (sym (enough 18 20 (n / 10) (omega arith) (omega arith))))

-- a text in parts: of the whole that is to stand in d from i on, the parts of rest are still to come, from j on in e
unfoldable pub joined : List (List ℕ) → List ℕ
joined [] = []
joined (x ∷ xs) = x ++ joined xs

pub record Left (i : ℕ) (whole d : List ℕ) (rest : List (List ℕ)) (e : List ℕ) (j : ℕ) : Type 0 where
  pub fits : j + length (joined rest) ≤ length e
  pub long : length e ≡ length d
  pub closes : (f : List ℕ) (r : ℕ) → Written j (joined rest) e f r → Written i whole d f r

pub left-all : {whole : List ℕ} (i : ℕ) (parts : List (List ℕ)) (d : List ℕ) → whole ≡ joined parts → i + length whole ≤ length d → Left i whole d parts d i
left-all i parts d q h = record { fits = rw q at h; long = refl; closes = λ f r w. written_as q w }

module _ {i j : ℕ} {whole d e x : List ℕ} {rest : List (List ℕ)} (h : Left i whole d (x ∷ rest) e j) where
  parts-long : length (joined (x ∷ rest)) ≡ length x + length (joined rest)
  unfolding joined
  parts-long = length-append x (joined rest)

  pub left-room : j + length x ≤ length e
  left-room = omega (arith, h.fits, parts-long)

  pub left-next : {f : List ℕ} {k : ℕ} → Written j x e f k → Left i whole d rest f k
  unfolding joined
  left-next {f} {k} w =
      let l = written-length w (omega (arith, w.count, left-room)) in
      record {
        fits = omega (arith, h.fits, parts-long, w.count, l);
        long = l ∙ h.long;
        closes = λ g r v. h.closes g r (written_then w (omega (arith, w.count, left-room)) v);
      }

pub written_none : (d : List ℕ) (i : ℕ) → Written i [] d d i
written_none d i = record { count = omega arith; text = sym (simp (append-nil, add-zero) (take-append-drop i d)) }

pub left-none : {i j : ℕ} {whole d e : List ℕ} → Left i whole d [] e j → Written i whole d e j
unfolding joined
left-none {i} {j} {whole} {d} {e} h = h.closes e j (written_none e j)

-- a number of several digits: all but the last are written, which gives e and the position k, then the last
pub record Ending (n : ℕ) (d : List ℕ) (at : ℕ) (e : List ℕ) (k : ℕ) : Type 0 where
  pub room : k < length e
  pub long : length e ≡ length d
  pub done : Written at (decimal n) d (set e k (48 + n % 10)) (k + 1)

module _ (n : ℕ) (d : List ℕ) (at : ℕ) (h : at + length (decimal n) ≤ length d) where
  pub one-room : n < 10 → at < length d
  one-room l = omega (arith, ap length (one-digit n l))

  pub one_written : n < 10 → Written at (decimal n) d (set d at (48 + n)) (at + 1)
  one_written l = rw (one-digit n l) (written_byte d at (48 + n) (one-room l))

  module _ (l : 10 ≤ n) (u : n < 10 ^ 20) where
    pub more_room : at + length (decimal (n / 10)) + 1 ≤ length d
    more_room = omega (arith, ap length (last-digit n l u) ∙ length-append (decimal (n / 10)) ((48 + n % 10) ∷ []))

    pub ending : {e : List ℕ} {k : ℕ} → Written at (decimal (n / 10)) d e k → Ending n d at e k
    ending {e} {k} w =
        let g : length e ≡ length d = written-length w (omega (arith, w.count, more_room)) in
        let r : k < length e = omega (arith, w.count, more_room) in
        record {
          room = r;
          long = g;
          done = rw (last-digit n l u) (written_then w (omega (arith, w.count, more_room)) (written_byte e k (48 + n % 10) r));
        }

-- a line: its label, then its number, which gives f and the position k, then LF
pub record Lined (label : List ℕ) (n : ℕ) (d : List ℕ) (at : ℕ) (f : List ℕ) (k : ℕ) : Type 0 where
  pub room : k < length f
  pub long : length f ≡ length d
  pub done : Written at (line label n) d (set f k LF) (k + 1)

pub line-length : (name : List ℕ) (n : ℕ) → length (line name n) ≡ length name + length (decimal n) + 1
unfolding line
line-length name n = simp length-append

module _ (label : List ℕ) (n : ℕ) (d : List ℕ) (at : ℕ) (h : at + length (line label n) ≤ length d) where
  pub line-room : at + length label + length (decimal n) + 1 ≤ length d
  line-room = omega (arith, line-length label n)

  module _ {e : List ℕ} {j : ℕ} (v : Written at label d e j) where
    pub number-room : j + length (decimal n) ≤ length e
    number-room = omega (arith, v.count, line-room, written-length v (omega (arith, v.count, line-room)))

    pub lined : {f : List ℕ} {k : ℕ} → Written j (decimal n) e f k → Lined label n d at f k
    unfolding line
    lined {f} {k} w =
        let s : Written at (label ++ decimal n) d f k = written_then v (omega (arith, v.count, line-room)) w in
        let c : k + 1 ≤ length d = omega (arith, v.count, w.count, line-room) in
        let g : length f ≡ length d = written-length s (omega arith) in
        record { room = omega arith; long = g; done = written_then s (omega arith) (written_byte f k LF (omega arith)) }
