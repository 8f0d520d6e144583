-- Writing what is shown: three lines, one after the other.
--   shown-left     all three are still to come
--   shown-short    an answer fits 32 bytes
use Rattle.lists.proofs.Kit.{ap, List, [], append_assoc, append-nil, ℕ, arith, length}
use Rattle.std.proofs.Common.{◌≡◌, ◌∷◌, ◌++◌, ◌≤◌}
use Rattle.text.specs.Text.{line}
use Rattle.text.proofs.Writing.{joined, Left, left-all}
use Rattle.line.specs.Line.{hint_name, key_name, peer_name, shown, answered}
use Rattle.line.proofs.Short.{answered-short}

abbrev three : ℕ → ℕ → ℕ → List (List ℕ)
three h k p = line hint_name h ∷ line key_name k ∷ line peer_name p ∷ []

one_by_one : (x y z : List ℕ) → x ++ y ++ z ≡ joined (x ∷ y ∷ z ∷ [])
unfolding joined
one_by_one x y z = simp (append_assoc, append-nil)

lines_are : (h k p : ℕ) → shown h k p ≡ joined (three h k p)
unfolding shown
lines_are h k p = one_by_one (line hint_name h) (line key_name k) (line peer_name p)

pub shown-left : (h k p : ℕ) (d : List ℕ) → length (shown h k p) ≤ length d → Left 0 (shown h k p) d (three h k p) d 0
shown-left h k p d l = left-all 0 (three h k p) d (lines_are h k p) (omega arith)

pub shown-short : (xs : List ℕ) {ys : List ℕ} → ys ≡ answered xs → length ys ≤ 32
shown-short xs {ys} e = omega (arith, ap length e, answered-short xs)
