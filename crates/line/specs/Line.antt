-- The line program, from the input's bytes to the output's: 01, "The line program".
--   question a b c d   the text of a question: four lines
--   asked xs           the four numbers that xs begins with and what stands behind them, or that xs is other text
--   settled a b c d    the answer's text: hint, key and the peer's key; or a refusal: 1, 9, 4, in that order
--   answered xs        the output of every input: 8 for other text, and where anything stands behind the four lines
use Rattle.std.specs.Prelude.{cond, List, [], ◌∷◌, ◌++◌, ℕ, ltb, Option, Some, None}
use Rattle.schemes.specs.{declared.Fixed.Fixed, declared.Scheme.Scheme, Schemes.by_family, Schemes.family_of, Schemes.fixed_of, Schemes.scheme_of_lem}
use Rattle.lists.specs.First.{both}
use Rattle.text.specs.Text.{scheme_name, refusal_name, line, Read, number, other, field_in}
use Rattle.bcns.specs.Rounding as bcns
use Rattle.frodo.specs.Rounding as frodo

-- the names, each with its '=', in bytes
abbrev pub coin_name : List ℕ
coin_name = 99 ∷ 111 ∷ 105 ∷ 110 ∷ 61 ∷ []

abbrev pub v_name : List ℕ
v_name = 118 ∷ 61 ∷ []

abbrev pub w_name : List ℕ
w_name = 119 ∷ 61 ∷ []

abbrev pub hint_name : List ℕ
hint_name = 104 ∷ 105 ∷ 110 ∷ 116 ∷ 61 ∷ []

abbrev pub key_name : List ℕ
key_name = 107 ∷ 101 ∷ 121 ∷ 61 ∷ []

abbrev pub peer_name : List ℕ
peer_name = 112 ∷ 101 ∷ 101 ∷ 114 ∷ 61 ∷ []

unfoldable pub question : ℕ → ℕ → ℕ → ℕ → List ℕ
question a b c d = line scheme_name a ++ line coin_name b ++ line v_name c ++ line w_name d

-- ---- reading: the four lines one after the other

-- the last four numbers read, and what stands behind them; or other text
pub data Asked : Type 0 where
  numbers : ℕ → ℕ → ℕ → ℕ → List ℕ → Asked
  text : Asked

abbrev pub shifted : ℕ → ℕ → ℕ → Read → Asked
shifted b c d (number x xs) = numbers b c d x xs
shifted b c d other = text

-- one line more
abbrev pub moved : List ℕ → Asked → Asked
moved name (numbers a b c d xs) = shifted b c d (field_in name xs)
moved name text = text

unfoldable pub asked : List ℕ → Asked
asked xs = moved w_name (moved v_name (moved coin_name (moved scheme_name (numbers 0 0 0 0 xs))))

-- ---- answering

unfoldable pub refusal : ℕ → List ℕ
refusal n = line refusal_name n

unfoldable pub shown : ℕ → ℕ → ℕ → List ℕ
shown hint key peer = line hint_name hint ++ line key_name key ++ line peer_name peer

-- what passes the tests: in BCNS, and in Frodo over the interval I and the bits B
unfoldable pub bcns_shown : ℕ → ℕ → ℕ → List ℕ
bcns_shown coin v w =
    shown (bcns.hint_of (bcns.doubled coin v)) (bcns.key_of (bcns.doubled coin v)) (bcns.peer_of (bcns.hint_of (bcns.doubled coin v)) w)

unfoldable pub frodo_shown : ℕ → ℕ → ℕ → ℕ → List ℕ
frodo_shown I B v w = shown (frodo.hint_of I v) (frodo.key_of I B v) (frodo.peer_of I B (frodo.hint_of I v) w)

unfoldable pub bcns_answer : ℕ → ℕ → ℕ → List ℕ
bcns_answer coin v w = cond (ltb 3 coin) (refusal 9) (cond (both (ltb v bcns.q) (ltb w bcns.q)) (bcns_shown coin v w) (refusal 4))

-- over the fixed numbers of a scheme
unfoldable pub frodo_answer : Fixed → ℕ → ℕ → ℕ → List ℕ
frodo_answer f coin v w =
    cond (ltb 0 coin) (refusal 9)
    (cond (both (ltb v f.q) (ltb w f.q)) (frodo_shown (frodo.interval f) f.keybits v w) (refusal 4))

-- 1 for a scheme not 0 or 2..5
unfoldable pub settled_in : Option Scheme → ℕ → ℕ → ℕ → List ℕ
settled_in (Some s) coin v w = by_family (family_of s) (bcns_answer coin v w) (refusal 1) (frodo_answer (fixed_of s) coin v w)
settled_in None coin v w = refusal 1

unfoldable pub settled : ℕ → ℕ → ℕ → ℕ → List ℕ
settled scheme coin v w = settled_in (scheme_of_lem scheme) coin v w

unfoldable pub answer_to : Asked → List ℕ
answer_to (numbers a b c d []) = settled a b c d
answer_to (numbers a b c d (x ∷ xs)) = refusal 8
answer_to text = refusal 8

unfoldable pub answered : List ℕ → List ℕ
answered xs = answer_to (asked xs)
