-- The trace program, from the input's bytes to the output's: 02, request f.
--   traced ys          the text of a trace: for each exchange the lines `scheme=N` and `slack=N`
--   recorded_in k xs    the exchanges of a trace of at most k, or that xs is other text
--   slacks_of s ys      the slacks of the exchanges of scheme s
--   summary ys         for each scheme present, lowest first, the lines `scheme=`, `exchanges=`, `sum=`, `largest=`
--   answered xs        the output of every input: refusal 8 for other text, a missing slack line or more than 4,096 lines
use Rattle.std.specs.Prelude.{cond, List, [], ◌∷◌, ◌++◌, ℕ, zero, suc, ◌+◌, eqb, leb, length}
use Rattle.lists.specs.First.{largest_by}
use Rattle.text.specs.Text.{scheme_name, refusal_name, line, Read, number, other, field_in}

-- the names, each with its '=', in bytes
abbrev pub slack_name : List ℕ
slack_name = 115 ∷ 108 ∷ 97 ∷ 99 ∷ 107 ∷ 61 ∷ []

abbrev pub exchanges_name : List ℕ
exchanges_name = 101 ∷ 120 ∷ 99 ∷ 104 ∷ 97 ∷ 110 ∷ 103 ∷ 101 ∷ 115 ∷ 61 ∷ []

abbrev pub sum_name : List ℕ
sum_name = 115 ∷ 117 ∷ 109 ∷ 61 ∷ []

abbrev pub largest_name : List ℕ
largest_name = 108 ∷ 97 ∷ 114 ∷ 103 ∷ 101 ∷ 115 ∷ 116 ∷ 61 ∷ []

pub record Exchange : Type 0 where
  pub scheme : ℕ
  pub slack : ℕ

unfoldable pub traced : List Exchange → List ℕ
traced [] = []
traced (y ∷ ys) = line scheme_name y.scheme ++ (line slack_name y.slack ++ traced ys)

-- ---- reading: one exchange after the other, and nothing behind them

-- an exchange's scheme and slack and what stands behind its two lines, or other text
pub data Two : Type 0 where
  two : ℕ → ℕ → List ℕ → Two
  neither : Two

unfoldable pub slack_in : ℕ → Read → Two
slack_in a (number b xs) = two a b xs
slack_in a other = neither

-- "Scheme is 0 to 5"
unfoldable pub scheme_in : Read → Two
scheme_in (number a xs) = cond (leb a 5) (slack_in a (field_in slack_name xs)) neither
scheme_in other = neither

unfoldable pub two_in : List ℕ → Two
two_in xs = scheme_in (field_in scheme_name xs)

pub data Trace : Type 0 where
  recorded : List Exchange → Trace
  unread : Trace

abbrev pub more : ℕ → ℕ → Trace → Trace
more a b (recorded ys) = recorded (record { scheme = a; slack = b } ∷ ys)
more a b unread = unread

abbrev pub behind : (List ℕ → Trace) → Two → Trace
behind f (two a b xs) = more a b (f xs)
behind f neither = unread

unfoldable pub recorded_in : ℕ → List ℕ → Trace
recorded_in zero [] = recorded []
recorded_in zero (c ∷ cs) = unread
recorded_in (suc k) [] = recorded []
recorded_in (suc k) (c ∷ cs) = behind (λ xs. recorded_in k xs) (two_in (c ∷ cs))

-- ---- answering

unfoldable pub slacks_of : ℕ → List Exchange → List ℕ
slacks_of s [] = []
slacks_of s (y ∷ ys) = cond (eqb y.scheme s) (y.slack ∷ slacks_of s ys) (slacks_of s ys)

unfoldable pub total : List ℕ → ℕ
total [] = 0
total (x ∷ xs) = x + total xs

-- the lines of a scheme, where it has an exchange
unfoldable pub block : ℕ → ℕ → ℕ → ℕ → List ℕ
block s exchanges sum largest =
    cond (eqb exchanges 0) []
    (line scheme_name s ++ (line exchanges_name exchanges ++ (line sum_name sum ++ line largest_name largest)))

unfoldable pub block_of : ℕ → List Exchange → List ℕ
block_of s ys = block s (length (slacks_of s ys)) (total (slacks_of s ys)) (largest_by (λ x. x) (slacks_of s ys))

unfoldable pub summary : List Exchange → List ℕ
summary ys = block_of 0 ys ++ (block_of 1 ys ++ (block_of 2 ys ++ (block_of 3 ys ++ (block_of 4 ys ++ block_of 5 ys))))

unfoldable pub answer_to : Trace → List ℕ
answer_to (recorded ys) = summary ys
answer_to unread = line refusal_name 8

-- "up to 4,096 lines": 2,048 exchanges
unfoldable pub answered : List ℕ → List ℕ
answered xs = answer_to (recorded_in 2048 xs)
