-- What the code's steps do, in the terms of `Line`; no promise to a caller stands here.
--   part_of xs r               what the four lines that were read mean in the input xs
--   number_of e                the number of a refusal
--   tested most q coin v w     that the tests pass, or the refusal of a coin over most, of v or w of q or more, in that order
--   lines_of a, text_of r      the text of what is shown, and of an answer
use Rattle.std.specs.Prelude.{cond, List, ℕ, ltb, drop, Option, Some, None, Result, Ok, Err}
use Rattle.lists.specs.First.{both}
use Rattle.line.specs.Line.{Asked, numbers, text, shown, refusal}
pub use Rattle.line.specs.{declared.Question.Question, declared.Shown.Shown, declared.Refusal.Refusal}
pub use Rattle.line.specs.declared.Refusal.TheVariants.{Unnamed, Value, Text, Coin}

-- ---- reading

abbrev pub part_of : List ℕ → Option Question → Asked
part_of xs (Some q) = numbers q.scheme q.coin q.v q.w (drop q.end xs)
part_of xs None = text

-- ---- the decision

abbrev pub number_of : Refusal → ℕ
number_of Unnamed = 1
number_of Value = 4
number_of Text = 8
number_of Coin = 9

unfoldable pub tested : ℕ → ℕ → ℕ → ℕ → ℕ → Result Unit Refusal
tested most q coin v w = cond (ltb most coin) (Err Coin) (cond (both (ltb v q) (ltb w q)) (Ok tt) (Err Value))

abbrev pub lines_of : Shown → List ℕ
lines_of a = shown a.hint a.key a.peer

abbrev pub text_of : Result Shown Refusal → List ℕ
text_of (Ok a) = lines_of a
text_of (Err e) = refusal (number_of e)
