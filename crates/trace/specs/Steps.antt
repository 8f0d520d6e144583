-- What the code's steps do, in the terms of `Trace`; no promise to a caller stands here.
--   two_of xs r, end_of r   what the two lines that were read mean in the input xs, and the position behind them
--   none, added t b         a scheme's counters before, and with one exchange more
--   Held n ts               the counters of n exchanges: six of them, and how large they are
--   summary_of ts           the summary, by the counters
--   text_of r               the text of an answer: the summary, or a refusal where not the whole trace was read
use Rattle.std.specs.Prelude.{◌≡◌, List, ◌++◌, ℕ, ◌+◌, ◌*◌, ◌≤◌, max, length, get_or, drop, Option, Some, None}
use Rattle.text.specs.Text.{line, refusal_name}
use Rattle.trace.specs.Trace.{Two, two, neither, block}
pub use Rattle.trace.specs.{declared.Pair.Pair, declared.Tally.Tally}

abbrev pub two_of : List ℕ → Option Pair → Two
two_of xs (Some p) = two p.scheme p.slack (drop p.end xs)
two_of xs None = neither

abbrev pub end_of : Option Pair → ℕ
end_of (Some p) = p.end
end_of None = 0

pub record Reads (xs : List ℕ) (r : Option Pair) (x : Two) : Type 0 where
  pub means : two_of xs r ≡ x
  pub within : end_of r ≤ length xs

abbrev pub none : Tally
none = record { count = 0; sum = 0; largest = 0 }

abbrev pub added : Tally → ℕ → Tally
added t b = record { count = t.count + 1; sum = t.sum + b; largest = max t.largest b }

pub record Held (n : ℕ) (ts : List Tally) : Type 0 where
  pub six : length ts ≡ 6
  pub few : (j : ℕ) → (get_or ts j none).count ≤ n
  pub small : (j : ℕ) → (get_or ts j none).sum ≤ n * 10000000000

abbrev pub block_at : List Tally → ℕ → List ℕ
block_at ts j = block j (get_or ts j none).count (get_or ts j none).sum (get_or ts j none).largest

unfoldable pub summary_of : List Tally → List ℕ
summary_of ts = block_at ts 0 ++ (block_at ts 1 ++ (block_at ts 2 ++ (block_at ts 3 ++ (block_at ts 4 ++ block_at ts 5))))

abbrev pub text_of : Option (List Tally) → List ℕ
text_of (Some ts) = summary_of ts
text_of None = line refusal_name 8
