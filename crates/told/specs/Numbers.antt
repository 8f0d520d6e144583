-- The numbers that a call leaves with a program in C: what it returns, and what then stands behind the pointers.
--   reply_numbers, finish_numbers   those of Reply and of Finish
use Rattle.std.specs.Prelude.{ℕ}
use Rattle.refusals.specs.Seen.{Told}
use Rattle.finish.specs.declared.FinishCounts.{FinishCounts}
use Rattle.reply.specs.declared.ReplyCounts.{ReplyCounts}

abbrev pub reply_numbers : ℕ → ℕ → ℕ → ℕ → ℕ → Told ReplyCounts
reply_numbers number place written keyed digested =
    record { number = number; place = place; counts = record { message = written; key = keyed; digest = digested } }

abbrev pub finish_numbers : ℕ → ℕ → ℕ → ℕ → ℕ → ℕ → Told FinishCounts
finish_numbers number place keyed digested slack index =
    record { number = number; place = place; counts = record { key = keyed; digest = digested; slack = record { most = slack; at = index } } }
