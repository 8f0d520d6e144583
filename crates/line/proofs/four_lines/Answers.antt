-- `line::four_lines` meets its contract: a line at a time.
use Rattle.line.specs.Line.{asked}
use Rattle.line.proofs.four_lines.Goals as goal

pub returns-in_err-scheme : goal.returns-in_err-scheme
unfolding asked
returns-in_err-scheme c = rw (c.from_residual.ensures, ← c.in_err-scheme.ensures.means)

pub returns-in_err-coin : goal.returns-in_err-coin
unfolding asked
returns-in_err-coin c = rw (c.from_residual-in_err-coin.ensures, ← c.in_ok-scheme.ensures.means, ← c.in_err-coin.ensures.means)

pub returns-in_err-v : goal.returns-in_err-v
unfolding asked
returns-in_err-v c =
    rw (c.from_residual-in_err-v.ensures, ← c.in_ok-scheme.ensures.means, ← c.in_ok-coin.ensures.means, ← c.in_err-v.ensures.means)

pub returns-in_err-w : goal.returns-in_err-w
unfolding asked
returns-in_err-w c =
    rw (
      c.from_residual-in_err-w.ensures,
      ← c.in_ok-scheme.ensures.means,
      ← c.in_ok-coin.ensures.means,
      ← c.in_ok-v.ensures.means,
      ← c.in_err-w.ensures.means,
    )

pub returns : goal.returns
unfolding asked
returns c = rw (← c.in_ok-scheme.ensures.means, ← c.in_ok-coin.ensures.means, ← c.in_ok-v.ensures.means, ← c.in_ok-w.ensures.means)
