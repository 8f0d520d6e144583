-- `trace::two_lines` meets its contract: a line at a time.
use Rattle.lists.proofs.Kit.{arith, le-leb, lt-leb}
use Rattle.trace.specs.Trace.{slack_in, scheme_in, two_in}
use Rattle.trace.proofs.two_lines.Goals as goal

pub returns-in_err-scheme : goal.returns-in_err-scheme
unfolding two_in scheme_in
returns-in_err-scheme c = rw c.from_residual.ensures (record { means = rw (← c.in_err-scheme.ensures.means); within = omega arith })

pub returns-then-scheme-gt5 : goal.returns-then-scheme-gt5
unfolding two_in scheme_in
returns-then-scheme-gt5 c =
    record { means = rw (← c.in_ok-scheme.ensures.means, lt-leb c.in_ok-scheme.scheme 5 (omega arith)); within = omega arith }

pub returns-in_err-slack : goal.returns-in_err-slack
unfolding two_in scheme_in slack_in
returns-in_err-slack c =
    rw c.from_residual-in_err-slack.ensures
    (record {
      means = rw (← c.in_ok-scheme.ensures.means, le-leb c.in_ok-scheme.scheme 5 (omega arith), ← c.in_err-slack.ensures.means);
      within = omega arith;
    })

pub returns : goal.returns
unfolding two_in scheme_in slack_in
returns c =
    record {
      means = rw (← c.in_ok-scheme.ensures.means, le-leb c.in_ok-scheme.scheme 5 (omega arith), ← c.in_ok-slack.ensures.means);
      within = c.in_ok-slack.ensures.within;
    }
