-- `text::write_number` meets its contract: the number falls at each call of itself.
use Rattle.text.proofs.+write_number.Given as goal

abbrev pub decreases-write_number : goal.decreases-write_number
decreases-write_number l = l.n
