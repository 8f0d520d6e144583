-- `rack::slot` meets its contract.
use Rattle.lists.proofs.Kit.{refl, sym, ◌∙◌}
use Rattle.rack.proofs.Parts.{slot-none, slot-short, slot-closes, slot-mine, slot-other}
use Rattle.rack.proofs.slot.Goals as goal

pub returns-then-studio-ge8 : goal.returns-then-studio-ge8
returns-then-studio-ge8 c = slot-none _ _ _ c.if-studio-ge8.true

pub returns-then-bytes-ne1048 : goal.returns-then-bytes-ne1048
returns-then-bytes-ne1048 c = slot-short _ _ _ c.if-studio-ge8.false c.if-bytes-ne1048.true

pub returns-then-closes : goal.returns-then-closes
returns-then-closes c = rw c.if-closes.true (slot-closes _ _ c.if-studio-ge8.false c.if-bytes-ne1048.false, refl)

pub returns-then-from-studio : goal.returns-then-from-studio
returns-then-from-studio c =
    rw c.if-closes.false (slot-other _ _ c.if-studio-ge8.false c.if-bytes-ne1048.false (λ e. c.if-from-studio.true (c.from.ensures ∙ e)))

pub returns : goal.returns
returns c = rw c.if-closes.false (slot-mine _ _ c.if-studio-ge8.false c.if-bytes-ne1048.false (sym c.from.ensures ∙ c.if-from-studio.false), refl)
