-- `refusals::take_message` meets its contract.
use Rattle.lists.proofs.Kit.{refl, sym, ap, ◌∙◌}
use Rattle.refusals.specs.Refusals.{message_in, received_in}
use Rattle.refusals.proofs.{Laws.over, Laws.under, Laws.failed, Laws.went_on}
use Rattle.refusals.proofs.take_message.Goals as goal

pub returns-then-at-nums : goal.returns-then-at-nums
unfolding received_in
returns-then-at-nums c =
    let q = c.args.q in
    let e = over q c.unpack.new.out c.first_over-at.result c.first_over-at.ensures c.if-at-nums.true ∙ ap (message_in q) c.unpack.ensures in
    record { value = sym (failed _ e refl); nums_after = c.unpack.ensures }

pub returns : goal.returns
unfolding received_in
returns c =
    let q = c.args.q in
    let e = under q c.unpack.new.out c.first_over-at.result c.first_over-at.ensures c.if-at-nums.false ∙ ap (message_in q) c.unpack.ensures in
    record { value = c.part_not_blank.ensures ∙ sym (went_on _ e refl); nums_after = c.unpack.ensures }
