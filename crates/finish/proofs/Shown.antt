-- What is stated in specs/Shown.
use Rattle.std.proofs.Common.{Ok, Err}
use Rattle.lists.proofs.Kit.{sym, ap, length}
use Rattle.schemes.proofs.Sound.{sound}
use Rattle.lists.proofs.Top.{peak-zeros}
use Rattle.refusals.specs.Seen.{Told}
use Rattle.refusals.proofs.Seen.{same-counts, same-refused, never_both}
use Rattle.values.specs.Keys.{slacks}
use Rattle.wire.proofs.Travel.{reply-again}
use Rattle.finish.specs.Finish.{FinishSeen, replied_of, finish_value, finish_slack, finish_seen, FinishCounts}
use Rattle.finish.specs.Shown.{FinishSeenAll, FinishToldAll, ReplyComesBack, NoSlack, KeysFit}
use Rattle.finish.proofs.Finishing.{key-length, finish-passed}

-- the numbers of the answer, from what is seen
told_in : FinishSeen → Told FinishCounts
told_in s =
    record {
      number = s.number;
      place = s.place;
      counts = record { key = s.key.count; digest = s.digest.count; slack = s.slack };
    }

pub finish-seen-all : FinishSeenAll
unfolding finish_seen told_in
finish-seen-all _ _ _ _ _ _ e = (
  ap told_in e,
  ap (λ (s : FinishSeen). s.key.holds) e,
  ap (λ (s : FinishSeen). s.digest.holds) e,
)

pub finish-told-all : FinishToldAll
finish-told-all (Ok n) (Ok n') e = ap Ok (same-counts e)
finish-told-all (Ok n) (Err r) e = never_both r e
finish-told-all (Err r) (Ok n) e = never_both r (sym e)
finish-told-all (Err r) (Err s) e = ap Err (same-refused r s e)

pub reply-comes-back : ReplyComesBack
unfolding replied_of
reply-comes-back c x m b t = reply-again c x.reply (finish-passed c x m t).0 b

pub no-slack : NoSlack
unfolding finish_slack slacks
no-slack c x d = rw d (peak-zeros (length (finish_value c x)))

pub keys-fit : KeysFit
keys-fit c x = (key-length c x, (sound c).keys)
