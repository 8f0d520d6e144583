-- `reply::replier::with_secrets` meets its contract: the secrets' tests, behind that of the public numbers where one fails, then that of the part about to be sent.
use Rattle.lists.proofs.Kit.{sym, ap, ◌∙◌}
use Rattle.schemes.specs.Schemes.{fixed_of}
use Rattle.refusals.specs.{Refusals.◌then◌, Refusals.publics_in_lem, Refusals.Verdict}
use Rattle.refusals.proofs.{Ends.given_up, Laws.went_on}
use Rattle.values.specs.Fit.{Small}
use Rattle.reply.specs.Inside.{reply_last}
use Rattle.reply.proofs.{Replying.secrets-small}
use Rattle.reply.proofs.replier.with_secrets.Goals as goal

pub lay-requires-clause-settles : goal.lay-requires-clause-settles
lay-requires-clause-settles c =
    let a = c.args in
    let p = c.requires.replying in
    let w = secrets-small a.scheme a.s1.now a.e1.now a.e2.now (sym c.reply_secrets-v.ensures ∙ c.in_default.is) in
    let secret : Small (fixed_of a.scheme).secret (fixed_of a.scheme).largest a.s1.now = record { long = p.secret-long; within = w.0 } in (
      record { numbers = c.requires.counted; secret = secret; last = record { long = p.last-long; within = w.2 }; coins-long = p.coins-long },
      record { public-long = p.public-long; secret = secret; noise = record { long = p.noise-long; within = w.1 } },
    )

pub returns-in_err-publics_in-clause-value : goal.returns-in_err-publics_in-clause-value
unfolding ◌then◌
returns-in_err-publics_in-clause-value c =
    rw (given_up _ c.from_residual.ensures, ← c.fixed-f.ensures, ← c.in_err-publics_in.ensures)

pub returns-in-Err-clause-value : goal.returns-in-Err-clause-value
unfolding reply_last ◌then◌
returns-in-Err-clause-value c =
    rw (← c.reply_secrets-v.ensures, c.in-Err.is, ← c.fixed-f.ensures, ← c.in_ok-publics_in.ensures)

pub returns-clause-value : goal.returns-clause-value
unfolding reply_last
returns-clause-value c =
    let a = c.args in
    c.lay.ensures.value ∙ ap (λ (u : Verdict). publics_in_lem (fixed_of a.scheme).q a.a.now then u) (sym (went_on _ c.reply_secrets-v.ensures c.in_default.is))
