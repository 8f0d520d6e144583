-- `finish::initiator::with_secret` meets its contract: the secret's test decides.
use Rattle.lists.proofs.Kit.{sym, ap}
use Rattle.schemes.specs.{Schemes.fixed_of, declared.Fixed.Fixed}
use Rattle.lists.proofs.Same.{zeros-long}
use Rattle.refusals.proofs.{Laws.secrets-passed, Ends.given_up}
use Rattle.finish.proofs.initiator.with_secret.Goals as goal

pub returns-in_err-secrets_in : goal.returns-in_err-secrets_in
returns-in_err-secrets_in c =
    let q = rw c.fixed-f.ensures at c.in_err-secrets_in.ensures in
    record { value = rw (← q) (given_up _ c.from_residual.ensures); laid = rw (← q) }

pub derive-requires : goal.derive-requires
derive-requires c =
    let e = c.fixed-f.ensures in
    let q = rw e at c.in_ok-secrets_in.ensures in record {
      derives = (
        record {
          reply-long = c.requires.0.reply-long;
          numbers = c.requires.1;
          secret = record { long = c.requires.0.secret-long; within = secrets-passed _ c.args.s.now (sym q) };
        },
        zeros-long (fixed_of c.args.scheme).key 0 c.requires.0.key-blank,
      );
      n_value = (ap (λ (g : Fixed). g.mixed) e, ap (λ (g : Fixed). g.groups) e);
    }

pub returns : goal.returns
returns c =
    let q = rw c.fixed-f.ensures at c.in_ok-secrets_in.ensures in
    record { value = rw (← q, c.derive.ensures.value); laid = rw (← q) c.derive.ensures.key_value }
