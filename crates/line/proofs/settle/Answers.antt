-- `line::settle` meets its contract: by whether the number names a scheme, and then by the scheme's family.
use Rattle.lists.proofs.Kit.{◌∙◌, sym}
use Rattle.std.proofs.lemmas.Result.{err_from_is_err_and}
use Rattle.line.proofs.{Deciding.unnamed, Deciding.in-family}
use Rattle.line.proofs.settle.Goals as goal

pub returns-in_err-scheme : goal.returns-in_err-scheme
returns-in_err-scheme c =
    let p = err_from_is_err_and c.from_residual.result c.from_residual.ensures.1 in
    rw (p.1, p.2) (unnamed c.args.no c.args.coin c.args.v c.args.w c.named.result c.named.ensures c.in_err-scheme.ensures.value)

pub returns-in-Bcns : goal.returns-in-Bcns
returns-in-Bcns c =
    let e = sym c.in-Bcns.is ∙ c.family.ensures in
    c.settle_bcns.ensures ∙ in-family c.args.no _ _ _ (sym c.in_ok-scheme.ensures.ok_part ∙ c.named.ensures) e

pub returns-in-NewHope : goal.returns-in-NewHope
returns-in-NewHope c =
    let e = sym c.in-NewHope.is ∙ c.family.ensures in
    in-family c.args.no c.args.coin c.args.v c.args.w (sym c.in_ok-scheme.ensures.ok_part ∙ c.named.ensures) e

pub returns-in-Frodo : goal.returns-in-Frodo
returns-in-Frodo c =
    let e = sym c.in-Frodo.is ∙ c.family.ensures in
    c.settle_frodo.ensures ∙ in-family c.args.no _ _ _ (sym c.in_ok-scheme.ensures.ok_part ∙ c.named.ensures) e
