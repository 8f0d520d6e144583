-- `values::products::reply` meets its contract: in NewHope no number is q or more where the place of the first is their count.
use Rattle.lists.proofs.Kit.{sym, ◌∙◌, ap, subst, ℕ, arith}
use Rattle.std.proofs.Common.{◌≡◌}
use Rattle.schemes.specs.declared.Fixed.{Fixed}
use Rattle.lists.specs.Ranges.{Below}
use Rattle.values.proofs.{Numbers.numbers-in, Valuing.none_over}
use Rattle.values.proofs.products.reply.Goals as goal

pub reply-requires-clause-a_len : goal.reply-requires-clause-a_len
reply-requires-clause-a_len c =
    let k = numbers-in c.args.scheme (sym c.family.ensures ∙ c.in-NewHope.is) in
    let q : c.fixed-f.result.q ≡ 12289 = ap (λ (f : Fixed). f.q) c.fixed-f.ensures ∙ k.q in
    let b = none_over c.args.a.now (omega arith) c.first_over-at.ensures (omega arith) in
    let p = c.requires in
    (p.a_len.0 ∙ k.public, subst (λ (q : ℕ). Below q c.args.a.now) q b, p.counted.long ∙ k.secret, subst (λ (q : ℕ). Below q c.args.b.now) k.q p.counted.below, p.a_len.1 ∙ k.mixed)
