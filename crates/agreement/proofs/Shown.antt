-- What is stated in specs/Shown.
use Rattle.lists.proofs.Kit.{List, ℕ, lt_of_lt_of_le, arith, lit≤}
use Rattle.std.proofs.Common.{◌≡◌, ◌^◌, ◌≤◌}
use Rattle.schemes.specs.declared.Scheme.TheVariants.{Bcns, NewHope, Challenge, Classical, Recommended, Paranoid}
use Rattle.schemes.specs.{Schemes.family_of, Schemes.fixed_of, declared.Family.Family, declared.Scheme.Scheme}
use Rattle.packing.proofs.Laws.{unpacked-below}
use Rattle.refusals.specs.{Refusals.number_in, Refusals.◌then◌, Refusals.message_in, Refusals.Verdict, Refusals.pass}
use Rattle.refusals.proofs.{Laws.message-passes, Number.and, Number.passes, Number.lengths, Number.rooms, Number.publics, Number.secrets, Number.blanks}
use Rattle.wire.specs.Wire.{numbers_in}
use Rattle.finish.specs.Finish.{finish_tests, replied_of}
use Rattle.reply.specs.Reply.{reply_tests, opened_of}
use Rattle.agreement.specs.Exchange.{NeverFive}

-- Frodo's q is all that a packed number can hold
whole : (c : Scheme) → family_of c ≡ Family.Frodo → 2 ^ (fixed_of c).width ≤ (fixed_of c).q
whole Bcns e = let z : ◌≡◌ {A = ℕ} 0 1 = cc in absurd (omega arith)
whole NewHope e = let z : ◌≡◌ {A = ℕ} 0 1 = cc in absurd (omega arith)
whole Challenge e = lit≤ tt
whole Classical e = lit≤ tt
whole Recommended e = lit≤ tt
whole Paranoid e = lit≤ tt

fits : (c : Scheme) → family_of c ≡ Family.Frodo → (p : List ℕ) → message_in (fixed_of c).q (numbers_in c p) ≡ pass
unfolding numbers_in
fits c d p = message-passes (record { below = λ k. lt_of_lt_of_le ((unpacked-below (fixed_of c).width (fixed_of c).secret p).below k) (whole c d) })

abbrev Other : ℕ → Type 0
Other k = k ≡ 5 → ⊥

also : (v w : Verdict) → Other (number_in v) → Other (number_in w) → Other (number_in (v then w))
also v w a b = and Other v w a (λ _. b)

pub never-five : NeverFive
unfolding reply_tests opened_of finish_tests replied_of
never-five c d =
    let l = lengths Other (λ e. omega arith) (λ e. omega arith) in
    let r = rooms Other (λ e. omega arith) (λ e. omega arith) in
    let p = publics Other (λ e. omega arith) (λ e. omega arith) in
    let s = secrets Other (λ e. omega arith) (λ e. omega arith) in
    let b = blanks Other (λ e. omega arith) (λ e. omega arith) in
    let u : (part : List ℕ) → Other (number_in (message_in (fixed_of c).q (numbers_in c part))) = λ part. passes Other (fits c d part) (λ e. omega arith) in (
      λ x m.
          also _ _
          (also _ _
          (also _ _
          (also _ _
          (also _ _
          (also _ _
          (also _ _
          (also _ _
          (also _ _
          (also _ _
          (also _ _ (also _ _ (also _ _ (also _ _ (also _ _ (l _ _) (l _ _)) (l _ _)) (l _ _)) (l _ _)) (l _ _))
          (r _ _))
          (r _ _))
          (r _ _))
          (p _ _))
          (u _))
          (b _))
          (s _ _))
          (s _ _))
          (s _ _))
          (b _),
      λ x m. also _ _ (also _ _ (also _ _ (also _ _ (also _ _ (also _ _ (l _ _) (l _ _)) (r _ _)) (r _ _)) (u _)) (b _)) (s _ _),
    )
