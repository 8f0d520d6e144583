-- Two lines of a trace, both ways.
--   two-forth, two_back   two lines are read as their numbers, and nothing else is
use Rattle.lists.proofs.Kit.{refl, ap₂, List, Bool, true, false, cond, ℕ, arith, leb, leb-true, le-leb}
use Rattle.std.proofs.Common.{◌≡◌, ◌++◌, ◌≤◌, ◌<◌, ◌^◌}
use Rattle.text.specs.{Text.scheme_name, Text.line, Text.Read, Text.number, Text.other, Text.field_in}
use Rattle.text.proofs.Lines.{line-forth, line-back}
use Rattle.trace.specs.{Trace.slack_name, Trace.two, Trace.neither, Trace.slack_in, Trace.scheme_in, Trace.two_in}

pub two-forth : (a b : ℕ) (zs : List ℕ) → a ≤ 5 → b < 10 ^ 10 → two_in (line scheme_name a ++ (line slack_name b ++ zs)) ≡ two a b zs
unfolding two_in scheme_in slack_in
two-forth a b zs h l = rw (line-forth scheme_name a (line slack_name b ++ zs) (omega arith), le-leb a 5 h, line-forth slack_name b zs l)

pub record Lines (xs : List ℕ) (a b : ℕ) (zs : List ℕ) : Type 0 where
  pub text : xs ≡ line scheme_name a ++ (line slack_name b ++ zs)
  pub scheme : a ≤ 5
  pub slack : b < 10 ^ 10

module _ {a b : ℕ} {zs : List ℕ} where
  slack-back : (x : ℕ) (r : Read) → slack_in x r ≡ two a b zs → (x ≡ a) × (r ≡ number b zs)
  unfolding slack_in
  slack-back x (number y xs) e = (cc, cc)
  slack-back x other e = (cc, cc)

  scheme-back : (r : Read) → scheme_in r ≡ two a b zs → (r ≡ number a (line slack_name b ++ zs)) × (a ≤ 5) × (b < 10 ^ 10)
  unfolding scheme_in
  scheme-back (number x xs) = go (leb x 5) refl
    where
      go : (t : Bool) → leb x 5 ≡ t → cond t (slack_in x (field_in slack_name xs)) neither ≡ two a b zs
          → (number x xs ≡ number a (line slack_name b ++ zs)) × (a ≤ 5) × (b < 10 ^ 10)
      go true w e =
          let o = slack-back x (field_in slack_name xs) e in
          let l = line-back slack_name xs o.1 in
          (ap₂ number o.0 l.0, omega (arith, leb-true x 5 w, o.0), l.1)
      go false w e = let z : ◌≡◌ {A = ℕ} 0 1 = cc in absurd (omega arith)
  scheme-back other = λ e. let z : ◌≡◌ {A = ℕ} 0 1 = cc in absurd (omega arith)

  pub two_back : (xs : List ℕ) → two_in xs ≡ two a b zs → Lines xs a b zs
  unfolding two_in
  two_back xs e =
      let o = scheme-back (field_in scheme_name xs) e in
      record { text = (line-back scheme_name xs o.0).0; scheme = o.1; slack = o.2 }
