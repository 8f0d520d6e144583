-- What the steps of a call hand on to each other: about the code's own steps, and no promise to a caller.
--   v before w      v then w, where v is not looked at unless w fails: of tests that all passed it says only that w has
--   Laid v xs old new   a step that is lent a part of an output leaves xs there, and after a refusal what was there
--   outcome v p     what a step hands on: p, or the refusal
use Rattle.std.specs.Prelude.{Ok, Err, Result, ◌≡◌, List, ℕ}
use Rattle.lists.specs.declared.Peak.{Peak}
use Rattle.refusals.specs.{Refusals.◌then◌, Refusals.Verdict, Refusals.Refusal, Refusals.pass, Seen.if_passed}

infixl 20 ◌before◌
unfoldable pub ◌before◌ : Verdict → Verdict → Verdict
v before (Ok _) = pass
v before (Err r) = v then Err r

abbrev pub Laid : Verdict → List ℕ → List ℕ → List ℕ → Type 0
Laid v xs old new = new ≡ if_passed v xs old

abbrev pub outcome : Verdict → Peak → Result Peak Refusal
outcome (Ok _) p = Ok p
outcome (Err r) p = Err r
