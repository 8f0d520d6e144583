-- A part by its turn and its numbers, of the fixed numbers f that the code has.
--   turn-begins, turn-fails, turn-goes   its turn passed, and what that says; failed; and what follows decides
--   state-by, state-seen-all   what is seen of a call that leaves a state, by its verdict; and that this is all
--   part-unknown, part-known   the promise of a part, by the scheme that the state names
use Rattle.std.proofs.Common.{Err, Some, None, Option}
use Rattle.lists.proofs.Kit.{refl, ◌∙◌, sym, ap, Bool, true, List, ℕ, length}
use Rattle.std.proofs.Common.{◌≡◌}
use Rattle.schemes.specs.{Schemes.fixed_of, declared.Fixed.Fixed, declared.Scheme.Scheme}
use Rattle.refusals.specs.Refusals.{pass}
use Rattle.refusals.specs.declared.Refusal.TheVariants.{OutOfTurn}
use Rattle.refusals.specs.{Refusals.in_turn, Refusals.publics_in_lem, Seen.if_passed, Refusals.Verdict, declared.Refusal.Refusal}
use Rattle.refusals.proofs.{Laws.turn-passed, Laws.failed, Laws.went_on, Same.same-verdict}
use Rattle.rows_state.specs.Part.{StateSeen, state_shown, state_seen, part_tests, part_state, part_result, StateSeenAll}
use Rattle.rows_state.specs.State.{named, taken, ◌and◌, begun, fits_in_lem, stepped, Call}
use Rattle.rows_state.proofs.Tests.{passed}

module _ (k : Call) (c : Scheme) (st p : List ℕ) {f : Fixed} {b : Bool} {v : Verdict} (e : f ≡ fixed_of c)
    (d : b ≡ begun k f st and fits_in_lem f.n (taken st) (length p)) (t : v ≡ in_turn b) where
  turn : v ≡ in_turn (begun k (fixed_of c) st and fits_in_lem (fixed_of c).n (taken st) (length p))
  turn = t ∙ ap in_turn (d ∙ ap (λ (g : Fixed). begun k g st and fits_in_lem g.n (taken st) (length p)) e)

  pub turn-begins : v ≡ pass → (begun k (fixed_of c) st ≡ true) × (fits_in_lem (fixed_of c).n (taken st) (length p) ≡ true)
  turn-begins o = passed _ _ (turn-passed _ (sym turn ∙ o))

  pub turn-fails : {r : Refusal} → v ≡ Err r → Err r ≡ part_tests k (Some c) st p
  unfolding part_tests
  turn-fails o = sym (failed _ turn o)

  pub turn-goes : v ≡ pass → {w : Verdict} → w ≡ publics_in_lem f.q p → w ≡ part_tests k (Some c) st p
  unfolding part_tests
  turn-goes o h = h ∙ ap (λ (g : Fixed). publics_in_lem g.q p) e ∙ sym (went_on _ turn o)

-- ---- what is seen

pub state-by : {v r : Verdict} (xs old : List ℕ) {after : List ℕ} → v ≡ r → after ≡ if_passed r xs old → state_seen r after ≡ state_shown v xs old
unfolding state_seen state_shown
state-by xs old e d = rw (d, e)

pub state-seen-all : StateSeenAll
unfolding state_seen
state-seen-all r r' after after' e =
    (same-verdict r r' (ap (λ (s : StateSeen). s.number) e) (ap (λ (s : StateSeen). s.place) e), ap (λ (s : StateSeen). s.state) e)

module _ (k : Call) (st p : List ℕ) where
  pub part-unknown : named st ≡ None → state_seen (Err OutOfTurn) st ≡ part_result k st p
  unfolding part_tests
  part-unknown e = state-by (part_state k (named st) st p) st (rw e) refl

  pub part-known : (c : Scheme) {r : Verdict} {after : List ℕ} → named st ≡ Some c → r ≡ part_tests k (Some c) st p
      → after ≡ if_passed r (stepped k (fixed_of c).n st p) st → state_seen r after ≡ part_result k st p
  unfolding part_state
  part-known c {r} e a d =
      state-by (part_state k (named st) st p) st (ap (λ (x : Option Scheme). part_tests k x st p) e ∙ sym a)
      (d ∙ ap (λ (x : Option Scheme). if_passed r (part_state k x st p) st) (sym e))
