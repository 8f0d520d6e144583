-- The promise of each call on a session, from what the call beneath promises.
--   padded-law                   so many bytes of an output, copied into zeros
--   whole                        of an output with so many bytes of an answer: its front is the answer
--   shown-number                 the number that a call shows is its verdict's
--   stays                        what a call with a refusal does not change
--   bars, allows                 what the code's test of the stage says of the row
--   turned, refuses, accepts     any call: 10, another refusal, accepted
--   keeps                        so accepted where n bytes of a key were written into a buffer, which then holds `key`
--   offer-stops                  what a refusal ahead of Offer shows; so of the others
--   offer-refused, offer-done    Offer: a refusal of the call beneath, and its answer; so of the others
--   close-moves                  Close
use Rattle.std.proofs.Common.{Ok, Err, None, Option, Result, ◌≡◌, ◌++◌, ◌-◌}
use Rattle.schemes.specs.declared.Scheme.{Scheme}
use Rattle.lists.proofs.Kit.{refl, ◌∙◌, sym, ap, List, [], Bool, true, false, not, ℕ, min, arith, length, take, drop, length-take}
use Rattle.lists.proofs.Kit.{take_all, take-take, not-true, not-false}
use Rattle.schemes.specs.{Schemes.scheme_of_lem}
use Rattle.lists.proofs.Parts.{drop-same}
use Rattle.refusals.specs.Seen.{Answer, if_passed, Output, output, written, answer, Seen, shown, told, seen}
use Rattle.refusals.specs.Refusals.{pass}
use Rattle.refusals.specs.declared.Refusal.TheVariants.{OutOfStage}
use Rattle.refusals.specs.{Refusals.number_of, Refusals.number_in, declared.Refusal.Refusal, Refusals.Verdict}
use Rattle.refusals.proofs.{Laws.some, Laws.number-zero, Seen.written-answer}
use Rattle.offer.specs.Offer.{Offer, offer_result}
use Rattle.finish.specs.Finish.{Finish, FinishRooms, FinishSeen, finish, finish_told, finish_seen, finish_shown, finish_result}
use Rattle.finish.specs.{declared.FinishCounts.FinishCounts}
use Rattle.reply.specs.Reply.{Reply, ReplyRooms, ReplySeen, reply_told, reply_seen, outputs, reply_result}
use Rattle.reply.specs.{declared.ReplyCounts.ReplyCounts}
use Rattle.session.specs.Table.{Session, Call, offering, replying, finishing, closing, when_idle, when_offered, padded, no_key_lem, idle, offered, keyed, row}
use Rattle.session.specs.Table.{outcome, step}
use Rattle.session.specs.Seen.{CallSeen, of_offer, of_reply, of_finish, of_close, number, shown_by_lem, turn, moved}

-- ---- the key in its place

-- c bytes are copied
pub padded-law : (key place copied : List ℕ) (n : ℕ) {d c : ℕ} → d ≡ min n (length key) → c ≡ min d 128 → place ≡ no_key_lem → copied ≡ take c key
    → copied ++ drop c place ≡ padded (take n key)
unfolding padded no_key_lem
padded-law key place copied n {d} {c} g h e f =
    let l = length-take n key in
    let few : 128 - c ≡ 128 - length (take n key) = omega (arith, g, h, l) in
    let front : take c key ≡ take 128 (take n key) =
    sym (take-take c n key (omega (arith, g, h))) ∙ sym (take-take c 128 (take n key) (omega (arith, h)))
    ∙ take_all c (take 128 (take n key)) (omega (arith, g, h, l, length-take 128 (take n key))) in
    rw (e, f, drop-same {A = ℕ} c 128 0, few, front)

pub whole : (own : List ℕ) (room : ℕ) {v : Verdict} {key : List ℕ} {n : ℕ} → v ≡ pass → output n key ≡ written v own 0 room → take n key ≡ own
whole own room p w = ap (λ (o : Output ℕ). answer o) w ∙ written-answer own 0 room p

-- ---- over any call

pub shown-number : (v : Verdict) (x : Call) → number (shown_by_lem v x) ≡ number_in v
unfolding number shown_by_lem shown outputs finish_shown
shown-number v (offering k x n) = refl
shown-number v (replying k x m) = refl
shown-number v (finishing k x m) = refl
shown-number v closing = refl

pub stays : {A : Type 0} (v : Verdict) (r : Refusal) (y z : A) → number_of r ≡ number_in v → y ≡ if_passed v z y
stays (Ok _) r y z e = absurd (omega (arith, some r))
stays (Err q) r y z e = refl

pub bars : {a b : Bool} → a ≡ b → not a ≡ true → b ≡ false
bars e f = sym e ∙ not-true _ f

pub allows : {a b : Bool} → a ≡ b → not a ≡ false → b ≡ true
allows e f = sym e ∙ not-false _ f

module _ (y : Session) (x : Call) {t : CallSeen} where
  pub turned : (row x).allowed y.stage ≡ false → t ≡ shown_by_lem (Err OutOfStage) x → turn y t ≡ moved y x
  unfolding moved step outcome
  turned a g = rw (a, g)

  module _ (a : (row x).allowed y.stage ≡ true) (g : t ≡ shown_by_lem (row x).tests x) where
    goes : {z : Session} → z ≡ if_passed (row x).tests (row x).leads y → turn z t ≡ moved y x
    unfolding moved step outcome
    goes e = rw (a, g, e)

    verdict : number t ≡ number_in (row x).tests
    verdict = ap number g ∙ shown-number (row x).tests x

    pub refuses : (r : Refusal) → number t ≡ number_of r → turn y t ≡ moved y x
    refuses r e = goes (stays (row x).tests r y (row x).leads (sym e ∙ verdict))

    passed : number t ≡ 0 → (row x).tests ≡ pass
    passed e = number-zero (row x).tests (sym e ∙ verdict)

    pub accepts : {z : Session} → number t ≡ 0 → z ≡ (row x).leads → turn z t ≡ moved y x
    accepts e f = goes (rw (passed e) f)

    pub keeps : (c : Option Scheme) (own : List ℕ) (room : ℕ) {n : ℕ} {key : List ℕ} {z : Session} → number t ≡ 0 → (row x).leads ≡ keyed c own
        → output n key ≡ written (row x).tests own 0 room → z ≡ keyed c (take n key) → turn z t ≡ moved y x
    keeps c own room e l w f = accepts e (f ∙ ap (keyed c) (whole own room (passed e) w) ∙ sym l)

-- ---- Offer

module _ (k : ℕ) (x : Offer) (n : ℕ) where
  pub offer-stops : (q : Refusal) {t : Seen ℕ} → t ≡ shown (Err q) [] 0 n → of_offer t ≡ shown_by_lem (Err q) (offering k x n)
  unfolding shown_by_lem shown written
  offer-stops q e = ap of_offer e

  module _ (y : Session) (message : List ℕ) (r : Answer) (a : when_idle y.stage ≡ true) (p : seen (told r) message ≡ offer_result (scheme_of_lem k) x n) where
    pub offer-refused : {q : Refusal} → r ≡ Err q → turn y (of_offer (seen (told r) message)) ≡ moved y (offering k x n)
    unfolding row shown_by_lem number seen
    offer-refused {q} d = refuses y (offering k x n) a (ap of_offer p) q (rw d)

    pub offer-done : {w : ℕ} {z : Session} → r ≡ Ok w → z ≡ offered (scheme_of_lem k) → turn z (of_offer (seen (told r) message)) ≡ moved y (offering k x n)
    unfolding row shown_by_lem number seen
    offer-done d e = accepts y (offering k x n) a (ap of_offer p) (rw d) e

-- ---- Reply

module _ (k : ℕ) (x : Reply) (m : ReplyRooms) where
  pub reply-stops : (q : Refusal) {t : ReplySeen} → t ≡ outputs (Err q) [] [] [] m → of_reply t ≡ shown_by_lem (Err q) (replying k x m)
  unfolding shown_by_lem outputs written
  reply-stops q e = ap of_reply e

  module _ (y : Session) (a : when_idle y.stage ≡ true)
      (message key digest : List ℕ) (r : Result ReplyCounts Refusal) (p : reply_seen (reply_told r) message key digest ≡ reply_result (scheme_of_lem k) x m)
    where
      pub reply-refused : {q : Refusal} → r ≡ Err q → turn y (of_reply (reply_seen (reply_told r) message key digest)) ≡ moved y (replying k x m)
      unfolding row shown_by_lem number reply_seen
      reply-refused {q} d = refuses y (replying k x m) a (ap of_reply p) q (rw d)

      pub reply-done : {w : ReplyCounts} {z : Session} → r ≡ Ok w → z ≡ keyed (scheme_of_lem k) (take w.key key)
          → turn z (of_reply (reply_seen (reply_told (Ok w)) message key digest)) ≡ moved y (replying k x m)
      unfolding row shown_by_lem number reply_seen outputs
      reply-done d e = let s = rw d at p in keeps y (replying k x m) a (ap of_reply s) (scheme_of_lem k) _ m.key refl refl (ap (λ (t : ReplySeen). t.key) s) e

-- ---- Finish

module _ (k : ℕ) (x : Finish) (m : FinishRooms) where
  pub finish-stops : (q : Refusal) {t : FinishSeen} → t ≡ finish_shown (Err q) None (finish [] []) m → of_finish t ≡ shown_by_lem (Err q) (finishing k x m)
  unfolding shown_by_lem finish_shown written
  finish-stops q e = ap of_finish e

  module _ (y : Session) (a : when_offered k y.stage ≡ true)
      (key digest : List ℕ) (r : Result FinishCounts Refusal) (p : finish_seen (finish_told r) key digest ≡ finish_result (scheme_of_lem k) x m)
    where
      pub finish-refused : {q : Refusal} → r ≡ Err q → turn y (of_finish (finish_seen (finish_told r) key digest)) ≡ moved y (finishing k x m)
      unfolding row shown_by_lem number finish_seen
      finish-refused {q} d = refuses y (finishing k x m) a (ap of_finish p) q (rw d)

      pub finish-done : {w : FinishCounts} {z : Session} → r ≡ Ok w → z ≡ keyed (scheme_of_lem k) (take w.key key)
          → turn z (of_finish (finish_seen (finish_told (Ok w)) key digest)) ≡ moved y (finishing k x m)
      unfolding row shown_by_lem number finish_seen finish_shown
      finish-done d e = let s = rw d at p in keeps y (finishing k x m) a (ap of_finish s) (scheme_of_lem k) _ m.key refl refl (ap (λ (t : FinishSeen). t.key) s) e

-- ---- Close

pub close-moves : (y : Session) {z : Session} → z ≡ idle → turn z (of_close (told (Ok 0))) ≡ moved y closing
unfolding row shown_by_lem number
close-moves y e = accepts y closing refl refl refl e
