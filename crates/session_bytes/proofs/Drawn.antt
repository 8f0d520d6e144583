-- Open and answer on a session in bytes, from what the calls beneath promise.
--   idle-long                             an idle session has 130 bytes
--   open-stops, open-refused, open_done   open: 10, a refusal of the call beneath, and its answer
--   answer-stops, answer-refused, answer-done   so of answer
--   opens, answers, kept                  the theorems of specs/Drawn
use Rattle.session.specs.declared.Stage.{Stage}
use Rattle.std.proofs.Common.{Some, Ok, Err, None, Option, Result, ◌≡◌}
use Rattle.noise.specs.declared.RuleName.{RuleName}
use Rattle.lists.proofs.Kit.{refl, ◌∙◌, sym, ap, List, [], true, false, cond, ℕ, arith, length, take, ℤ}
use Rattle.schemes.specs.{Schemes.scheme_of_lem}
use Rattle.refusals.specs.Refusals.{pass}
use Rattle.refusals.specs.declared.Refusal.TheVariants.{OutOfStage}
use Rattle.refusals.specs.{Seen.if_passed, Seen.written, Seen.shown, declared.Refusal.Refusal, Refusals.Verdict}
use Rattle.refusals.proofs.Laws.{differ, number-zero}
use Rattle.reply.specs.Reply.{ReplyRooms, ReplySeen, reply_key, outputs, reply_told, reply_seen}
use Rattle.reply.specs.{declared.ReplyCounts.ReplyCounts}
use Rattle.exchange.specs.Open.{OpenLent, OpenRooms, OpenSeen, open_tests, open_shown, open_result, open_lent, open_told, open_seen}
use Rattle.exchange.specs.Answer.{AnswerLent, answer_reply, answer_tests, answer_shown, answer_result}
use Rattle.exchange.specs.{declared.OpenCounts.OpenCounts}
use Rattle.exchange.proofs.Shown.{open-offers, answer-replies}
use Rattle.session.specs.declared.Stage.TheVariants.{Idle, Offered, Keyed}
use Rattle.session.specs.{declared.Session.Session, Seen.shown_by_lem, Seen.turn, Seen.moved, Table.offered, Table.keyed, Table.row, Table.outcome, Table.step}
use Rattle.session.proofs.{Laws.stays, Laws.whole, Sequences.kept_by}
use Rattle.session_bytes.specs.Drawn.{idle_at, ahead, open_moved, answer_moved, Opens, Answers, Stays}
use Rattle.session_bytes.specs.Bytes.{bytes_of, staged, moved_bytes}
use Rattle.session_bytes.proofs.Stages.{parts}

pub idle-long : (bs : List ℕ) → idle_at (staged bs) ≡ true → length bs ≡ 130
idle-long bs = go (staged bs) refl
  where
    go : (f : Option Stage) → staged bs ≡ f → idle_at f ≡ true → length bs ≡ 130
    go (Some st) e h = (parts bs st e).long
    go None e h = let z : ◌≡◌ {A = ℕ} 0 1 = cc in absurd (omega arith)

-- ---- over any call with tests v, that leads to a buffer and shows by a verdict

module _ {T : Type 0} (bs : List ℕ) (v : Verdict) (leads : List ℕ) (shows : Verdict → T) {t : T} where
  stops : idle_at (staged bs) ≡ false → t ≡ shows (Err OutOfStage) → turn bs t ≡ turn (if_passed (ahead bs v) leads bs) (shows (ahead bs v))
  unfolding ahead
  stops a g = rw (a, g)

  goes : {cs : List ℕ} → idle_at (staged bs) ≡ true → t ≡ shows v → cs ≡ if_passed v leads bs
      → turn cs t ≡ turn (if_passed (ahead bs v) leads bs) (shows (ahead bs v))
  unfolding ahead
  goes a g e = rw (a, g, e)

-- ---- open

module _ (bs : List ℕ) (k : ℕ) (r : Option RuleName) (x : OpenLent) (m : OpenRooms) where
  pub open-stops : {t : OpenSeen} → idle_at (staged bs) ≡ false → t ≡ open_shown (Err OutOfStage) None None (open_lent [] [] []) m
      → turn bs t ≡ open_moved bs k r x m
  unfolding open_moved open_shown written
  open-stops a e = stops bs (open_tests (scheme_of_lem k) r x m) (bytes_of (offered (scheme_of_lem k))) (λ (v : Verdict). open_shown v (scheme_of_lem k) r x m) a e

  module _ (opening : List ℕ) (s : List ℤ) (w : Result OpenCounts Refusal) (a : idle_at (staged bs) ≡ true) (p : open_seen (open_told w) opening s ≡ open_result (scheme_of_lem k) r x m)
    where
      pub open-refused : {q : Refusal} → w ≡ Err q → turn bs (open_seen (open_told w) opening s) ≡ open_moved bs k r x m
      unfolding open_moved open_seen open_shown
      open-refused {q} e =
          let v = open_tests (scheme_of_lem k) r x m in
          let n = ap (λ (t : OpenSeen). t.number) (rw e at p) in
          goes bs v (bytes_of (offered (scheme_of_lem k))) (λ (v : Verdict). open_shown v (scheme_of_lem k) r x m) a p
          (stays v q bs (bytes_of (offered (scheme_of_lem k))) n)

      pub open_done : {n : OpenCounts} {z : Session} {cs : List ℕ} → w ≡ Ok n → z ≡ offered (scheme_of_lem k) → cs ≡ bytes_of z
          → turn cs (open_seen (open_told w) opening s) ≡ open_moved bs k r x m
      unfolding open_moved open_seen open_shown
      open_done e f l =
          let v = open_tests (scheme_of_lem k) r x m in
          let n = ap (λ (t : OpenSeen). t.number) (rw e at p) in
          goes bs v (bytes_of (offered (scheme_of_lem k))) (λ (v : Verdict). open_shown v (scheme_of_lem k) r x m) a p
          (l ∙ ap bytes_of f ∙ rw (number-zero v n))

-- ---- answer

module _ (bs : List ℕ) (k : ℕ) (r : Option RuleName) (x : AnswerLent) (m : ReplyRooms) where
  abbrev leads : List ℕ
  leads = bytes_of (keyed (scheme_of_lem k) (reply_key (scheme_of_lem k) (answer_reply (scheme_of_lem k) r x)))

  abbrev shows : Verdict → ReplySeen
  shows v = answer_shown v (scheme_of_lem k) r x m

  pub answer-stops : {t : ReplySeen} → idle_at (staged bs) ≡ false → t ≡ outputs (Err OutOfStage) [] [] [] m → turn bs t ≡ answer_moved bs k r x m
  unfolding answer_moved outputs written
  answer-stops a e = stops bs (answer_tests (scheme_of_lem k) r x m) leads shows a e

  module _ (message key digest : List ℕ) (w : Result ReplyCounts Refusal) (p : reply_seen (reply_told w) message key digest ≡ answer_result (scheme_of_lem k) r x m)
      (a : idle_at (staged bs) ≡ true)
    where
      pub answer-refused : {q : Refusal} → w ≡ Err q → turn bs (reply_seen (reply_told w) message key digest) ≡ answer_moved bs k r x m
      unfolding answer_moved reply_seen outputs
      answer-refused {q} e =
          let v = answer_tests (scheme_of_lem k) r x m in
          let n = ap (λ (t : ReplySeen). t.number) (rw e at p) in
          goes bs v leads shows a p (stays v q bs leads n)

      pub answer-done : {n : ReplyCounts} {z : Session} {cs : List ℕ} → w ≡ Ok n → z ≡ keyed (scheme_of_lem k) (take n.key key) → cs ≡ bytes_of z
          → turn cs (reply_seen (reply_told (Ok n)) message key digest) ≡ answer_moved bs k r x m
      unfolding answer_moved reply_seen outputs
      answer-done e f l =
          let h = rw e at p in
          let v = number-zero (answer_tests (scheme_of_lem k) r x m) (ap (λ (t : ReplySeen). t.number) h) in
          let own = whole (reply_key (scheme_of_lem k) (answer_reply (scheme_of_lem k) r x)) m.key v (ap (λ (t : ReplySeen). t.key) h) in
          goes bs (answer_tests (scheme_of_lem k) r x m) leads shows a h (l ∙ ap bytes_of (f ∙ ap (keyed (scheme_of_lem k)) own) ∙ rw v)

-- ---- in the rows of Offer and Reply

ahead-passed : (bs : List ℕ) (v : Verdict) → ahead bs v ≡ pass → (staged bs ≡ Some Idle) × (v ≡ pass)
unfolding ahead
ahead-passed bs v = go (staged bs) refl
  where
    go : (f : Option Stage) → staged bs ≡ f → cond (idle_at f) v (Err OutOfStage) ≡ pass → (staged bs ≡ Some Idle) × (v ≡ pass)
    go (Some Idle) e h = (e, h)
    go (Some (Offered c)) e h = differ h
    go (Some (Keyed c)) e h = differ h
    go None e h = differ h

pub opens : Opens
unfolding open_moved open_shown moved_bytes moved step outcome row shown_by_lem shown
opens bs k r x m b z =
    let v = ahead bs (open_tests (scheme_of_lem k) r x m) in
    let p : v ≡ pass = number-zero v (sym z) in
    let q = ahead-passed bs (open_tests (scheme_of_lem k) r x m) p in
    rw (p, q.0, open-offers (scheme_of_lem k) r x m b q.1)

pub answers : Answers
unfolding answer_moved outputs moved_bytes moved step outcome row shown_by_lem
answers bs k r x m b z =
    let v = ahead bs (answer_tests (scheme_of_lem k) r x m) in
    let p : v ≡ pass = number-zero v (sym z) in
    let q = ahead-passed bs (answer_tests (scheme_of_lem k) r x m) p in
    rw (p, q.0, answer-replies (scheme_of_lem k) r x m b q.1)

pub kept : Stays
unfolding open_moved open_shown answer_moved outputs
kept bs k r =
    (λ x m n. kept_by (ahead bs (open_tests (scheme_of_lem k) r x m)) bs _ n, λ x m n. kept_by (ahead bs (answer_tests (scheme_of_lem k) r x m)) bs _ n)
