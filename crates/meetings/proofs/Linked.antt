-- The theorems of specs/Linked, of sessions by value: two that refuse nothing have run an exchange.
--   went, goes     a call that refuses nothing goes as the table says and shows what the call beneath promises; and back
--   exchanged      three calls of which each takes what the one before wrote are an exchange; agreed: so that both boxes agree
--   asked          what a link has asked of its sessions, rooms and inputs
--   link           a link of two idle sessions
--   linking, same_key   as specs/Linked states them
use Rattle.std.proofs.Common.{Some, ◌≡◌}
use Rattle.lists.proofs.Kit.{refl, ◌∙◌, sym, ap, ap₂, true, List, ℕ, eq-eqb}
use Rattle.schemes.specs.{Schemes.scheme_of_lem, Schemes.scheme_number, declared.Scheme.Scheme}
use Rattle.schemes.proofs.Laws.{by_number}
use Rattle.refusals.specs.Seen.{Seen, answer}
use Rattle.offer.specs.Offer.{offer_result}
use Rattle.finish.specs.Finish.{FinishSeen, finish_key, finish_result}
use Rattle.reply.specs.Reply.{ReplySeen, reply_key, reply_result}
use Rattle.agreement.specs.{Run.Run, Exchange.Sendable, Exchange.Rooms, Exchange.Enough, Exchange.Exchange, Agreement.Near, Agreement.Agreed}
use Rattle.agreement.proofs.{Accepted.gave, Accepted.none-refused, Agreement.agreement, Meeting.own-published, Meeting.keys-meet}
use Rattle.session.specs.Seen.{CallSeen, of_offer, of_reply, of_finish, number, Turn, turn, moved}
use Rattle.session.specs.Table.{Call, offering, replying, finishing, when_idle, row, keyed}
use Rattle.session.specs.{declared.Stage.Stage, declared.Session.Session, Sequences.beneath}
use Rattle.session.proofs.Sequences.{answered, accepted}
use Rattle.meetings.specs.Linked.{Link, linked_by, Linking, SameKey}
use Rattle.agreement.specs.Run as inputs
use Rattle.agreement.specs.Exchange as exchange

-- ---- three calls

module _ (c : Scheme) (x : Run) (m : Rooms) {o : Seen ℕ} {r : ReplySeen} {f : FinishSeen} (offers : o ≡ exchange.offers c x m)
    (replies : r ≡ reply_result (Some c) (inputs.reply_to x (answer o.out)) m.reply)
    (finishes : f ≡ finish_result (Some c) (inputs.finish_with x (answer r.message)) m.finish) where
  pub replied : r ≡ exchange.replies c x m
  replied = replies ∙ rw offers

  pub finished : f ≡ exchange.finishes c x m
  finished = finishes ∙ rw replied

  unfoldable pub exchanged : o.number ≡ 0 → r.number ≡ 0 → f.number ≡ 0 → Exchange c x
  exchanged a b d =
      record {
        rooms = m;
        offer-accepted = sym (ap (λ (s : Seen ℕ). s.number) offers) ∙ a;
        reply-accepted = sym (ap (λ (s : ReplySeen). s.number) replied) ∙ b;
        finish-accepted = sym (ap (λ (s : FinishSeen). s.number) finished) ∙ d;
      }

  pub agreed : o.number ≡ 0 → r.number ≡ 0 → f.number ≡ 0 → Near c x → Agreed c x r f
  unfolding exchanged
  agreed a b d near = rw (replied, finished) (agreement c x (exchanged a b d) near)

-- ---- a call on a session

went : (y : Session) (x : Call) {z : Session} {s : CallSeen} → turn z s ≡ moved y x → number s ≡ 0
    → ((row x).allowed y.stage ≡ true) × (z ≡ (row x).leads) × (s ≡ beneath x)
went y x e n =
    let a = accepted y x (sym (ap (λ (u : Turn Session CallSeen). number u.seen) e) ∙ n) in
    (a.0, ap (λ (u : Turn Session CallSeen). u.session) e ∙ a.1, ap (λ (u : Turn Session CallSeen). u.seen) e ∙ a.2)

goes : (y : Session) (x : Call) → (row x).allowed y.stage ≡ true → number (beneath x) ≡ 0 → turn (row x).leads (beneath x) ≡ moved y x
goes y x a n =
    let s = (answered y x).0 a in
    ap₂ (λ (z : Session) (t : CallSeen). turn z t) (sym (accepted y x (ap number s ∙ n)).1) (sym s)

idle-when : (st : Stage) → when_idle st ≡ true → st ≡ Stage.Idle
idle-when Stage.Idle e = refl
idle-when (Stage.Offered c) e = cc
idle-when (Stage.Keyed c) e = cc

offer-only : {a b : Seen ℕ} → of_offer a ≡ of_offer b → a ≡ b
offer-only e = cc

reply-only : {a b : ReplySeen} → of_reply a ≡ of_reply b → a ≡ b
reply-only e = cc

finish-only : {a b : FinishSeen} → of_finish a ≡ of_finish b → a ≡ b
finish-only e = cc

-- ---- what a link has done

module _ (c : Scheme) (x : Run) (m : Rooms) where
  abbrev pub first : Call
  first = offering (scheme_number c) (inputs.offering x) m.offer

  abbrev pub second : List ℕ → Call
  second opening = replying (scheme_number c) (inputs.reply_to x opening) m.reply

  abbrev pub third : List ℕ → Call
  third reply = finishing (scheme_number c) (inputs.finish_with x reply) m.finish

module _ {c : Scheme} {x : Run} {y z : Session} {m : Rooms} (t : Link c x y z m) where
  offer-went : ((row (first c x m)).allowed y.stage ≡ true) × (t.opened ≡ (row (first c x m)).leads) × (of_offer t.offer ≡ beneath (first c x m))
  unfolding number
  offer-went = went y _ t.offers t.offer-accepted

  reply-went : let call = second c x m (answer t.offer.out) in
      ((row call).allowed z.stage ≡ true) × (t.replier ≡ (row call).leads) × (of_reply t.reply ≡ beneath call)
  unfolding number
  reply-went = went z _ t.replies t.reply-accepted

  finish-went : let call = third c x m (answer t.reply.message) in
      ((row call).allowed t.opened.stage ≡ true) × (t.initiator ≡ (row call).leads) × (of_finish t.finish ≡ beneath call)
  unfolding number
  finish-went = went t.opened _ t.finishes t.finish-accepted

  offers : t.offer ≡ exchange.offers c x m
  offers = offer-only (offer-went.2 ∙ rw (by_number c))

  replies : t.reply ≡ reply_result (Some c) (inputs.reply_to x (answer t.offer.out)) m.reply
  replies = reply-only (reply-went.2 ∙ rw (by_number c))

  finishes : t.finish ≡ finish_result (Some c) (inputs.finish_with x (answer t.reply.message)) m.finish
  finishes = finish-only (finish-went.2 ∙ rw (by_number c))

  run : Exchange c x
  run = exchanged c x m offers replies finishes t.offer-accepted t.reply-accepted t.finish-accepted

  asked : (y.stage ≡ Stage.Idle) × (z.stage ≡ Stage.Idle) × Enough c m × Sendable c x
  unfolding row exchanged run
  asked = let g = gave run in (idle-when _ offer-went.0, idle-when _ reply-went.0, g.enough, g.sendable)

  -- both are keyed with the keys of the run
  replier-is : t.replier ≡ keyed (Some c) (reply_key (Some c) (inputs.replying c x))
  unfolding row exchanged run
  replier-is = reply-went.1 ∙ rw (by_number c, offers, (gave run).opening)

  initiator-is : t.initiator ≡ keyed (Some c) (finish_key (Some c) (inputs.finishing c x))
  unfolding row exchanged run
  initiator-is = finish-went.1 ∙ rw (by_number c, replied c x m offers replies finishes, (gave run).message)

pub same_key : SameKey
same_key c x y z m t near =
    let ranged = (asked t).3.ranged in
    let p : t.replier ≡ linked_by c x = replier-is t ∙ ap (keyed (Some c)) (own-published c x ranged) in
    let i : t.initiator ≡ linked_by c x = initiator-is t ∙ ap (keyed (Some c)) (sym (keys-meet c x ranged near) ∙ own-published c x ranged) in
    (ap (λ (u : Session). u.key) (i ∙ sym p), i, p)

-- ---- a link of two idle sessions

module _ (c : Scheme) (x : Run) (m : Rooms) (h : Enough c m) (s : Sendable c x) (y z : Session) (i : y.stage ≡ Stage.Idle) (j : z.stage ≡ Stage.Idle) where
  link : Link c x y z m
  unfolding row number
  link =
      let n = scheme_of_lem (scheme_number c) in
      let t = none-refused c x m h s in
      let o = offer_result n (inputs.offering x) m.offer in
      let r = reply_result n (inputs.reply_to x (answer o.out)) m.reply in
      record {
        opened = (row (first c x m)).leads;
        offer = o;
        offers = goes y (first c x m) (rw i) (rw (by_number c) t.0);
        offer-accepted = rw (by_number c) t.0;
        replier = (row (second c x m (answer o.out))).leads;
        reply = r;
        replies = goes z (second c x m (answer o.out)) (rw j) (rw (by_number c) t.1);
        reply-accepted = rw (by_number c) t.1;
        initiator = (row (third c x m (answer r.message))).leads;
        finish = finish_result n (inputs.finish_with x (answer r.message)) m.finish;
        finishes = goes _ (third c x m (answer r.message)) (rw (by_number c, eq-eqb (scheme_number c) (scheme_number c) refl)) (rw (by_number c) t.2);
        finish-accepted = rw (by_number c) t.2;
      }

pub linking : Linking
linking c x y z m = (λ t. asked t, λ h. link c x m h.2 h.3 y z h.0 h.1)
