-- The theorems of specs/Sequences.
--   followed, answered, accepted, kept, sounds
--   kept_by       what a refusal does not change
--   step-sound    one step
use Rattle.std.proofs.Common.{Ok, Err, Some, None, Option, ◌≡◌, ◌∷◌}
use Rattle.schemes.specs.declared.Scheme.{Scheme}
use Rattle.lists.proofs.Kit.{refl, ◌∙◌, sym, ap, ap₂, Bool, true, false, cond, List, [], ℕ, arith}
use Rattle.schemes.specs.{Schemes.scheme_of_lem}
use Rattle.refusals.specs.Refusals.{pass}
use Rattle.refusals.specs.{Refusals.number_in, Seen.if_passed, Refusals.Verdict, declared.Refusal.TheVariants.OutOfStage}
use Rattle.refusals.proofs.Laws.{number-zero}
use Rattle.finish.specs.Finish.{Finish, finish_key}
use Rattle.reply.specs.Reply.{Reply, reply_key}
use Rattle.reply.proofs.Replying.{key-length}
use Rattle.session.specs.Sequences.{RanBy, seen_of, beneath, Sound, Followed, Answered, Accepted, Kept, Sounds}
use Rattle.session.specs.Table.{Session, Call, offering, replying, finishing, closing, row, outcome, step, run, offered, keyed}
use Rattle.session.specs.Seen.{CallSeen, number, shown_by_lem, Turn, moved}
use Rattle.session.proofs.Laws.{shown-number}
use Rattle.finish.proofs.Finishing as finishes

pub followed : Followed
unfolding run seen_of moved
followed y _ _ _ RanBy.none = (refl, refl)
followed y w _ _ (RanBy.more {z = z} {x = x} {xs = xs} {t = t} {ts = ts} m r) =
    let q = followed z w xs ts r in
    let s : z ≡ step y x = ap (λ (u : Turn Session CallSeen). u.session) m in
    let e : t ≡ (moved y x).seen = ap (λ (u : Turn Session CallSeen). u.seen) m in
    (q.0 ∙ ap (λ (u : Session). run u xs) s, ap₂ ◌∷◌ e (q.1 ∙ ap (λ (u : Session). seen_of u xs) s))

by_tests : (x : Call) → shown_by_lem (row x).tests x ≡ beneath x
unfolding shown_by_lem row
by_tests (offering k x n) = refl
by_tests (replying k x m) = refl
by_tests (finishing k x m) = refl
by_tests closing = refl

pub answered : Answered
unfolding moved outcome
answered y x = (λ a. rw a (by_tests x), λ a. rw a)

-- its number is that of its verdict
verdict : (y : Session) (x : Call) → number (moved y x).seen ≡ number_in (outcome y.stage x)
unfolding moved
verdict y x = shown-number (outcome y.stage x) x

pub accepted : Accepted
unfolding moved step outcome
accepted y x e =
    let p = number-zero (outcome y.stage x) (sym e ∙ verdict y x) in
    let a = go ((row x).allowed y.stage) refl p in
    (a, rw p, (answered y x).0 a)
  where
    go : (b : Bool) → (row x).allowed y.stage ≡ b → cond b (row x).tests (Err OutOfStage) ≡ pass → b ≡ true
    go true a p = refl
    go false a p = let z : ◌≡◌ {A = ℕ} 0 1 = cc in absurd (omega arith)

pub kept_by : {A : Type 0} (v : Verdict) (y z : A) → (number_in v ≡ 0 → ⊥) → if_passed v z y ≡ y
kept_by (Ok _) y z n = absurd (n refl)
kept_by (Err r) y z n = refl

pub kept : Kept
unfolding moved step
kept y x n = kept_by (outcome y.stage x) y (row x).leads (λ e. n (verdict y x ∙ e))

-- ---- sound sessions

offered-sound : (c : Option Scheme) → Sound (offered c)
offered-sound None = refl
offered-sound (Some c) = refl

replied-sound : (c : Option Scheme) (x : Reply) → Sound (keyed c (reply_key c x))
unfolding reply_key
replied-sound None x = refl
replied-sound (Some c) x = (reply_key (Some c) x, key-length c x, refl)

finished-sound : (c : Option Scheme) (x : Finish) → Sound (keyed c (finish_key c x))
unfolding finish_key
finished-sound None x = refl
finished-sound (Some c) x = (finish_key (Some c) x, finishes.key-length c x, refl)

leads-sound : (x : Call) → Sound (row x).leads
unfolding row
leads-sound (offering k x n) = offered-sound (scheme_of_lem k)
leads-sound (replying k x m) = replied-sound (scheme_of_lem k) x
leads-sound (finishing k x m) = finished-sound (scheme_of_lem k) x
leads-sound closing = refl

after-sound : (v : Verdict) (y z : Session) → Sound y → Sound z → Sound (if_passed v z y)
after-sound (Ok _) y z h i = i
after-sound (Err r) y z h i = h

pub step-sound : (y : Session) (x : Call) → Sound y → Sound (step y x)
unfolding step
step-sound y x h = after-sound (outcome y.stage x) y (row x).leads h (leads-sound x)

run_sound : (y : Session) (xs : List Call) → Sound y → Sound (run y xs)
unfolding run
run_sound y [] h = h
run_sound y (x ∷ xs) h = run_sound (step y x) xs (step-sound y x h)

pub sounds : Sounds
sounds = (refl, run_sound)
