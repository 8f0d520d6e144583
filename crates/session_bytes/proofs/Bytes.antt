-- The theorems of specs/Shown.
--   taken_back, laid-back, fresh, closed, untouched, run-bytes
--   moved-bytes   a call on the bytes of a session is the call by value
--   held_by       a buffer on which a call other than close refuses nothing is a session
use Rattle.std.proofs.Common.{Some, None, Option, Err, ◌≡◌, ◌∷◌, ◌++◌, ◌-◌, ◌≤◌}
use Rattle.lists.proofs.Kit.{refl, ◌∙◌, sym, ap, true, false, List, [], ℕ, suc, arith, length, get_or, take, drop, replicate}
use Rattle.lists.proofs.Kit.{length-replicate, length-append, length-drop, take-append-drop, drop_at, length-take-le, take_all, eq-eqb}
use Rattle.schemes.specs.declared.Scheme.TheVariants.{Bcns, NewHope, Challenge, Classical, Recommended, Paranoid}
use Rattle.schemes.specs.Schemes.{fixed_of}
use Rattle.schemes.proofs.Sound.{sound}
use Rattle.blank.specs.Blank.{blank}
use Rattle.blank.proofs.Laws.{blank-zeros, zeros-blank}
use Rattle.refusals.specs.{Seen.done, declared.Refusal.TheVariants.OutOfStage}
use Rattle.session.specs.declared.Stage.TheVariants.{Idle, Offered, Keyed}
use Rattle.session.specs.Table.{Call, closing, row, outcome, step, run, no_key_lem, padded}
use Rattle.session.specs.Seen.{CallSeen, of_close, number, shown_by_lem, Turn, turn, moved}
use Rattle.session.specs.{declared.Stage.Stage, declared.Session.Session, Sequences.RanBy, Sequences.Ran, Sequences.Sound, Sequences.Holds}
use Rattle.session.proofs.{Laws.shown-number, Sequences.step-sound}
use Rattle.session_bytes.specs.Bytes.{stage_byte_lem, scheme_byte_lem, bytes_of, stage_in_lem, key_length_lem, staged, session_in, closes, laid_out, moved_at, moved_bytes}
use Rattle.session_bytes.specs.Shown.{TakenBack, LaidBack, Fresh, Closed, Untouched, RanBytes, RunBytes}
use Rattle.session_bytes.proofs.Stages.{parts}

-- ---- a key in its place

record Shaped (st : Stage) (key : List ℕ) : Type 0 where
  pub long : length key ≡ 128
  pub behind : blank (drop (key_length_lem st) key) ≡ true

none-shaped : (key : List ℕ) → key ≡ no_key_lem → (length key ≡ 128) × (blank key ≡ true)
unfolding no_key_lem
none-shaped key e = (ap length e ∙ length-replicate {A = ℕ} 128 0, ap blank e ∙ blank-zeros 128)

padded-few : (key : List ℕ) → length key ≤ 128 → padded key ≡ key ++ replicate (128 - length key) 0
unfolding padded
padded-few key h = ap (λ (ks : List ℕ). ks ++ replicate (128 - length key) 0) (take_all 128 key h)

holds-shaped : (st : Stage) (key : List ℕ) → Holds st key → Shaped st key
holds-shaped Idle key h = let s = none-shaped key h in record { long = s.0; behind = s.1 }
holds-shaped (Offered c) key h = let s = none-shaped key h in record { long = s.0; behind = s.1 }
holds-shaped (Keyed c) key (k, l, e) =
    let few = (sound c).keys in
    let p = e ∙ padded-few k (omega (arith, few, l)) in
    record {
      long = ap length p ∙ length-append k (replicate (128 - length k) 0) ∙ omega (arith, length-replicate {A = ℕ} (128 - length k) 0, few, l);
      behind = ap (λ (xs : List ℕ). blank (drop (fixed_of c).key xs)) p ∙ ap blank (drop_at k (replicate (128 - length k) 0) (fixed_of c).key l) ∙ blank-zeros (128 - length k);
    }

shaped-holds : (st : Stage) (key : List ℕ) → Shaped st key → Holds st key
unfolding no_key_lem
shaped-holds Idle key s = zeros-blank key s.behind ∙ ap (λ (n : ℕ). replicate n 0) s.long
shaped-holds (Offered c) key s = zeros-blank key s.behind ∙ ap (λ (n : ℕ). replicate n 0) s.long
shaped-holds (Keyed c) key s =
    let n = (fixed_of c).key in
    let few : n ≤ length key = omega (arith, (sound c).keys, s.long) in
    let l : length (take n key) ≡ n = length-take-le n key few in
    let r : length (drop n key) ≡ 128 - length (take n key) = length-drop n key ∙ omega (arith, s.long, l) in
    let p = sym (take-append-drop n key) ∙ ap (λ (xs : List ℕ). take n key ++ xs) (zeros-blank (drop n key) s.behind ∙ ap (λ (m : ℕ). replicate m 0) r) in
    (take n key, l, p ∙ sym (padded-few (take n key) (omega (arith, (sound c).keys, l))))

-- ---- taken back

named_back : (st : Stage) → stage_in_lem (stage_byte_lem st) (scheme_byte_lem st) ≡ Some st
unfolding stage_in_lem
named_back Idle = refl
named_back (Offered Bcns) = refl
named_back (Offered NewHope) = refl
named_back (Offered Challenge) = refl
named_back (Offered Classical) = refl
named_back (Offered Recommended) = refl
named_back (Offered Paranoid) = refl
named_back (Keyed Bcns) = refl
named_back (Keyed NewHope) = refl
named_back (Keyed Challenge) = refl
named_back (Keyed Classical) = refl
named_back (Keyed Recommended) = refl
named_back (Keyed Paranoid) = refl

staged-back : (st : Stage) (key : List ℕ) → Shaped st key → staged (bytes_of (record { stage = st; key = key })) ≡ Some st
unfolding staged bytes_of
staged-back st key s = rw (eq-eqb (suc (suc (length key))) 130 (omega (arith, s.long)), named_back st, s.behind)

pub taken_back : TakenBack
unfolding bytes_of
taken_back y h = (staged-back y.stage y.key (holds-shaped y.stage y.key h), refl)

-- ---- laid back

two : (bs : List ℕ) (a b : ℕ) → length bs ≡ 130 → get_or bs 0 0 ≡ a → get_or bs 1 0 ≡ b → a ∷ b ∷ drop 2 bs ≡ bs
two [] a b l e f = absurd (omega (arith, l))
two (x ∷ []) a b l e f = absurd (omega (arith, l))
two (x ∷ y ∷ r) a b l e f = rw (← e, ← f)

pub laid-back : LaidBack
unfolding bytes_of
laid-back bs st e =
    let p = parts bs st e in (
      two bs _ _ p.long p.stage p.scheme,
      shaped-holds st (drop 2 bs) (record { long = length-drop 2 bs ∙ omega (arith, p.long); behind = p.behind }),
    )

pub fresh : Fresh
unfolding bytes_of no_key_lem
fresh = ((taken_back (record { stage = Idle; key = no_key_lem }) refl).0, refl)

-- ---- close, and what is no session

closed_at : (bs : List ℕ) (f : Option Stage) → staged bs ≡ f → moved_at f bs closing ≡ turn (replicate (length bs) 0) (of_close (done 0))
unfolding bytes_of moved step outcome row no_key_lem shown_by_lem
closed_at bs None e = refl
closed_at bs (Some st) e = ap (λ (n : ℕ). turn (replicate n 0) (of_close (done 0))) (sym (parts bs st e).long)

pub closed : Closed
unfolding moved_bytes
closed bs = closed_at bs (staged bs) refl

pub untouched : Untouched
unfolding moved_bytes
untouched bs x e f = rw (e, f)

-- ---- over any sequence

pub moved-bytes : (y : Session) → Sound y → (x : Call) → moved_bytes (bytes_of y) x ≡ laid_out (moved y x)
unfolding moved_bytes
moved-bytes y h x = let t = taken_back y h in rw t.0 (ap (λ (z : Session). laid_out (moved z x)) t.1)

pub held_by : (bs : List ℕ) (x : Call) → closes x ≡ false → number (moved_bytes bs x).seen ≡ 0 → (y : Session) × (bs ≡ bytes_of y) × Sound y
held_by bs x f z = go (staged bs) refl
  where
    go : (s : Option Stage) → staged bs ≡ s → (y : Session) × (bs ≡ bytes_of y) × Sound y
    go (Some st) e = let l = laid-back bs st e in (session_in st bs, sym l.0, l.1)
    go None e =
        let n : number (moved_bytes bs x).seen ≡ 10 = rw (untouched bs x e f) (shown-number (Err OutOfStage) x) in
        absurd (omega (arith, n, z))

run-from : (y : Session) (bs : List ℕ) (xs : List Call) (cs : List ℕ) (ts : List CallSeen) → Sound y → bs ≡ bytes_of y → RanBytes bs xs cs ts
    → (cs ≡ bytes_of (run y xs)) × Ran y xs (run y xs) ts
unfolding run moved
run-from y bs _ _ _ h e RanBy.none = (e, RanBy.none)
run-from y bs _ ds _ h e (RanBy.more {z = cs} {x = x} {xs = xs} {t = t} {ts = ts} m r) =
    let s : turn cs t ≡ laid_out (moved y x) = m ∙ ap (λ (us : List ℕ). moved_bytes us x) e ∙ moved-bytes y h x in
    let q = run-from (step y x) cs xs ds ts (step-sound y x h) (ap (λ (u : Turn (List ℕ) CallSeen). u.session) s) r in
    (q.0, RanBy.more (ap (λ (u : Turn (List ℕ) CallSeen). turn (step y x) u.seen) s) q.1)

pub run-bytes : RunBytes
run-bytes y xs cs ts h r = run-from y (bytes_of y) xs cs ts h refl r
