-- What is shown of parts and states: joining, empty and refused parts, and what any parts leave.
--   took-parts       accepted parts are parts
--   takes            parts that do not run past the end of their row, nor past the last row, are accepted where their numbers are in range
--   without          the run without what was refused
--   Cut, took-cut    accepted parts: what they leave, and that none runs past the end of its row or past the last row
--   frodos-are, allowed, joining, empty-part, again, running   what is shown
use Rattle.std.proofs.Common.{Ok, Err, Some, None, Option, ◌≡◌, ◌∷◌, ◌++◌, ◌+◌, ◌*◌, ◌-◌, ◌%◌, ◌≤◌, ◌<◌}
use Rattle.lists.proofs.Kit.{refl, ◌∙◌, sym, ap, ap₂, subst, Bool, true, false, cond, List, [], append_assoc, append-nil, ℕ, zero, suc}
use Rattle.lists.proofs.Kit.{arith, mod-lt, mod-eq_of_lt, mod-add-mod, lt-leb, le-leb, eqb, take_at, drop_at, drop-drop, length, get_or}
use Rattle.lists.proofs.Kit.{take, drop, length-append, length-take, length-drop, take-append-drop}
use Rattle.schemes.specs.{Schemes.family_of, Schemes.fixed_of, Schemes.scheme_of_lem, declared.Family.Family, declared.Scheme.Scheme}
use Rattle.schemes.proofs.Sound.{sound}
use Rattle.lists.specs.Ranges.{Below}
use Rattle.lists.proofs.Parts.{below-drop, below-take}
use Rattle.matrix.specs.Words.{gained}
use Rattle.matrix.proofs.Steps.{gained-length}
use Rattle.parts.specs.Parts.{wrap, words, pairs, placed}
use Rattle.parts.proofs.Words.{words-below, append-below}
use Rattle.refusals.specs.{Refusals.number_in, Seen.if_passed, Refusals.Verdict, Refusals.pass}
use Rattle.refusals.proofs.Laws.{differ, both, turn-passed, publics-passed, turn-passes, below-passes, all_pass}
use Rattle.values.proofs.Numbers.{numbers-in}
use Rattle.rows_state.specs.State.{frodo_in_lem, named, taken, saved_of, secret_of, sums_of, held_of, Layout, laid, onward, ◌and◌, saved_in, begun, terms, fills}
use Rattle.rows_state.specs.State.{held_with, sums_with, stepped}
use Rattle.rows_state.specs.{Part.StateSeen, Part.state_shown, Part.state_seen, Part.part_tests, Part.part_state, Part.part_result, declared.Call.Call}
use Rattle.rows_state.proofs.Laying.{apart, kept-long, secret-long, sums-long, held-long, again-words, made-words, held-words, with-below, laid-long, laid_kept}
use Rattle.rows_state.proofs.Laying.{laid-secret, laid-sums, laid-held, laid-ext}
use Rattle.rows_state.proofs.Tests.{stops, goes, passed, started, starts, Fits, fits, fits-so, frodo-in, frodo-named}
use Rattle.rows_state.proofs.{Filling.block-fits, Filling.fills_up, Filling.held-mod, Turns.part-known}
use Rattle.rows.specs.Runs.{Accepts, next, Parts, joined, Took, Good, steps, WithinRows}
use Rattle.rows.specs.Shown.{Frodos, Allowed, Joining, Empty, Again, Running}
use Rattle.rows.proofs.Running.{unchanged, below-front, below-behind, after-sums, after-held, Walked, walked}
use Rattle.rows.proofs.Ends.{not-refused, by-frodo}

-- ---- the state

pub frodos-are : Frodos
frodos-are k c = (λ e. frodo-in (scheme_of_lem k) c e, λ d. ap frodo_in_lem d.0 ∙ by-frodo _ _ (Some c) d.1)

pub allowed : Allowed
allowed n = omega arith

-- ---- accepted parts

accepted : (k : Call) (st p : List ℕ) → Accepts k st p → part_tests k (named st) st p ≡ pass
accepted k st p t = (not-refused _ _ t).0

-- what a part that is not refused says of the state before it and after it
record Good-part (k : Call) (c : Scheme) (st p : List ℕ) : Type 0 where
  has-begun : begun k (fixed_of c) st ≡ true
  fit : Fits (fixed_of c).n (taken st) (length p)
  below : Below (fixed_of c).q p
  is : next k st p ≡ stepped k (fixed_of c).n st p

-- it names a scheme
scheme-named : (k : Call) (st p : List ℕ) → Accepts k st p → (c : Scheme) × (named st ≡ Some c)
unfolding part_tests
scheme-named k st p t = go (named st) refl
  where
    go : (x : Option Scheme) → named st ≡ x → (c : Scheme) × (named st ≡ Some c)
    go None e = differ (sym (ap (λ y. part_tests k y st p) e) ∙ accepted k st p t)
    go (Some c) e = (c, e)

good-part : (k : Call) (c : Scheme) (st p : List ℕ) → named st ≡ Some c → Accepts k st p → Good-part k c st p
unfolding part_tests part_state state_shown
good-part k c st p e t =
    let z = accepted k st p t in
    let o = both _ _ (sym (ap (λ y. part_tests k y st p) e) ∙ z) in
    let b = passed _ _ (turn-passed _ o.0) in
    record {
      has-begun = b.0;
      fit = fits (fixed_of c).n (taken st) (length p) b.1;
      below = publics-passed _ p (omega (arith, (sound c).some)) o.1;
      is = ap (λ v. if_passed v (part_state k (named st) st p) st) z ∙ ap (λ y. part_state k y st p) e;
    }

-- and back
part-good : (k : Call) (c : Scheme) (st p : List ℕ) → named st ≡ Some c → begun k (fixed_of c) st ≡ true → Fits (fixed_of c).n (taken st) (length p)
    → Below (fixed_of c).q p → state_seen pass (stepped k (fixed_of c).n st p) ≡ part_result k st p
unfolding part_tests
part-good k c st p e b f l =
    part-known k st p c e (sym (all_pass (turn-passes (sym (goes b (sym (fits-so (fixed_of c).n (taken st) (length p) f))))) (below-passes l))) refl

part-goes : (k : Call) (st p : List ℕ) {after : List ℕ} → state_seen pass after ≡ part_result k st p → Accepts k st p × (next k st p ≡ after)
unfolding state_seen
part-goes k st p e = (sym (ap (λ (s : StateSeen). s.number) e), sym (ap (λ (s : StateSeen). s.state) e))

either : {A : Type 0} (P : A → Type 0) (t : Bool) (x y : A) → P x → P y → P (cond t x y)
either P true x y a b = a
either P false x y a b = b

-- the parts of a state with the part p
module _ (k : Call) (c : Scheme) (st : List ℕ) (b : begun k (fixed_of c) st ≡ true) (some : 0 < (fixed_of c).n) where
  abbrev n : ℕ
  n = (fixed_of c).n

  long-is : length st ≡ 16 * n + 67
  long-is = (started k (fixed_of c) st b).is-long

  module _ (p : List ℕ) (f : Fits (fixed_of c).n (taken st) (length p)) where
    in_block : taken st % (16 * n) + length p ≤ 16 * n
    in_block = block-fits n (taken st) (length p) some f.in_row

    abbrev full : Bool
    full = fills n (taken st) (length p)

    abbrev entered : List ℕ
    entered = gained wrap n (terms k n (secret_of n st) (placed (taken st + length p - 16 * n) (held_with n st p))) (sums_of n st)

    sums-wide : length (sums_with k n st p) ≡ 8 * n
    unfolding sums_with
    sums-wide =
        either (λ (l : List ℕ). length l ≡ 8 * n) full entered (sums_of n st) (gained-length wrap n _ (sums_of n st) ∙ sums-long n st long-is) (sums-long n st long-is)

    sums-words : words (pairs (sums_with k n st p)) ≡ sums_with k n st p
    unfolding sums_with
    sums-words =
        either (λ (l : List ℕ). words (pairs l) ≡ l) full entered (sums_of n st) (made-words n n _ (sums_of n st) (sums-long n st long-is)) (again-words _)

    held-wide : length (held_with n st p) ≡ 16 * n
    unfolding held_with
    held-wide = simp (length-append, length-take, length-drop) (omega (arith, in_block, held-long n st long-is))

    abbrev ahead : Layout
    ahead = onward n st (taken st + length p) (sums_with k n st p) (held_with n st p)

    step_kept : saved_of (stepped k n st p) ≡ saved_of st
    unfolding stepped
    step_kept =
        laid_kept n ahead (kept-long n st long-is)
        (secret-long n st long-is) sums-wide

    step-secret : secret_of n (stepped k n st p) ≡ secret_of n st
    unfolding stepped
    step-secret =
        laid-secret n ahead (kept-long n st long-is)
        (secret-long n st long-is) sums-wide (again-words _)

    step-sums : sums_of n (stepped k n st p) ≡ sums_with k n st p
    unfolding stepped
    step-sums =
        laid-sums n ahead (kept-long n st long-is)
        (secret-long n st long-is) sums-wide sums-words

    step-held : Below (wrap * wrap) st → Below wrap p → held_of n (stepped k n st p) ≡ held_with n st p
    unfolding stepped
    step-held w l =
        laid-held n ahead (kept-long n st long-is)
        (secret-long n st long-is) sums-wide (held-words n (held_with n st p) held-wide (with-below n st p w l))

    step-begun : begun k (fixed_of c) (stepped k n st p) ≡ true
    unfolding stepped
    step-begun =
        starts k (fixed_of c) (stepped k n st p)
        (record {
          is-long =
              laid-long n ahead (kept-long n st long-is)
              (secret-long n st long-is) sums-wide held-wide;
          is_call = (started k (fixed_of c) st b).is_call;
          at-most = f.in_all;
          kept_in = ap (saved_in k (fixed_of c).q) step_kept ∙ (started k (fixed_of c) st b).kept_in;
        })

-- an empty part ends no block, and is no number
none : (k : Call) (c : Scheme) (st : List ℕ) → begun k (fixed_of c) st ≡ true → stepped k (fixed_of c).n st [] ≡ st
unfolding stepped sums_with held_with fills
none k c st b =
    let n = (fixed_of c).n in
    let o : taken st + 0 ≡ taken st = omega arith in
    let d : taken st % (16 * n) + 0 ≡ taken st % (16 * n) = omega arith in
    let z : false ≡ fills n (taken st) 0 = stops _ (lt-leb 1 0 (omega arith)) in
    let h : take (taken st % (16 * n)) (held_of n st) ++ drop (taken st % (16 * n) + 0) (held_of n st) ≡ held_of n st =
    ap (λ (j : ℕ). take (taken st % (16 * n)) (held_of n st) ++ drop j (held_of n st)) d ∙ take-append-drop (taken st % (16 * n)) (held_of n st)
    in
    rw (sym z, o)
    (ap (λ (l : List ℕ). laid (onward n st (taken st) (sums_of n st) l)) h
    ∙ sym (apart n st (started k (fixed_of c) st b).is-long))

-- ---- part after part

-- the rows held back, with one part and then the next
split-more : (o : ℕ) (H p p' : List ℕ) → o ≤ length H
    → take (o + length p) (take o H ++ (p ++ drop (o + length p) H)) ++ (p' ++ drop (o + length p + length p') (take o H ++ (p ++ drop (o + length p) H)))
    ≡ take o H ++ ((p ++ p') ++ drop (o + length (p ++ p')) H)
split-more o H p p' h =
    let D = drop (o + length p) H in
    let w : take o H ++ (p ++ D) ≡ (take o H ++ p) ++ D = sym (append_assoc (take o H) p D) in
    let s : length (take o H ++ p) ≡ o + length p = simp (length-append, length-take) (omega arith) in
    let e : o + length p + length p' ≡ o + length (p ++ p') = omega (arith, length-append p p') in
    ap₂ (λ (u v : List ℕ). u ++ (p' ++ v)) (ap (take (o + length p)) w ∙ take_at (take o H ++ p) D (o + length p) s)
    (sym (drop-drop (length p') (o + length p) (take o H ++ (p ++ D)))
    ∙ ap (drop (length p')) (ap (drop (o + length p)) w ∙ drop_at (take o H ++ p) D (o + length p) s)
    ∙ drop-drop (length p') (o + length p) H
    ∙ ap (λ (i : ℕ). drop i H) e)
    ∙ append_assoc (take o H) p _
    ∙ ap (λ (l : List ℕ). take o H ++ l) (sym (append_assoc p p' _))

fills_same : (n at a b : ℕ) → 1 ≤ b → fills n (at + a) b ≡ fills n at (a + b)
unfolding fills
fills_same n at a b h =
    let e : at + a + b ≡ at + (a + b) = omega arith in
    ap₂ (λ (s t : Bool). s and t) (le-leb 1 b h ∙ sym (le-leb 1 (a + b) (omega arith))) (ap (λ (i : ℕ). eqb (i % (16 * n)) 0) e)

module _ (k : Call) (c : Scheme) (st : List ℕ) (b : begun k (fixed_of c) st ≡ true) (some : 0 < (fixed_of c).n) (p p' : List ℕ)
    (f : Fits (fixed_of c).n (taken st) (length p + length p')) (w : Below (wrap * wrap) st) (l : Below wrap p) (more : 1 ≤ length p') where
  first_fits : Fits (fixed_of c).n (taken st) (length p)
  first_fits = record { in_row = omega (arith, f.in_row); in_all = omega (arith, f.in_all) }

  -- so the first part ends no block
  not_yet : fills (fixed_of c).n (taken st) (length p) ≡ false
  not_yet = go (fills (fixed_of c).n (taken st) (length p)) refl
    where
      go : (t : Bool) → fills (fixed_of c).n (taken st) (length p) ≡ t → t ≡ false
      go false e = refl
      go true e =
          let u = fills_up (fixed_of c).n (taken st) (length p) some first_fits.in_row e in
          let v = block-fits (fixed_of c).n (taken st) (length p + length p') some f.in_row in
          absurd (omega (arith, u, v))

  abbrev ahead-one : List ℕ
  ahead-one = stepped k (fixed_of c).n st p

  same-fills : fills (fixed_of c).n (taken st + length p) (length p') ≡ fills (fixed_of c).n (taken st) (length (p ++ p'))
  same-fills = fills_same (fixed_of c).n (taken st) (length p) (length p') more ∙ ap (fills (fixed_of c).n (taken st)) (sym (length-append p p'))

  next-sums : sums_of (fixed_of c).n ahead-one ≡ sums_of (fixed_of c).n st
  unfolding sums_with
  next-sums = step-sums k c st b some p first_fits ∙ rw not_yet refl

  next-held : held_of (fixed_of c).n ahead-one ≡ held_with (fixed_of c).n st p
  next-held = step-held k c st b some p first_fits w l

  with-join : held_with (fixed_of c).n ahead-one p' ≡ held_with (fixed_of c).n st (p ++ p')
  unfolding held_with stepped
  with-join =
      let n = (fixed_of c).n in
      let o = taken st % (16 * n) in
      let e : (taken st + length p) % (16 * n) ≡ o + length p = held-mod n (taken st) (length p) some first_fits.in_row not_yet in
      ap₂ (λ (j : ℕ) (l : List ℕ). take j l ++ (p' ++ drop (j + length p') l)) e next-held
      ∙ split-more o (held_of n st) p p' (omega (arith, block-fits n (taken st) (length p) some first_fits.in_row, held-long n st (long-is k c st b some)))

  last-at : taken st + length p + length p' ≡ taken st + length (p ++ p')
  last-at = omega (arith, length-append p p')

  sums_join : sums_with k (fixed_of c).n ahead-one p' ≡ sums_with k (fixed_of c).n st (p ++ p')
  unfolding sums_with stepped
  sums_join =
      let n = (fixed_of c).n in
      ap₂ (λ (x y : List ℕ). cond (fills n (taken st + length p) (length p'))
      (gained wrap n (terms k n x (placed (taken st + length p + length p' - 16 * n) y)) (sums_of n ahead-one)) (sums_of n ahead-one))
      (step-secret k c st b some p first_fits) with-join
      ∙ ap₂ (λ (t : Bool) (x : List ℕ). cond t
      (gained wrap n (terms k n (secret_of n st) (placed (taken st + length p + length p' - 16 * n) (held_with n st (p ++ p')))) x) x)
      same-fills next-sums
      ∙ ap (λ (i : ℕ). cond (fills n (taken st) (length (p ++ p')))
      (gained wrap n (terms k n (secret_of n st) (placed (i - 16 * n) (held_with n st (p ++ p')))) (sums_of n st)) (sums_of n st))
      last-at

  two_steps : stepped k (fixed_of c).n ahead-one p' ≡ stepped k (fixed_of c).n st (p ++ p')
  unfolding stepped
  two_steps = laid-ext last-at (step_kept k c st b some p first_fits) (step-secret k c st b some p first_fits) sums_join with-join

-- part after part is the part of both joined
steps-join : (k : Call) (c : Scheme) (st p p' : List ℕ) → begun k (fixed_of c) st ≡ true → 0 < (fixed_of c).n
    → Fits (fixed_of c).n (taken st) (length p + length p') → Below (wrap * wrap) st → Below wrap p
    → stepped k (fixed_of c).n (stepped k (fixed_of c).n st p) p' ≡ stepped k (fixed_of c).n st (p ++ p')
steps-join k c st p [] b some f w l =
    none k c (stepped k (fixed_of c).n st p)
    (step-begun k c st b some p (record { in_row = omega (arith, f.in_row); in_all = omega (arith, f.in_all) }))
    ∙ ap (stepped k (fixed_of c).n st) (sym (append-nil p))
steps-join k c st p (x ∷ p') b some f w l = two_steps k c st b some p (x ∷ p') f w l (omega arith)

-- the second of two parts of one row fits behind the first
fits-behind : (n at a b : ℕ) → 0 < n → Fits n at (a + b) → Fits n (at + a) b
fits-behind n at a zero o f = record { in_row = omega (arith, mod-lt (at + a) o); in_all = omega (arith, f.in_all) }
fits-behind n at a (suc b) o f =
    let e : (at + a) % n ≡ at % n + a = sym (mod-add-mod at n a) ∙ mod-eq_of_lt (omega (arith, f.in_row)) in
    record { in_row = omega (arith, e, f.in_row); in_all = omega (arith, f.in_all) }

join : (k : Call) (c : Scheme) (st p p' : List ℕ) → named st ≡ Some c → begun k (fixed_of c) st ≡ true
    → Fits (fixed_of c).n (taken st) (length p + length p') → Below (wrap * wrap) st → Below (fixed_of c).q p → Below (fixed_of c).q p'
    → Accepts k st p × (part_result k (next k st p) p' ≡ part_result k st (p ++ p'))
unfolding stepped
join k c st p p' called b f w h l =
    let n = (fixed_of c).n in
    let num = numbers-in c (frodo-named (get_or st 1 0) c called) in
    let word : Below wrap p = record { below = λ i. omega (arith, h.below i, num.q_room) } in
    let first : Fits n (taken st) (length p) = record { in_row = omega (arith, f.in_row); in_all = omega (arith, f.in_all) } in
    let g = part-goes k st p (part-good k c st p called b first h) in
    let second = part-good k c (stepped k n st p) p' called (step-begun k c st b num.some p first)
    (fits-behind n (taken st) (length p) (length p') num.some f) l
    in (
      g.0,
      ap (λ (s : List ℕ). part_result k s p') g.1
          ∙ sym second
          ∙ ap (state_seen pass) (steps-join k c st p p' b num.some f w word)
          ∙ part-good k c st (p ++ p') called b (rw (length-append p p') f) (append-below p p' h l),
    )

splits : (k : Call) (st p p' : List ℕ) → Below (wrap * wrap) st → Accepts k st (p ++ p')
    → Accepts k st p × (part_result k (next k st p) p' ≡ part_result k st (p ++ p'))
splits k st p p' w t =
    let i = scheme-named k st (p ++ p') t in
    let g = good-part k i.0 st (p ++ p') i.1 t in
    join k i.0 st p p' i.1 g.has-begun (rw (length-append p p') at g.fit) w (below-front p p' g.below) (below-behind p p' g.below)

joins : (k : Call) (c : Scheme) (st p p' : List ℕ) → named st ≡ Some c → Below (wrap * wrap) st → taken st % (fixed_of c).n + length (p ++ p') ≤ (fixed_of c).n
    → Accepts k st p → Accepts k (next k st p) p' → part_result k (next k st p) p' ≡ part_result k st (p ++ p')
unfolding stepped
joins k c st p p' called w row t u =
    let g = good-part k c st p called t in
    let h = good-part k c (next k st p) p' (ap named g.is ∙ called) u in
    let at : taken (next k st p) ≡ taken st + length p = ap taken g.is in
    (join k c st p p' called g.has-begun (record { in_row = omega (arith, row, length-append p p'); in_all = omega (arith, h.fit.in_all) }) w g.below h.below).1

pub joining : Joining
joining = (splits, joins)

pub empty-part : Empty
unfolding state_shown
empty-part k st = go (part_tests k (named st) st []) refl
  where
    go : (v : Verdict) → part_tests k (named st) st [] ≡ v → next k st [] ≡ st
    go (Ok _) e =
        let t : Accepts k st [] = ap number_in e in
        let i = scheme-named k st [] t in
        let g = good-part k i.0 st [] i.1 t in
        g.is ∙ none k i.0 st g.has-begun
    go (Err r) e = ap (λ v. if_passed v (part_state k (named st) st []) st) e

-- ---- accepted parts, one after the other

pub took-parts : {k : Call} {st last : List ℕ} {ps : List (List ℕ)} → Took k st ps last → Parts k st (joined ps) last
unfolding joined
took-parts Took.none = Parts.none
took-parts (Took.more p t ts) = Parts.more p t (took-parts ts)

pub takes : (k : Call) (c : Scheme) (st : List ℕ) (ps : List (List ℕ)) → named st ≡ Some c → begun k (fixed_of c) st ≡ true → 0 < (fixed_of c).n
    → WithinRows (fixed_of c).n (taken st) ps → Below (fixed_of c).q (joined ps) → taken st + length (joined ps) ≤ (fixed_of c).n * (fixed_of c).n
    → (last : List ℕ) × Took k st ps last
unfolding joined stepped
takes k c st [] called b some w l m = (st, Took.none)
takes k c st (p ∷ ps) called b some w l m =
    let n = (fixed_of c).n in
    let e = length-append p (joined ps) in
    let f : Fits n (taken st) (length p) = record { in_row = w.0; in_all = omega arith } in
    let g = part-goes k st p (part-good k c st p called b f (below-front p (joined ps) l)) in
    let r = takes k c (stepped k n st p) ps called (step-begun k c st b some p f) some w.1 (below-behind p (joined ps) l) (omega arith) in
    (r.0, Took.more p g.0 (subst (λ (s : List ℕ). Took k s ps r.0) (sym g.1) r.1))

-- ---- refused parts and ends

pub without : (k : Call) (st xs last : List ℕ) → Parts k st xs last → Good k st xs last
unfolding joined
without k st xs last Parts.none = ([], (refl, Took.none))
without k st xs last (Parts.more {xs = ys} p t ps) =
    let g = without k (next k st p) ys last ps in
    (p ∷ g.0, (ap (λ (l : List ℕ). p ++ l) g.1.0, Took.more p t g.1.1))
without k st xs last (Parts.again {st' = same} r ps) = subst (λ (s : List ℕ). Good k s xs last) (unchanged r) (without k same xs last ps)

pub again : Again
again = (λ st st' r. unchanged r, without)

-- ---- what any parts leave

pub record Cut (k : Call) (c : Scheme) (st : List ℕ) (ps : List (List ℕ)) (last : List ℕ) : Type 0 where
  pub is : last ≡ steps k (fixed_of c).n st ps
  pub rows : WithinRows (fixed_of c).n (taken st) ps
  pub below : Below (fixed_of c).q (joined ps)
  pub few : taken st + length (joined ps) ≤ (fixed_of c).n * (fixed_of c).n

pub took-cut : (k : Call) (c : Scheme) {st last : List ℕ} {ps : List (List ℕ)} → named st ≡ Some c → taken st ≤ (fixed_of c).n * (fixed_of c).n
    → Took k st ps last → Cut k c st ps last
unfolding joined steps stepped
took-cut k c called m Took.none =
    record { is = refl; rows = tt; below = record { below = λ i. omega (arith, (sound c).some) }; few = omega arith }
took-cut k c {st} called m (Took.more {ps = ps} p t ts) =
    let n = (fixed_of c).n in
    let g = good-part k c st p called t in
    let at : taken (next k st p) ≡ taken st + length p = ap taken g.is in
    let h = took-cut k c (ap named g.is ∙ called) (omega (arith, g.fit.in_all)) ts in
    record {
      is = h.is ∙ ap (λ (s : List ℕ). steps k n s ps) g.is;
      rows = (g.fit.in_row, subst (λ (i : ℕ). WithinRows n i ps) at h.rows);
      below = append-below p (joined ps) g.below h.below;
      few = omega (arith, length-append p (joined ps), h.few);
    }

pub cut-words : {k : Call} {c : Scheme} {st last : List ℕ} {ps : List (List ℕ)} → family_of c ≡ Family.Frodo → Cut k c st ps last → Below wrap (joined ps)
cut-words {c = c} e o = record { below = λ i. omega (arith, o.below.below i, (numbers-in c e).q_room) }

pub running : Running
running k c st xs last called b t w parts =
    let n = (fixed_of c).n in
    let s = started k (fixed_of c) st b in
    let l = s.is-long in
    let frodo = frodo-named (get_or st 1 0) c called in
    let g = without k st xs last parts in
    let ps = g.0 in
    let u = took-cut k c called s.at-most g.1.1 in
    let v =
    walked k n st (numbers-in c frodo).some l ps t (words-below _ (below-take (below-drop w (67 + 4 * n)) (4 * n))) (words-below _ (below-drop w (67 + 8 * n)))
    (subst (λ (i : ℕ). WithinRows n i ps) t u.rows) (cut-words frodo u)
    in
    let o : Walked k n st xs last =
    subst (λ (y : List ℕ). Walked k n st y last) g.1.0 (subst (λ (y : List ℕ). Walked k n st (joined ps) y) (sym u.is) v)
    in (
      ap taken o.is,
      ap (sums_of n) o.is ∙ after-sums k n st l xs o.held,
      ap (λ (y : List ℕ). take (length xs % (16 * n)) (held_of n y)) o.is
          ∙ ap (take (length xs % (16 * n))) (after-held k n st l xs o.held (held-words n o.held o.behind.is-long o.behind.below))
          ∙ o.behind.is,
    )
