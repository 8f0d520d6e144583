-- Reading into a lent label of n bytes, which held zeros (old) when the text was read.
--   label-fits   the label that was read, or none, stands in the bytes in which the answer holds it
--   read-failed  what is seen where no settings were read
--   read_short   where the room is shorter than that label
--   read-laid    and where it was laid at the front of the zeros
--   read-seen-all, read-told-all   `read_seen` and `read_told` forget nothing
use Rattle.std.proofs.Common.{Ok, Err, ◌≡◌, ◌++◌, ◌≤◌, ◌<◌}
use Rattle.lists.proofs.Kit.{refl, ◌∙◌, sym, ap, List, ℕ, arith, length, take, drop, replicate, length-append, take-append_seam, lt-leb}
use Rattle.lists.proofs.Same.{zeros-long}
use Rattle.refusals.specs.declared.Refusal.TheVariants.{Short, Misfit, NewerFormat}
use Rattle.refusals.specs.Refusals.{number_of, pass}
use Rattle.refusals.specs.{Refusals.room_for_lem, Seen.written, Seen.Told, Seen.done, Seen.refused, declared.Refusal.Refusal}
use Rattle.refusals.proofs.{Laws.room-passes, Laws.failed, Laws.went_on, Seen.written-passed, Seen.same-counts, Seen.never_both}
use Rattle.settings.specs.Calls.{stored, answer_of, Read, reading_of, read_tests, format_told, ReadSeen, ReadCounts, read_shown, read_result, refusal_of, newer_in, read_told, read_seen}
use Rattle.settings.specs.Calls.{ReadSeenAll, ReadToldAll, Settings, LentAnswer, Unread}
use Rattle.settings.specs.Settings.{Setup, format_of, Reading, setup, newer, misfit, reads}
use Rattle.settings.specs.declared.Misfit as why
use Rattle.settings.specs.declared.Misfit.TheVariants as misfits
use Rattle.settings.specs.declared.Unread.TheVariants as unread

stored_of : (q : Reading) {s : Settings} → Ok s ≡ answer_of q → (y : Setup) × (q ≡ setup y) × (s ≡ stored y)
stored_of (setup y) e = (y, refl, cc)
stored_of (newer n) e = cc
stored_of misfit e = cc

pub label-fits : (reader : ℕ) (xs : List ℕ) {s : Settings} → Ok s ≡ answer_of (reads reader xs) → s.count ≤ length s.label
label-fits reader xs e = let y = stored_of _ e in rw y.2 (rw length-append (omega arith))

-- ---- the promise

abbrev Promised : Read → ℕ → List ℕ → LentAnswer → Type 0
Promised x n label r = read_seen (read_told r) label ≡ read_result x n

short-fails : {n m : ℕ} → n < m → room_for_lem n m ≡ Err Short
unfolding room_for_lem
short-fails {n} {m} h = rw (lt-leb m n h)

module _ (x : Read) (n : ℕ) {q : Reading} (f : reading_of x ≡ q) where
  -- whichever test failed
  stopped : {r : Refusal} {label : List ℕ} → read_tests q n ≡ Err r → label ≡ replicate n 0
      → read_seen (refused r (record { label = 0; format = format_told q (Err r); scheme = 0; rule = 0 })) label ≡ read_result x n
  unfolding read_seen read_shown written
  stopped t o = rw (f, t, o)

module _ (x : Read) (n : ℕ) {y : Setup} (f : reading_of x ≡ setup y) where
  read-on : {old label : List ℕ} → read_tests (setup y) n ≡ pass → old ≡ replicate n 0 → label ≡ y.label ++ drop (length y.label) old
      → read_seen (done (record { label = length y.label; format = format_of (length y.label); scheme = y.scheme; rule = y.rule })) label
      ≡ read_result x n
  unfolding read_seen read_shown
  read-on {old} t o w = rw (f, t, ← written-passed y.label 0 n refl old refl o w)

newer-fails : (m n : ℕ) → read_tests (newer m) n ≡ Err NewerFormat
unfolding read_tests
newer-fails m n = failed _ refl refl

misfit-fails : (n : ℕ) → read_tests misfit n ≡ Err Misfit
unfolding read_tests
misfit-fails n = failed _ refl refl

setup-tests : (y : Setup) (n : ℕ) → read_tests (setup y) n ≡ room_for_lem n (length y.label)
unfolding read_tests
setup-tests y n = went_on _ refl refl

module _ (x : Read) (n : ℕ) {old : List ℕ} (o : old ≡ replicate n 0) where
  pub read-failed : {e : why.Misfit} → Err e ≡ answer_of (reading_of x) → Promised x n old (Err (unread.Misfit e))
  read-failed {e} h = go (reading_of x) refl h
    where
      go : (q : Reading) → reading_of x ≡ q → Err e ≡ answer_of q → Promised x n old (Err (unread.Misfit e))
      go (setup y) f h = cc
      go (newer m) f h = let z : e ≡ misfits.Newer m = cc in rw z (stopped x n f (newer-fails m n) o)
      go misfit f h = let z : e ≡ misfits.Other = cc in rw z (stopped x n f (misfit-fails n) o)

  module _ {s : Settings} (e : Ok s ≡ answer_of (reading_of x)) where
    pub read_short : length old < s.count → Promised x n old (Err unread.Short)
    read_short h =
        let y = stored_of _ e in
        let l : length old < length y.0.label = rw y.2 at h in
        stopped x n y.1 (setup-tests y.0 n ∙ short-fails (omega (arith, l, zeros-long n 0 o))) o

    pub read-laid : {part : List ℕ} {f : ℕ} → s.count ≤ length old → part ≡ take s.count s.label → f ≡ format_of s.count
        → Promised x n (part ++ drop s.count old) (Ok (record { label = s.count; format = f; scheme = s.scheme; rule = s.rule }))
    read-laid h p f =
        let y = stored_of _ e in
        let l : length y.0.label ≤ length old = rw y.2 at h in
        rw (p, f, y.2)
        (read-on x n y.1 (setup-tests y.0 n ∙ room-passes (omega (arith, l, zeros-long n 0 o))) o
        (ap (λ (t : List ℕ). t ++ drop (length y.0.label) old) (take-append_seam y.0.label _)))

-- ---- what follows

pub read-seen-all : ReadSeenAll
unfolding read_seen
read-seen-all t t' label label' e = (
  ap (λ (s : ReadSeen). s.number) e,
  ap (λ (s : ReadSeen). s.place) e,
  ap (λ (s : ReadSeen). s.label.count) e,
  ap (λ (s : ReadSeen). s.format) e,
  ap (λ (s : ReadSeen). s.scheme) e,
  ap (λ (s : ReadSeen). s.rule) e,
  ap (λ (s : ReadSeen). s.label.holds) e,
)

same-unread : (r s : Unread) → number_of (refusal_of r) ≡ number_of (refusal_of s) → newer_in r ≡ newer_in s → r ≡ s
same-unread (unread.Misfit (misfits.Newer m)) (unread.Misfit (misfits.Newer n)) p q = ap (λ (k : ℕ). unread.Misfit (misfits.Newer k)) q
same-unread (unread.Misfit (misfits.Newer m)) (unread.Misfit misfits.Other) p q = absurd (omega arith)
same-unread (unread.Misfit (misfits.Newer m)) unread.Short p q = absurd (omega arith)
same-unread (unread.Misfit misfits.Other) (unread.Misfit (misfits.Newer n)) p q = absurd (omega arith)
same-unread (unread.Misfit misfits.Other) (unread.Misfit misfits.Other) p q = refl
same-unread (unread.Misfit misfits.Other) unread.Short p q = absurd (omega arith)
same-unread unread.Short (unread.Misfit (misfits.Newer n)) p q = absurd (omega arith)
same-unread unread.Short (unread.Misfit misfits.Other) p q = absurd (omega arith)
same-unread unread.Short unread.Short p q = refl

pub read-told-all : ReadToldAll
read-told-all (Ok m) (Ok n) e = ap Ok (same-counts e)
read-told-all (Ok m) (Err s) e = never_both (refusal_of s) e
read-told-all (Err r) (Ok n) e = never_both (refusal_of r) (sym e)
read-told-all (Err r) (Err s) e =
    ap Err (same-unread r s (ap (λ (t : Told ReadCounts). t.number) e) (ap (λ (t : Told ReadCounts). t.counts.format) e))
