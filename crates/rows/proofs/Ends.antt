-- What the ends of Offer and Reply by rows have in common with the whole calls.
--   last-length              where tests of which the last is of a length pass, so do those before it, and the length is as it should be
--   none_named               what `ok_or` says where a number names nothing
--   frodo-known              a number that names a known scheme of Frodo's names one of Frodo's
--   not-refused              what is not refused has passed its tests, and left the state
--   end_by                   what is seen of an end, by its verdict
--   by-frodo                 what is meant in Frodo
--   number-names             the number of a scheme of Frodo's names it
--   words-below, columns-below, zeros-below   secrets, noise and zeros are words
use Rattle.std.proofs.Common.{Err, Some, None, Option, ◌≡◌, ◌*◌, ◌<◌}
use Rattle.std.specs.Option.{ok_or}
use Rattle.lists.proofs.Kit.{refl, sym, ◌∙◌, ap, List, ℕ, arith, ℤ, length, replicate}
use Rattle.numbers.proofs.Congruence.{residue-lt}
use Rattle.schemes.specs.Schemes.{by_family, family_of, scheme_number}
use Rattle.schemes.specs.{declared.Family.Family, declared.Scheme.Scheme}
use Rattle.schemes.proofs.Laws.{by_number}
use Rattle.lists.specs.Ranges.{Below}
use Rattle.lists.proofs.{Entries.below-tab, Same.equal-all}
use Rattle.matrix.specs.Words.{words_of, columns_of}
use Rattle.parts.specs.Parts.{wrap}
use Rattle.refusals.specs.{Seen.if_passed, Refusals.Verdict, Refusals.pass, Refusals.◌then◌, Refusals.length_is_lem, declared.Refusal.Refusal}
use Rattle.refusals.proofs.Laws.{number-zero, both, length-passed}
use Rattle.rows_state.specs.{State.frodo_in_lem, State.frodo_of_lem, Part.state_shown}
use Rattle.rows_state.proofs.Tests.{frodo-named}
use Rattle.rows.specs.Offer.{EndSeen}

pub last-length : (v : Verdict) (m n : ℕ) → v then length_is_lem m n ≡ pass → (v ≡ pass) × (m ≡ n)
last-length v m n t = let a = both v _ t in (a.0, length-passed m n a.1)

pub none_named : {A : Type 0} (l : Option A) {r s : Refusal} → Err r ≡ ok_or l s → (l ≡ None) × (r ≡ s)
none_named None e = (refl, cc)
none_named (Some a) e = cc

pub frodo-known : (k : ℕ) {r : Option Scheme} {c : Scheme} → r ≡ frodo_of_lem k → r ≡ Some c → family_of c ≡ Family.Frodo
frodo-known k e u = frodo-named k _ (sym e ∙ u)

-- a begin or a part that is not refused
pub not-refused : {v : Verdict} (xs old : List ℕ) → (state_shown v xs old).number ≡ 0 → (v ≡ pass) × ((state_shown v xs old).state ≡ xs)
unfolding state_shown
not-refused {v} xs old t = let e = number-zero v (sym t) in (e, rw e)

-- a verdict, the answer and the state by it
pub end_by : {A : Type 0} {v r : Verdict} {a b : A} (st : List ℕ) {after : List ℕ} → v ≡ r → a ≡ b → after ≡ if_passed r (replicate (length st) 0) st
    → ◌≡◌ {A = EndSeen A} (record { answer = a; state = after }) (record { answer = b; state = if_passed v (replicate (length st) 0) st })
end_by st e d o = rw (d, o, e)

pub by-frodo : {A : Type 0} {F : Family} (x y z : A) → F ≡ Family.Frodo → by_family F x y z ≡ z
by-frodo x y z e = rw e

pub number-names : (c : Scheme) → family_of c ≡ Family.Frodo → frodo_of_lem (scheme_number c) ≡ Some c
number-names c e = ap frodo_in_lem (by_number c) ∙ by-frodo _ _ (Some c) e

pub words-below : (zs : List ℤ) → Below wrap (words_of wrap zs)
unfolding words_of
words-below zs = below-tab wrap (length zs) _ (omega arith) (λ k p. residue-lt wrap _ (omega arith))

pub columns-below : (n : ℕ) (s : List ℤ) → Below wrap (columns_of wrap n s)
unfolding columns_of
columns-below n s = below-tab wrap (8 * n) _ (omega arith) (λ k p. residue-lt wrap _ (omega arith))

pub zeros-below : (k : ℕ) → Below wrap (replicate k 0)
zeros-below k = record { below = equal-all (λ (x : ℕ). x < wrap) 0 k (omega arith) }
