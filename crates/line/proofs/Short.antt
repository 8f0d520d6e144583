-- An answer has at most 22 bytes (`specs/Exactly.antt`).
use Rattle.lists.proofs.Kit.{ap, Bool, cond, List, [], ℕ, arith, ltb, length, length-append}
use Rattle.std.proofs.Common.{Option, Some, None, ◌∷◌, ◌≤◌, ◌<◌}
use Rattle.schemes.specs.Schemes.{by_family, family_of, fixed_of, scheme_of_lem}
use Rattle.schemes.specs.{declared.Family.Family, declared.Fixed.Fixed, declared.Scheme.Scheme}
use Rattle.schemes.proofs.Sound.{sound}
use Rattle.lists.specs.First.{both}
use Rattle.lists.proofs.Table.{cond-all}
use Rattle.text.proofs.{Numeral.decimal-length, Writing.one-digit, Writing.line-length}
use Rattle.bcns.proofs.{Regions.hint-below, Regions.key_below, Formula.peer-below}
use Rattle.line.specs.Line.{Asked, numbers, text, asked, refusal, shown, bcns_shown, frodo_shown, bcns_answer, frodo_answer, settled_in, settled, answer_to, answered}
use Rattle.line.specs.Exactly.{Short}
use Rattle.line.proofs.Deciding.{key-small, peer-small}
use Rattle.bcns.specs.Rounding as bcns
use Rattle.frodo.specs.Rounding as frodo
use Rattle.frodo.proofs.Rule as rule

record Fits (xs : List ℕ) : Type 0 where
  fits : length xs ≤ 22

shown-fits : {h k p : ℕ} → h < 2 → k < 16 → p < 16 → Fits (shown h k p)
unfolding shown
shown-fits {h} {k} {p} a b c =
    record {
      fits =
          simp (length-append, line-length)
          (omega
          (arith, ap length (one-digit h (omega arith)), decimal-length 1 k (omega arith) (omega arith), decimal-length 1 p (omega arith) (omega arith)));
    }

refusal-fits : {n : ℕ} → n < 10 → Fits (refusal n)
unfolding refusal
refusal-fits {n} h = record { fits = simp line-length (omega (arith, ap length (one-digit n h))) }

-- the two tests pick a refusal, or what is shown
picked : (r s : Bool) {xs : List ℕ} → Fits xs → Fits (cond r (refusal 9) (cond s xs (refusal 4)))
picked r s h = cond-all Fits r (refusal-fits (omega arith)) (cond-all Fits s h (refusal-fits (omega arith)))

bcns-fits : (coin v w : ℕ) → Fits (bcns_answer coin v w)
unfolding bcns_answer bcns_shown
bcns-fits coin v w =
    let z = bcns.doubled coin v in
    picked (ltb 3 coin) (both (ltb v bcns.q) (ltb w bcns.q))
    (shown-fits (hint-below z) (omega (arith, key_below z)) (omega (arith, peer-below (bcns.hint_of z) w)))

frodo-fits : (f : Fixed) (coin v w : ℕ) → f.keybits ≤ 4 → Fits (frodo_answer f coin v w)
unfolding frodo_answer frodo_shown
frodo-fits f coin v w b =
    let I = frodo.interval f in
    picked (ltb 0 coin) (both (ltb v f.q) (ltb w f.q))
    (shown-fits (rule.hint-below I v) (key-small I f.keybits b v) (peer-small I f.keybits b (frodo.hint_of I v) w))

family-fits : (F : Family) (f : Fixed) (coin v w : ℕ) → f.keybits ≤ 4 → Fits (by_family F (bcns_answer coin v w) (refusal 1) (frodo_answer f coin v w))
family-fits Family.Bcns f coin v w b = bcns-fits coin v w
family-fits Family.NewHope f coin v w b = refusal-fits (omega arith)
family-fits Family.Frodo f coin v w b = frodo-fits f coin v w b

settled-fits : (r : Option Scheme) (coin v w : ℕ) → Fits (settled_in r coin v w)
unfolding settled_in
settled-fits (Some s) coin v w = family-fits (family_of s) (fixed_of s) coin v w (sound s).key-room
settled-fits None coin v w = refusal-fits (omega arith)

answer-fits : (r : Asked) → Fits (answer_to r)
unfolding answer_to settled
answer-fits (numbers a b c d []) = settled-fits (scheme_of_lem a) b c d
answer-fits (numbers a b c d (x ∷ xs)) = refusal-fits (omega arith)
answer-fits text = refusal-fits (omega arith)

pub answered-short : Short
unfolding answered
answered-short xs = (answer-fits (asked xs)).fits
