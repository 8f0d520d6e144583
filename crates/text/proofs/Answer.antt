-- An answer in the room that it is lent (`specs/Answer.antt`).
--   answers      what was written over zeros is one
--   within       it lies in that room
--   one_answer   a promise has one result
use Rattle.lists.proofs.Kit.{◌∙◌, sym, ap, List, ℕ, zero-add, arith, length, replicate, length-append}
use Rattle.std.proofs.Common.{◌≡◌, ◌++◌, ◌-◌, ◌≤◌}
use Rattle.lists.proofs.Parts.{drop-same}
use Rattle.text.specs.{Steps.Written, Answer.Answers, Answer.OneAnswer}

pub answers : {xs ys e : List ℕ} {r : ℕ} (room : ℕ) → xs ≡ ys → Written 0 xs (replicate room 0) e r → Answers room ys r e
answers {xs} {ys} {e} {r} room q w =
    let h : e ≡ xs ++ replicate (room - r) 0 = rw (w.text, drop-same, w.count) in
    rw (← q) (record { count = w.count ∙ zero-add (length xs); holds = h })

pub within : {room r : ℕ} {xs out : List ℕ} → Answers room xs r out → r ≤ length out
within a = rw a.holds (simp length-append (omega (arith, a.count)))

pub one_answer : OneAnswer
one_answer room xs r s out other p q =
    let e : r ≡ s = p.count ∙ sym q.count in
    (e, p.holds ∙ ap (λ (k : ℕ). xs ++ replicate (room - k) 0) e ∙ sym q.holds)
