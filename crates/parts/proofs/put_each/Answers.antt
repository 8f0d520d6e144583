-- `parts::put_each` meets its contract: after k turns k words are laid.
use Rattle.lists.proofs.Kit.{◌≡◌, ◌∙◌, sym, ap, List, ◌++◌, append_assoc, ℕ, ◌+◌, ◌<◌, ◌≤◌, add-one, arith, length, get_or, set, take, drop}
use Rattle.lists.proofs.Kit.{take_all}
use lib.Seq.{paste, paste-suc, length-paste}
use Rattle.parts.specs.Parts.{words, pairs}
use Rattle.parts.proofs.{Words.words_long, Words.pairs-words}
use Rattle.parts.proofs.put_each.Goals as goal

-- one word more
put_next :
    (old : List ℕ) (at : ℕ) (ws : List ℕ) (k : ℕ) {now next : List ℕ} → now ≡ paste old at ws k → at + length ws ≤ length old → k < length ws →
    next ≡ set now (at + k) (get_or ws k 0) → next ≡ paste old at ws (k + 1)
put_next old at ws k e h l d =
    d
    ∙ ap (λ (y : List ℕ). set y (at + k) (get_or ws k 0)) e
    ∙ paste-suc old at ws k 0 (omega arith) l
    ∙ ap (paste old at ws) (sym (add-one k))

-- as many numbers as ever
lasting :
    (at : ℕ) (ws : List ℕ) (k : ℕ) (xs ys : List ℕ) → words ys ≡ paste (words xs) at ws k → k ≤ length ws → at + k ≤ length (words xs) →
    length ys ≡ length xs
lasting at ws k xs ys e h l =
    omega (arith, words_long ys, words_long xs, ap length e ∙ length-paste (words xs) at ws k l h)

put_all : (old : List ℕ) (at : ℕ) (ws : List ℕ) {xs : List ℕ} → words xs ≡ paste old at ws (length ws)
    → xs ≡ pairs (take at old ++ (ws ++ drop (at + length ws) old))
put_all old at ws {xs} e =
    sym (pairs-words xs)
    ∙ ap pairs
    (e
    ∙ ap (λ (y : List ℕ). take at old ++ y ++ drop (at + length ws) old) (take_all (length ws) ws (omega arith))
    ∙ append_assoc (take at old) ws (drop (at + length ws) old))

pub loop-k-preserved : goal.loop-k-preserved
loop-k-preserved c =
    let g = c.args in
    let b = c.loop-k in
    let e = put_next (words g.out.now) g.at g.ws.now b.k b.invariant.1 (omega (arith, words_long g.out.now)) c.loop-k-test.true c.put_word.ensures in
    (lasting g.at g.ws.now (b.k + 1) _ _ e (omega arith) (omega (arith, words_long g.out.now)), e)

pub returns : goal.returns
returns c =
    let g = c.args in
    let l = c.loop-k in
    let e : l.k ≡ length g.ws.now = omega arith in
    put_all (words g.out.now) g.at g.ws.now (l.invariant.1 ∙ ap (paste (words g.out.now) g.at g.ws.now) e)
