-- A trace is exactly its lines (`specs/Exactly.antt`).
--   no_other, exactly   a trace is read as its exchanges, and no other text is
--   empty               an empty trace prints nothing
use Rattle.lists.proofs.Kit.{refl, ◌∙◌, ap, subst, List, [], ℕ, zero, suc, arith, length, length-append}
use Rattle.std.proofs.Common.{◌≡◌, ◌∷◌, ◌++◌, ◌≤◌, ◌<◌}
use Rattle.text.specs.Text.{scheme_name, line}
use Rattle.text.proofs.Writing.{line-length}
use Rattle.trace.specs.Trace.{slack_name, Exchange, traced, Two, two, neither, two_in, Trace, recorded, unread, more, behind, recorded_in, slacks_of, block}
use Rattle.trace.specs.Trace.{block_of, summary, answer_to, answered}
use Rattle.trace.specs.Exactly.{Valid, none, some, Is, Exactly, Empty}
use Rattle.trace.proofs.Reading.{two-forth, two_back}

rec-end : (k : ℕ) → recorded_in k [] ≡ recorded []
unfolding recorded_in
rec-end zero = refl
rec-end (suc k) = refl

rec-more : (k : ℕ) (xs : List ℕ) → 0 < length xs → recorded_in (suc k) xs ≡ behind (λ ys. recorded_in k ys) (two_in xs)
unfolding recorded_in
rec-more k [] h = absurd (omega arith)
rec-more k (c ∷ cs) h = refl

trace-long : (a : ℕ) (zs : List ℕ) → 0 < length (line scheme_name a ++ zs)
trace-long a zs = rw (length-append, line-length) (omega arith)

valid-read : (k : ℕ) {ys : List Exchange} → Valid ys → length ys ≤ k → recorded_in k (traced ys) ≡ recorded ys
unfolding traced
valid-read k none l = rec-end k
valid-read zero (some a b v) l = absurd (omega arith)
valid-read (suc k) (some {y} {ys} a b v) l =
    rec-more k (line scheme_name y.scheme ++ (line slack_name y.slack ++ traced ys)) (trace-long y.scheme (line slack_name y.slack ++ traced ys))
    ∙ rw (two-forth y.scheme y.slack (traced ys) a b)
    (ap (more y.scheme y.slack) (valid-read k v (omega arith)))

trace-read : (k : ℕ) (xs : List ℕ) (ys : List Exchange) → Is k xs ys → recorded_in k xs ≡ recorded ys
trace-read k xs ys h = rw h.text (valid-read k h.valid h.few)

nothing-more : (k : ℕ) (ys : List Exchange) → recorded [] ≡ recorded ys → Is k [] ys
unfolding traced
nothing-more k ys e =
    let q : [] ≡ ys = cc in
    subst (λ (s : List Exchange). Is k [] s) q (record { text = refl; valid = none; few = omega arith })

pub no_other : (k : ℕ) (xs : List ℕ) (ys : List Exchange) → recorded_in k xs ≡ recorded ys → Is k xs ys
unfolding recorded_in traced
no_other zero [] ys e = nothing-more zero ys e
no_other zero (c ∷ cs) ys e = let z : ◌≡◌ {A = ℕ} 0 1 = cc in absurd (omega arith)
no_other (suc k) [] ys e = nothing-more (suc k) ys e
no_other (suc k) (c ∷ cs) ys e = go (two_in (c ∷ cs)) refl e (no_other k)
  where
    go : (t : Two) → two_in (c ∷ cs) ≡ t → behind (λ zs. recorded_in k zs) t ≡ recorded ys
        → ((zs : List ℕ) (ws : List Exchange) → recorded_in k zs ≡ recorded ws → Is k zs ws) → Is (suc k) (c ∷ cs) ys
    go neither p e h = let z : ◌≡◌ {A = ℕ} 0 1 = cc in absurd (omega arith)
    go (two a b zs) p e h = pick (recorded_in k zs) refl e
      where
        pick : (r : Trace) → recorded_in k zs ≡ r → more a b r ≡ recorded ys → Is (suc k) (c ∷ cs) ys
        pick unread q e = let z : ◌≡◌ {A = ℕ} 0 1 = cc in absurd (omega arith)
        pick (recorded ws) q e =
            let i = h zs ws q in
            let t = two_back (c ∷ cs) p in
            let x : Exchange = record { scheme = a; slack = b } in
            let w : x ∷ ws ≡ ys = cc in
            subst (λ (s : List Exchange). Is (suc k) (c ∷ cs) s) w
            (record {
              text = t.text ∙ ap (λ (s : List ℕ). line scheme_name a ++ (line slack_name b ++ s)) i.text;
              valid = some {y = x} t.scheme t.slack i.valid;
              few = omega (arith, i.few);
            })

pub exactly : Exactly
exactly = record { trace-read = trace-read; no_other = no_other }

pub empty : Empty
unfolding answered answer_to recorded_in summary block_of block slacks_of
empty = refl
