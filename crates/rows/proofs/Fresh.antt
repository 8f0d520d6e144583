-- A state as begin lays it, and what any parts leave of it.
--   secret-small        the secret as a state keeps it: words
--   once                what is shown once over n and q
--   Starts              a state of a scheme of Frodo's as begin leaves it
--   Left, left          such a state after any parts: what it names, counts and keeps, that its call has begun, and what its sums are
--   fill                parts that join into A are accepted
--   in-turn, too-early, has_all   whether all of A has come
use Rattle.std.proofs.Common.{Err, Some, ◌≡◌, ◌≢◌, ◌*◌, ◌%◌, ◌<◌}
use Rattle.lists.proofs.Kit.{refl, ◌∙◌, sym, ap, ap₂, subst, Bool, true, false, List, [], ℕ, arith, ℤ, length, get_or, replicate, length-replicate}
use Rattle.schemes.specs.Schemes.{family_of, fixed_of, scheme_number}
use Rattle.schemes.specs.{declared.Family.Family, declared.Scheme.Scheme}
use Rattle.lists.specs.Ranges.{Below}
use Rattle.matrix.specs.Words.{words_of, gained, reduced}
use Rattle.matrix.proofs.Steps.{words-length}
use Rattle.parts.specs.Parts.{wrap}
use Rattle.parts.proofs.{Joining.whole-right, Joining.whole-left, Words.words-pairs}
use Rattle.refusals.specs.{Refusals.in_turn, declared.Refusal.TheVariants.OutOfTurn, Refusals.pass}
use Rattle.refusals.proofs.Laws.{turn-passes}
use Rattle.values.proofs.Numbers.{numbers-in}
use Rattle.rows_state.specs.State.{tag_of, frodo_of_lem, long, named, taken, saved_of, secret_of, sums_of, held_of, Layout, laid, secret_words_lem, fresh, saved_in, begun}
use Rattle.rows_state.specs.State.{complete, terms}
use Rattle.rows_state.specs.declared.Call.{Call}
use Rattle.rows_state.proofs.Laying.{secret-words-long, held-words, laid-long, laid_kept, laid-secret, laid-sums, laid-held}
use Rattle.rows_state.proofs.Tests.{starts, completes, complete-so, frodos}
use Rattle.rows.specs.{Runs.Parts, Runs.joined, Runs.Took, Runs.steps, Runs.WithinRows, Shown.mixed, Shown.Once}
use Rattle.rows.proofs.Running.{whole-front, after_kept, after-sums, after-long, Walked, walked}
use Rattle.rows.proofs.Ends.{number-names, words-below, columns-below, zeros-below}
use Rattle.rows.proofs.Shown.{without, takes, Cut, took-cut, cut-words}

-- ---- over any n

secret-small : (k : Call) (n : ℕ) (s : List ℤ) → Below wrap (secret_words_lem k n s)
secret-small Call.Offer n s = columns-below n s
secret-small Call.Reply n s = words-below s

-- what the numbers xs leave as it was, and their count
record Gone (n call scheme : ℕ) (kept xs last : List ℕ) : Type 0 where
  is_call : get_or last 0 0 ≡ call
  is-scheme : get_or last 1 0 ≡ scheme
  counted : taken last ≡ length xs
  is-long : length last ≡ long n
  kept-is : saved_of last ≡ kept

module _ (k : Call) (n call scheme : ℕ) (kept held : List ℕ) (s e : List ℤ) (kl : length kept ≡ 64) (hl : length held ≡ 16 * n) (hb : Below wrap held)
    (sl : length s ≡ 8 * n) (el : length e ≡ 8 * n) where
  abbrev parts : Layout
  parts = record { call = call; scheme = scheme; taken = 0; kept = kept; secret = secret_words_lem k n s; sums = words_of wrap e; held = held }

  abbrev first : List ℕ
  first = laid parts

  secret-is : length (secret_words_lem k n s) ≡ 8 * n
  secret-is = secret-words-long k n s sl

  sums-is : length (words_of wrap e) ≡ 8 * n
  sums-is = words-length wrap e ∙ el

  first-long : length first ≡ long n
  first-long = laid-long n parts kl secret-is sums-is hl

  first-kept : saved_of first ≡ kept
  first-kept = laid_kept n parts kl secret-is sums-is

  first-secret : secret_of n first ≡ secret_words_lem k n s
  first-secret =
      laid-secret n parts kl secret-is sums-is
      (words-pairs (secret_words_lem k n s) (4 * n) (secret-is ∙ omega arith) (secret-small k n s))

  first-sums : sums_of n first ≡ words_of wrap e
  first-sums =
      laid-sums n parts kl secret-is sums-is
      (words-pairs (words_of wrap e) (4 * n) (sums-is ∙ omega arith) (words-below e))

  first-held : held_of n first ≡ held
  first-held = laid-held n parts kl secret-is sums-is (held-words n held hl hb)

  module _ (some : 0 < n) (ps : List (List ℕ)) (r : WithinRows n 0 ps) (b : Below wrap (joined ps)) where
    abbrev last : List ℕ
    last = steps k n first ps

    walk : Walked k n first (joined ps) last
    walk =
        walked k n first some first-long ps refl (subst (λ (l : List ℕ). Below wrap l) (sym first-sums) (words-below e))
        (subst (λ (l : List ℕ). Below wrap l) (sym first-held) hb) r b

    gone : Gone n call scheme kept (joined ps) last
    gone =
        record {
          is_call = ap (λ (l : List ℕ). get_or l 0 0) walk.is;
          is-scheme = ap (λ (l : List ℕ). get_or l 1 0) walk.is;
          counted = ap taken walk.is;
          is-long = ap length walk.is ∙ after-long k n first first-long (joined ps) walk.held walk.behind.is-long;
          kept-is = ap saved_of walk.is ∙ after_kept k n first first-long (joined ps) walk.held ∙ first-kept;
        }

    -- all of A has come in whole blocks
    last-sums : n % 16 ≡ 0 → length (joined ps) ≡ n * n → sums_of n last ≡ gained wrap n (terms k n (secret_words_lem k n s) (joined ps)) (words_of wrap e)
    last-sums sixteens all =
        ap (sums_of n) walk.is
        ∙ after-sums k n first first-long (joined ps) walk.held
        ∙ ap (λ (l : List ℕ). gained wrap n (terms k n (secret_of n first) l) (sums_of n first)) (whole-front n (joined ps) some sixteens all)
        ∙ ap₂ (λ (u v : List ℕ). gained wrap n (terms k n u (joined ps)) v) first-secret first-sums

whole : (k : Call) (n q : ℕ) (a : List ℕ) (s e : List ℤ) → 0 < n → 0 < q → wrap % q ≡ 0 → length s ≡ 8 * n → length e ≡ 8 * n
    → reduced q (gained wrap n (terms k n (secret_words_lem k n s) a) (words_of wrap e)) ≡ mixed k q n a s e
whole Call.Offer n q a s e some-n some w sl h = whole-right wrap q n a s e (omega arith) w some h
whole Call.Reply n q a s e some-n some w sl h = whole-left wrap q n a s e (omega arith) w some some-n sl h

pub once : Once
once k n q call scheme kept held s e ps some-n sixteens some w all b sl el kl hl hb r =
    ap (reduced q) (last-sums k n call scheme kept held s e kl hl hb sl el some-n ps r b sixteens all)
    ∙ whole k n q (joined ps) s e some-n some w sl el

-- ---- of Frodo's schemes

pub record Left (k : Call) (c : Scheme) (kept : List ℕ) (s e : List ℤ) (xs last : List ℕ) : Type 0 where
  pub is-named : named last ≡ Some c
  pub counted : taken last ≡ length xs
  pub kept-is : saved_of last ≡ kept
  pub has-begun : begun k (fixed_of c) last ≡ true
  pub below : Below (fixed_of c).q xs
  pub sums : length xs ≡ (fixed_of c).public → reduced (fixed_of c).q (sums_of (fixed_of c).n last) ≡ mixed k (fixed_of c).q (fixed_of c).n xs s e

-- the state `first` is one that begin leaves
pub record Starts (k : Call) (c : Scheme) (kept : List ℕ) (s e : List ℤ) (first : List ℕ) : Type 0 where
  pub frodo : family_of c ≡ Family.Frodo
  pub kept-long : length kept ≡ 64
  pub kept_in : saved_in k (fixed_of c).q kept ≡ true
  pub secret-long : length s ≡ (fixed_of c).secret
  pub noise-long : length e ≡ (fixed_of c).noise
  pub is : first ≡ laid (fresh k c kept s e)

module _ {k : Call} {c : Scheme} {kept : List ℕ} {s e : List ℤ} {first : List ℕ} (b : Starts k c kept s e first) where
  abbrev n : ℕ
  n = (fixed_of c).n

  abbrev begins : List ℕ
  begins = laid (fresh k c kept s e)

  of_cut : (ps : List (List ℕ)) {last : List ℕ} → Cut k c begins ps last → Left k c kept s e (joined ps) last
  of_cut ps cut =
      let f = numbers-in c b.frodo in
      let sl = b.secret-long ∙ f.secret in
      let el = b.noise-long ∙ f.noise in
      let z = length-replicate {A = ℕ} (16 * n) 0 in
      let w = zeros-below (16 * n) in
      let small = cut-words b.frodo cut in
      let g = gone k n (tag_of k) (scheme_number c) kept (replicate (16 * n) 0) s e b.kept-long z w sl el f.some ps cut.rows small in
      subst (λ (l : List ℕ). Left k c kept s e (joined ps) l) (sym cut.is)
      (record {
        is-named = ap frodo_of_lem g.is-scheme ∙ number-names c b.frodo;
        counted = g.counted;
        kept-is = g.kept-is;
        has-begun =
            starts k (fixed_of c) (steps k n begins ps)
            (record {
              is-long = g.is-long;
              is_call = g.is_call;
              at-most = omega (arith, g.counted, cut.few);
              kept_in = ap (saved_in k (fixed_of c).q) g.kept-is ∙ b.kept_in;
            });
        below = cut.below;
        sums =
            λ all. once k n (fixed_of c).q (tag_of k) (scheme_number c) kept (replicate (16 * n) 0) s e ps f.some (frodos c b.frodo).sixteens f.q-some f.words
            (all ∙ f.public) small sl el b.kept-long z w cut.rows;
      })

  pub left : {xs last : List ℕ} → Parts k first xs last → Left k c kept s e xs last
  left {xs} {last} parts =
      let g = without k begins xs last (subst (λ (l : List ℕ). Parts k l xs last) b.is parts) in
      subst (λ (l : List ℕ). Left k c kept s e l last) g.1.0 (of_cut g.0 (took-cut k c (number-names c b.frodo) (omega arith) g.1.1))

  -- parts that do not run past the end of their row and join into A
  pub fill : (ps : List (List ℕ)) → WithinRows n 0 ps → Below (fixed_of c).q (joined ps) → length (joined ps) ≡ (fixed_of c).public
      → (last : List ℕ) × Took k first ps last
  fill ps w small all =
      let f = numbers-in c b.frodo in
      let l = left {xs = []} {last = first} Parts.none in
      let at : WithinRows n (taken first) ps = subst (λ (i : ℕ). WithinRows n i ps) (sym l.counted) w in
      takes k c first ps l.is-named l.has-begun f.some at small (omega (arith, all, f.public, l.counted))

module _ {k : Call} {c : Scheme} {kept : List ℕ} {s e : List ℤ} {xs last : List ℕ} (frodo : family_of c ≡ Family.Frodo) (l : Left k c kept s e xs last) where
  pub in-turn : length xs ≡ (fixed_of c).public → in_turn (complete k (fixed_of c) last) ≡ pass
  in-turn all = turn-passes (complete-so k (fixed_of c) last l.has-begun (l.counted ∙ all ∙ (numbers-in c frodo).public))

  pub has_all : complete k (fixed_of c) last ≡ true → length xs ≡ (fixed_of c).public
  has_all e = sym l.counted ∙ (completes k (fixed_of c) last e).1 ∙ sym (numbers-in c frodo).public

  pub too-early : length xs ≢ (fixed_of c).public → in_turn (complete k (fixed_of c) last) ≡ Err OutOfTurn
  unfolding in_turn
  too-early h = ap (λ (b : Bool). in_turn b) (go (complete k (fixed_of c) last) refl)
    where
      go : (b : Bool) → complete k (fixed_of c) last ≡ b → complete k (fixed_of c) last ≡ false
      go true e = absurd (h (has_all e))
      go false e = e
