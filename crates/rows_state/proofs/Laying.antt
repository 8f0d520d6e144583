-- A state of its parts.
--   three            a list of three numbers or more
--   apart            a state of the right length is laid of its own parts
--   kept-long, secret-long, sums-long, held-long   how long they are
--   laid-long, laid_kept, laid-secret, laid-sums, laid-behind, laid-held, laid-ext   the parts of a state that is laid; states of equal parts
--   again-words, made-words, held-words   words that come back from their numbers: those of a state; sums; rows held back
--   with-below       with a part, these are words
--   pairs-laid       words into zeros, two in each number
--   seed-kept-long, take_less   what is kept: its length; the front of a front
--   kept-zeros, keeping-long, keeping-kept, keeping-is   what is kept, written into zeros
--   headed, headed-long, behind-zeros, lay-is   two numbers ahead of it, and then all words behind it
--   secret-words-long, fresh-long   how many words a secret has; how long a state is as begin leaves it
use Rattle.lists.proofs.Kit.{refl, ◌∙◌, sym, ap, ap₂, List, [], append-nil, ℕ, zero, suc, arith, ℤ, take_at, drop_at}
use Rattle.std.proofs.Common.{◌≡◌, ◌∷◌, ◌++◌, ◌+◌, ◌*◌, ◌-◌, ◌%◌, ◌≤◌}
use Rattle.lists.proofs.Kit.{drop-drop, take-add, length, get_or, take, drop, set, replicate, length-append, length-take, length-drop, length-replicate}
use Rattle.lists.proofs.Kit.{length-set, take-append-drop, drop_of_length-le, suc-add, put_mid}
use Rattle.schemes.specs.{Schemes.fixed_of, declared.Scheme.Scheme}
use Rattle.lists.specs.Ranges.{Below}
use Rattle.lists.proofs.{Parts.drop-same, Parts.below-drop, Parts.below-take, Same.take_same, Entries.tab-length}
use Rattle.matrix.specs.Words.{columns_of, gained}
use Rattle.matrix.proofs.Steps.{gained-length, words-length}
use Rattle.parts.specs.Parts.{wrap, words, pairs}
use Rattle.parts.proofs.{Words.words_long, Words.words-below, Words.append-below, Words.pairs-long, Words.pairs-words, Words.words-pairs, Blocks.gained-below}
use Rattle.rows_state.specs.State.{long, taken, saved_of, secret_of, sums_of, held_of, Layout, laid, onward, secret_words_lem, fresh, held_with, Call}
use Rattle.rows_state.specs.Inside.{keeping}

pub three : (st : List ℕ) → 3 ≤ length st → st ≡ get_or st 0 0 ∷ get_or st 1 0 ∷ get_or st 2 0 ∷ drop 3 st
three [] h = absurd (omega arith)
three (a ∷ []) h = absurd (omega arith)
three (a ∷ b ∷ []) h = absurd (omega arith)
three (a ∷ b ∷ c ∷ st) h = refl

-- where the rows are held back
pub held_at : (n : ℕ) (st : List ℕ) → drop (4 * n) (drop (67 + 4 * n) st) ≡ drop (67 + 8 * n) st
held_at n st = let e : 67 + 4 * n + 4 * n ≡ 67 + 8 * n = omega arith in drop-drop (4 * n) (67 + 4 * n) st ∙ ap (λ (k : ℕ). drop k st) e

-- what stands behind the first three
pub rest : (n : ℕ) (st : List ℕ) → drop 3 st ≡ saved_of st ++ (pairs (secret_of n st) ++ (pairs (sums_of n st) ++ pairs (held_of n st)))
rest n st =
    sym (take-append-drop 64 (drop 3 st))
    ∙ ap (λ (l : List ℕ). saved_of st ++ l)
    (drop-drop 64 3 st
    ∙ sym (take-append-drop (4 * n) (drop 67 st))
    ∙ ap₂ (λ (u v : List ℕ). u ++ v) (sym (pairs-words _))
    (drop-drop (4 * n) 67 st
    ∙ sym (take-append-drop (4 * n) (drop (67 + 4 * n) st))
    ∙ ap₂ (λ (u v : List ℕ). u ++ v) (sym (pairs-words _)) (held_at n st ∙ sym (pairs-words _))))

pub apart : (n : ℕ) (st : List ℕ) → length st ≡ long n
    → st ≡ laid (onward n st (taken st) (sums_of n st) (held_of n st))
apart n st e = three st (omega arith) ∙ ap (λ (l : List ℕ). get_or st 0 0 ∷ get_or st 1 0 ∷ get_or st 2 0 ∷ l) (rest n st)

-- the front of a state, up to the secret
pub front : (n : ℕ) (st : List ℕ) → 3 ≤ length st
    → take (67 + 4 * n) st ≡ get_or st 0 0 ∷ get_or st 1 0 ∷ get_or st 2 0 ∷ (saved_of st ++ pairs (secret_of n st))
front n st h =
    take-add 67 (4 * n) st ∙ ap₂ (λ (l m : List ℕ). take 67 l ++ m) (three st h) (sym (pairs-words _))

module _ (n : ℕ) (st : List ℕ) (e : length st ≡ long n) where
  pub kept-long : length (saved_of st) ≡ 64
  kept-long = simp (length-take, length-drop) (omega arith)

  pub secret-long : length (secret_of n st) ≡ 8 * n
  secret-long = words_long _ ∙ simp (length-take, length-drop) (omega arith)

  pub sums-long : length (sums_of n st) ≡ 8 * n
  sums-long = words_long _ ∙ simp (length-take, length-drop) (omega arith)

  pub held-long : length (held_of n st) ≡ 16 * n
  held-long = words_long _ ∙ simp length-drop (omega arith)

-- ---- words that come back from their numbers

pub again-words : (xs : List ℕ) → words (pairs (words xs)) ≡ words xs
again-words xs = ap words (pairs-words xs)

pub made-words : (n m : ℕ) (f : ℕ → ℕ → ℕ) (ws : List ℕ) → length ws ≡ 8 * n → words (pairs (gained wrap m f ws)) ≡ gained wrap m f ws
made-words n m f ws e = words-pairs _ (4 * n) (gained-length wrap m f ws ∙ omega arith) (gained-below wrap m f ws (omega arith))

pub held-words : (n : ℕ) (held : List ℕ) → length held ≡ 16 * n → Below wrap held → words (pairs held) ≡ held
held-words n held e = words-pairs held (8 * n) (omega arith)

-- with a part of words
pub with-below : (n : ℕ) (st p : List ℕ) → Below (wrap * wrap) st → Below wrap p → Below wrap (held_with n st p)
unfolding held_with
with-below n st p b l =
    let o = taken st % (16 * n) in
    let h : Below wrap (held_of n st) = words-below _ (below-drop b (67 + 8 * n)) in
    append-below (take o (held_of n st)) _ (below-take h o) (append-below p _ l (below-drop h (o + length p)))

-- zeros
words-zeros : (k : ℕ) → words (replicate k 0) ≡ replicate (2 * k) 0
unfolding words
words-zeros zero = refl
words-zeros (suc k) =
    let e : 2 * suc k ≡ suc (suc (2 * k)) = omega arith in
    ap (λ (l : List ℕ). 0 ∷ 0 ∷ l) (words-zeros k) ∙ ap (λ (m : ℕ). replicate {A = ℕ} m 0) (sym e)

pairs-zeros : (n : ℕ) → replicate (8 * n) 0 ≡ pairs (replicate (16 * n) 0)
pairs-zeros n =
    let e : 2 * (8 * n) ≡ 16 * n = omega arith in
    sym (pairs-words (replicate (8 * n) 0)) ∙ ap pairs (words-zeros (8 * n) ∙ ap (λ (m : ℕ). replicate {A = ℕ} m 0) e)

module _ (n : ℕ) (x : Layout) (k : length x.kept ≡ 64) (s : length x.secret ≡ 8 * n) (u : length x.sums ≡ 8 * n) where
  secret-half : length (pairs x.secret) ≡ 4 * n
  secret-half = pairs-long x.secret (4 * n) (omega arith)

  sums-half : length (pairs x.sums) ≡ 4 * n
  sums-half = pairs-long x.sums (4 * n) (omega arith)

  pub laid-long : length x.held ≡ 16 * n → length (laid x) ≡ long n
  laid-long e = simp length-append (omega (arith, secret-half, sums-half, pairs-long x.held (8 * n) (omega arith)))

  pub laid_kept : saved_of (laid x) ≡ x.kept
  laid_kept = take_at x.kept (pairs x.secret ++ (pairs x.sums ++ pairs x.held)) 64 k

  behind-kept : drop 67 (laid x) ≡ pairs x.secret ++ (pairs x.sums ++ pairs x.held)
  behind-kept = drop_at x.kept (pairs x.secret ++ (pairs x.sums ++ pairs x.held)) 64 k

  behind-secret : drop (67 + 4 * n) (laid x) ≡ pairs x.sums ++ pairs x.held
  behind-secret =
      sym (drop-drop (4 * n) 67 (laid x))
      ∙ ap (drop (4 * n)) behind-kept
      ∙ drop_at (pairs x.secret) (pairs x.sums ++ pairs x.held) (4 * n) secret-half

  pub laid-secret : words (pairs x.secret) ≡ x.secret → secret_of n (laid x) ≡ x.secret
  laid-secret w = ap words (ap (take (4 * n)) behind-kept ∙ take_at (pairs x.secret) (pairs x.sums ++ pairs x.held) (4 * n) secret-half) ∙ w

  pub laid-sums : words (pairs x.sums) ≡ x.sums → sums_of n (laid x) ≡ x.sums
  laid-sums w = ap words (ap (take (4 * n)) behind-secret ∙ take_at (pairs x.sums) (pairs x.held) (4 * n) sums-half) ∙ w

  pub laid-behind : drop (67 + 8 * n) (laid x) ≡ pairs x.held
  laid-behind = sym (held_at n (laid x)) ∙ ap (drop (4 * n)) behind-secret ∙ drop_at (pairs x.sums) (pairs x.held) (4 * n) sums-half

  pub laid-held : words (pairs x.held) ≡ x.held → held_of n (laid x) ≡ x.held
  laid-held w = ap words laid-behind ∙ w

-- of equal parts
pub laid-ext : {call scheme t t' : ℕ} {kept kept' secret secret' sums sums' held held' : List ℕ} → t ≡ t' → kept ≡ kept' → secret ≡ secret' → sums ≡ sums'
    → held ≡ held' → laid (record { call = call; scheme = scheme; taken = t; kept = kept; secret = secret; sums = sums; held = held })
    ≡ laid (record { call = call; scheme = scheme; taken = t'; kept = kept'; secret = secret'; sums = sums'; held = held' })
laid-ext a b c d e = rw (a, b, c, d, e)

-- ---- words into zeros, two in each number

pub pairs-laid :
    (n : ℕ) (secret noise out x y : List ℕ) → length secret ≡ 8 * n → out ≡ replicate (16 * n) 0 → x ≡ pairs secret → y ≡ pairs noise →
    take (4 * n) (x ++ drop (4 * n) out) ++ (y ++ drop (4 * n + 4 * n - 4 * n) (drop (4 * n) (x ++ drop (4 * n) out)))
    ≡ pairs secret ++ (pairs noise ++ replicate (8 * n) 0)
pairs-laid n secret noise out x y s z d e =
    let l : length x ≡ 4 * n = ap length d ∙ pairs-long secret (4 * n) (omega arith) in
    let m : 4 * n + 4 * n - 4 * n ≡ 4 * n = omega arith in
    let r : 16 * n - (4 * n + 4 * n) ≡ 8 * n = omega arith in
    ap₂ (λ (u v : List ℕ). u ++ (y ++ drop (4 * n + 4 * n - 4 * n) v)) (take_at x (drop (4 * n) out) (4 * n) l ∙ d) (drop_at x (drop (4 * n) out) (4 * n) l)
    ∙ ap₂ (λ (u v : List ℕ). pairs secret ++ (u ++ v)) e
    (ap (λ (k : ℕ). drop k (drop (4 * n) out)) m
    ∙ drop-drop (4 * n) (4 * n) out
    ∙ ap (drop (4 * n + 4 * n)) z
    ∙ drop-same (4 * n + 4 * n) (16 * n) 0
    ∙ ap (λ (k : ℕ). replicate {A = ℕ} k 0) r)

-- ---- what is kept

-- the seed and zeros behind it
pub seed-kept-long : (seed : List ℕ) → length seed ≡ 16 → length (seed ++ replicate 48 0) ≡ 64
seed-kept-long seed e = omega (arith, length-append seed (replicate {A = ℕ} 48 0))

pub take_less : (a b : ℕ) (l : List ℕ) → take a (take (a + b) l) ≡ take a l
take_less zero b l = refl
take_less (suc a) b [] = simp suc-add refl
take_less (suc a) b (x ∷ l) = simp suc-add (ap (λ (m : List ℕ). x ∷ m) (take_less a b l))

-- ---- what is kept, into zeros

module _ (n : ℕ) (st : List ℕ) (l : length st ≡ long n) (z : st ≡ replicate (length st) 0) where
  all-zeros : st ≡ 0 ∷ 0 ∷ 0 ∷ replicate (16 * n + 64) 0
  all-zeros = let a : length st ≡ suc (suc (suc (16 * n + 64))) = omega arith in z ∙ ap (λ (m : ℕ). replicate {A = ℕ} m 0) a

  pub kept-zeros : take 64 (drop 3 st) ≡ replicate 64 0
  kept-zeros = ap (λ (v : List ℕ). take 64 (drop 3 v)) all-zeros ∙ take_same 64 (16 * n + 64) 0 (omega arith)

  kept-laid : (k : List ℕ) → put_mid 3 64 st k ≡ keeping n k
  kept-laid k =
      let e : 16 * n + 64 - 64 ≡ 16 * n = omega arith in
      ap (λ (v : List ℕ). put_mid 3 64 v k) all-zeros
      ∙ ap (λ (v : List ℕ). 0 ∷ 0 ∷ 0 ∷ (k ++ v)) (drop-same 64 (16 * n + 64) 0 ∙ ap (λ (m : ℕ). replicate {A = ℕ} m 0) e)

  module _ {k kept : List ℕ} (d : k ≡ kept) (e : length kept ≡ 64) where
    pub keeping-long : length (put_mid 3 64 st k) ≡ long n
    keeping-long = ap length (kept-laid k) ∙ simp length-append (omega (arith, ap length d, length-replicate {A = ℕ} (16 * n) 0))

    pub keeping-kept : saved_of (put_mid 3 64 st k) ≡ kept
    keeping-kept = ap saved_of (kept-laid k) ∙ take_at k (replicate (16 * n) 0) 64 (ap length d ∙ e) ∙ d

    pub keeping-is : put_mid 3 64 st k ≡ keeping n (saved_of (put_mid 3 64 st k))
    keeping-is = kept-laid k ∙ ap (keeping n) (d ∙ sym keeping-kept)

-- ---- two numbers and all words, ahead of it and behind it

module _ (n : ℕ) (st : List ℕ) (l : length st ≡ long n) (z : st ≡ keeping n (saved_of st)) (call scheme : ℕ) where
  abbrev pub headed : List ℕ
  headed = set (set st 0 call) 1 scheme

  headed-is : headed ≡ call ∷ scheme ∷ 0 ∷ (saved_of st ++ replicate (16 * n) 0)
  headed-is = ap (λ (v : List ℕ). set (set v 0 call) 1 scheme) z

  pub headed-long : length headed ≡ long n
  headed-long = simp length-set l

  behind : length headed - 67 ≡ 16 * n
  behind = omega (arith, headed-long)

  kept-behind : drop 64 (saved_of st ++ replicate (16 * n) 0) ≡ replicate (16 * n) 0
  kept-behind = drop_at (saved_of st) (replicate (16 * n) 0) 64 (kept-long n st l)

  -- the room behind it
  pub behind-zeros : take (length headed - 67) (drop 67 headed) ≡ replicate (16 * n) 0
  behind-zeros =
      ap₂ (λ (m : ℕ) (v : List ℕ). take m (drop 67 v)) behind headed-is
      ∙ ap (take (16 * n)) kept-behind
      ∙ take_same (16 * n) (16 * n) 0 (omega arith)

  pub lay-is : (secret sums : List ℕ) {w : List ℕ} → w ≡ pairs secret ++ (pairs sums ++ replicate (8 * n) 0)
      → put_mid 67 (length headed - 67) headed w
      ≡ laid (record { call = call; scheme = scheme; taken = 0; kept = saved_of st; secret = secret; sums = sums; held = replicate (16 * n) 0 })
  lay-is secret sums {w} d =
      let short : length (replicate {A = ℕ} (16 * n) 0) ≤ 16 * n = omega (arith, length-replicate {A = ℕ} (16 * n) 0) in
      let gone : drop (16 * n) (replicate {A = ℕ} (16 * n) 0) ≡ [] = drop_of_length-le (replicate {A = ℕ} (16 * n) 0) short in
      ap₂ (λ (m : ℕ) (v : List ℕ). put_mid 67 m v w) behind headed-is
      ∙ ap₂ (λ (u v : List ℕ). call ∷ scheme ∷ 0 ∷ (u ++ (w ++ drop (16 * n) v))) (take_at (saved_of st) (replicate (16 * n) 0) 64 (kept-long n st l)) kept-behind
      ∙ ap (λ (v : List ℕ). call ∷ scheme ∷ 0 ∷ (saved_of st ++ (w ++ v))) gone
      ∙ ap (λ (v : List ℕ). call ∷ scheme ∷ 0 ∷ (saved_of st ++ v)) (append-nil w ∙ d ∙ ap (λ (v : List ℕ). pairs secret ++ (pairs sums ++ v)) (pairs-zeros n))

-- ---- words of secret and noise

pub columns-long : (m n : ℕ) (s : List ℤ) → length (columns_of m n s) ≡ 8 * n
unfolding columns_of
columns-long m n s = tab-length (8 * n) _

pub secret-words-long : (k : Call) (n : ℕ) (s : List ℤ) → length s ≡ 8 * n → length (secret_words_lem k n s) ≡ 8 * n
secret-words-long Call.Offer n s l = columns-long wrap n s
secret-words-long Call.Reply n s l = words-length wrap s ∙ l

-- the length of a state as begin leaves it
pub fresh-long : (k : Call) (c : Scheme) (kept : List ℕ) (s e : List ℤ) → length kept ≡ 64 → length s ≡ 8 * (fixed_of c).n → length e ≡ 8 * (fixed_of c).n
    → length (laid (fresh k c kept s e)) ≡ long (fixed_of c).n
fresh-long k c kept s e a b d =
    laid-long (fixed_of c).n (fresh k c kept s e) a (secret-words-long k (fixed_of c).n s b) (words-length wrap e ∙ d) (length-replicate {A = ℕ} (16 * (fixed_of c).n) 0)
