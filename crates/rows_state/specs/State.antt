-- The lent running state: 02, request e. One layout for both calls, of 16 n + 67 numbers:
--   0          the call that has begun: 3 Offer, 4 Reply
--   1          the scheme's number, 2 to 5
--   2          how many numbers of A have come, 0 to n n: the next stands at row taken / n and column taken % n
--   3 .. 66    what is kept for the end: Offer the seed's 16 bytes, then zeros; Reply the 64 values of V, below q
--   67 ..      the secret as 8 n words, two in each number: Offer the columns of S, one after the other, Reply S' as it lies
--   67 + 4n .. the running sums as 8 n words, two in each number, which start as the noise
--   67 + 8n .. the numbers of the rows that are held back until sixteen have come, as 16 n words, two in each number; what lies behind them is of no account
-- Words wrap at 2^16, so every number of 32 bits is a pair of them: only the first 67 have a range.
-- Any other list is no state: nothing has begun.
-- Number 0 tells the layout as well as the call. 1 and 2 told the calls in earlier layouts, which were as long. Every change of the layout takes two numbers that no
-- layout has had: then a state of another build is out of range, and counts as none, where it would else give a wrong message.
--   frodo_of_lem k            the scheme that a number names, where it is one of Frodo's
--   tag_of k              number 0 of a state in which the call k has begun
--   long n               how many numbers a state has
--   named, taken, saved_of, secret_of, sums_of, held_of   its parts
--   Layout, laid         its parts by name, and the state that they make
--   onward n st t sums held   the parts of the state st, but for the count, the sums and the rows that are held back, which are these
--   secret_words_lem k n s    the secret s as the state of the call k keeps it
--   fresh k c kept s e   the state that a begin of the call k leaves, with the secret s and the noise e: no number of A has come
--   saved_in, begun        what is kept is in range; the call has begun
--   fits_in_lem n at m        m more numbers end inside the row, and inside A
--   complete             the call has begun, and all of A has come
--   terms k n s a        how the numbers a of A enter the sums of the call k, with the secret's words s
--   fills n at m         m more numbers end a block of sixteen rows
--   held_with n st p      the numbers that are held back, with the part p behind them
--   sums_with k n st p    the sums with the part p, which sixteen rows enter where it fills them
--   stepped k n st p     the state with the part p
use Rattle.std.specs.Prelude.{Some, None, Option}
use Rattle.std.specs.Prelude.{Bool, cond, List, ◌∷◌, ◌++◌, ℕ, ◌+◌, ◌*◌, ◌-◌, ◌%◌, eqb, leb, ℤ, length, get_or, take, drop, replicate}
use Rattle.schemes.specs.Schemes.{by_family, family_of, fixed_of, scheme_number, scheme_of_lem}
use Rattle.schemes.specs.{declared.Fixed.Fixed, declared.Scheme.Scheme}
use Rattle.lists.specs.First.{first_over_lem, both}
use Rattle.matrix.specs.Words.{words_of, columns_of, gained, right_term, left_term}
use Rattle.parts.specs.Parts.{wrap, words, pairs, placed}
pub use Rattle.rows_state.specs.declared.Call.{Call}

-- 1 reads here: the scheme is not 2 to 5
abbrev pub frodo_in_lem : Option Scheme → Option Scheme
frodo_in_lem None = None
frodo_in_lem (Some c) = by_family (family_of c) None None (Some c)

abbrev pub frodo_of_lem : ℕ → Option Scheme
frodo_of_lem k = frodo_in_lem (scheme_of_lem k)

abbrev pub tag_of : Call → ℕ
tag_of Call.Offer = 3
tag_of Call.Reply = 4

-- ---- the layout

abbrev pub long : ℕ → ℕ
long n = 16 * n + 67

abbrev pub named : List ℕ → Option Scheme
named st = frodo_of_lem (get_or st 1 0)

abbrev pub taken : List ℕ → ℕ
taken st = get_or st 2 0

abbrev pub saved_of : List ℕ → List ℕ
saved_of st = take 64 (drop 3 st)

abbrev pub secret_of : ℕ → List ℕ → List ℕ
secret_of n st = words (take (4 * n) (drop 67 st))

abbrev pub sums_of : ℕ → List ℕ → List ℕ
sums_of n st = words (take (4 * n) (drop (67 + 4 * n) st))

abbrev pub held_of : ℕ → List ℕ → List ℕ
held_of n st = words (drop (67 + 8 * n) st)

pub record Layout : Type 0 where
  pub call : ℕ
  pub scheme : ℕ
  pub taken : ℕ
  pub kept : List ℕ
  pub secret : List ℕ
  pub sums : List ℕ
  pub held : List ℕ

abbrev pub laid : Layout → List ℕ
laid x = x.call ∷ x.scheme ∷ x.taken ∷ (x.kept ++ (pairs x.secret ++ (pairs x.sums ++ pairs x.held)))

abbrev pub onward : ℕ → List ℕ → ℕ → List ℕ → List ℕ → Layout
onward n st t sums held =
    record { call = get_or st 0 0; scheme = get_or st 1 0; taken = t; kept = saved_of st; secret = secret_of n st; sums = sums; held = held }

abbrev pub secret_words_lem : Call → ℕ → List ℤ → List ℕ
secret_words_lem Call.Offer n s = columns_of wrap n s
secret_words_lem Call.Reply n s = words_of wrap s

abbrev pub fresh : Call → Scheme → List ℕ → List ℤ → List ℤ → Layout
fresh k c kept s e =
    record {
      call = tag_of k;
      scheme = scheme_number c;
      taken = 0;
      kept = kept;
      secret = secret_words_lem k (fixed_of c).n s;
      sums = words_of wrap e;
      held = replicate (16 * (fixed_of c).n) 0;
    }

-- ---- its ranges

-- both, under a name that a promise keeps shut
infixr 20 ◌and◌
unfoldable pub ◌and◌ : Bool → Bool → Bool
a and b = both a b

unfoldable pub all_below : ℕ → List ℕ → Bool
all_below b xs = eqb (first_over_lem b xs) (length xs)

abbrev pub saved_in : Call → ℕ → List ℕ → Bool
saved_in Call.Offer q kept = all_below 256 (take 16 kept) and all_below 1 (drop 16 kept)
saved_in Call.Reply q kept = all_below q kept

unfoldable pub begun : Call → Fixed → List ℕ → Bool
begun k f st =
    eqb (length st) (long f.n) and eqb (get_or st 0 0) (tag_of k) and leb (taken st) (f.n * f.n) and saved_in k f.q (saved_of st)

-- 11: a part that runs past the row or past the last row
unfoldable pub fits_in_lem : ℕ → ℕ → ℕ → Bool
fits_in_lem n at m = leb (at % n + m) n and leb (at + m) (n * n)

-- 11: an end before all n rows
unfoldable pub complete : Call → Fixed → List ℕ → Bool
complete k f st = begun k f st and eqb (taken st) (f.n * f.n)

-- ---- a part

-- Offer: B[i][k] += A[i][j] S[j][k]; Reply: B'[k][j] += S'[k][i] A[i][j]
abbrev pub terms : Call → ℕ → List ℕ → List ℕ → ℕ → ℕ → ℕ
terms Call.Offer n s a = right_term n a s
terms Call.Reply n s a = left_term n n s a

unfoldable pub fills : ℕ → ℕ → ℕ → Bool
fills n at m = leb 1 m and eqb ((at + m) % (16 * n)) 0

unfoldable pub held_with : ℕ → List ℕ → List ℕ → List ℕ
held_with n st p = take (taken st % (16 * n)) (held_of n st) ++ (p ++ drop (taken st % (16 * n) + length p) (held_of n st))

unfoldable pub sums_with : Call → ℕ → List ℕ → List ℕ → List ℕ
sums_with k n st p =
    cond (fills n (taken st) (length p))
    (gained wrap n (terms k n (secret_of n st) (placed (taken st + length p - 16 * n) (held_with n st p))) (sums_of n st))
    (sums_of n st)

unfoldable pub stepped : Call → ℕ → List ℕ → List ℕ → List ℕ
stepped k n st p = laid (onward n st (taken st + length p) (sums_with k n st p) (held_with n st p))
