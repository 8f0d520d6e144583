-- The settings of a box as text: 02, request h.
--   Setup               what is set: a scheme, a rule, and a label, empty where there is none
--   setup_of a b l       a setup from these three
--   format_of n          the oldest format that holds a label of n bytes: 1 where there are none, else 2
--   text_of x            the text of the settings x
--   is_scheme_lem, is_rule_lem    whether a number names a scheme, a rule
--   letters xs          how many capital letters and digits xs begins with
--   Reading             what a reader makes of a text: a setup, a newer format by its number, or a misfit
--   reads reader xs     that of the text xs, by a reader of the formats up to its own
use Rattle.std.specs.Prelude.{Option, Some, None, Bool, true, false, cond, List, [], ◌∷◌, ◌++◌, ℕ, zero, suc, eqb, leb, ltb, length, get_or, take, drop}
use Rattle.noise.specs.declared.RuleName.{RuleName}
use Rattle.schemes.specs.declared.Scheme.{Scheme}
use Rattle.schemes.specs.{Schemes.scheme_of_lem}
use Rattle.lists.specs.First.{first_where, both}
use Rattle.text.specs.Text.{LF, scheme_name, line, Read, number, other, is_digit_lem, begins, field_in}
use Rattle.noise.specs.{Expand.rule_of_lem}

pub record Setup : Type 0 where
  pub scheme : ℕ
  pub rule : ℕ
  pub label : List ℕ

abbrev pub setup_of : ℕ → ℕ → List ℕ → Setup
setup_of a b l = record { scheme = a; rule = b; label = l }

-- ---- the text of settings

-- `format=`, `rule=`, `label=` in bytes
abbrev pub format_name : List ℕ
format_name = 102 ∷ 111 ∷ 114 ∷ 109 ∷ 97 ∷ 116 ∷ 61 ∷ []

abbrev pub rule_name : List ℕ
rule_name = 114 ∷ 117 ∷ 108 ∷ 101 ∷ 61 ∷ []

abbrev pub label_name : List ℕ
label_name = 108 ∷ 97 ∷ 98 ∷ 101 ∷ 108 ∷ 61 ∷ []

unfoldable pub format_of : ℕ → ℕ
format_of zero = 1
format_of (suc n) = 2

-- the last line of format 2, and none in format 1
unfoldable pub label_line : List ℕ → List ℕ
label_line [] = []
label_line (x ∷ l) = label_name ++ ((x ∷ l) ++ LF ∷ [])

unfoldable pub text_of : Setup → List ℕ
text_of x = line format_name (format_of (length x.label)) ++ (line scheme_name x.scheme ++ (line rule_name x.rule ++ label_line x.label))

-- ---- their numbers and letters

abbrev pub some_scheme : Option Scheme → Bool
some_scheme (Some s) = true
some_scheme None = false

abbrev pub some_rule : Option RuleName → Bool
some_rule (Some r) = true
some_rule None = false

unfoldable pub is_scheme_lem : ℕ → Bool
is_scheme_lem a = some_scheme (scheme_of_lem a)

unfoldable pub is_rule_lem : ℕ → Bool
is_rule_lem b = some_rule (rule_of_lem b)

-- no digit and no capital letter
unfoldable pub not_allowed_lem : ℕ → Bool
not_allowed_lem c = cond (is_digit_lem c) false (cond (both (leb 65 c) (leb c 90)) false true)

unfoldable pub letters : List ℕ → ℕ
letters xs = first_where not_allowed_lem xs

-- ---- reading: the lines one after the other, and nothing behind them

pub data Reading : Type 0 where
  setup : Setup → Reading
  newer : ℕ → Reading
  misfit : Reading

-- 1 to 16 capital letters and digits, LF, and nothing behind
unfoldable pub well_spelled_lem : List ℕ → Bool
well_spelled_lem xs =
    both (leb 1 (letters xs))
    (both (leb (letters xs) 16)
    (both (eqb (length xs) (suc (letters xs)))
    (eqb (get_or xs (letters xs) 0) LF)))

unfoldable pub spelled_in : ℕ → ℕ → List ℕ → Reading
spelled_in a b xs = cond (well_spelled_lem xs) (setup (setup_of a b (take (letters xs) xs))) misfit

-- behind the rule in format 2: the label's line
unfoldable pub last_in : ℕ → ℕ → List ℕ → Reading
last_in a b xs = cond (begins label_name xs) (spelled_in a b (drop 6 xs)) misfit

-- and in format 1: nothing
unfoldable pub end_in : ℕ → ℕ → List ℕ → Reading
end_in a b [] = setup (setup_of a b [])
end_in a b (x ∷ xs) = misfit

-- a format that is not newer and not one of these two is a misfit
unfoldable pub tail_in : ℕ → ℕ → ℕ → List ℕ → Reading
tail_in f a b xs = cond (eqb f 1) (end_in a b xs) (cond (eqb f 2) (last_in a b xs) misfit)

unfoldable pub rule_in : ℕ → ℕ → Read → Reading
rule_in f a (number b xs) = cond (is_rule_lem b) (tail_in f a b xs) misfit
rule_in f a other = misfit

unfoldable pub scheme_in : ℕ → Read → Reading
scheme_in f (number a xs) = cond (is_scheme_lem a) (rule_in f a (field_in rule_name xs)) misfit
scheme_in f other = misfit

-- the first line alone says whether the format is newer
unfoldable pub format_in : ℕ → Read → Reading
format_in reader (number f xs) = cond (ltb reader f) (newer f) (scheme_in f (field_in scheme_name xs))
format_in reader other = misfit

unfoldable pub reads : ℕ → List ℕ → Reading
reads reader xs = format_in reader (field_in format_name xs)
