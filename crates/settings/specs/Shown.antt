-- What is shown of reading and writing: 02, request h.
--   Valid x             what settings are: a scheme, a rule, a label of at most 16 capital letters and digits
--   Is reader xs x      xs is the text of the settings x, in a format of at most the reader's own
--   Newer reader xs n   the first line of xs is a format's, with a number n above the reader's own
--   TextRead            the text of settings is read as them, by every reader of its format
--   NoOther             and no other text is: what is read is the text that writing gives
--   NewerTold, NewerOnly   a newer format is told exactly where the first line says so, whatever follows
--   Back                writing, then reading with the format 2 reader, gives the settings back
--   StoredBack          what the writer left in its output, if it was not refused, is read as what it was given
--   SameBytes           settings are equal exactly when their bytes are
--   SameReading         every reader from format 1 on makes one thing of a text whose first line is `format=1`
--   Upgraded            hence what the format 1 reader reads, the format 2 reader reads as the same settings
--   OlderTells          of settings with a label the format 1 reader says that they are in format 2
--   Enough              50 bytes tell, of which settings have at most 49
use Rattle.std.specs.Prelude.{◌≡◌, true, List, ℕ, ◌≤◌, ◌<◌, length, take}
use Rattle.text.specs.Text.{number, field_in}
use Rattle.refusals.specs.Seen.{answer}
use Rattle.settings.specs.Settings.{Setup, format_name, format_of, text_of, is_scheme_lem, is_rule_lem, letters, setup, newer, reads}
use Rattle.settings.specs.Calls.{write_result}

pub record Valid (x : Setup) : Type 0 where
  pub scheme : is_scheme_lem x.scheme ≡ true
  pub rule : is_rule_lem x.rule ≡ true
  pub short : length x.label ≤ 16
  pub bytes : letters x.label ≡ length x.label

pub record Is (reader : ℕ) (xs : List ℕ) (x : Setup) : Type 0 where
  pub text : xs ≡ text_of x
  pub valid : Valid x
  pub format : format_of (length x.label) ≤ reader

pub record Newer (reader : ℕ) (xs : List ℕ) (n : ℕ) : Type 0 where
  pub behind : List ℕ
  pub first : field_in format_name xs ≡ number n behind
  pub above : reader < n

abbrev pub TextRead : Type 0
TextRead = (reader : ℕ) (xs : List ℕ) (x : Setup) → Is reader xs x → reads reader xs ≡ setup x

abbrev pub NoOther : Type 0
NoOther = (reader : ℕ) (xs : List ℕ) (x : Setup) → reads reader xs ≡ setup x → Is reader xs x

abbrev pub NewerTold : Type 0
NewerTold = (reader : ℕ) (xs : List ℕ) (n : ℕ) → Newer reader xs n → reads reader xs ≡ newer n

abbrev pub NewerOnly : Type 0
NewerOnly = (reader : ℕ) (xs : List ℕ) (n : ℕ) → reads reader xs ≡ newer n → Newer reader xs n

abbrev pub Back : Type 0
Back = (x : Setup) → Valid x → reads 2 (text_of x) ≡ setup x

abbrev pub StoredBack : Type 0
StoredBack = (x : Setup) (n : ℕ) → (write_result x n).number ≡ 0 → reads 2 (answer (write_result x n).out) ≡ setup x

abbrev pub SameBytes : Type 0
SameBytes = (x y : Setup) → Valid x → Valid y → (text_of x ≡ text_of y → x ≡ y) × (x ≡ y → text_of x ≡ text_of y)

abbrev pub SameReading : Type 0
SameReading = (reader : ℕ) (xs behind : List ℕ) → 1 ≤ reader → field_in format_name xs ≡ number 1 behind → reads reader xs ≡ reads 1 xs

abbrev pub Upgraded : Type 0
Upgraded = (xs : List ℕ) (x : Setup) → reads 1 xs ≡ setup x → reads 2 xs ≡ setup x

abbrev pub OlderTells : Type 0
OlderTells = (x : Setup) → 1 ≤ length x.label → reads 1 (text_of x) ≡ newer 2

abbrev pub Enough : Type 0
Enough = (reader : ℕ) (xs : List ℕ) → reads reader (take 50 xs) ≡ reads reader xs
