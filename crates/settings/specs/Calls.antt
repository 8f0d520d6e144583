-- What the calls promise: 02, request h, and 01, "Refusal numbers and their order".
--   scheme_known a, rule_known b   1: the number names no scheme; 12: it names no rule
--   allowed l                    8: a byte of the label is no capital letter and no digit
--   write_tests_lem x n               the writer's tests in their order, with room for n bytes
--   write_result x n              what the writer shows
--   stored x                     a setup as the struct `Settings`: the label in 16 bytes with zeros behind it, and its count
--   answer_of r                   the reader's answer by value to what it made of a text: the settings, or why there are none
--   Read, read_of                 what the reader is lent: its own number and the text
--   reading_of x                  what the reader makes of it
--   read_verdict r                15: the format is newer; 8: any other misfit
--   setup_in r                    the setup that was read; after 15 and 8 the scheme and the rule are 0 and the label is empty
--   read_tests r n                the reader's tests in their order, with room for n bytes: 15 or 8, then 3 for the label that was read
--   format_told r v               the format that was read or is newer, where v is the tests' verdict; 0 after 8 and 3
--   ReadSeen                     what is seen of the reader: the refusal's number and place, the label, the format, the scheme and the rule
--   ReadCounts                   the numbers that its answer carries: how long the label is, the format, the scheme and the rule
--   LentAnswer                   its answer: these numbers, or why nothing was read
--   refusal_of e, newer_in e      the refusal of that: 15, 8 or 3; and the format, where it is newer, and else 0
--   read_shown v r n              what the reader shows of r by the verdict v
--   read_result x n               what it shows of what it is lent
--   read_told a                   the numbers of its answer
--   read_seen t label             what is seen of it where it tells t and leaves label
--   ReadSeenAll, ReadToldAll     `read_seen` and `read_told` forget nothing
use Rattle.std.specs.Prelude.{Ok, Err, Result, ◌≡◌, cond, List, [], ◌++◌, ℕ, ◌-◌, leb, length, replicate}
use Rattle.refusals.specs.declared.Refusal.TheVariants.{NoScheme, NoRule, Short, Misfit, NewerFormat}
use Rattle.refusals.specs.Seen.{if_passed, Output, output, written, Told, done, refused, Seen, shown}
use Rattle.refusals.specs.Refusals.{number_in, place_in, ◌then◌, length_up_to_lem, room_for_lem}
use Rattle.refusals.specs.{Refusals.Verdict, Refusals.pass}
use Rattle.settings.specs.Settings.{Setup, setup_of, format_of, text_of, is_scheme_lem, is_rule_lem, letters, Reading, setup, newer, misfit, reads}
use Rattle.refusals.specs.declared.Refusal.{Refusal}
pub use Rattle.settings.specs.{declared.Settings.Settings, declared.ReadCounts.ReadCounts, declared.Unread.Unread}
use Rattle.settings.specs.declared.Misfit as why
use Rattle.settings.specs.declared.Misfit.TheVariants as misfits
use Rattle.settings.specs.declared.Unread.TheVariants as unread

-- ---- writing

unfoldable pub scheme_known : ℕ → Verdict
scheme_known a = cond (is_scheme_lem a) pass (Err NoScheme)

unfoldable pub rule_known : ℕ → Verdict
rule_known b = cond (is_rule_lem b) pass (Err NoRule)

unfoldable pub allowed : List ℕ → Verdict
allowed l = cond (leb (length l) (letters l)) pass (Err Misfit)

unfoldable pub write_tests_lem : Setup → ℕ → Verdict
write_tests_lem x n =
    scheme_known x.scheme then rule_known x.rule then length_up_to_lem (length x.label) 16 then room_for_lem n (length (text_of x)) then allowed x.label

abbrev pub write_result : Setup → ℕ → Seen ℕ
write_result x n = shown (write_tests_lem x n) (text_of x) 0 n

-- ---- reading by value

abbrev pub stored : Setup → Settings
stored x =
    record { scheme = x.scheme; rule = x.rule; label = x.label ++ replicate (16 - length x.label) 0; count = length x.label }

abbrev pub answer_of : Reading → Result Settings why.Misfit
answer_of (setup x) = Ok (stored x)
answer_of (newer n) = Err (misfits.Newer n)
answer_of misfit = Err misfits.Other

-- ---- reading into a lent label

pub record Read : Type 0 where
  pub reader : ℕ
  pub text : List ℕ

abbrev pub read_of : ℕ → List ℕ → Read
read_of reader text = record { reader = reader; text = text }

abbrev pub reading_of : Read → Reading
reading_of x = reads x.reader x.text

abbrev pub read_verdict : Reading → Verdict
read_verdict (setup x) = pass
read_verdict (newer n) = Err NewerFormat
read_verdict misfit = Err Misfit

abbrev pub setup_in : Reading → Setup
setup_in (setup x) = x
setup_in (newer n) = setup_of 0 0 []
setup_in misfit = setup_of 0 0 []

unfoldable pub read_tests : Reading → ℕ → Verdict
read_tests r n = read_verdict r then room_for_lem n (length (setup_in r).label)

abbrev pub format_told : Reading → Verdict → ℕ
format_told (setup x) v = if_passed v (format_of (length x.label)) 0
format_told (newer n) v = n
format_told misfit v = 0

pub record ReadSeen : Type 0 where
  pub number : ℕ
  pub place : ℕ
  pub label : Output ℕ
  pub format : ℕ
  pub scheme : ℕ
  pub rule : ℕ

unfoldable pub read_shown : Verdict → Reading → ℕ → ReadSeen
read_shown v r n =
    record {
      number = number_in v;
      place = place_in v;
      label = written v (setup_in r).label 0 n;
      format = format_told r v;
      scheme = if_passed v (setup_in r).scheme 0;
      rule = if_passed v (setup_in r).rule 0;
    }

abbrev pub read_result : Read → ℕ → ReadSeen
read_result x n = read_shown (read_tests (reading_of x) n) (reading_of x) n

abbrev pub LentAnswer : Type 0
LentAnswer = Result ReadCounts Unread

abbrev pub refusal_of : Unread → Refusal
refusal_of (unread.Misfit (misfits.Newer n)) = NewerFormat
refusal_of (unread.Misfit misfits.Other) = Misfit
refusal_of unread.Short = Short

abbrev pub newer_in : Unread → ℕ
newer_in (unread.Misfit (misfits.Newer n)) = n
newer_in (unread.Misfit misfits.Other) = 0
newer_in unread.Short = 0

abbrev pub read_told : LentAnswer → Told ReadCounts
read_told (Ok n) = done n
read_told (Err e) = refused (refusal_of e) (record { label = 0; format = newer_in e; scheme = 0; rule = 0 })

unfoldable pub read_seen : Told ReadCounts → List ℕ → ReadSeen
read_seen t label =
    record {
      number = t.number;
      place = t.place;
      label = output t.counts.label label;
      format = t.counts.format;
      scheme = t.counts.scheme;
      rule = t.counts.rule;
    }

-- ---- what follows

abbrev pub ReadSeenAll : Type 0
ReadSeenAll =
    (t t' : Told ReadCounts) (label label' : List ℕ) → read_seen t label ≡ read_seen t' label'
    → (t.number ≡ t'.number) × (t.place ≡ t'.place) × (t.counts.label ≡ t'.counts.label) × (t.counts.format ≡ t'.counts.format)
    × (t.counts.scheme ≡ t'.counts.scheme) × (t.counts.rule ≡ t'.counts.rule) × (label ≡ label')

abbrev pub ReadToldAll : Type 0
ReadToldAll = (a a' : LentAnswer) → read_told a ≡ read_told a' → a ≡ a'
