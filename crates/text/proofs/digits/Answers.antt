-- `text::digits` meets its contract: it searches for the first byte that is no digit.
use Rattle.lists.proofs.Kit.{◌∙◌, ap, refl, not, rules, length, cond, ltb}
use Rattle.std.proofs.Common.{Some, None, ◌≡◌}
use Rattle.std.proofs.lemmas.Iterator.{YieldsList-from_slice}
use Rattle.std.proofs.lemmas.Iterator.Search.{position_from_yields_List}
use Rattle.std.specs.Char.{is_ascii_digit}
use Rattle.std.specs.List.{position_or_len}
use Rattle.std.specs.Option.{unwrap_or}
use Rattle.text.specs.Text.{not_digit_lem}
use Rattle.text.proofs.Reading.{not-digit, place}
use Rattle.text.proofs.digits.Goals as goal

pub returns : goal.returns
returns c =
    let s = c.args.s.now in
    let e : c.position.result ≡ cond (ltb (position_or_len not_digit_lem s) (length s)) (Some (position_or_len not_digit_lem s)) None =
    position_from_yields_List not_digit_lem _ _ c.position.result c.position.ensures.ran (YieldsList-from_slice s cc)
    (λ x b q k. let t : b ≡ not (is_ascii_digit x.now) = search rules in (refl, t ∙ not-digit x.now)) in
    c.unwrap_or.ensures ∙ ap (λ o. unwrap_or o (length s)) e ∙ place s
