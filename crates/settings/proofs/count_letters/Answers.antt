-- `settings::count_letters` meets its contract: it searches for the first byte that is no capital letter or digit.
use Rattle.lists.proofs.Kit.{◌∙◌, ap, refl, rules, length, cond, ltb}
use Rattle.std.proofs.Common.{Some, None, ◌≡◌}
use Rattle.std.proofs.lemmas.Iterator.{YieldsList-from_slice}
use Rattle.std.proofs.lemmas.Iterator.Search.{position_from_yields_List}
use Rattle.std.specs.List.{position_or_len}
use Rattle.std.specs.Option.{unwrap_or}
use Rattle.settings.specs.Settings.{not_allowed_lem}
use Rattle.settings.proofs.{Known.place}
use Rattle.settings.proofs.count_letters.Goals as goal

pub returns : goal.returns
returns c =
    let s = c.args.s.now in
    let e : c.position.result ≡ cond (ltb (position_or_len not_allowed_lem s) (length s)) (Some (position_or_len not_allowed_lem s)) None =
    position_from_yields_List not_allowed_lem _ _ c.position.result c.position.ensures.ran (YieldsList-from_slice s cc)
    (λ x b q k. let t : b ≡ not_allowed_lem x.now = search rules in (refl, t)) in
    c.unwrap_or.ensures ∙ ap (λ o. unwrap_or o (length s)) e ∙ place s
