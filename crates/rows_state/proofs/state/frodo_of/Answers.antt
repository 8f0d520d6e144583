-- `rows_state::state::frodo_of` meets its contract: by the family.
use Rattle.lists.proofs.Kit.{◌∙◌, refl, sym, ap, ℕ}
use Rattle.std.proofs.Common.{◌≡◌, Some, None}
use Rattle.schemes.specs.{Schemes.by_family, Schemes.family_of, Schemes.scheme_of_lem, declared.Family.Family, declared.Scheme.Scheme}
use Rattle.schemes.proofs.Laws.{names-option}
use Rattle.rows_state.specs.State.{frodo_in_lem, frodo_of_lem}
use Rattle.rows_state.proofs.state.frodo_of.Goals as goal

-- of a number that names the scheme d, whose family is F
by-family : (k : ℕ) (d : Scheme) (F : Family) → scheme_of_lem k ≡ Some d → family_of d ≡ F → by_family F None None (Some d) ≡ frodo_of_lem k
by-family k d F e f = sym (ap frodo_in_lem e ∙ ap (λ (G : Family). by_family G None None (Some d)) f)

pub returns-in-Frodo : goal.returns-in-Frodo
returns-in-Frodo c =
    by-family c.args.no _ Family.Frodo (names-option c.args.no _ c.try_from.ensures ∙ sym c.in_ok-known.ensures.value) (sym c.in-Frodo.ensures)

-- another family than Frodo
other-family : (k : ℕ) (d : Scheme) (F : Family) → scheme_of_lem k ≡ Some d → family_of d ≡ F → (F ≡ Family.Frodo → ⊥) → None ≡ frodo_of_lem k
other-family k d Family.Bcns e f n = by-family k d Family.Bcns e f
other-family k d Family.NewHope e f n = by-family k d Family.NewHope e f
other-family k d Family.Frodo e f n = absurd (n refl)

pub returns-in_default : goal.returns-in_default
returns-in_default c =
    other-family c.args.no _ _ (names-option c.args.no _ c.try_from.ensures ∙ sym c.in_ok-known.ensures.value) (sym c.family.ensures) c.in_default.not-Frodo

pub returns-in_err-known : goal.returns-in_err-known
returns-in_err-known c =
    c.from_residual.ensures ∙ sym (ap frodo_in_lem (names-option c.args.no _ c.try_from.ensures ∙ sym c.in_err-known.ensures.value))
