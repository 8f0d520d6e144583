-- `rows::opener::begin_in` meets its contract: by the verdict of its tests.
use Rattle.lists.proofs.Kit.{refl, ◌∙◌, sym, ap, List, ℕ, arith, rules, length, take, drop, replicate}
use Rattle.std.proofs.Common.{◌≡◌, ◌+◌, ◌*◌, ◌-◌, ◌≤◌}
use Rattle.lists.proofs.{Parts.drop-same, Same.take_same}
use Rattle.schemes.specs.{Schemes.fixed_of}
use Rattle.refusals.proofs.Ends.{given_up}
use Rattle.values.proofs.Numbers.{numbers-in}
use Rattle.rows_state.specs.{State.laid, State.fresh, declared.Call.Call}
use Rattle.rows_state.proofs.Laying.{seed-kept-long, keeping-long, keeping-kept, keeping-is}
use Rattle.rows_state.proofs.{Tests.frodos, Turns.state-by}
use Rattle.rows.specs.Offer.{offer_begin_of, offer_state}
use Rattle.rows.proofs.{Opening.begin-sized}
use Rattle.rows.proofs.opener.begin_in.Goals as goal

pub begin_tests-requires : goal.begin_tests-requires
begin_tests-requires c = (numbers-in c.args.scheme c.requires.0).few

pub slice_bounds-lay_seed-end : goal.slice_bounds-lay_seed-end
slice_bounds-lay_seed-end c =
    omega (arith, (begin-sized c.args.scheme (offer_begin_of c.args.s.now c.args.e.now c.args.seed.now) _ (sym c.in_ok-begin_tests.ensures)).state)

-- zeros from any place on
zeros-from : (k n : ℕ) (st : List ℕ) → k ≤ 3 → length st ≡ 16 * n + 67 → st ≡ replicate (length st) 0 → take 64 (drop k st) ≡ replicate 64 0
zeros-from k n st h l z =
    ap (λ (v : List ℕ). take 64 (drop k v)) z ∙ ap (take 64) (drop-same k (length st) 0) ∙ take_same 64 (length st - k) 0 (omega arith)

pub lay_seed-requires : goal.lay_seed-requires
lay_seed-requires c =
    let a = c.args in
    let z = begin-sized a.scheme (offer_begin_of a.s.now a.e.now a.seed.now) _ (sym c.in_ok-begin_tests.ensures) in
    let l : length a.state.now ≡ 16 * (fixed_of a.scheme).n + 67 = z.state in
    let w : a.state.now ≡ replicate (length a.state.now) 0 = c.requires.1 in
    (z.seed ∙ (frodos a.scheme c.requires.0).seed, search (rules, zeros-from))

pub lay_state-requires : goal.lay_state-requires
lay_state-requires c =
    let a = c.args in
    let z = begin-sized a.scheme (offer_begin_of a.s.now a.e.now a.seed.now) _ (sym c.in_ok-begin_tests.ensures) in
    let k = seed-kept-long a.seed.now (z.seed ∙ (frodos a.scheme c.requires.0).seed) in
    let h = numbers-in a.scheme c.requires.0 in
    let n = (fixed_of a.scheme).n in
    let st = a.state.now in
    rw c.fixed-f.ensures
    (record {
      sized = (
        record {
          some = h.some;
          few = h.few;
          sixteens = (frodos a.scheme c.requires.0).sixteens;
          long = keeping-long n st z.state c.requires.1 c.lay_seed.ensures k;
        },
        refl,
        keeping-is n st z.state c.requires.1 c.lay_seed.ensures k,
      );
      s_len = (z.secret ∙ h.secret, z.noise ∙ h.noise);
    })

pub returns-in_err-begin_tests : goal.returns-in_err-begin_tests
returns-in_err-begin_tests c =
    rw (given_up _ c.from_residual.ensures) (state-by _ _ (sym c.in_err-begin_tests.ensures) c.requires.1)

pub returns : goal.returns
unfolding offer_state
returns c =
    let a = c.args in
    let p = sym c.in_ok-begin_tests.ensures in
    let z = begin-sized a.scheme (offer_begin_of a.s.now a.e.now a.seed.now) _ p in
    let k = seed-kept-long a.seed.now (z.seed ∙ (frodos a.scheme c.requires.0).seed) in
    state-by _ _ p
    (c.lay_state.ensures
    ∙ ap (λ (v : List ℕ). laid (fresh Call.Offer a.scheme v a.s.now a.e.now))
    (keeping-kept (fixed_of a.scheme).n a.state.now z.state c.requires.1 c.lay_seed.ensures k))
