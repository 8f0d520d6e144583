-- `rows::replier::begin_sized` meets its contract: it lends room for the opening's numbers; a refused opening ends the call; then the secrets, and then the state.
use Rattle.lists.proofs.Kit.{refl, ◌∙◌, sym, ap, List, ℕ, arith, length}
use Rattle.std.proofs.Common.{◌≡◌, ◌≤◌, Some}
use Rattle.schemes.specs.{Schemes.family_of, Schemes.fixed_of, declared.Family.Family, declared.Fixed.Fixed, declared.Scheme.Scheme}
use Rattle.schemes.proofs.Sound.{sound}
use Rattle.lists.proofs.Parts.{part-long, buffer-long, front_long}
use Rattle.packing.proofs.Laws.{unpacked-length}
use Rattle.refusals.specs.{Refusals.not_blank_lem, Refusals.received_in, Refusals.Verdict, Seen.if_passed}
use Rattle.refusals.proofs.{Ends.given_up, Laws.failed, Laws.went_on, Steps.front-is, Steps.front_fits}
use Rattle.values.specs.Values.{mixed_value}
use Rattle.values.proofs.{Numbers.numbers-in, Ranges.mixed-counted}
use Rattle.wire.specs.Wire.{opened_in, numbers_in}
use Rattle.wire.proofs.Travel.{message-counted}
use Rattle.reply.proofs.Replying.{secrets-small}
use Rattle.rows_state.specs.{State.laid, State.fresh, declared.Call.Call}
use Rattle.rows_state.proofs.{Tests.frodos, Laying.keeping-long, Laying.keeping-kept, Laying.keeping-is}
use Rattle.rows.specs.{Reply.ReplyBegin, Reply.reply_begin_of, Reply.value_of, Reply.reply_state, Inside.reply_begin_rest}
use Rattle.rows.proofs.{Replying.Sized, Replying.begin-sized, Replying.opened-tests}
use Rattle.rows.proofs.replier.begin_sized.Goals as goal
use Rattle.rows.proofs.replier.begin_sized.Goals.{After-fixed-f}

module _ (x : After-fixed-f) where
  abbrev lent : ReplyBegin
  lent = let a = x.args in reply_begin_of a.opening.now a.s1.now a.e1.now a.e2.now

  sized : Sized x.args.scheme lent (length x.args.state.now)
  sized = begin-sized _ _ _ x.requires.state_value

  many : x.fixed-f.result.secret ≡ (fixed_of x.args.scheme).secret
  many = ap (λ (f : Fixed). f.secret) x.fixed-f.ensures

  few : x.fixed-f.result.secret ≤ 6912
  few = omega (arith, many, (sound x.args.scheme).secrets)

  numbers-long : length (numbers_in x.args.scheme (opened_in x.args.scheme x.args.opening.now)) ≡ x.fixed-f.result.secret
  unfolding numbers_in
  numbers-long = unpacked-length _ _ _ ∙ sym many

  value-long : (xs : List ℕ) → let a = x.args in length (mixed_value a.scheme xs a.s1.now a.e2.now) ≡ 64
  value-long xs =
      let b = x in
      (mixed-counted b.args.scheme xs b.args.s1.now b.args.e2.now).long ∙ (numbers-in b.args.scheme b.requires.scheme_value.0).mixed

-- the unpack step's verdict, without the test that cannot fail
unpacked : (c : Scheme) (opening : List ℕ) {v : Verdict} → family_of c ≡ Family.Frodo
    → v ≡ received_in (fixed_of c).q (opened_in c opening) (numbers_in c (opened_in c opening)) → v ≡ not_blank_lem (opened_in c opening)
unpacked c opening frodo e = e ∙ opened-tests c frodo (opened_in c opening)

pub slice_bounds-b-end : goal.slice_bounds-b-end
slice_bounds-b-end c = few (goal.at.slice_bounds-b-end c).After-fixed-f

pub slice_bounds-take_opening-end : goal.slice_bounds-take_opening-end
slice_bounds-take_opening-end c = sym (buffer-long _ 6912 (few (goal.at.slice_bounds-take_opening-end c).After-fixed-f))

pub take_opening-v-requires : goal.take_opening-v-requires
take_opening-v-requires c = ((sized (goal.at.take_opening-v-requires c).After-fixed-f).opening-long, buffer-long _ 6912 (few (goal.at.take_opening-v-requires c).After-fixed-f) ∙ many (goal.at.take_opening-v-requires c).After-fixed-f)

pub slice_bounds-b-end-2 : goal.slice_bounds-b-end-2
slice_bounds-b-end-2 c =
    front_fits _ c.take_opening-v.ensures.numbers_value (numbers-long (goal.at.slice_bounds-b-end-2 c).After-fixed-f) _

pub slice_bounds-mix-end : goal.slice_bounds-mix-end
slice_bounds-mix-end c =
    sym (front_long _ _ (front_fits _ c.take_opening-v.ensures.numbers_value (numbers-long (goal.at.slice_bounds-mix-end c).After-fixed-f) _))

pub slice_bounds-mix-end-2 : goal.slice_bounds-mix-end-2
slice_bounds-mix-end-2 c =
    omega (arith, (sized (goal.at.slice_bounds-mix-end-2 c).After-fixed-f).state-long)

pub mix-requires : goal.mix-requires
mix-requires c =
    let a = c.args in
    let z = sized (goal.at.mix-requires c).After-fixed-f in
    let v = c.take_opening-v.ensures in
    let w = secrets-small a.scheme a.s1.now a.e1.now a.e2.now (sym c.in_ok-reply_secrets.ensures) in record {
      counted = (
        message-counted a.scheme (opened_in a.scheme a.opening.now) (front-is _ v.numbers_value (numbers-long (goal.at.mix-requires c).After-fixed-f) _) v.value c.in-Ok.is,
        part-long 3 64 a.state.now (omega (arith, z.state-long)) ∙ sym (numbers-in a.scheme c.requires.scheme_value.0).mixed,
      );
      small = (record { long = z.secret-long; within = w.0 }, record { long = z.last-long; within = w.2 });
    }

pub lay_state-requires : goal.lay_state-requires
lay_state-requires c =
    let a = c.args in
    let z = sized (goal.at.lay_state-requires c).After-fixed-f in
    let h = numbers-in a.scheme c.requires.scheme_value.0 in
    let n = (fixed_of a.scheme).n in
    rw c.fixed-f.ensures
    (record {
      sized = (
        record {
          some = h.some;
          few = h.few;
          sixteens = (frodos a.scheme c.requires.scheme_value.0).sixteens;
          long = keeping-long n a.state.now z.state-long c.requires.scheme_value.1 c.mix.ensures (value-long (goal.at.lay_state-requires c).After-fixed-f _);
        },
        refl,
        keeping-is n a.state.now z.state-long c.requires.scheme_value.1 c.mix.ensures (value-long (goal.at.lay_state-requires c).After-fixed-f _),
      );
      s_len = (z.secret-long ∙ h.secret, z.noise-long ∙ h.noise);
    })

-- a refused opening
pub returns-in_default : goal.returns-in_default
unfolding reply_begin_rest
returns-in_default c =
    let a = c.args in
    let e = c.in_default.is in
    let u = unpacked a.scheme a.opening.now c.requires.scheme_value.0 c.take_opening-v.ensures.value in
    record { value = e ∙ sym (failed _ u e); state_value_2 = ap (λ (v : Verdict). if_passed v (reply_state (Some a.scheme) (reply_begin_of a.opening.now a.s1.now a.e1.now a.e2.now)) a.state.now) (sym e) }

pub returns-in_err-reply_secrets : goal.returns-in_err-reply_secrets
unfolding reply_begin_rest
returns-in_err-reply_secrets c =
    let u = unpacked c.args.scheme c.args.opening.now c.requires.scheme_value.0 c.take_opening-v.ensures.value in
    rw (given_up _ c.from_residual.ensures)
    (record { value = c.in_err-reply_secrets.ensures ∙ sym (went_on _ u c.in-Ok.is); state_value_2 = refl })

pub returns : goal.returns
unfolding reply_begin_rest reply_state value_of
returns c =
    let a = c.args in record {
      value = c.in_ok-reply_secrets.ensures ∙ sym (went_on _ (unpacked a.scheme a.opening.now c.requires.scheme_value.0 c.take_opening-v.ensures.value) c.in-Ok.is);
      state_value_2 = c.lay_state.ensures
          ∙ ap (λ (v : List ℕ). laid (fresh Call.Reply a.scheme v a.s1.now a.e1.now))
          (keeping-kept (fixed_of a.scheme).n a.state.now (sized (goal.at.returns c).After-fixed-f).state-long c.requires.scheme_value.1 c.mix.ensures (value-long (goal.at.returns c).After-fixed-f _)
          ∙ ap (λ (xs : List ℕ). mixed_value a.scheme xs a.s1.now a.e2.now) (front-is _ c.take_opening-v.ensures.numbers_value (numbers-long (goal.at.returns c).After-fixed-f) _));
    }
