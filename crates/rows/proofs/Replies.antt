-- Reply by rows is Reply on the joined matrix: what is stated of it in specs/Shown.
--   same-reply, early-reply, reply-taken   what is shown
use Rattle.std.proofs.Common.{Err, Some, ◌≡◌, ◌≢◌, ◌++◌}
use Rattle.lists.proofs.Kit.{refl, ◌∙◌, sym, ap, ap₂, List, [], ℕ, length, replicate}
use Rattle.schemes.specs.{Schemes.family_of, Schemes.fixed_of, declared.Family.Family, declared.Scheme.Scheme}
use Rattle.packing.specs.Packing.{packed}
use Rattle.sponge.specs.Sponge.{sha3}
use Rattle.refusals.specs.Refusals.{pass, number_in, ◌then◌, not_blank_lem}
use Rattle.refusals.specs.{Seen.written, Refusals.Verdict, declared.Refusal.TheVariants.OutOfTurn}
use Rattle.refusals.proofs.Laws.{number-zero, both, failed, then-assoc, length-passes, publics-passed, turn-passed, below-passes, all_pass}
use Rattle.values.specs.{Fit.Counted, Keys.hints, Values.replied}
use Rattle.values.proofs.{Numbers.numbers-in, Ranges.mixed-counted}
use Rattle.wire.specs.{Wire.opened_in, Wire.coins_in, Steps.reply_secrets_lem, Steps.key_by}
use Rattle.reply.specs.Reply.{Reply, ReplyRooms, reply, reply_tests, opened_of, replied_part, reply_value, reply_message, reply_key, outputs}
use Rattle.reply.specs.Inside.{reply_lengths_lem, reply_last, reply_rest}
use Rattle.reply.proofs.Replying.{Sized, reply-sized, reply-apart}
use Rattle.rows_state.specs.{State.long, State.named, Part.state_shown, declared.Call.Call}
use Rattle.rows_state.proofs.Tests.{below_all, frodos}
use Rattle.rows.specs.Reply.{ReplyBegin, reply_begin_tests, value_of, reply_state, reply_begin_result, reply_end_tests, reply_end_message, reply_end_key}
use Rattle.rows.specs.Runs.{Parts, joined, WithinRows, ReplyAccepted}
use Rattle.rows.specs.{Offer.sent_part, Inside.reply_begin_sizes, Inside.reply_begin_rest, Shown.SameReply, Shown.EarlyReply, Shown.ReplyTaken}
use Rattle.rows.proofs.Fresh.{Starts, Left, left, fill, in-turn, has_all, too-early}
use Rattle.rows.proofs.Replying.{begin-sized, begin-apart, opened-tests}
use Rattle.rows.proofs.{Ends.not-refused, Ends.by-frodo, Shown.took-parts}
use Rattle.rows.proofs.Replying as rows

-- ---- verdicts and outputs

chain : (i r s t b l p o c b' : Verdict) → i ≡ pass → l ≡ pass → p ≡ pass → o ≡ pass → c ≡ pass → b ≡ b'
    → i then r then s then t then b ≡ l then r then s then t then p then (o then (c then b'))
unfolding ◌then◌
chain i r s t b l p o c b' e f g h k d = rw (e, f, g, h, k, d) (sym (then-assoc (r then s then t) pass b'))

-- ---- after a good begin

module _ (c : Scheme) (x : ReplyBegin) (m : ℕ) (frodo : family_of c ≡ Family.Frodo) (good : (reply_begin_result (Some c) x m).number ≡ 0) where
  abbrev first : List ℕ
  first = (reply_begin_result (Some c) x m).state

  passes : (reply_begin_sizes c x m ≡ pass) × (reply_begin_rest c x ≡ pass)
  passes = both _ _ (sym (begin-apart c x m) ∙ (not-refused _ _ good).0)

  sized : rows.Sized c x m
  sized = begin-sized c x m passes.0

  rest : (not_blank_lem (opened_in c x.opening) ≡ pass) × (reply_secrets_lem c x.s' x.e' x.e'' ≡ pass)
  unfolding reply_begin_rest
  rest = both _ _ passes.1

  value : Counted (fixed_of c).mixed (fixed_of c).q (value_of c x)
  unfolding value_of
  value = mixed-counted c _ x.s' x.e''

  begins : Starts Call.Reply c (value_of c x) x.s' x.e' first
  unfolding reply_state
  begins =
      record {
        frodo = frodo;
        kept-long = value.long ∙ (numbers-in c frodo).mixed;
        kept_in = below_all (fixed_of c).q (value_of c x) value.below;
        secret-long = sized.secret-long;
        noise-long = sized.noise-long;
        is = (not-refused (reply_state (Some c) x) (replicate m 0) good).1;
      }

  -- ---- and any parts

  module _ (a last : List ℕ) (parts : Parts Call.Reply first a last) where
    walk : Left Call.Reply c (value_of c x) x.s' x.e' a last
    walk = left begins parts

    early : (m : ReplyRooms) → length a ≢ (fixed_of c).public → reply_end_tests (named last) last m ≡ Err OutOfTurn
    unfolding reply_end_tests
    early m h =
        ap (λ d. reply_end_tests d last m) walk.is-named ∙ failed _ refl (failed _ refl (failed _ refl (failed _ refl (too-early frodo walk h))))

    -- ---- all of A has come

    module _ (all : length a ≡ (fixed_of c).public) where
      sent : sent_part c last ≡ replied_part c a x.s' x.e'
      unfolding replied
      sent = ap (packed (fixed_of c).width) (walk.sums all ∙ sym (by-frodo _ _ _ frodo))

      abbrev whole : Reply
      whole = reply x.opening a x.s' x.e' x.e'' []

      lengths : reply_lengths_lem c whole ≡ pass
      unfolding reply_lengths_lem
      lengths =
          all_pass
          (all_pass
          (all_pass
          (all_pass (all_pass (length-passes sized.opening-long) (length-passes all)) (length-passes sized.secret-long)) (length-passes sized.noise-long))
          (length-passes sized.last-long))
          (length-passes (sym (frodos c frodo).coins))

      same_tests : (m : ReplyRooms) → reply_end_tests (named last) last m ≡ reply_tests (Some c) whole m
      unfolding reply_end_tests reply_rest reply_last opened_of
      same_tests m =
          ap (λ d. reply_end_tests d last m) walk.is-named
          ∙ chain _ _ _ _ _ _ _ _ _ _ (in-turn frodo walk all) lengths (below-passes walk.below)
          (opened-tests c frodo (opened_in c x.opening) ∙ rest.0) rest.1 (ap not_blank_lem sent)
          ∙ sym (reply-apart c whole m)

      same-message : reply_end_message (named last) last ≡ reply_message (Some c) whole
      unfolding reply_end_message reply_message reply_value opened_of value_of
      same-message =
          ap (λ d. reply_end_message d last) walk.is-named
          ∙ ap₂ (λ (u v : List ℕ). u ++ packed (fixed_of c).hintbits (hints c (coins_in c []) v)) sent walk.kept-is

      same_key : reply_end_key (named last) last ≡ reply_key (Some c) whole
      unfolding reply_end_key reply_key reply_value opened_of value_of
      same_key =
          ap (λ d. reply_end_key d last) walk.is-named ∙ ap (λ (v : List ℕ). key_by c v []) walk.kept-is

-- ---- what is shown

pub same-reply : SameReply
same-reply c x a m t frodo (n, r) all =
    let s = same_tests c x n frodo r.begins a r.last r.parts all m in
    let o = same-message c x n frodo r.begins a r.last r.parts all in
    let i = same_key c x n frodo r.begins a r.last r.parts all in
    r.ends ∙ rw (s, o, i)

pub early-reply : EarlyReply
unfolding outputs written
early-reply c x a m t frodo (n, r) some =
    let l = r.last in
    r.ends
    ∙ ap (λ (v : Verdict). outputs v (reply_end_message (named l) l) (reply_end_key (named l) l) (sha3 (reply_end_key (named l) l)) m)
    (early c x n frodo r.begins a l r.parts m some)

-- ---- nothing is refused

module _ (c : Scheme) (x : ReplyBegin) (ps : List (List ℕ)) (m : ReplyRooms) (frodo : family_of c ≡ Family.Frodo) where
  abbrev joint : Reply
  joint = reply x.opening (joined ps) x.s' x.e' x.e'' []

  abbrev size : ℕ
  size = long (fixed_of c).n

  begin-passes : Sized c joint m → reply_rest c joint ≡ pass → reply_begin_tests (Some c) x size ≡ pass
  unfolding reply_begin_sizes reply_begin_rest reply_rest reply_last opened_of
  begin-passes s t =
      let r = both _ _ t in
      begin-apart c x size
      ∙ all_pass
      (all_pass
      (all_pass (all_pass (all_pass (length-passes s.opening-long) (length-passes s.secret-long)) (length-passes s.noise-long)) (length-passes s.last-long))
      (length-passes refl))
      (all_pass (sym (opened-tests c frodo (opened_in c x.opening)) ∙ r.0) (both _ _ r.1).0)

  by_parts : reply_tests (Some c) joint m ≡ pass → WithinRows (fixed_of c).n 0 ps → ReplyAccepted c x ps m
  unfolding state_shown outputs
  by_parts t w =
      let o = both _ _ (sym (reply-apart c joint m) ∙ t) in
      let s = reply-sized c joint m (both _ _ o.0).0 in
      let below = publics-passed _ (joined ps) (numbers-in c frodo).q-some (both _ _ o.0).1 in
      let g : (reply_begin_result (Some c) x size).number ≡ 0 = ap number_in (begin-passes s o.1) in
      let k = fill (begins c x size frodo g) ps w below s.public-long in
      record {
        begins = g;
        last = k.0;
        parts = k.1;
        ends = sym (ap number_in (same_tests c x size frodo g (joined ps) k.0 (took-parts k.1) s.public-long m ∙ t));
      }

  as-whole : ReplyAccepted c x ps m → reply_tests (Some c) joint m ≡ pass
  unfolding reply_end_tests outputs
  as-whole a =
      let p = took-parts a.parts in
      let z : reply_end_tests (named a.last) a.last m ≡ pass = number-zero _ a.ends in
      let l = walk c x size frodo a.begins (joined ps) a.last p in
      let o = both _ _ (sym (ap (λ y. reply_end_tests y a.last m) l.is-named) ∙ z) in
      let turn = (both _ _ (both _ _ (both _ _ o.0).0).0).0 in
      let all = has_all frodo l (turn-passed _ turn) in
      sym (same_tests c x size frodo a.begins (joined ps) a.last p all m) ∙ z

pub reply-taken : ReplyTaken
reply-taken c x ps m frodo w = (λ t. by_parts c x ps m frodo t w, as-whole c x ps m frodo)
