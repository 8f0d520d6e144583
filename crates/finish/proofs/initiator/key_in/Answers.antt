-- `finish::initiator::key_in` meets its contract: a test that has failed ends the call, and otherwise the rest of the tests decides.
use Rattle.std.proofs.Common.{Some}
use Rattle.lists.proofs.Kit.{sym, ap, ◌∙◌, List, ℕ, arith, length, drop, replicate}
use Rattle.std.proofs.Common.{◌≡◌, ◌++◌, ◌≤◌}
use Rattle.schemes.specs.{Schemes.fixed_of, declared.Fixed.Fixed, declared.Scheme.Scheme}
use Rattle.lists.specs.declared.Peak.{Peak}
use Rattle.lists.proofs.Parts.{front_long}
use Rattle.refusals.specs.{Seen.if_passed, Refusals.Verdict}
use Rattle.refusals.proofs.{Steps.blank-front}
use Rattle.finish.specs.{Finish.Finish, Finish.finish, Finish.finish_key, Finish.finish_slack, Inside.finish_rest}
use Rattle.finish.proofs.{Finishing.finish-sized, Finishing.laid-front}
use Rattle.finish.proofs.initiator.key_in.Goals as goal

module _ (s : Scheme) (x : Finish) where
  abbrev rest : Verdict
  rest = finish_rest s x

  abbrev key : List ℕ
  key = finish_key (Some s) x

  abbrev slack : Peak
  slack = finish_slack (Some s) x

-- the part that the key takes, of room m
module _ (s : Scheme) {f : Fixed} (d : f ≡ fixed_of s) where
  long : f.key ≡ (fixed_of s).key
  long = ap (λ (g : Fixed). g.key) d

  roomy : {m : ℕ} → (fixed_of s).key ≤ m → f.key ≤ m
  roomy h = omega (arith, long, h)

pub slice_bounds-with_reply-end : goal.slice_bounds-with_reply-end
slice_bounds-with_reply-end c =
    let z = finish-sized c.args.scheme (finish c.args.reply.now c.args.s.now) (length c.args.key.now) c.requires.key_value in
    roomy c.args.scheme c.fixed-f.ensures z.2

pub slice_bounds-with_reply-end-2 : goal.slice_bounds-with_reply-end-2
slice_bounds-with_reply-end-2 c =
    let z = finish-sized c.args.scheme (finish c.args.reply.now c.args.s.now) (length c.args.key.now) c.requires.key_value in
    sym (front_long _ c.args.key.now (roomy c.args.scheme c.fixed-f.ensures z.2))

pub with_reply-requires : goal.with_reply-requires
with_reply-requires c =
    let z = finish-sized c.args.scheme (finish c.args.reply.now c.args.s.now) (length c.args.key.now) c.requires.key_value in (
      record {
        reply-long = z.0;
        secret-long = z.1;
        key-blank = blank-front _ 0 _ (roomy c.args.scheme c.fixed-f.ensures z.2) c.requires.key_value_2 ∙ ap (λ (n : ℕ). replicate n 0) (long c.args.scheme c.fixed-f.ensures);
      },
      ap (λ (g : Fixed). g.secret) c.fixed-f.ensures,
    )

pub returns : goal.returns
returns c =
    let s = c.args.scheme in
    let x = finish c.args.reply.now c.args.s.now in
    let old = c.args.key.now in record {
      value = c.with_reply.ensures.value;
      laid = laid-front (rest s x) (key s x) old c.fixed-f.result.key c.with_reply.ensures.laid
          ∙ ap (λ (k : ℕ). if_passed (rest s x) (key s x ++ drop k old) old) (long c.args.scheme c.fixed-f.ensures);
    }
