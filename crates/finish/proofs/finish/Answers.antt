-- `finish::finish` meets its contract: the outputs are zeroed first, and then hold what the scheme by its name gives, by the verdict of all tests.
use Rattle.std.proofs.Common.{Ok, Some, ◌≡◌, ◌≤◌, ◌++◌}
use Rattle.lists.proofs.Kit.{refl, sym, ap, ◌∙◌, List, ℕ, length, drop, replicate}
use Rattle.schemes.specs.{Schemes.fixed_of, declared.Fixed.Fixed, declared.Scheme.Scheme}
use Rattle.lists.specs.declared.Peak.{Peak}
use Rattle.lists.proofs.{Parts.front_long, Same.zeros-long}
use Rattle.sponge.proofs.Output.{sha3-length}
use Rattle.refusals.specs.{Steps.Laid, Steps.outcome, Refusals.◌then◌, Refusals.room_for_lem, declared.Refusal.TheVariants.NoScheme}
use Rattle.refusals.proofs.{Ends.given_up, Laws.room-passed, Seen.written-passed, Steps.passed-by, Steps.failed-by}
use Rattle.finish.specs.Finish.{Finish, finish, finish_rooms, finish_tests, finish_key, finish_slack}
use Rattle.finish.specs.Inside.{finish_sizes_lem, finish_rest}
use Rattle.finish.proofs.Finishing.{key-length, finish-apart, held, held_fits, held-hashed, finish-unknown, finish-refused, finish-done}
use Rattle.finish.proofs.finish.Goals as goal

-- the verdict of all tests, where the outputs were zeroed first
tests : (c : Scheme) (x : Finish) (key digest : List ℕ) {zk zd : List ℕ} → zk ≡ replicate (length key) 0 → zd ≡ replicate (length digest) 0
    → finish_tests (Some c) x (finish_rooms key digest) ≡ finish_sizes_lem c x (length zk) then room_for_lem (length zd) 32 then finish_rest c x
tests c x key digest k d = rw (zeros-long (length key) 0 k, zeros-long (length digest) 0 d) (finish-apart c x (finish_rooms key digest))

pub returns-in_err-known : goal.returns-in_err-known
returns-in_err-known c =
    let v = c.in_err-known.ensures.value in
    rw (given_up _ {e = NoScheme} c.from_residual.ensures)
    (finish-refused _ _ _ (finish-unknown _ _ v.0) v.1 (c.fill.ensures.after (λ y e. e)))

pub returns-in_err-finish_sizes : goal.returns-in_err-finish_sizes
unfolding ◌then◌
returns-in_err-finish_sizes c =
    let v = c.in_ok-known.ensures.value in
    let z = c.fill.ensures.after (λ y e. e) in
    let t = tests c.in_ok-known.known (finish c.args.reply.now c.args.s.now) c.args.key.now c.args.digest.now v.1 z in
    rw (given_up _ c.from_residual-in_err-finish_sizes.ensures, v.0) (finish-refused _ _ _ (t ∙ rw (← c.in_err-finish_sizes.ensures)) v.1 z)

pub returns-in_err-room_for : goal.returns-in_err-room_for
unfolding ◌then◌
returns-in_err-room_for c =
    let v = c.in_ok-known.ensures.value in
    let z = c.fill.ensures.after (λ y e. e) in
    let t = tests c.in_ok-known.known (finish c.args.reply.now c.args.s.now) c.args.key.now c.args.digest.now v.1 z in
    rw (given_up _ c.from_residual-in_err-room_for.ensures, v.0)
    (finish-refused _ _ _ (t ∙ rw (← c.in_ok-finish_sizes.ensures, ← c.in_err-room_for.ensures)) v.1 z)

pub key_in-requires : goal.key_in-requires
key_in-requires c = record { key_value = sym c.in_ok-finish_sizes.ensures; key_value_2 = c.in_ok-known.ensures.out_value }

pub returns-in_err-slack : goal.returns-in_err-slack
unfolding ◌then◌
returns-in_err-slack c =
    let v = c.in_ok-known.ensures.value in
    let z = c.fill.ensures.after (λ y e. e) in
    let x = finish c.args.reply.now c.args.s.now in
    let t = tests c.in_ok-known.known x c.args.key.now c.args.digest.now v.1 z in
    let e = failed-by (finish_rest c.in_ok-known.known x) _ c.in_err-slack.ensures.value refl in
    rw (given_up _ c.from_residual-in_err-slack.ensures, v.0)
    (finish-refused _ _ _ (t ∙ rw (← c.in_ok-finish_sizes.ensures, ← c.in_ok-room_for.ensures) e) (rw e at c.in_err-slack.ensures.laid ∙ v.1) z)

pub returns : goal.returns
unfolding ◌then◌
returns c =
    let s = c.in_ok-known.known in
    let v = c.in_ok-known.ensures.value in
    let z = c.fill.ensures.after (λ y e. e) in
    let x = finish c.args.reply.now c.args.s.now in
    let t = tests s x c.args.key.now c.args.digest.now v.1 z in
    let p = passed-by (finish_rest s x) (finish_slack (Some s) x) c.in_ok-slack.ensures.value refl in
    let e = t ∙ rw (← c.in_ok-finish_sizes.ensures, ← c.in_ok-room_for.ensures) p.0 in
    let long = key-length s x in
    let is = ap (λ (g : Fixed). g.key) c.fixed-f.ensures in
    let key = finish_key (Some s) x in
    let zero = c.in_ok-known.ensures.out_value in
    let laid = c.in_ok-slack.ensures.laid in
    rw v.0
    (finish-done _ _ _ e (written-passed _ _ _ e _ (long ∙ sym is) v.1 (held key zero p.0 is long laid))
    (written-passed _ _ _ e _ (sha3-length _) z (held-hashed key zero p.0 is long laid _ c.lay_digest.ensures)) p.1)

-- the key that was written is all there
fits : (s : Scheme) (x : Finish) {old out : List ℕ} {f : Fixed} {p : Peak} → old ≡ replicate (length old) 0 → f ≡ fixed_of s
    → Ok p ≡ outcome (finish_rest s x) (finish_slack (Some s) x) → Laid (finish_rest s x) (finish_key (Some s) x ++ drop (fixed_of s).key old) old out
    → f.key ≤ length out
fits s x z f v l =
    held_fits (finish_key (Some s) x) z (passed-by (finish_rest s x) (finish_slack (Some s) x) v refl).0 (ap (λ (g : Fixed). g.key) f) (key-length s x) l

pub slice_bounds-lay_digest-end : goal.slice_bounds-lay_digest-end
slice_bounds-lay_digest-end c =
    fits _ (finish c.args.reply.now c.args.s.now) c.in_ok-known.ensures.out_value c.fixed-f.ensures c.in_ok-slack.ensures.value c.in_ok-slack.ensures.laid

pub slice_bounds-lay_digest-end-2 : goal.slice_bounds-lay_digest-end-2
slice_bounds-lay_digest-end-2 c =
    let n = fits _ (finish c.args.reply.now c.args.s.now) c.in_ok-known.ensures.out_value c.fixed-f.ensures c.in_ok-slack.ensures.value c.in_ok-slack.ensures.laid in
    sym (front_long _ _ n)

pub lay_digest-requires : goal.lay_digest-requires
lay_digest-requires c = room-passed _ _ (sym c.in_ok-room_for.ensures)
