-- What is stated in specs/Shown.
--   same-long, own-bytes, peer-bytes   two keys of an exchange are of one length, and bytes
--   never-differ                       those of BCNS are the same
--   differs-is                         so comparing them says what Bench's definition says; same_numbers: and so do the two promises
use Rattle.lists.proofs.Kit.{refl, ◌∙◌, sym, ℕ, length}
use Rattle.std.proofs.Common.{Ok, Err, Some, None, Option, ◌≡◌}
use Rattle.schemes.specs.declared.Scheme.TheVariants.{Bcns, NewHope, Challenge, Classical, Recommended, Paranoid}
use Rattle.schemes.specs.{declared.Scheme.Scheme}
use Rattle.lists.specs.{Ranges.Below, declared.Peak.Peak}
use Rattle.packing.proofs.Laws.{packed-below}
use Rattle.refusals.specs.{Refusals.Verdict, Refusals.pass}
use Rattle.refusals.proofs.Laws.{both}
use Rattle.finish.specs.Finish.{finish_key}
use Rattle.reply.specs.Reply.{reply_key}
use Rattle.agreement.specs.{Run.replying, Run.finishing, Agreement.Near}
use Rattle.agreement.proofs.{Tests.sendable-by, Meeting.keys-meet}
use Rattle.bench.specs.Bench.{Bench, bench_tests, keys_differ, bench_differs, bench_slack, bench_shown}
use Rattle.bench.specs.Shown.{NeverDiffer, differed_before, SameNumbers}
use Rattle.bench.proofs.Differing.{differing-none}
use Rattle.reply.proofs.Replying as reply
use Rattle.finish.proofs.Finishing as finish

module _ (c : Scheme) (x : Bench) where
  pub same-long : length (reply_key (Some c) (replying c x)) ≡ length (finish_key (Some c) (finishing c x))
  same-long = reply.key-length c (replying c x) ∙ sym (finish.key-length c (finishing c x))

  pub own-bytes : Below 256 (reply_key (Some c) (replying c x))
  unfolding reply_key
  own-bytes = packed-below _ _

  pub peer-bytes : Below 256 (finish_key (Some c) (finishing c x))
  unfolding finish_key
  peer-bytes = packed-below _ _

pub never-differ : NeverDiffer
unfolding bench_tests Near
never-differ x e = let t = both _ _ e in keys-meet Bcns x (sendable-by Bcns x _ _ _ t.0 t.1).ranged tt

pub differs-is : (c : Scheme) (x : Bench) → bench_tests (Some c) x ≡ pass → keys_differ c x ≡ bench_differs (Some c) x
unfolding keys_differ bench_differs
differs-is Bcns x e = (differing-none _ _ (same-long Bcns x) (own-bytes Bcns x) (peer-bytes Bcns x)).1 (never-differ x e)
differs-is NewHope x e = refl
differs-is Challenge x e = refl
differs-is Classical x e = refl
differs-is Recommended x e = refl
differs-is Paranoid x e = refl

-- another number for the same verdict, if it is the same wherever nothing is refused
shown-as : (v : Verdict) {a b : ℕ} (p : Peak) → (v ≡ pass → a ≡ b) → bench_shown v a p ≡ bench_shown v b p
unfolding bench_shown
shown-as (Ok _) p h = rw (h refl)
shown-as (Err r) p h = refl

either_way : (c : Option Scheme) (x : Bench) → bench_tests c x ≡ pass → bench_differs c x ≡ differed_before c x
unfolding differed_before bench_differs
either_way None x e = refl
either_way (Some c) x e = sym (differs-is c x e)

pub same_numbers : SameNumbers
same_numbers c x = shown-as (bench_tests c x) (bench_slack c x) (either_way c x)
