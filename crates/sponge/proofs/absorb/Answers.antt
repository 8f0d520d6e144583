-- `sponge::absorb` meets its contract: whole blocks of the message, then the last one.
use Rattle.lists.proofs.Kit.{sym, subst, arith, length, length-take, length-drop}
use Rattle.std.proofs.Common.{◌≡◌, ◌/◌}
use Rattle.lists.proofs.Parts.{slice-long}
use Rattle.sponge.specs.Fit.{WholeLanes}
use Rattle.sponge.proofs.Absorbing.{block-fits, left-over, absorb-none, absorb-more, absorb-all}
use Rattle.sponge.proofs.absorb.Goals as goal

pub xor_block-x-requires : goal.xor_block-x-requires
xor_block-x-requires c =
    let h = block-fits c.args.rate c.loop-j.j (length c.args.input.now) c.loop-j-test.true in
    subst WholeLanes (sym (slice-long _ c.args.rate c.args.input.now h)) c.requires.0.lanes

pub loop-j-init : goal.loop-j-init
loop-j-init c = absorb-none _ _ _

pub loop-j-preserved : goal.loop-j-preserved
loop-j-preserved c =
    let h = block-fits c.args.rate c.loop-j.j (length c.args.input.now) c.loop-j-test.true in
    absorb-more c.loop-j.invariant c.xor_block-x.result c.permute-y.result h c.xor_block-x.ensures c.permute-y.ensures

pub absorb_rest-requires : goal.absorb_rest-requires
absorb_rest-requires c =
    let h = left-over c.args.rate (length c.args.input.now) c.requires.0.some in
    (simp (length-take, length-drop) (omega (arith, h)), c.requires.1, c.requires.0)

pub returns : goal.returns
returns c =
    let n = length c.args.input.now in
    let e : c.loop-j.j ≡ n / c.args.rate = omega arith in
    absorb-all (rw e at c.loop-j.invariant) c.absorb_rest.result (left-over c.args.rate n c.requires.0.some) c.absorb_rest.ensures
