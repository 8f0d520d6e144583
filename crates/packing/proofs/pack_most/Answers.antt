-- `packing::pack_most` meets its contract: each arm is the groups at its width.
use Rattle.lists.proofs.Kit.{ℕ, mul-zero, arith, length}
use Rattle.std.proofs.Common.{◌≡◌, ◌*◌, ◌^◌, ◌<◌}
use Rattle.lists.specs.Ranges.{Below}
use Rattle.packing.specs.Packing.{digits}
use Rattle.packing.proofs.pack_most.Goals as goal
use Rattle.packing.proofs.pack_most.Goals.{Start}

-- what the groups ask, at a width that is known
asks : (s : Start) {k : ℕ} → s.args.w ≡ k → k < 16
    → record { w_nonzero : (0 < k) × (k < 16) × Below (2 ^ k) s.args.xs.now; xs_value : k * length s.args.xs.now ≡ 8 * length s.args.out.now }
asks s e l = record { w_nonzero = (omega arith, l, rw e at s.requires.w_nonzero.2); xs_value = rw e at s.requires.xs_value }

pub pack_words-requires : goal.pack_words-requires
pack_words-requires c =
    record { below = rw c.in-32.is at c.requires.w_nonzero.2; xs_value = rw c.in-32.is at c.requires.xs_value }

-- no group, no byte
pub returns-in_default : goal.returns-in_default
unfolding digits
returns-in_default c = (omega arith, simp mul-zero)

pub pack_groups-requires : goal.pack_groups-requires
pack_groups-requires c = asks (goal.at.pack_groups-requires c).Start c.in-1.is (omega arith)

pub pack_groups-requires-in-2 : goal.pack_groups-requires-in-2
pack_groups-requires-in-2 c = asks (goal.at.pack_groups-requires-in-2 c).Start c.in-2.is (omega arith)

pub pack_groups-requires-in-4 : goal.pack_groups-requires-in-4
pack_groups-requires-in-4 c = asks (goal.at.pack_groups-requires-in-4 c).Start c.in-4.is (omega arith)

pub pack_groups-requires-in-11 : goal.pack_groups-requires-in-11
pack_groups-requires-in-11 c = asks (goal.at.pack_groups-requires-in-11 c).Start c.in-11.is (omega arith)

pub pack_groups-requires-in-12 : goal.pack_groups-requires-in-12
pack_groups-requires-in-12 c = asks (goal.at.pack_groups-requires-in-12 c).Start c.in-12.is (omega arith)

pub pack_groups-requires-in-14 : goal.pack_groups-requires-in-14
pack_groups-requires-in-14 c = asks (goal.at.pack_groups-requires-in-14 c).Start c.in-14.is (omega arith)

pub pack_groups-requires-in-15 : goal.pack_groups-requires-in-15
pack_groups-requires-in-15 c = asks (goal.at.pack_groups-requires-in-15 c).Start c.in-15.is (omega arith)

pub returns-in-1 : goal.returns-in-1
returns-in-1 c = rw c.in-1.is c.pack_groups.ensures

pub returns-in-2 : goal.returns-in-2
returns-in-2 c = rw c.in-2.is c.pack_groups-in-2.ensures

pub returns-in-4 : goal.returns-in-4
returns-in-4 c = rw c.in-4.is c.pack_groups-in-4.ensures

pub returns-in-11 : goal.returns-in-11
returns-in-11 c = rw c.in-11.is c.pack_groups-in-11.ensures

pub returns-in-12 : goal.returns-in-12
returns-in-12 c = rw c.in-12.is c.pack_groups-in-12.ensures

pub returns-in-14 : goal.returns-in-14
returns-in-14 c = rw c.in-14.is c.pack_groups-in-14.ensures

pub returns-in-15 : goal.returns-in-15
returns-in-15 c = rw c.in-15.is c.pack_groups-in-15.ensures

pub returns-in-32 : goal.returns-in-32
returns-in-32 c = rw c.in-32.is c.pack_words.ensures
