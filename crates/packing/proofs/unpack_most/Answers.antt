-- `packing::unpack_most` meets its contract: each arm is the groups at its width.
use Rattle.lists.proofs.Kit.{refl, arith}
use Rattle.packing.specs.Packing.{digits}
use Rattle.packing.proofs.unpack_most.Goals as goal

-- no group, no number
pub returns-in_default : goal.returns-in_default
unfolding digits
returns-in_default c = (omega arith, refl)

pub unpack_groups-requires : goal.unpack_groups-requires
unpack_groups-requires c = rw c.in-1.is at c.requires

pub unpack_groups-requires-in-2 : goal.unpack_groups-requires-in-2
unpack_groups-requires-in-2 c = rw c.in-2.is at c.requires

pub unpack_groups-requires-in-4 : goal.unpack_groups-requires-in-4
unpack_groups-requires-in-4 c = rw c.in-4.is at c.requires

pub unpack_groups-requires-in-11 : goal.unpack_groups-requires-in-11
unpack_groups-requires-in-11 c = rw c.in-11.is at c.requires

pub unpack_groups-requires-in-12 : goal.unpack_groups-requires-in-12
unpack_groups-requires-in-12 c = rw c.in-12.is at c.requires

pub unpack_groups-requires-in-14 : goal.unpack_groups-requires-in-14
unpack_groups-requires-in-14 c = rw c.in-14.is at c.requires

pub unpack_groups-requires-in-15 : goal.unpack_groups-requires-in-15
unpack_groups-requires-in-15 c = rw c.in-15.is at c.requires

pub unpack_groups-requires-in-32 : goal.unpack_groups-requires-in-32
unpack_groups-requires-in-32 c = rw c.in-32.is at c.requires

pub returns-in-1 : goal.returns-in-1
returns-in-1 c = rw c.in-1.is c.unpack_groups.ensures

pub returns-in-2 : goal.returns-in-2
returns-in-2 c = rw c.in-2.is c.unpack_groups-in-2.ensures

pub returns-in-4 : goal.returns-in-4
returns-in-4 c = rw c.in-4.is c.unpack_groups-in-4.ensures

pub returns-in-11 : goal.returns-in-11
returns-in-11 c = rw c.in-11.is c.unpack_groups-in-11.ensures

pub returns-in-12 : goal.returns-in-12
returns-in-12 c = rw c.in-12.is c.unpack_groups-in-12.ensures

pub returns-in-14 : goal.returns-in-14
returns-in-14 c = rw c.in-14.is c.unpack_groups-in-14.ensures

pub returns-in-15 : goal.returns-in-15
returns-in-15 c = rw c.in-15.is c.unpack_groups-in-15.ensures

pub returns-in-32 : goal.returns-in-32
returns-in-32 c = rw c.in-32.is c.unpack_groups-in-32.ensures
