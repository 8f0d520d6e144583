-- `packing::pack` meets its contract: the groups, and then the rest.
use Rattle.packing.proofs.pack.Goals as goal

pub pack_rest-requires : goal.pack_rest-requires
pack_rest-requires c =
    let same = c.pack_most-done.auto.out in
    record { w_nonzero = c.requires.w_nonzero; xs_value = rw same c.requires.xs_value; done_in_bounds = (rw same c.pack_most-done.ensures.0, c.pack_most-done.ensures.1) }

pub pack_most-done-requires : goal.pack_most-done-requires
pack_most-done-requires c = c.requires

pub returns : goal.returns
returns c = c.pack_rest.ensures
