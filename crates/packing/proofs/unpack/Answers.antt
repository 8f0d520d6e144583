-- `packing::unpack` meets its contract: the groups, and then the rest.
use Rattle.packing.proofs.unpack.Goals as goal

pub unpack_rest-requires : goal.unpack_rest-requires
unpack_rest-requires c =
    record { w_nonzero = c.requires.w_nonzero; bytes_value = rw c.unpack_most-done.auto.out c.requires.bytes_value; done_in_bounds = c.unpack_most-done.ensures }

pub returns : goal.returns
returns c =
    rw (← c.unpack_most-done.auto.out) c.unpack_rest.ensures
