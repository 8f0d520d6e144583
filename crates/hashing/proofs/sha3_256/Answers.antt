-- `hashing::sha3_256` meets its contract: the output is zeroed first, and its front written over where nothing is refused.
use Rattle.lists.proofs.Kit.{sym, length}
use Rattle.lists.proofs.{Same.zeros-long, Parts.front_long}
use Rattle.refusals.proofs.Ends.{given_up}
use Rattle.hashing.proofs.{Hashed.digest-refused, Hashed.digest-done, Hashed.room-enough}
use Rattle.hashing.proofs.sha3_256.Goals as goal

pub slice_bounds-sha3_256-end : goal.slice_bounds-sha3_256-end
slice_bounds-sha3_256-end c = room-enough _ _ c.in_ok-digest_tests.ensures

pub sha3_256-requires : goal.sha3_256-requires
sha3_256-requires c = front_long 32 c.fill.new.self (room-enough _ _ c.in_ok-digest_tests.ensures)

pub slice_bounds-sha3_256-end-2 : goal.slice_bounds-sha3_256-end-2
slice_bounds-sha3_256-end-2 c = sym (front_long 32 c.fill.new.self (room-enough _ _ c.in_ok-digest_tests.ensures))

pub returns-in_err-digest_tests : goal.returns-in_err-digest_tests
returns-in_err-digest_tests c =
    let z = c.fill.ensures.after (λ y e. e) in
    rw (given_up _ c.from_residual.ensures)
    (digest-refused c.args.input.now (zeros-long (length c.args.out.now) 0 z) c.in_err-digest_tests.ensures z)

pub returns : goal.returns
returns c =
    let z = c.fill.ensures.after (λ y e. e) in
    digest-done c.args.input.now (zeros-long (length c.args.out.now) 0 z) c.fill.new.self c.in_ok-digest_tests.ensures z c.sha3_256.ensures
