-- `margins::frodo` is safe: the fixed numbers of every scheme are what a run asks for.
use Rattle.std.proofs.Common.{arith}
use Rattle.schemes.specs.Schemes.{fixed_of}
use Rattle.schemes.proofs.Sound.{sound}
use Rattle.margins.proofs.Numbers.{quarter-lt}
use Rattle.margins.proofs.frodo.Goals as goal

pub overflow_shr-quarter : goal.overflow_shr-quarter
overflow_shr-quarter g c = rw c.fixed-f.ensures (omega (arith, (sound c.args.scheme).key-room))

pub frodo_run-requires : goal.frodo_run-requires
frodo_run-requires g c =
    let f = sound c.args.scheme in
    let h = quarter-lt (fixed_of c.args.scheme).keybits f.q-word in
    rw c.fixed-f.ensures (omega arith, f.some, f.noisy, omega (arith, f.small), f.publics, f.secrets)

pub overflow_add-quarter : goal.overflow_add-quarter
overflow_add-quarter g c =
    let h = quarter-lt (fixed_of c.args.scheme).keybits (sound c.args.scheme).q-word in
    rw c.fixed-f.ensures (record { fits = omega arith })

pub frodo_run-requires-2 : goal.frodo_run-requires-2
frodo_run-requires-2 g c =
    let f = sound c.args.scheme in
    rw c.fixed-f.ensures (quarter-lt (fixed_of c.args.scheme).keybits f.q-word, f.some, f.noisy, omega (arith, f.small), f.publics, f.secrets)
