-- `settings::write` meets its contract: the output is zeroed first, and the lines written over zeros where nothing is refused.
use Rattle.lists.proofs.Kit.{sym, length}
use Rattle.lists.proofs.Same.{zeros-long}
use Rattle.refusals.proofs.Ends.{given_up}
use Rattle.settings.specs.Settings.{setup_of}
use Rattle.settings.proofs.{Store.accepted, Store.write-refused, Store.write_done}
use Rattle.settings.proofs.write.Goals as goal

pub write_lines-requires : goal.write_lines-requires
write_lines-requires c = (accepted (sym c.in_ok-write_tests.ensures)).fits

pub returns-in_err-write_tests : goal.returns-in_err-write_tests
returns-in_err-write_tests c =
    let z = c.fill.ensures.after (λ y e. e) in
    rw (given_up _ c.from_residual.ensures)
    (write-refused (setup_of c.args.scheme c.args.rule c.args.label.now) (zeros-long (length c.args.out.now) 0 z) c.in_err-write_tests.ensures z)

pub returns : goal.returns
returns c =
    let z = c.fill.ensures.after (λ y e. e) in
    write_done (setup_of c.args.scheme c.args.rule c.args.label.now) (zeros-long (length c.args.out.now) 0 z) c.in_ok-write_tests.ensures z
    c.write_lines.ensures
