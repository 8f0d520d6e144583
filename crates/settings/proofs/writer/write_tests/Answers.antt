-- `settings::writer::write_tests` meets its contract.
use Rattle.lists.proofs.Kit.{◌∙◌, sym}
use Rattle.refusals.proofs.{Laws.up-to-passed, Ends.given_up}
use Rattle.settings.specs.Settings.{setup_of}
use Rattle.settings.proofs.{Store.known-fails, Store.length-fails, Store.room-fails, Store.tests-go-on}
use Rattle.settings.proofs.writer.write_tests.Goals as goal

pub returns-in_err-known : goal.returns-in_err-known
returns-in_err-known c = given_up _ c.from_residual.ensures ∙ known-fails (setup_of c.args.scheme c.args.rule c.args.label.now) c.args.room c.in_err-known.ensures

pub returns-in_err-length_up_to : goal.returns-in_err-length_up_to
returns-in_err-length_up_to c =
    given_up _ c.from_residual-in_err-length_up_to.ensures ∙ length-fails (setup_of c.args.scheme c.args.rule c.args.label.now) c.args.room c.in_ok-known.ensures c.in_err-length_up_to.ensures

pub size-requires : goal.size-requires
size-requires c = up-to-passed _ 16 (sym c.in_ok-length_up_to.ensures)

pub returns-in_err-room_for : goal.returns-in_err-room_for
returns-in_err-room_for c =
    given_up _ c.from_residual-in_err-room_for.ensures
    ∙ room-fails (setup_of c.args.scheme c.args.rule c.args.label.now) c.args.room c.in_ok-known.ensures c.in_ok-length_up_to.ensures c.size.ensures c.in_err-room_for.ensures

pub returns : goal.returns
returns c =
    tests-go-on (setup_of c.args.scheme c.args.rule c.args.label.now) c.args.room c.in_ok-known.ensures c.in_ok-length_up_to.ensures c.size.ensures c.in_ok-room_for.ensures c.label_in.ensures
