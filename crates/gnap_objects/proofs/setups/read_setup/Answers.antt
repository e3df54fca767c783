use Rattle.gnap_objects.proofs.Given.{is_setup}
use Rattle.gnap_objects.proofs.setups.read_setup.Goals as goal

pub returns-clause-setup : goal.returns-clause-setup
returns-clause-setup c = is_setup c.args.text.now c.setup_of.result c.setup_of.ensures.value c.setup_of.ensures.fits
