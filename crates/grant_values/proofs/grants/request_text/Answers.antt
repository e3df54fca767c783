use Rattle.std.proofs.Common.{◌∙◌}
use Rattle.std.specs.Option.{option_copied}
use Rattle.serde_json.specs.View.{view}
use Rattle.grant_values.proofs.WholeRequests.{text_is, text_read}
use Rattle.grant_values.proofs.grants.request_text.Goals as goal

pub returns-clause-value : goal.returns-clause-value
returns-clause-value c =
    c.from_vec.ensures
    ∙ text_is (option_copied c.args.existing) c.args.request.now (view c.in_ok-value.value) _ c.requires.fits c.in_ok-value.ensures c.in_ok-to_vec.ensures.text

pub returns-clause-read : goal.returns-clause-read
returns-clause-read c =
    rw c.from_vec.ensures
    (text_read (option_copied c.args.existing) c.args.request.now (view c.in_ok-value.value) _ c.requires.fits c.in_ok-value.ensures c.in_ok-to_vec.ensures.utf8
    c.in_ok-to_vec.ensures.reads_back)
