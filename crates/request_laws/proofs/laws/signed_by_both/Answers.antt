use Rattle.request_laws.proofs.BothKeys.{signed_by_both}
use Rattle.request_laws.proofs.laws.signed_by_both.Goals as goal

pub returns : goal.returns
returns c = λ setup m moment mark key value new_key e. signed_by_both c.rotation_laws.ensures.says setup m moment mark key value new_key e
