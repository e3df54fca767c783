-- The keys of a setup as secrets under ids.
use Rattle.std.specs.Prelude.{List, map}
use Rattle.gnap_model.specs.Common.{Text}
use Rattle.gnap_model.specs.declared.objects.Setup.{Setup}

-- the id and the secret of each key, and no others
abbrev pub secrets_of : Setup → List (Text × Text)
secrets_of setup = map (λ k. (k.id, k.secret)) setup.keys
