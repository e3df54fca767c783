use Rattle.std.proofs.Common.{sym, subst}
use Rattle.std.specs.Str.{IsUtf8}
use Rattle.std.proofs.lemmas.Str.{IsUtf8-string_bytes}
use Rattle.gnap_replies.proofs.grants.print_interaction_page.Goals as goal

pub string-requires : goal.string-requires
string-requires c = subst IsUtf8 (sym c.as_bytes.ensures.value) (IsUtf8-string_bytes c.in-Ok.uri)
