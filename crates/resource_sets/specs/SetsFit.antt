-- Replies and notes that can be shown: their texts are UTF-8, and their rights can be shown.
use Rattle.std.specs.Prelude.{IsUtf8}
use Rattle.std.specs.List.{AllByRecursion}
use Rattle.access_rights.specs.Fits.{Fits}
use Rattle.resource_sets.specs.Sets.{SetReply, SetNote}
use Rattle.resource_sets.specs.declared.sets.SetReply.TheVariants.{Registered, Resolved, Error, Lapsed}

abbrev pub SetReplyFits : SetReply → Type 0
SetReplyFits (Registered reference) = IsUtf8 reference
SetReplyFits (Resolved server rights) = IsUtf8 server × AllByRecursion Fits rights
SetReplyFits (Error code) = Unit {0}
SetReplyFits Lapsed = Unit {0}

pub record SetNoteFits (note : SetNote) : Type 0 where
  pub server : IsUtf8 note.server
  pub rights : AllByRecursion Fits note.rights
  pub reference : IsUtf8 note.reference
