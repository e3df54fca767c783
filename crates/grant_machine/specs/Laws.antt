-- What holds of each legal history of the machine that has at most 2 ^ 58 entries.
use Rattle.std.specs.Prelude.{◌≡◌, List, ◌∷◌, ◌++◌}
use Rattle.gnap_model.specs.declared.objects.Setup.{Setup}
use Rattle.gnap_objects.specs.CallsFit.{ReplyFits}
use Rattle.signed_calls.specs.Laws.{SignedHolds}
use Rattle.grant_machine.specs.Gnap.{GnapEntry}

pub record WhatHolds (rules : Setup) (h : List GnapEntry) : Type 0 where
  -- introspections tell of live tokens alone, errors have their causes, drawn values differ, a continuation value succeeds at most once, grants, tokens and
  -- wrong references are within their limits, user codes are free, the new token of a rotation that named a key is that key's, and a mark passes at
  -- most once
  pub signed : SignedHolds rules h
  -- the rights of each reply can be shown, and its other texts are UTF-8
  pub replies_fit : (before : List GnapEntry) (e : GnapEntry) (after : List GnapEntry) → h ≡ before ++ e ∷ after → ReplyFits e.reply
