use Rattle.std.proofs.Common.{◌≡◌, ◌≤◌, take, reverse, length}
use Rattle.std.specs.Prelude.{option_map, IfSome}
use Rattle.gnap_model.specs.Standing.{terms_of}
use Rattle.gnap_history.proofs.note_list.last_terms.Given as goal

abbrev pub invariant-loop-note : goal.invariant-loop-note
invariant-loop-note l = record {
  terms : option_map (λ t. t.now) l.found ≡ terms_of (reverse (take l.note-index l.notes)) l.grant;
  few : IfSome l.found (λ t. length t.now.asks ≤ 8);
}
