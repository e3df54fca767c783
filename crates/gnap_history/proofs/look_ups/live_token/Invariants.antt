use Rattle.std.proofs.Common.{◌≡◌, take, reverse}
use Rattle.std.specs.Prelude.{option_map, ◌&&◌}
use Rattle.gnap_model.specs.Common.{first_of, same_text}
use Rattle.gnap_model.specs.Standing.{token_in, is_live}
use Rattle.gnap_history.proofs.look_ups.live_token.Given as goal

abbrev pub invariant-loop-note : goal.invariant-loop-note
invariant-loop-note l = option_map (λ t. t.now) l.found
    ≡ first_of (token_in (λ t. same_text t.value l.value && is_live (reverse l.notes) l.now t)) (reverse (take l.note-index l.notes))
