use Rattle.std.proofs.Common.{◌∙◌}
use Rattle.nonce_store.specs.Texts.{head_of}
use Rattle.nonce_store.proofs.Heads.{filled_number}
use Rattle.nonce_store.proofs.texts.head_of.Goals as goal

pub returns : goal.returns
unfolding head_of
returns c = c.from_be_bytes.ensures
    ∙ filled_number c.args.text.now c.copy_from_slice.new.self c.min-len.result c.min-len.ensures c.copy_from_slice.ensures.after
