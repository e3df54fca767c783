-- What is printed of an interaction hash.
use Rattle.std.specs.Prelude.{◌≡◌, ◌⊎◌, ℕ, List, [], ◌∷◌, ◌++◌}
use Rattle.outside.specs.Outside.{Told}
use Rattle.interaction.specs.Hashes.{interaction_hash}
use Rattle.command_inputs.specs.declared.ended.Ended.{Ended}
use Rattle.command_inputs.specs.declared.ended.Ended.TheVariants.{Done, WriteFault, Memory}
use Rattle.printed_answers.specs.declared.hash_lines.HashedTexts.{HashedTexts}
use Rattle.command_inputs.specs.Printing.{PrintsAnswer}

-- the hash of the texts (RFC 9635, section 4.2.3), and LF
abbrev pub hash_line : HashedTexts → List ℕ
hash_line texts = interaction_hash texts.long texts.client_nonce texts.server_nonce texts.reference texts.endpoint ++ 10 ∷ []

-- The line was printed, as far as that went: all of it, or a beginning where a write failed, or nothing for want of memory.
abbrev pub PrintsHash : HashedTexts → Told → Told → Ended → Type 0
PrintsHash texts before after ended =
    PrintsAnswer (λ line. line ≡ hash_line texts) (λ line. ⊥) before after ended × ((ended ≡ Done) ⊎ (ended ≡ WriteFault) ⊎ (ended ≡ Memory))
