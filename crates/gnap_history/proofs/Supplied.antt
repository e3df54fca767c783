-- What an entry draws, by what it draws on without the notes.
use Rattle.std.proofs.Common.{ℕ, ◌≡◌, refl, Option, Some, None}
use Rattle.gnap_model.specs.Common.{Text, some_if}
use Rattle.gnap_model.specs.Asked.{wants_code}
use Rattle.gnap_model.specs.Values.{drawn}
use Rattle.gnap_model.specs.Actions.{Supply, drawn_value, token_for, round_for, finish_of}
use Rattle.gnap_model.specs.declared.objects.Ask.{Ask}
use Rattle.gnap_model.specs.declared.objects.Modes.{Modes}
use Rattle.gnap_model.specs.declared.objects.Finish.{Finish}
use Rattle.gnap_model.specs.declared.notes.OpeningNote.{OpeningNote}
use Rattle.gnap_model.specs.declared.notes.RoundNote.{RoundNote}
use Rattle.grant_rules.specs.declared.supply.Supply.{Supply as EntrySupply}
use Rattle.grant_rules.specs.Drawn.{token_drawn, round_drawn, finish_told}
use Rattle.grant_rules.specs.UserCodes.{code_for}

-- both have the same moment, first serial and words
pub record IsSupply (entry : EntrySupply) (supply : Supply) : Type 0 where
  pub moment : entry.moment ≡ supply.now
  pub first : entry.first ≡ supply.first
  pub words : entry.words.now ≡ supply.words

pub value_is : (entry : EntrySupply) (supply : Supply) (index : ℕ) → IsSupply entry supply → drawn entry.first entry.words.now index ≡ drawn_value supply index
value_is entry supply index same = rw (same.first, same.words) refl

pub token_is : (entry : EntrySupply) (supply : Supply) (opening : OpeningNote) (key : Text) (ask : Ask) (index : ℕ) → IsSupply entry supply
    → token_drawn entry opening.grant key opening.end ask index ≡ record (token_for supply opening ask index) { key = key }
token_is entry supply opening key ask index same = rw (same.moment, same.first, same.words) refl

pub round_is : (entry : EntrySupply) (supply : Supply) (opening : OpeningNote) (modes : Modes) (code : Option Text) → IsSupply entry supply
    → code ≡ some_if (wants_code modes) (code_for supply)
    → round_drawn entry opening.grant opening.end modes code ≡ round_for supply opening modes
round_is entry supply opening modes code same is = rw (same.moment, same.first, same.words, is) refl

pub finish_is : (entry : EntrySupply) (supply : Supply) (round : RoundNote) (finish : Option Finish) → IsSupply entry supply
    → finish_told entry round.nonce finish ≡ finish_of supply round finish
finish_is entry supply round None same = refl
finish_is entry supply round (Some finish) same = rw (same.first, same.words) refl
