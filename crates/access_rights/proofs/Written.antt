-- The text that is written for the other members of a right.
use Rattle.std.proofs.Common.{◌≡◌, ◌≤◌, ℕ, List, [], ◌∷◌, false, Option, Some, option_and_then, append-nil, refl, sym, ap, ◌∙◌, arith}
use Rattle.json.specs.Token.{Token, begin_object}
use Rattle.json.specs.Lex.{tokens}
use Rattle.json.specs.Print.{print}
use Rattle.json.specs.Json as json
use Rattle.serde_json.specs.Data.{Data, object, Members, depth}
use Rattle.serde_json.specs.Read.{of_json, read, max_depth}
use Rattle.serde_json.specs.Written.{members_have_float, WritesValue, WritesMembers}
use Rattle.serde_json.proofs.Texts.{tokens_from_order, print-outline}
use Rattle.json.proofs.Printed.Trees.{value-json_tokens}
use Rattle.access_rights.specs.Reading.{others, further_of}
use Rattle.access_rights.proofs.Others.{others_whole}
use Rattle.access_rights.proofs.WrittenParts.{object_written}

abbrev whole : Option (json.Json × List Token) → Option Data
whole o = option_and_then of_json (option_and_then (λ p. json.if_last p.0 p.1) o)

module _ (ms : Members) (begun ts : List Token) (text : List ℕ) (opened : begun ≡ begin_object ∷ []) (w : WritesMembers (others ms) begun ts)
    (printed : text ≡ print ts) (same : tokens (print ts) ≡ ts) where
  written : WritesValue (object (others ms)) [] ts
  written = object_written (others ms) _ [] begun ts refl opened w

  lexed : tokens text ≡ ts
  lexed = ap tokens printed ∙ same

  pub text_is : members_have_float ms ≡ false → text ≡ further_of ms
  text_is whole = printed ∙ ap print (sym lexed ∙ tokens_from_order text (object (others ms)) (written.0, lexed ∙ written.1, written.4) (others_whole ms whole))
      ∙ print-outline (object (others ms))

  pub text_reads : depth (object (others ms)) ≤ max_depth → read text ≡ Some (object (others ms))
  text_reads shallow = ap whole (ap (json.value max_depth) (lexed ∙ written.1 ∙ sym (append-nil _))
      ∙ value-json_tokens written.0 max_depth [] (omega (arith, written.3, shallow))) ∙ written.2
