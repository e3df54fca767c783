use Rattle.std.proofs.Common.{codes, map, sym, subst}
use Rattle.json.specs.Print.{escape_byte}
use Rattle.gnap_replies.specs.Printing.{then_name, then_field, HasPrinted}
use Rattle.gnap_replies.specs.Tokens.{token_data}
use Rattle.gnap_replies.proofs.Printing.{has_array}
use Rattle.gnap_replies.proofs.TokenArrays.{several_tokens}
use Rattle.gnap_replies.proofs.tokens.print_tokens.Goals as goal

pub returns-in_default : goal.returns-in_default
unfolding escape_byte
returns-in_default c p printed =
    let named = c.begin-in_default.ensures p printed in
    let begun = c.begin-in_default-2.ensures _ named in
    let each = c.print_each_token.ensures _ begun in
    let array = has_array c.end.new.self (then_name p (codes "access_token")) (map (token_data c.args.base.now) c.args.tokens.now) (c.end.ensures _ each) in
    let several = several_tokens c.args.base.now c.args.single c.args.tokens.now c.if-single.false c.in-len1-up.len_at_least in
    subst (λ d. HasPrinted c.end.new.self (then_field p (codes "access_token") d)) (sym several) array
