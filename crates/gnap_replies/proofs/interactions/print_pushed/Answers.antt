use Rattle.std.proofs.Common.{codes, IsUtf8, refl, subst, sym}
use Rattle.interaction.proofs.WebUrls.{uri_is_utf8}
use Rattle.json.specs.Print.{escape_byte}
use Rattle.gnap_replies.specs.Interactions.{pushed_fields}
use Rattle.gnap_replies.proofs.Printing.{first_name, has_object}
use Rattle.gnap_replies.proofs.interactions.print_pushed.Goals as goal

pub string-requires : goal.string-requires
string-requires c = subst IsUtf8 (sym c.as_slice.ensures.value) (search (uri_is_utf8, c.requires.finish.0.0))

pub returns : goal.returns
unfolding escape_byte
returns c p printed = has_object c.end.new.self p (pushed_fields c.args.base.now c.args.finish.now) refl
    (c.end.ensures _ (rw c.as_slice.ensures.value at c.string.ensures _ (c.begin-3.ensures _
    (c.value.ensures _ (c.begin-2.ensures _
    (c.print_made.ensures _ _ c.pushed_body-body.ensures.body (first_name c.begin.new.self p (codes "body") (c.begin.ensures p printed))))))))
