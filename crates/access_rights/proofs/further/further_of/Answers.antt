use Rattle.std.proofs.Common.{◌≡◌, ◌≤◌, [], ◌∷◌, sym, ◌∙◌, subst, arith, rules}
use Rattle.std.specs.Str.{IsUtf8}
use Rattle.json.specs.Token.{begin_object}
use Rattle.json.specs.Print.{print}
use Rattle.serde_json.specs.Data.{object, depth}
use Rattle.serde_json.specs.Read.{max_depth}
use Rattle.serde_json.specs.View.{members_view}
use Rattle.access_rights.specs.Reading.{others}
use Rattle.access_rights.proofs.Others.{others_whole, others_depth, others_only}
use Rattle.access_rights.proofs.Written.{text_is, text_reads}
use Rattle.access_rights.proofs.further.further_of.Goals as goal

pub returns-clause-value : goal.returns-clause-value
returns-clause-value c =
    let opened : c.begin_object.new.self.tokens ≡ begin_object ∷ [] = search rules in
    let printed : c.into_inner.result.items ≡ print c.write_others.new.out.tokens = search rules in
    c.from_vec.ensures ∙ text_is _ _ _ _ opened c.in_ok-write_others.ensures.ok printed c.into_inner.ensures.reads_back c.requires.whole

pub returns-clause-fits : goal.returns-clause-fits
returns-clause-fits c =
    let all = members_view c.args.members.now.entries in
    let opened : c.begin_object.new.self.tokens ≡ begin_object ∷ [] = search rules in
    let printed : c.into_inner.result.items ≡ print c.write_others.new.out.tokens = search rules in
    let shallow : depth (object (others all)) ≤ max_depth = omega (arith, others_depth all, c.requires.shallow) in
    rw c.from_vec.ensures record {
      utf8 = subst IsUtf8 (sym printed) c.into_inner.ensures.utf8;
      members = others all;
      read_as = text_reads _ _ _ _ opened c.in_ok-write_others.ensures.ok printed c.into_inner.ensures.reads_back shallow;
      whole = others_whole _ c.requires.whole;
      others_only = others_only all;
      compact = sym (text_is _ _ _ _ opened c.in_ok-write_others.ensures.ok printed c.into_inner.ensures.reads_back c.requires.whole);
    }
