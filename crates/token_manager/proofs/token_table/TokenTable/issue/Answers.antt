use Rattle.std.proofs.Common.{ap, sym, subst, ◌≡◌, ◌<◌, ◌+◌, List, [], ◌∷◌, ◌++◌, length, arith}
use Rattle.std.specs.List.{All, count_by}
use Rattle.std.proofs.lemmas.List.Sums.{count_by-le-length}
use Rattle.gnap_tables.specs.declared.rows.TokenRow.{TokenRow}
use Rattle.token_manager.specs.declared.token_table.TokenPlace.{TokenPlace}
use Rattle.token_manager.specs.Tokens.{StoredTokens, AreTokenPlaces, AreListed, is_lasting}
use Rattle.token_manager.proofs.TokenLemmas.{place_pushed, listed_pushed, lasting_pushed}
use Rattle.token_manager.proofs.token_table.TokenTable.issue.Goals as goal

pub invariant_of-self : goal.invariant_of-self
invariant_of-self c =
    let new : TokenPlace = record { serial = c.deref.result.now.serial; grant = c.deref-2.result.now.grant; row = c.args.row } in
    let held = place_pushed c.self.inside.places.items new c.self.invariant.0
    (record { serial = ap (λ (r : TokenRow). r.serial) c.deref.ensures; grant = ap (λ (r : TokenRow). r.grant) c.deref-2.ensures }) c.requires.is
    (subst (λ (rs : List TokenRow). All (λ (other : TokenRow). other.serial < c.args.row.value.serial) rs)
    (sym (ap (λ (s : StoredTokens). s.rows) c.self.view_is)) c.requires.above) in (
      subst AreTokenPlaces (sym c.push_reserved.ensures.items) held.1,
      subst (AreListed c.list.new.self.listed) (sym c.push_reserved.ensures.items)
          (listed_pushed c.self.inside.serials.listed c.list.new.self.listed c.self.inside.places.items new c.self.invariant.1 c.list.ensures.kept
          c.list.ensures.listed),
      subst (λ (ps : List TokenPlace). c.self.inside.lasting + c.one_lasting-one.result ≡ count_by (is_lasting c.self.inside.swept) ps)
          (sym c.push_reserved.ensures.items)
          (lasting_pushed c.self.inside.places.items new c.self.inside.swept c.self.inside.lasting c.one_lasting-one.result c.self.invariant.2
          c.one_lasting-one.ensures),
    )

pub overflow_add-self : goal.overflow_add-self
overflow_add-self c =
    let new : TokenPlace = record { serial = c.deref.result.now.serial; grant = c.deref-2.result.now.grant; row = c.args.row } in
    let more = lasting_pushed c.self.inside.places.items new c.self.inside.swept c.self.inside.lasting c.one_lasting-one.result c.self.invariant.2
    c.one_lasting-one.ensures in
    let few = count_by-le-length (is_lasting c.self.inside.swept) (c.self.inside.places.items ++ new ∷ []) in
    let many = c.len-many.ensures in
    let same = ap (length {A = TokenPlace}) c.push_reserved.ensures.items in omega (arith, more, few, many, same)
