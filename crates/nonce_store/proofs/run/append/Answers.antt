use Rattle.std.proofs.Common.{◌≡◌, ◌∙◌, ℕ, ◌≤◌, List, ◌++◌, length, take, ap, arith, append_assoc, length-append}
use Rattle.std.proofs.lemmas.List.{take_all, take-append-le}
use Rattle.nonce_store.proofs.run.append.Goals as goal

-- what stood there stays in front of more
stays_in_front : (old more new : List ℕ) → new ≡ old ++ more → take (length old) new ≡ old
stays_in_front old more new is =
    let all : length old ≤ length old = omega arith in ap (take (length old)) is ∙ (rw take-append-le (take_all (length old) old all))

pub returns-in_err-extend_from_slice-2-clause-stays : goal.returns-in_err-extend_from_slice-2-clause-stays
returns-in_err-extend_from_slice-2-clause-stays c = stays_in_front c.args.texts.now.items c.args.key.now c.extend_from_slice-2.new.self.items
    (c.in_err-extend_from_slice-2.ensures.items ∙ c.in_ok-extend_from_slice.ensures.items
    ∙ ap (λ (l : List ℕ). l ++ c.args.key.now) c.in_ok-make_room.ensures.items)

pub returns-in_err-extend_from_slice-2-clause-longer : goal.returns-in_err-extend_from_slice-2-clause-longer
returns-in_err-extend_from_slice-2-clause-longer c =
    let is = ap (length {A = ℕ}) (c.in_err-extend_from_slice-2.ensures.items ∙ c.in_ok-extend_from_slice.ensures.items
    ∙ ap (λ (l : List ℕ). l ++ c.args.key.now) c.in_ok-make_room.ensures.items) in
    let both = length-append c.args.texts.now.items c.args.key.now in omega (arith, is, both)

whole : (old key nonce made one two : List ℕ) → made ≡ old → one ≡ made ++ key → two ≡ one ++ nonce → two ≡ old ++ (key ++ nonce)
whole old key nonce made one two made_is one_is two_is =
    two_is ∙ ap (λ (l : List ℕ). l ++ nonce) (one_is ∙ ap (λ (l : List ℕ). l ++ key) made_is) ∙ append_assoc old key nonce

pub returns-clause-stays : goal.returns-clause-stays
returns-clause-stays c = stays_in_front c.args.texts.now.items (c.args.key.now ++ c.args.nonce.now) c.extend_from_slice-2.new.self.items
    (whole c.args.texts.now.items c.args.key.now c.args.nonce.now c.make_room.new.items.items c.extend_from_slice.new.self.items
    c.extend_from_slice-2.new.self.items c.in_ok-make_room.ensures.items c.in_ok-extend_from_slice.ensures.items c.in_ok-extend_from_slice-2.ensures.items)

pub returns-clause-ok : goal.returns-clause-ok
returns-clause-ok c = whole c.args.texts.now.items c.args.key.now c.args.nonce.now c.make_room.new.items.items c.extend_from_slice.new.self.items
    c.extend_from_slice-2.new.self.items c.in_ok-make_room.ensures.items c.in_ok-extend_from_slice.ensures.items c.in_ok-extend_from_slice-2.ensures.items
