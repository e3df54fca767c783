-- The user codes that are taken, as they are looked for one by one.
use Rattle.std.proofs.Common.{ℕ, zero, suc, ◌≡◌, ◌<◌, ◌≤◌, ◌+◌, Bool, true, false, List, [], ◌∷◌, length, reverse, refl, sym, ◌∙◌, ap, arith, Option, Some, None}
use Rattle.std.specs.Prelude.{◌%◌, ◌||◌, is_some, if◌then◌else◌}
use Rattle.std.specs.Option.{option_and_then, option_or}
use Rattle.std.specs.List.{list_any, filter_map, cons_option}
use Rattle.std.proofs.lemmas.Cmp.{nat_list_eq_equiv}
use Rattle.std.proofs.lemmas.List.{length-reverse}
use Rattle.std.proofs.lemmas.List.Sums.{count_by-le-length}
use Rattle.gnap_model.specs.Common.{Text, first_of, is_text, same_text, some_if}
use Rattle.gnap_model.specs.Standing.{code_in}
use Rattle.gnap_model.specs.Values.{code_count, code_text, free_code}
use Rattle.gnap_model.specs.declared.notes.RoundNote.{RoundNote}
use Rattle.gnap_laws.proofs.FreeCodes.{free_code_free}
use Rattle.grant_rules.proofs.UserCodes.{free_code-mod, free_code-taken}
use Rattle.gnap_laws.proofs.NoteCounts.{length-filter_map}
use Rattle.gnap_tables.specs.declared.rows.GrantRow.{GrantRow}
use Rattle.gnap_tables.specs.RowSearches.{Interaction, interaction_where, newest, open_round, open_rounds}
use Rattle.gnap_tables.proofs.Lists.{filter_map-filter_map}

-- ---- a code is taken where an interaction goes by it

abbrev with_code : Text → RoundNote → Bool
with_code code round = is_text code round.code

taken_row : (code : Text) (now : ℕ) (row : GrantRow) (found : Option Interaction) (codes : List Text) → is_some found ≡ list_any (same_text code) codes
    → is_some (option_or (interaction_where (with_code code) now row) found)
    ≡ list_any (same_text code) (cons_option (option_and_then code_in (open_round now row)) codes)
taken_row code now row found codes rest = by (open_round now row)
  where
    by : (o : Option RoundNote) → is_some
        (option_or (option_and_then (λ (round : RoundNote). some_if (with_code code round) (record { row = row; round = round })) o) found)
        ≡ list_any (same_text code) (cons_option (option_and_then code_in o) codes)
    by None = rest
    by (Some round) = at round.code
      where
        at : (c : Option Text) → is_some (option_or (some_if (is_text code c) (record { row = row; round = round })) found)
            ≡ list_any (same_text code) (cons_option c codes)
        at None = rest
        at (Some v) = ends (same_text v code) (same_text code v) (nat_list_eq_equiv.symm v code)
          where
            ends : (a b : Bool) → a ≡ b → is_some (option_or (some_if a (record { row = row; round = round })) found) ≡ (b || list_any (same_text code) codes)
            ends true true e = refl
            ends true false e = cc e
            ends false true e = cc e
            ends false false e = rest

taken_first : (code : Text) (now : ℕ) (rows : List GrantRow)
    → is_some (first_of (interaction_where (with_code code) now) rows)
    ≡ list_any (same_text code) (filter_map (λ (row : GrantRow). option_and_then code_in (open_round now row)) rows)
taken_first code now [] = refl
taken_first code now (row ∷ rows) =
    taken_row code now row (first_of (interaction_where (with_code code) now) rows)
    (filter_map (λ (r : GrantRow). option_and_then code_in (open_round now r)) rows) (taken_first code now rows)

pub code_taken : (code : Text) (now : ℕ) (rows : List GrantRow)
    → is_some (newest (interaction_where (λ (round : RoundNote). is_text code round.code) now) rows)
    ≡ list_any (same_text code) (filter_map code_in (open_rounds now rows))
code_taken code now rows =
    taken_first code now (reverse rows) ∙ ap (list_any (same_text code)) (sym (filter_map-filter_map (open_round now) code_in (reverse rows)))

-- ---- how many tries find a free code

-- more tries find the same free code
more_tries : (few many number : ℕ) (taken : List Text) → few ≤ many → list_any (same_text (free_code few number taken)) taken ≡ false
    → free_code many number taken ≡ free_code few number taken
more_tries zero zero number taken le free = refl
more_tries zero (suc many) number taken le free = rw free refl
more_tries (suc few) zero number taken le free = absurd (omega (arith, le))
more_tries (suc few) (suc many) number taken le free =
    at (λ k. more_tries few many (number + 1) taken (omega (arith, le)) k) (list_any (same_text (code_text (number % code_count))) taken) free
  where
    at : (list_any (same_text (free_code few (number + 1) taken)) taken ≡ false → free_code many (number + 1) taken ≡ free_code few (number + 1) taken)
        → (b : Bool)
        → list_any (same_text (if b then free_code few (number + 1) taken else code_text (number % code_count))) taken ≡ false
        → (if b then free_code many (number + 1) taken else code_text (number % code_count))
        ≡ (if b then free_code few (number + 1) taken else code_text (number % code_count))
    at again true k = again k
    at again false k = refl

few_taken : (now : ℕ) (rows : List GrantRow) → length (filter_map code_in (open_rounds now rows)) ≤ length rows
few_taken now rows =
    let codes = length-filter_map code_in (open_rounds now rows) in
    let coded = count_by-le-length (λ (r : RoundNote). is_some (code_in r)) (open_rounds now rows) in
    let rounds = length-filter_map (open_round now) (reverse rows) in
    let undecided = count_by-le-length (λ (r : GrantRow). is_some (open_round now r)) (reverse rows) in
    let turned = length-reverse rows in omega (arith, codes, coded, rounds, undecided, turned)

-- As many tries as there are grants, or more, find the code that as many as there are taken codes find.
pub enough_tries : (tries number now : ℕ) (rows : List GrantRow) → length rows ≤ tries → length rows < code_count
    → free_code tries number (filter_map code_in (open_rounds now rows))
    ≡ free_code (length (filter_map code_in (open_rounds now rows))) number (filter_map code_in (open_rounds now rows))
enough_tries tries number now rows enough few =
    let taken = filter_map code_in (open_rounds now rows) in
    let fewer = few_taken now rows in
    more_tries (length taken) tries number taken (omega (arith, fewer, enough)) (free_code_free number taken (omega (arith, fewer, few)))

-- Where the codes of a run are taken, the search goes on behind it.
pub passed_run : (run tries number : ℕ) (taken : List Text) → number + run ≤ code_count
    → ((k : ℕ) → number ≤ k → k < number + run → list_any (same_text (code_text k)) taken ≡ true)
    → free_code (run + tries) number taken ≡ free_code tries ((number + run) % code_count) taken
passed_run zero tries number taken within there =
    let none : 0 + tries ≡ tries = omega arith in
    let here : number ≡ number + 0 = omega arith in
    ap (λ n. free_code n number taken) none ∙ sym (free_code-mod tries number taken) ∙ ap (λ n. free_code tries (n % code_count) taken) here
passed_run (suc run) tries number taken within there =
    let more : suc run + tries ≡ suc (run + tries) = omega arith in
    let end : number + 1 + run ≡ number + suc run = omega arith in
    ap (λ n. free_code n number taken) more
    ∙ free_code-taken (run + tries) number taken (omega (arith, within)) (there number (omega arith) (omega arith))
    ∙ free_code-mod (run + tries) (number + 1) taken
    ∙ passed_run run tries (number + 1) taken (omega (arith, within)) (λ k le lt. there k (omega (arith, le)) (omega (arith, lt)))
    ∙ ap (λ n. free_code tries (n % code_count) taken) end
