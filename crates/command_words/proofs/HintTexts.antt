-- What is told of words that are no command, piece by piece.
use Rattle.std.proofs.Common.{◌≡◌, ◌∙◌, ℕ, List, [], ◌∷◌, ◌++◌, Bool, false, Option, Some, None, sym, ap, subst, append_assoc, append-nil}
use Rattle.std.specs.Prelude.{codes, slice_get, if◌then◌else◌}
use Rattle.command_words.specs.declared.wrong_words.WordForm.{WordForm}
use Rattle.command_words.specs.Telling.{shown_text}
use Rattle.command_words.specs.Hints.{usage_for, usage_of, asks_for_usage, name_hint, count_line, form_text, misformed, word_hint}

shown_between : (a shown more b text : List ℕ) → shown ++ more ≡ text → a ++ (shown ++ (more ++ (b ++ []))) ≡ a ++ (text ++ b)
shown_between a shown more b text is =
    subst (λ (t : List ℕ). a ++ (shown ++ (more ++ (b ++ []))) ≡ a ++ (t ++ b)) is (simp (append_assoc, append-nil))

pub unknown_pieces : (name shown more : List ℕ) (words arguments : List (List ℕ)) → words ≡ name ∷ arguments → asks_for_usage name ≡ false
    → shown ++ more ≡ shown_text name
    → (codes "gnap: `" ++ (shown ++ (more ++ (codes "` is no command\n" ++ [])))) ++ usage_for None ≡ name_hint words
unknown_pieces name shown more words arguments are other is =
    let line : List ℕ = codes "gnap: `" ++ shown_text name ++ codes "` is no command\n" in
    ap (λ (t : List ℕ). t ++ usage_for None)
    (shown_between (codes "gnap: `") shown more (codes "` is no command\n") (shown_text name) is ∙ sym (ap (λ (b : Bool). if b then [] else line) other))
    ∙ sym (ap name_hint are)

form_behind : (a shown more b what c d usage text : List ℕ) → shown ++ more ≡ text
    → (a ++ (shown ++ (more ++ (b ++ (what ++ ((c ++ d) ++ [])))))) ++ usage ≡ (a ++ text ++ b ++ what ++ c) ++ (d ++ usage)
form_behind a shown more b what c d usage text is =
    subst (λ (t : List ℕ). (a ++ (shown ++ (more ++ (b ++ (what ++ ((c ++ d) ++ [])))))) ++ usage ≡ (a ++ t ++ b ++ what ++ c) ++ (d ++ usage)) is
    (simp (append_assoc, append-nil))

pub misformed_pieces : (place : ℕ) (form : WordForm) (name word shown more what : List ℕ) (words arguments : List (List ℕ)) → words ≡ name ∷ arguments
    → slice_get arguments place ≡ Some word → shown ++ more ≡ shown_text word → what ≡ form_text form
    → (codes "gnap: `" ++ (shown ++ (more ++ (codes "` is no " ++ (what ++ (codes "\nusage:\n" ++ [])))))) ++ usage_for (Some name) ≡ word_hint place form words
misformed_pieces place form name word shown more what words arguments are got is form_is =
    form_behind (codes "gnap: `") shown more (codes "` is no ") what (codes "\n") (codes "usage:\n") (usage_for (Some name)) (shown_text word) is
    ∙ ap (λ (t : List ℕ). (codes "gnap: `" ++ shown_text word ++ codes "` is no " ++ t ++ codes "\n") ++ usage_of name) form_is
    ∙ sym (ap (λ (o : Option (List ℕ)). misformed form o ++ usage_of name) got)
    ∙ sym (ap (word_hint place form) are)

counts_behind : (a name b first or last words c given d e usage : List ℕ)
    → (a ++ (name ++ (b ++ (first ++ (or ++ (last ++ (words ++ (c ++ (given ++ ((d ++ e) ++ [])))))))))) ++ usage
    ≡ (a ++ name ++ b ++ (first ++ (or ++ last)) ++ words ++ c ++ given ++ d) ++ (e ++ usage)
counts_behind a name b first or last words c given d e usage = simp (append_assoc, append-nil)

pub count_pieces : (n f o l w g name first or last words given : List ℕ) → n ≡ name → f ≡ first → o ≡ or → l ≡ last → w ≡ words → g ≡ given
    → (codes "gnap: `" ++ (n ++ (codes "` takes " ++ (f ++ (o ++ (l ++ (w ++ (codes " after it, and there are "
    ++ (g ++ (codes "\nusage:\n" ++ [])))))))))) ++ usage_for (Some name)
    ≡ count_line name (first ++ (or ++ last)) words given ++ usage_of name
count_pieces n f o l w g name first or last words given n_is f_is o_is l_is w_is g_is =
    counts_behind (codes "gnap: `") n (codes "` takes ") f o l w (codes " after it, and there are ") g (codes "\n") (codes "usage:\n") (usage_for (Some name))
    ∙ ap (λ (t : List ℕ). count_line t (f ++ (o ++ l)) w g ++ usage_of name) n_is
    ∙ ap (λ (t : List ℕ). count_line name (t ++ (o ++ l)) w g ++ usage_of name) f_is
    ∙ ap (λ (t : List ℕ). count_line name (first ++ (t ++ l)) w g ++ usage_of name) o_is
    ∙ ap (λ (t : List ℕ). count_line name (first ++ (or ++ t)) w g ++ usage_of name) l_is
    ∙ ap (λ (t : List ℕ). count_line name (first ++ (or ++ last)) t g ++ usage_of name) w_is
    ∙ ap (λ (t : List ℕ). count_line name (first ++ (or ++ last)) words t ++ usage_of name) g_is
