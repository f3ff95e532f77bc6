-- The turns of the loops that fill the tables, over all journals and over one.
use Rattle.std.proofs.Common.{◌≡◌, ℕ, zero, suc, ◌+◌, ◌<◌, ◌≤◌, List, [], ◌∷◌, ◌++◌, length, take, drop, get_or, refl, ap, sym, subst, ◌∙◌, arith, append_assoc, append-nil}
use Rattle.std.proofs.lemmas.List.{map-append, take_more, take_all, drop_more}
use Rattle.node_kit.specs.declared.journal.Entry.{Entry}
use Rattle.slot_plan.specs.declared.params.Params.{Params}
use Rattle.run_facts.specs.Order.{Noted}
use Rattle.audit_frame.specs.Lines.{noted_by}
use Rattle.audit_blocks.specs.declared.tables.Tables.{Tables}
use Rattle.audit_blocks.specs.Entries.{journal_noted, journals_noted}
use Rattle.audit_blocks.specs.Told.{AreToldBy}

pub entries_next : (n i : ℕ) (entries : List Entry) (d : Entry) (start old new : List Noted) → i < length entries
    → new ≡ old ++ noted_by n (get_or entries i d) ∷ [] → old ≡ start ++ journal_noted n (take i entries)
    → new ≡ start ++ journal_noted n (take (i + 1) entries)
entries_next n i entries d start old new low pushed before =
    let here = noted_by n (get_or entries i d) ∷ [] in
    pushed ∙ (ap (λ (q : List Noted). q ++ here) before
    ∙ (append_assoc start (journal_noted n (take i entries)) here
    ∙ (ap (λ (q : List Noted). start ++ q) (sym (map-append (noted_by n) (take i entries) (get_or entries i d ∷ [])))
    ∙ ap (λ (q : List Entry). start ++ journal_noted n q) (sym (take_more entries i d low)))))

pub entries_end : (n i : ℕ) (entries : List Entry) (start new : List Noted) → length entries ≤ i
    → new ≡ start ++ journal_noted n (take i entries) → new ≡ start ++ journal_noted n entries
entries_end n i entries start new over before =
    before ∙ ap (λ (q : List Entry). start ++ journal_noted n q) (take_all i entries over)

pub journals_next : (n : ℕ) (journals : List (List Entry)) (journal : List Entry) (old new all : List Noted)
    → n < length journals → journal ≡ get_or journals n journal → new ≡ old ++ journal_noted n journal
    → old ++ journals_noted n (drop n journals) ≡ all
    → new ++ journals_noted (n + 1) (drop (n + 1) journals) ≡ all
journals_next n journals journal old new all low item pushed before =
    let here = journal_noted n journal in
    let rest = journals_noted (n + 1) (drop (n + 1) journals) in
    ap (λ (q : List Noted). q ++ rest) pushed ∙ append_assoc old here rest
    ∙ ap (λ (j : List Entry). old ++ (journal_noted n j ++ rest)) item
    ∙ ap (λ (q : List (List Entry)). old ++ journals_noted n q) (sym (drop_more journals n journal low)) ∙ before

pub journals_end : (n : ℕ) (journals : List (List Entry)) (old all : List Noted) → length journals ≤ n
    → old ++ journals_noted n (drop n journals) ≡ all → old ≡ all
journals_end n journals old all over before =
    let none : drop n journals ≡ [] = drop_all n journals over in
    sym (append-nil old) ∙ ap (λ (q : List (List Entry)). old ++ journals_noted n q) (sym none) ∙ before
  where
    drop_all : (k : ℕ) (xs : List (List Entry)) → length xs ≤ k → drop k xs ≡ []
    drop_all zero [] h = refl
    drop_all zero (x ∷ xs) h = absurd (omega (arith, h))
    drop_all (suc k) [] h = refl
    drop_all (suc k) (x ∷ xs) h = drop_all k xs (omega (arith, h))

-- ---- in the tables

-- a journal of which so many entries were taken
pub entry_taken : (p : Params) (n i : ℕ) (entries : List Entry) (d : Entry) (old new : Tables) (log : List Noted) → i < length entries
    → ((told : List Noted) → AreToldBy p told old → AreToldBy p (told ++ noted_by n (get_or entries i d) ∷ []) new)
    → AreToldBy p (log ++ journal_noted n (take i entries)) old → AreToldBy p (log ++ journal_noted n (take (i + 1) entries)) new
entry_taken p n i entries d old new log low taken before =
    let front = log ++ journal_noted n (take i entries) in
    subst (λ (told : List Noted). AreToldBy p told new)
    (entries_next n i entries d log front (front ++ noted_by n (get_or entries i d) ∷ []) low refl refl) (taken front before)

-- journals of which so many were taken: the tables tell of some entries, behind which those of the others make all
abbrev pub HasTaken : Params → ℕ → List (List Entry) → Tables → Type 0
HasTaken p n journals t =
    (front : List Noted) × AreToldBy p front t × (front ++ journals_noted n (drop n journals) ≡ journals_noted 0 journals)

pub journal_taken : (p : Params) (n : ℕ) (journals : List (List Entry)) (journal : List Entry) (old new : Tables) → n < length journals
    → journal ≡ get_or journals n journal
    → ((told : List Noted) → AreToldBy p told old → AreToldBy p (told ++ journal_noted n journal) new)
    → HasTaken p n journals old → HasTaken p (n + 1) journals new
journal_taken p n journals journal old new low item taken (front, told, rest) = (
  front ++ journal_noted n journal,
  taken front told,
  journals_next n journals journal front (front ++ journal_noted n journal) (journals_noted 0 journals) low item refl rest,
)

pub all_taken : (p : Params) (n : ℕ) (journals : List (List Entry)) (t : Tables) → length journals ≤ n → HasTaken p n journals t
    → AreToldBy p (journals_noted 0 journals) t
all_taken p n journals t over (front, told, rest) =
    subst (λ (log : List Noted). AreToldBy p log t) (journals_end n journals front (journals_noted 0 journals) over rest) told
