-- The entries of all journals, node for node and then sorted by their beats, are the order of all entries.
use Rattle.std.proofs.Common.{◌≡◌, ℕ, zero, suc, ◌+◌, ◌<◌, ◌≤◌, List, [], ◌∷◌, ◌++◌, map, filter, length, take, drop, get_or, Bool, true, false, refl, ap, sym, subst, ◌∙◌, arith, cond, append_assoc, append-nil}
use Rattle.std.specs.Prelude.{◌==◌, nat_lt}
use Rattle.std.specs.List.{AllByRecursion}
use Rattle.std.specs.List.Sorted.{IsPermutation, IsSortedByKey, IsStableByKey}
use Rattle.std.specs.Ordering.{nat_cmp}
use Rattle.std.proofs.lemmas.Bool.{eqb-true, lt-ltb, ltb-true, false≢true}
use Rattle.std.proofs.lemmas.List.{map-append, take_more, take_all, drop_more, flat_map_more}
use Rattle.std.proofs.lemmas.List.Elements.{filter-append}
use Rattle.node_kit.specs.declared.journal.Entry.{Entry}
use Rattle.node_kit.specs.declared.journal.What.TheVariants as what
use Rattle.run_facts.specs.Order.{Noted, beat_of, in_beat, order_from, order_of}
use Rattle.run_facts.proofs.Orders.{groups}
use Rattle.run_facts.proofs.Rows.{all-append}
use Rattle.audit_frame.specs.declared.lines.Line.{Line}
use Rattle.audit_frame.specs.Lines.{noted_line, noted_by, told_by, entry_told, journal_told, journals_told}
use Rattle.run_facts.proofs.Grouped.{sorted_groups}

-- ---- a turn of each loop

pub entries_next : (beats n i : ℕ) (entries : List Entry) (d : Entry) (start old new : List Noted) → i < length entries
    → new ≡ old ++ entry_told beats n (get_or entries i d) → old ≡ start ++ journal_told beats n (take i entries)
    → new ≡ start ++ journal_told beats n (take (i + 1) entries)
entries_next beats n i entries d start old new low pushed before =
    let here = entry_told beats n (get_or entries i d) in
    pushed ∙ ap (λ (q : List Noted). q ++ here) before
    ∙ flat_map_more (entry_told beats n) start (take i entries) (get_or entries i d)
    ∙ ap (λ (q : List Entry). start ++ journal_told beats n q) (sym (take_more entries i d low))

pub entries_end : (beats n i : ℕ) (entries : List Entry) (start new : List Noted) → length entries ≤ i
    → new ≡ start ++ journal_told beats n (take i entries) → new ≡ start ++ journal_told beats n entries
entries_end beats n i entries start new over before =
    before ∙ ap (λ (q : List Entry). start ++ journal_told beats n q) (take_all i entries over)

pub journals_next : (beats n : ℕ) (journals : List (List Entry)) (journal : List Entry) (old new all : List Noted)
    → n < length journals → journal ≡ get_or journals n journal → new ≡ old ++ journal_told beats n journal
    → old ++ journals_told beats n (drop n journals) ≡ all
    → new ++ journals_told beats (n + 1) (drop (n + 1) journals) ≡ all
journals_next beats n journals journal old new all low item pushed before =
    let here = journal_told beats n journal in
    let rest = journals_told beats (n + 1) (drop (n + 1) journals) in
    ap (λ (q : List Noted). q ++ rest) pushed ∙ append_assoc old here rest
    ∙ ap (λ (j : List Entry). old ++ (journal_told beats n j ++ rest)) item
    ∙ ap (λ (q : List (List Entry)). old ++ journals_told beats n q) (sym (drop_more journals n journal low)) ∙ before

pub journals_end : (beats n : ℕ) (journals : List (List Entry)) (old all : List Noted) → length journals ≤ n
    → old ++ journals_told beats n (drop n journals) ≡ all → old ≡ all
journals_end beats n journals old all over before =
    let none : drop n journals ≡ [] = drop_all n journals over in
    sym (append-nil old) ∙ ap (λ (q : List (List Entry)). old ++ journals_told beats n q) (sym none) ∙ before
  where
    drop_all : (k : ℕ) (xs : List (List Entry)) → length xs ≤ k → drop k xs ≡ []
    drop_all zero [] h = refl
    drop_all zero (x ∷ xs) h = absurd (omega (arith, h))
    drop_all (suc k) [] h = refl
    drop_all (suc k) (x ∷ xs) h = drop_all k xs (omega (arith, h))

-- ---- all that is told is of a beat below the number

early_entry : (beats n : ℕ) (e : Entry) (b : Bool) → nat_lt e.stamp.beat beats ≡ b
    → AllByRecursion (λ (x : Noted). beat_of x < beats) (cond b (noted_by n e ∷ []) [])
early_entry beats n e true t = (ltb-true e.stamp.beat beats t, tt)
early_entry beats n e false t = tt

early_journal : (beats n : ℕ) (es : List Entry) → AllByRecursion (λ (x : Noted). beat_of x < beats) (journal_told beats n es)
early_journal beats n [] = tt
early_journal beats n (e ∷ es) =
    all-append (λ (x : Noted). beat_of x < beats) (entry_told beats n e) (journal_told beats n es)
    (early_entry beats n e (nat_lt e.stamp.beat beats) refl) (early_journal beats n es)

early_journals : (beats n : ℕ) (js : List (List Entry)) → AllByRecursion (λ (x : Noted). beat_of x < beats) (journals_told beats n js)
early_journals beats n [] = tt
early_journals beats n (j ∷ js) =
    all-append (λ (x : Noted). beat_of x < beats) (journal_told beats n j) (journals_told beats (n + 1) js)
    (early_journal beats n j) (early_journals beats (n + 1) js)

early_lines : (beats : ℕ) (lines : List Line) → AllByRecursion (λ (x : Noted). beat_of x < beats) (told_by lines)
    → AllByRecursion (λ (l : Line). beat_of (noted_line l) < beats) lines
early_lines beats [] h = tt
early_lines beats (l ∷ ls) h = (h.0, early_lines beats ls h.1)

-- ---- what is told of one beat

one_kept : (below here : Bool) (x : Noted) (test : Noted → Bool) (rest ys : List Noted) → test x ≡ here → (here ≡ true → below ≡ true)
    → filter test rest ≡ ys → filter test (cond below (x ∷ []) [] ++ rest) ≡ cond here (x ∷ ys) ys
one_kept true true x test rest ys t low h =
    ap (λ (b : Bool). cond b (x ∷ filter test rest) (filter test rest)) t ∙ ap (λ (q : List Noted). x ∷ q) h
one_kept true false x test rest ys t low h =
    ap (λ (b : Bool). cond b (x ∷ filter test rest) (filter test rest)) t ∙ h
one_kept false true x test rest ys t low h = absurd (false≢true (low refl))
one_kept false false x test rest ys t low h = h

map_one : (n : ℕ) (here : Bool) (e : Entry) (es : List Entry)
    → map (noted_by n) (cond here (e ∷ es) es) ≡ cond here (noted_by n e ∷ map (noted_by n) es) (map (noted_by n) es)
map_one n true e es = refl
map_one n false e es = refl

beat_of_journal : (beats n b : ℕ) (es : List Entry) → b < beats
    → filter (λ x. beat_of x == b) (journal_told beats n es)
    ≡ map (λ e. record { node = n; entry = e }) (filter (λ e. e.stamp.beat == b) es)
beat_of_journal beats n b [] low = refl
beat_of_journal beats n b (e ∷ es) low =
    one_kept (nat_lt e.stamp.beat beats) (e.stamp.beat == b) (noted_by n e) (λ x. beat_of x == b) (journal_told beats n es)
    (map (noted_by n) (filter (λ f. f.stamp.beat == b) es)) refl
    (λ t. let same = eqb-true e.stamp.beat b t in lt-ltb e.stamp.beat beats (omega (arith, same, low)))
    (beat_of_journal beats n b es low)
    ∙ sym (map_one n (e.stamp.beat == b) e (filter (λ f. f.stamp.beat == b) es))

beat_of_journals : (beats n b : ℕ) (js : List (List Entry)) → b < beats
    → filter (λ x. beat_of x == b) (journals_told beats n js) ≡ in_beat b n js
beat_of_journals beats n b [] low = refl
beat_of_journals beats n b (j ∷ js) low =
    filter-append (λ x. beat_of x == b) (journal_told beats n j) (journals_told beats (n + 1) js)
    ∙ ap (λ (q : List Noted). q ++ filter (λ x. beat_of x == b) (journals_told beats (n + 1) js)) (beat_of_journal beats n b j low)
    ∙ ap (λ (q : List Noted). map (λ e. record { node = n; entry = e }) (filter (λ e. e.stamp.beat == b) j) ++ q)
    (beat_of_journals beats (n + 1) b js low)

groups_told : (beats b k : ℕ) (js : List (List Entry)) → b + k ≤ beats
    → groups beat_of b k (journals_told beats 0 js) ≡ order_from b k js
groups_told beats b zero js h = refl
groups_told beats b (suc k) js h =
    ap (λ (q : List Noted). q ++ groups beat_of (b + 1) k (journals_told beats 0 js)) (beat_of_journals beats 0 b js (omega (arith, h)))
    ∙ ap (λ (q : List Noted). in_beat b 0 js ++ q) (groups_told beats (b + 1) k js (omega (arith, h)))

-- ---- and what lines tell

told_one : (here : Bool) (l : Line) (ls : List Line) → told_by (cond here (l ∷ ls) ls) ≡ cond here (noted_line l ∷ told_by ls) (told_by ls)
told_one true l ls = refl
told_one false l ls = refl

told_filter : (b : ℕ) (lines : List Line)
    → told_by (filter (λ l. beat_of (noted_line l) == b) lines) ≡ filter (λ x. beat_of x == b) (told_by lines)
told_filter b [] = refl
told_filter b (l ∷ ls) =
    told_one (beat_of (noted_line l) == b) l (filter (λ m. beat_of (noted_line m) == b) ls)
    ∙ ap (λ (q : List Noted). cond (beat_of (noted_line l) == b) (noted_line l ∷ q) q) (told_filter b ls)

told_groups : (b k : ℕ) (lines : List Line) → told_by (groups (λ l. beat_of (noted_line l)) b k lines) ≡ groups beat_of b k (told_by lines)
told_groups b zero lines = refl
told_groups b (suc k) lines =
    map-append noted_line (filter (λ l. beat_of (noted_line l) == b) lines) (groups (λ l. beat_of (noted_line l)) (b + 1) k lines)
    ∙ ap (λ (q : List Noted). q ++ told_by (groups (λ l. beat_of (noted_line l)) (b + 1) k lines)) (told_filter b lines)
    ∙ ap (λ (q : List Noted). filter (λ x. beat_of x == b) (told_by lines) ++ q) (told_groups (b + 1) k lines)

-- some line of a beat
line_in : (b : ℕ) → (l : Line) × (beat_of (noted_line l) ≡ b)
line_in b = (
  record {
    node = record { 0 = 0 };
    entry = record { ref_ptr = (0, 0); now = record { stamp = record { beat = b; reading = 0 }; what = what.Died } };
  },
  refl,
)

pub sorted_lines : (beats : ℕ) (js : List (List Entry)) (lines sorted : List Line) → told_by lines ≡ journals_told beats 0 js
    → IsPermutation lines sorted → IsSortedByKey (λ (l : Line). l.entry.now.stamp.beat) nat_cmp sorted
    → IsStableByKey (λ (l : Line). l.entry.now.stamp.beat) nat_cmp lines sorted
    → told_by sorted ≡ order_of beats js
sorted_lines beats js lines sorted is moved up stable =
    let key = λ (l : Line). l.entry.now.stamp.beat in
    let early = early_lines beats lines
    (subst (λ (q : List Noted). AllByRecursion (λ (x : Noted). beat_of x < beats) q) (sym is) (early_journals beats 0 js)) in
    ap told_by (sorted_groups key lines sorted beats line_in early moved up stable)
    ∙ told_groups 0 beats lines
    ∙ ap (groups beat_of 0 beats) is
    ∙ groups_told beats 0 beats js (omega arith)
