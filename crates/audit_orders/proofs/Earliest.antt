-- The place that a walk over all journals names is the first of its kind.
use Rattle.std.proofs.Common.{◌≡◌, ℕ, zero, suc, ◌+◌, ◌<◌, ◌≤◌, Bool, cond, List, [], ◌∷◌, ◌++◌, length, take, drop, Some, slice_get, refl, sym, ap, subst, ◌∙◌, ⊎_elim, append_assoc, arith}
use Rattle.std.specs.Prelude.{◌⊎◌}
use Rattle.std.proofs.lemmas.Bool.{eq-eqb}
use Rattle.std.proofs.lemmas.Grind.{flat_map-append}
use Rattle.std.proofs.lemmas.List.{take-append-drop, take-take}
use Rattle.node_kit.specs.declared.course.Course.{Course}
use Rattle.node_kit.specs.declared.journal.Entry.{Entry}
use Rattle.tiger_base.specs.declared.message.Note.{Note}
use Rattle.run_facts.specs.Events.{Dated}
use Rattle.audit_orders.specs.Earliest.{IsEarlier, IsFirstEntry, IsAtNoEntry}
use Rattle.audit_orders.specs.Carrying.{half_of, back_to, stream_of, sent_at, got_at, all_sent_at, all_got_at, all_entries, entries_to, AreFirstSent, StreamCounts, count_under, NoneIsLost, AreAtEnds, AllAtEnds, IsStrayIn, IsWrongIn, IsLostIn, IsStrayEntry, IsWrongGot, IsLost}
use Rattle.audit_orders.proofs.Starting.{take_at}
use Rattle.audit_orders.proofs.Refuting.{at_one, first_front, rest_of, split_at, behind_them, half_low}

-- ---- places

-- what is so of no entry of a lower node and of none further up
pub none_earlier : (Holds : ℕ → ℕ → Type 0) (n i : ℕ) → ((m j : ℕ) → m < n → Holds m j → ⊥) → ((j : ℕ) → j < i → Holds n j → ⊥)
    → (m j : ℕ) → IsEarlier m j n i → Holds m j → ⊥
none_earlier Holds n i lower above m j before h = ⊎_elim
    (λ (low : m < n). lower m j low h)
    (λ (same : (m ≡ n) × (j < i)). above j same.1 (subst (λ (k : ℕ). Holds k j) same.0 h))
    before

-- nothing comes before the first entry of the first node
pub none_at_first : (Holds : ℕ → ℕ → Type 0) (m j : ℕ) → IsEarlier m j 0 0 → Holds m j → ⊥
none_at_first Holds = none_earlier Holds 0 0 (λ m j low h. omega (arith, low)) (λ j low h. omega (arith, low))

-- the journal of a node is one
pub one_journal : (journals : List (List Entry)) (n : ℕ) (a b : List Entry) → slice_get journals n ≡ Some a → slice_get journals n ≡ Some b → a ≡ b
one_journal journals n a b here there =
    let both : Some a ≡ Some b = sym here ∙ there in
    cc

-- what stands at a place stands there in each longer front
pub in_front : {X : Type 0} (xs : List X) (i j : ℕ) (x : X) → j < i → slice_get xs j ≡ Some x → slice_get (take i xs) j ≡ Some x
in_front [] i j x low at = absurd (cc)
in_front (y ∷ ys) zero j x low at = absurd (omega (arith, low))
in_front (y ∷ ys) (suc i) zero x low at = at
in_front (y ∷ ys) (suc i) (suc j) x low at = in_front ys i j x (omega (arith, low)) at

-- a list up to a place is a front of it up to a later one
pub front_of_front : {X : Type 0} (xs : List X) (k i : ℕ) → k ≤ i → take k xs ++ drop k (take i xs) ≡ take i xs
front_of_front {X} xs k i le =
    ap (λ (q : List X). q ++ drop k (take i xs)) (sym (take-take k i xs le)) ∙ take-append-drop k (take i xs)

-- what stands up to an entry is a front of what stands before a later one
abbrev IsBehind : List (List Entry) → ℕ → List Entry → ℕ → List Entry → Type 0
IsBehind journals m a k all = (rest : List Entry) × (entries_to journals m a k ++ rest ≡ all)

same_node : (journals : List (List Entry)) (n k i : ℕ) (b : List Entry) → k ≤ i → IsBehind journals n b k (entries_to journals n b i)
same_node journals n k i b le = (
  drop k (take i b),
  append_assoc (all_entries (take n journals)) (take k b) (drop k (take i b))
      ∙ ap (λ (q : List Entry). all_entries (take n journals) ++ q) (front_of_front b k i le),
)

lower_node : (journals : List (List Entry)) (m n k i : ℕ) (a b : List Entry) → m < n → slice_get journals m ≡ Some a
    → IsBehind journals m a k (entries_to journals n b i)
lower_node journals m n k i a b low here =
    let front = take n journals in
    let rest = rest_of front m a k in (
      rest ++ take i b,
      sym (append_assoc (entries_to journals m a k) rest (take i b))
          ∙ ap (λ (q : List (List Entry)). ((all_entries q ++ take k a) ++ rest) ++ take i b) (sym (take-take m n journals (omega (arith, low))))
          ∙ ap (λ (q : List Entry). q ++ take i b) (split_at front m a k (in_front journals n m a low here)),
    )

pub reaches : (journals : List (List Entry)) (m j n i : ℕ) (a b : List Entry) → slice_get journals m ≡ Some a → slice_get journals n ≡ Some b
    → IsEarlier m j n i → IsBehind journals m a (j + 1) (entries_to journals n b i)
reaches journals m j n i a b here there before = ⊎_elim
    (λ (low : m < n). lower_node journals m n (j + 1) i a b low here)
    (λ (same : (m ≡ n) × (j < i)).
    let one = one_journal journals n a b (subst (λ (k : ℕ). slice_get journals k ≡ Some a) same.0 here) there in
    let low = same.1 in
    subst (λ (k : ℕ). IsBehind journals k a (j + 1) (entries_to journals n b i)) (sym same.0)
    (subst (λ (q : List Entry). IsBehind journals n q (j + 1) (entries_to journals n b i)) (sym one)
    (same_node journals n (j + 1) i b (omega (arith, low)))))
    before

-- ---- entries at the wrong end

pub nowhere_stray : (c : Course) (journals : List (List Entry)) → AllAtEnds c.plan.params journals → IsAtNoEntry (IsStrayEntry c journals)
nowhere_stray c journals at n i h = h.stray (at_one c n h.journal i h.entry (at n h.journal h.here) h.at)

pub stray_found : (c : Course) (journals : List (List Entry)) (n place : ℕ) (journal : List Entry) → slice_get journals n ≡ Some journal
    → ((m : ℕ) (other : List Entry) → m < n → slice_get journals m ≡ Some other → AreAtEnds c.plan.params m other)
    → IsStrayIn c.plan.params n journal place → IsFirstEntry (IsStrayEntry c journals) n place
stray_found c journals n place journal here lower h = record {
  here = record { journal = journal; here = here; entry = h.0; at = h.1; stray = h.2 };
  none_before = none_earlier (IsStrayEntry c journals) n place
      (λ m j low s. s.stray (at_one c m s.journal j s.entry (lower m s.journal low s.here) s.at))
      (λ j low s.
      let one = one_journal journals n s.journal journal s.here here in
      s.stray (at_one c n (take place journal) j s.entry h.3
      (in_front journal place j s.entry low (subst (λ (q : List Entry). slice_get q j ≡ Some s.entry) one s.at))));
}

-- ---- messages that were got

-- a front of what was got is the first of what was sent, if all of it is
got_front : (c : Course) (all : List Entry) (s : ℕ) (xs ys zs : List Entry) → xs ++ ys ≡ zs
    → AreFirstSent c.plan.params.delay (all_sent_at c s all) (all_got_at c s zs)
    → AreFirstSent c.plan.params.delay (all_sent_at c s all) (all_got_at c s xs)
got_front c all s xs ys zs is h =
    first_front c.plan.params.delay (all_sent_at c s all) (all_got_at c s xs) (all_got_at c s ys)
    (subst (λ (q : List (Dated Note)). AreFirstSent c.plan.params.delay (all_sent_at c s all) q)
    (ap (all_got_at c s) (sym is) ∙ flat_map-append (λ (e : Entry). got_at c s e.stamp.beat e.what) xs ys) h)

pub nowhere_wrong : (c : Course) (journals : List (List Entry))
    → ((s : ℕ) → AreFirstSent c.plan.params.delay (all_sent_at c s (all_entries journals)) (all_got_at c s (all_entries journals)))
    → IsAtNoEntry (IsWrongGot c journals)
nowhere_wrong c journals told n i h =
    h.with_it (got_front c (all_entries journals) h.stream (entries_to journals n h.journal (i + 1)) (rest_of journals n h.journal (i + 1))
    (all_entries journals) (split_at journals n h.journal (i + 1) h.here) (told h.stream))

pub none_wrong_before : (c : Course) (journals : List (List Entry)) (n i : ℕ) (journal : List Entry) → slice_get journals n ≡ Some journal
    → ((s : ℕ) → AreFirstSent c.plan.params.delay (all_sent_at c s (all_entries journals)) (all_got_at c s (entries_to journals n journal i)))
    → (m j : ℕ) → IsEarlier m j n i → IsWrongGot c journals m j → ⊥
none_wrong_before c journals n i journal here told m j before h =
    let r = reaches journals m j n i h.journal journal h.here here before in
    h.with_it (got_front c (all_entries journals) h.stream (entries_to journals m h.journal (j + 1)) r.0 (entries_to journals n journal i)
    r.1 (told h.stream))

pub wrong_found : (c : Course) (journals : List (List Entry)) (n place : ℕ) (journal : List Entry) → slice_get journals n ≡ Some journal
    → IsWrongIn c (all_entries journals) (all_entries (take n journals)) journal place → IsFirstEntry (IsWrongGot c journals) n place
wrong_found c journals n place journal here h = record {
  here = record {
    journal = journal;
    here = here;
    inside = h.inside;
    stream = h.stream;
    before = h.before h.stream;
    with_it = h.with_it;
  };
  none_before = none_wrong_before c journals n place journal here h.before;
}

-- ---- messages that were lost

-- if none is lost of what stands up to a place, no entry before it is one that is lost
pub none_lost_before : (c : Course) (journals : List (List Entry)) (got : StreamCounts) (n i : ℕ) (journal : List Entry)
    → ((s : ℕ) → count_under s got ≡ length (all_got_at c s (all_entries journals))) → slice_get journals n ≡ Some journal
    → NoneIsLost c got (entries_to journals n journal i) → (m j : ℕ) → IsEarlier m j n i → IsLost c journals m j → ⊥
none_lost_before c journals got n i journal counted here none m j before h =
    let beat = h.entry.stamp.beat in
    let half = half_of (back_to c h.link.0) beat in
    let s = stream_of c h.link.0 beat in
    let d : Dated Note = record { beat = beat; item = h.note } in
    let r = reaches journals m j n i h.journal journal h.here here before in
    let up_to = entries_to journals m h.journal j in
    let front = all_sent_at c s up_to in
    let mine : sent_at c s beat h.entry.what ≡ d ∷ [] =
    ap (sent_at c s beat) h.sends ∙ ap (λ (t : Bool). cond t (d ∷ []) []) (eq-eqb s s refl) in
    let one_more : entries_to journals m h.journal (j + 1) ≡ up_to ++ h.entry ∷ [] =
    ap (λ (q : List Entry). all_entries (take m journals) ++ q) (take_at h.journal j h.entry h.at)
    ∙ sym (append_assoc (all_entries (take m journals)) (take j h.journal) (h.entry ∷ [])) in
    let all_sent : all_sent_at c s (entries_to journals n journal i) ≡ front ++ d ∷ all_sent_at c s r.0 =
    ap (all_sent_at c s) (sym r.1 ∙ ap (λ (q : List Entry). q ++ r.0) one_more ∙ append_assoc up_to (h.entry ∷ []) r.0)
    ∙ flat_map-append (λ (e : Entry). sent_at c s e.stamp.beat e.what) up_to (h.entry ∷ r.0)
    ∙ ap (λ (q : List (Dated Note)). front ++ (q ++ all_sent_at c s r.0)) mine in
    h.needed (none h.link.0 half (half_low (back_to c h.link.0) beat) (length front) d
    (ap (λ (q : List (Dated Note)). slice_get q (length front)) all_sent ∙ behind_them front d (all_sent_at c s r.0))
    (subst (λ (x : ℕ). x ≤ length front) (sym (counted s)) h.behind))

pub lost_found : (c : Course) (journals : List (List Entry)) (got : StreamCounts) (n place : ℕ) (journal : List Entry)
    → ((s : ℕ) → count_under s got ≡ length (all_got_at c s (all_entries journals))) → slice_get journals n ≡ Some journal
    → IsLostIn c got (all_entries (take n journals)) journal place → IsFirstEntry (IsLost c journals) n place
lost_found c journals got n place journal counted here h = record {
  here = record {
    journal = journal;
    here = here;
    entry = h.entry;
    at = h.at;
    link = h.link;
    note = h.note;
    sends = h.sends;
    behind = subst (λ (x : ℕ). x ≤ length (all_sent_at c (stream_of c h.link.0 h.entry.stamp.beat) (all_entries (take n journals) ++ take place journal)))
        (counted (stream_of c h.link.0 h.entry.stamp.beat)) h.behind;
    needed = h.needed;
  };
  none_before = none_lost_before c journals got n place journal counted here h.none;
}
