-- What walks over all journals know of the messages that were sent and got.
use Rattle.std.proofs.Common.{◌≡◌, ℕ, zero, suc, ◌+◌, ◌*◌, ◌<◌, ◌≤◌, Bool, true, false, ◌&&◌, IsTrue, nat_le, cond, List, [], ◌∷◌, ◌++◌, length, take, Option, Some, None, slice_get, MatchOption, refl, sym, ap, subst, ◌∙◌, ⊎_elim, inl, inr, append_assoc, append-nil, arith}
use Rattle.std.specs.Prelude.{◌==◌, ◌↔◌, slice_index_or}
use Rattle.std.specs.Option.{option_map}
use Rattle.std.proofs.lemmas.Bool.{eqb-true, eq-eqb, ne_eqb}
use Rattle.std.proofs.lemmas.Grind.{flat_map-append}
use Rattle.std.proofs.lemmas.List.{length-append, take_all}
use Rattle.std.proofs.lemmas.Option.{slice_get-get_or}
use Rattle.tiger_base.specs.declared.number.LinkNo.{LinkNo}
use Rattle.tiger_base.specs.declared.message.Note.{Note}
use Rattle.node_kit.specs.declared.course.Course.{Course}
use Rattle.node_kit.specs.declared.journal.Entry.{Entry}
use Rattle.node_kit.specs.declared.journal.What.{What}
use Rattle.node_kit.specs.declared.journal.What.TheVariants as what
use Rattle.run_facts.specs.Events.{Dated}
use Rattle.audit_orders.specs.Carrying.{half_of, back_to, stream_of, sent_at, got_at, all_sent_at, all_got_at, AreFirstSent, MayBeLostOn, KeptMail, mail_under, StreamCounts, count_under, mailed, mail_at, TellsPost, TellsSent, TellsGot, NoneIsLost, FitsMail, FitsNext, IsGotOrLost, sent_count, got_count, mail_after, all_entries, IsWrongIn, IsLostIn}
use Rattle.audit_orders.specs.declared.mail.Mail.{Mail}
use Rattle.audit_orders.proofs.Walks.{one_more}
use Rattle.audit_orders.proofs.Starting.{take_at}

-- ---- one entry more

pub sent_more : (c : Course) (s : ℕ) (front : List Entry) (e : Entry)
    → all_sent_at c s (front ++ e ∷ []) ≡ all_sent_at c s front ++ sent_at c s e.stamp.beat e.what
sent_more c s front e =
    flat_map-append (λ (x : Entry). sent_at c s x.stamp.beat x.what) front (e ∷ [])
    ∙ ap (λ (q : List (Dated Note)). all_sent_at c s front ++ q) (append-nil (sent_at c s e.stamp.beat e.what))

pub got_more : (c : Course) (s : ℕ) (front : List Entry) (e : Entry)
    → all_got_at c s (front ++ e ∷ []) ≡ all_got_at c s front ++ got_at c s e.stamp.beat e.what
got_more c s front e =
    flat_map-append (λ (x : Entry). got_at c s x.stamp.beat x.what) front (e ∷ [])
    ∙ ap (λ (q : List (Dated Note)). all_got_at c s front ++ q) (append-nil (got_at c s e.stamp.beat e.what))

same_bool : (a b : Bool) → (a ≡ true → b ≡ true) → (b ≡ true → a ≡ true) → a ≡ b
same_bool true b f g = sym (f refl)
same_bool false true f g = g refl
same_bool false false f g = refl

eq_suc : (a b : ℕ) → (suc a == suc b) ≡ (a == b)
eq_suc a b = same_bool (suc a == suc b) (a == b)
    (λ t. let same = eqb-true (suc a) (suc b) t in eq-eqb a b (omega (arith, same)))
    (λ t. eq-eqb (suc a) (suc b) (ap suc (eqb-true a b t)))

zero_suc : (n : ℕ) → (0 == suc n) ≡ false
zero_suc n = ne_eqb 0 (suc n) (λ e. omega (arith, e))

suc_zero : (n : ℕ) → (suc n == 0) ≡ false
suc_zero n = ne_eqb (suc n) 0 (λ e. omega (arith, e))

-- an element more of a list
pub slice_more : {X : Type 0} (xs : List X) (x : X) (n : ℕ)
    → slice_get (xs ++ x ∷ []) n ≡ cond (length xs == n) (Some x) (slice_get xs n)
slice_more [] x zero = refl
slice_more [] x (suc n) = ap (λ (b : Bool). cond b (Some x) None) (sym (zero_suc n))
slice_more (y ∷ ys) x zero = ap (λ (b : Bool). cond b (Some x) (Some y)) (sym (suc_zero (length ys)))
slice_more (y ∷ ys) x (suc n) = slice_more ys x n ∙ ap (λ (b : Bool). cond b (Some x) (slice_get ys n)) (sym (eq_suc (length ys) n))

map_cond : (t : Bool) (x : Dated Note) (o : Option (Dated Note))
    → option_map mailed (cond t (Some x) o) ≡ cond t (Some (mailed x)) (option_map mailed o)
map_cond true x o = refl
map_cond false x o = refl

mail_more : (xs : List (Dated Note)) (x : Dated Note) (n : ℕ)
    → mail_at (xs ++ x ∷ []) n ≡ cond (length xs == n) (Some (mailed x)) (mail_at xs n)
mail_more xs x n = ap (option_map mailed) (slice_more xs x n) ∙ map_cond (length xs == n) x (slice_get xs n)

-- ---- messages that were sent

pub post_more : (c : Course) (old new : KeptMail) (counts : StreamCounts) (front : List Entry) (e : Entry)
    → ((s n : ℕ) → mail_under s n new ≡ mail_after c counts e.stamp.beat e.what s n (mail_under s n old))
    → TellsPost c old front → TellsSent c counts front → TellsPost c new (front ++ e ∷ [])
post_more c old new counts front e added h k s n =
    added s n ∙ by e.what ∙ sym (ap (λ (q : List (Dated Note)). mail_at q n) (sent_more c s front e))
  where
    kept : (link : LinkNo) (note : Note) (t : Bool) → (stream_of c link.0 e.stamp.beat == s) ≡ t
        → cond (t && (count_under (stream_of c link.0 e.stamp.beat) counts == n)) (Some (record { beat = e.stamp.beat; note = note })) (mail_under s n old)
        ≡ mail_at (all_sent_at c s front ++ cond t ((record { beat = e.stamp.beat; item = note }) ∷ []) []) n
    kept link note true at =
        let s0 = stream_of c link.0 e.stamp.beat in
        let count : count_under s0 counts ≡ length (all_sent_at c s front) =
        k s0 ∙ ap (λ (x : ℕ). length (all_sent_at c x front)) (eqb-true s0 s at) in
        ap (λ (x : ℕ). cond (x == n) (Some (record { beat = e.stamp.beat; note = note })) (mail_under s n old)) count
        ∙ ap (λ (o : Option Mail). cond (length (all_sent_at c s front) == n) (Some (record { beat = e.stamp.beat; note = note })) o) (h s n)
        ∙ sym (mail_more (all_sent_at c s front) (record { beat = e.stamp.beat; item = note }) n)
    kept link note false at = h s n ∙ ap (λ (q : List (Dated Note)). mail_at q n) (sym (append-nil (all_sent_at c s front)))

    by : (w : What) → mail_after c counts e.stamp.beat w s n (mail_under s n old) ≡ mail_at (all_sent_at c s front ++ sent_at c s e.stamp.beat w) n
    by (what.Sent link note) = kept link note (stream_of c link.0 e.stamp.beat == s) refl
    by other = h s n ∙ ap (λ (q : List (Dated Note)). mail_at q n) (sym (append-nil (all_sent_at c s front)))

one_longer : (t : Bool) (xs : List (Dated Note)) (d : Dated Note) → length (xs ++ cond t (d ∷ []) []) ≡ cond t (length xs + 1) (length xs)
one_longer true xs d = length-append xs (d ∷ [])
one_longer false xs d = ap length (append-nil xs)

pub counts_more : (c : Course) (old new : StreamCounts) (front : List Entry) (e : Entry)
    → ((s : ℕ) → count_under s new ≡ sent_count c e.stamp.beat e.what s (count_under s old))
    → TellsSent c old front → TellsSent c new (front ++ e ∷ [])
counts_more c old new front e added h s =
    added s ∙ by e.what ∙ sym (ap length (sent_more c s front e))
  where
    by : (w : What) → sent_count c e.stamp.beat w s (count_under s old) ≡ length (all_sent_at c s front ++ sent_at c s e.stamp.beat w)
    by (what.Sent link note) =
        ap (λ (x : ℕ). cond (stream_of c link.0 e.stamp.beat == s) (x + 1) x) (h s)
        ∙ sym (one_longer (stream_of c link.0 e.stamp.beat == s) (all_sent_at c s front) (record { beat = e.stamp.beat; item = note }))
    by other = h s ∙ sym (ap length (append-nil (all_sent_at c s front)))

pub none_counted : (c : Course) (counts : StreamCounts) → counts ≡ [] → TellsSent c counts []
none_counted c counts e s = ap (count_under s) e

pub none_posted : (c : Course) (post : KeptMail) → post ≡ [] → TellsPost c post []
none_posted c post e s n = ap (mail_under s n) e

-- ---- messages that were got

first_more : (most : ℕ) (ss gs : List (Dated Note)) (g : Dated Note) → AreFirstSent most ss gs
    → FitsMail most g.beat g.item (mail_at ss (length gs)) → AreFirstSent most ss (gs ++ g ∷ [])
first_more most [] [] g h fits = absurd fits
first_more most (s ∷ ss) [] g h fits = (fits.0, fits.1, fits.2, tt)
first_more most [] (f ∷ fs) g h fits = absurd h
first_more most (s ∷ ss) (f ∷ fs) g h fits = (h.0, h.1, h.2, first_more most ss fs g h.3 fits)

first_back : (most : ℕ) (ss gs : List (Dated Note)) (g : Dated Note) → AreFirstSent most ss (gs ++ g ∷ [])
    → FitsMail most g.beat g.item (mail_at ss (length gs))
first_back most [] [] g h = absurd h
first_back most (s ∷ ss) [] g h = (h.0, h.1, h.2)
first_back most [] (f ∷ fs) g h = absurd h
first_back most (s ∷ ss) (f ∷ fs) g h = first_back most ss fs g h.3

-- the message that stands in the table for the next one got
next_mail : (c : Course) (all front : List Entry) (post : KeptMail) (counts : StreamCounts) (s : ℕ) → TellsPost c post all
    → TellsGot c all counts front
    → mail_under s (count_under s counts) post ≡ mail_at (all_sent_at c s all) (length (all_got_at c s front))
next_mail c all front post counts s told h =
    told s (count_under s counts) ∙ ap (mail_at (all_sent_at c s all)) (h s).count

pub got_one_more : (c : Course) (all front : List Entry) (post : KeptMail) (old new : StreamCounts) (e : Entry) → TellsPost c post all
    → ((s : ℕ) → count_under s new ≡ got_count c e.stamp.beat e.what s (count_under s old))
    → FitsNext c post old e.stamp.beat e.what → TellsGot c all old front → TellsGot c all new (front ++ e ∷ [])
got_one_more c all front post old new e told added fits h s = record {
  first = subst (λ (q : List (Dated Note)). AreFirstSent c.plan.params.delay (all_sent_at c s all) q) (sym (got_more c s front e)) (first_by e.what fits);
  count = added s ∙ count_by e.what ∙ sym (ap length (got_more c s front e));
} where
  still : AreFirstSent c.plan.params.delay (all_sent_at c s all) (all_got_at c s front ++ [])
  still = subst (λ (q : List (Dated Note)). AreFirstSent c.plan.params.delay (all_sent_at c s all) q) (sym (append-nil (all_got_at c s front))) (h s).first

  taken : (link : LinkNo) (note : Note) (t : Bool) → (stream_of c link.0 e.stamp.beat == s) ≡ t → FitsNext c post old e.stamp.beat (what.Got link note)
      → AreFirstSent c.plan.params.delay (all_sent_at c s all) (all_got_at c s front ++ cond t ((record { beat = e.stamp.beat; item = note }) ∷ []) [])
  taken link note true at f =
      let s0 = stream_of c link.0 e.stamp.beat in
      first_more c.plan.params.delay (all_sent_at c s all) (all_got_at c s front) (record { beat = e.stamp.beat; item = note }) (h s).first
      (subst (λ (o : Option Mail). FitsMail c.plan.params.delay e.stamp.beat note o) (next_mail c all front post old s told h)
      (subst (λ (x : ℕ). FitsMail c.plan.params.delay e.stamp.beat note (mail_under x (count_under x old) post)) (eqb-true s0 s at) f))
  taken link note false at f = subst (λ (q : List (Dated Note)). AreFirstSent c.plan.params.delay (all_sent_at c s all) q) (sym (append-nil (all_got_at c s front))) (h s).first

  first_by : (w : What) → FitsNext c post old e.stamp.beat w → AreFirstSent c.plan.params.delay (all_sent_at c s all) (all_got_at c s front ++ got_at c s e.stamp.beat w)
  first_by (what.Got link note) f = taken link note (stream_of c link.0 e.stamp.beat == s) refl f
  first_by other f = subst (λ (q : List (Dated Note)). AreFirstSent c.plan.params.delay (all_sent_at c s all) q) (sym (append-nil (all_got_at c s front))) (h s).first

  count_by : (w : What) → got_count c e.stamp.beat w s (count_under s old) ≡ length (all_got_at c s front ++ got_at c s e.stamp.beat w)
  count_by (what.Got link note) =
      ap (λ (x : ℕ). cond (stream_of c link.0 e.stamp.beat == s) (x + 1) x) (h s).count
      ∙ sym (one_longer (stream_of c link.0 e.stamp.beat == s) (all_got_at c s front) (record { beat = e.stamp.beat; item = note }))
  count_by other = (h s).count ∙ sym (ap length (append-nil (all_got_at c s front)))

-- an entry that does not fit
pub wrong_got : (c : Course) (all front journal : List Entry) (i : ℕ) (post : KeptMail) (counts : StreamCounts) (e : Entry) → i < length journal
    → ((d : Entry) → slice_index_or journal i d ≡ e) → TellsPost c post all → TellsGot c all counts (front ++ take i journal)
    → (FitsNext c post counts e.stamp.beat e.what → ⊥) → IsWrongIn c all front journal i
wrong_got c all front journal i post counts e low is told h wrong = by e.what refl wrong
  where
    by : (w : What) → e.what ≡ w → (FitsNext c post counts e.stamp.beat w → ⊥) → IsWrongIn c all front journal i
    by (what.Got link note) at no_fit =
        let s = stream_of c link.0 e.stamp.beat in
        let d : Dated Note = record { beat = e.stamp.beat; item = note } in
        let mine : got_at c s e.stamp.beat e.what ≡ d ∷ [] =
        ap (got_at c s e.stamp.beat) at ∙ ap (λ (t : Bool). cond t (d ∷ []) []) (eq-eqb s s refl) in
        let all_got : all_got_at c s (front ++ take (i + 1) journal) ≡ all_got_at c s (front ++ take i journal) ++ d ∷ [] =
        ap (λ (q : List Entry). all_got_at c s (front ++ q)) (one_more journal i e low is)
        ∙ ap (all_got_at c s) (sym (append_assoc front (take i journal) (e ∷ [])))
        ∙ got_more c s (front ++ take i journal) e
        ∙ ap (λ (q : List (Dated Note)). all_got_at c s (front ++ take i journal) ++ q) mine in
        record {
          inside = low;
          stream = s;
          before = λ t. (h t).first;
          with_it = λ f. no_fit (subst (λ (o : Option Mail). FitsMail c.plan.params.delay e.stamp.beat note o)
              (sym (next_mail c all (front ++ take i journal) post counts s told h))
              (first_back c.plan.params.delay (all_sent_at c s all) (all_got_at c s (front ++ take i journal)) d
              (subst (λ (q : List (Dated Note)). AreFirstSent c.plan.params.delay (all_sent_at c s all) q) all_got f)));
        }
    by other at no_fit = absurd (no_fit tt)

pub none_got : (c : Course) (all : List Entry) (counts : StreamCounts) → counts ≡ [] → TellsGot c all counts []
none_got c all counts e s = record { first = tt; count = ap (count_under s) e }

-- ---- messages that were sent and not got

-- the streams of two links are apart
pub stream_is : (c : Course) (a l beat h : ℕ) → h ≤ 1 → stream_of c a beat ≡ 2 * l + h → a ≡ l
stream_is c a l beat h low e = let half = half_low (back_to c a) beat in omega (arith, low, half, e)
  where
    half_low : (back : Option ℕ) (b : ℕ) → half_of back b ≤ 1
    half_low None b = omega arith
    half_low (Some back) b = by (nat_le back b)
      where
        by : (t : Bool) → cond t 1 0 ≤ 1
        by true = omega arith
        by false = omega arith

pub lost_more : (c : Course) (got sent : StreamCounts) (front : List Entry) (e : Entry) → TellsSent c sent front
    → IsGotOrLost c got sent e.stamp.beat e.what → NoneIsLost c got front → NoneIsLost c got (front ++ e ∷ [])
lost_more c got sent front e told fine h l half low n d at g =
    by e.what fine (sym (ap (λ (q : List (Dated Note)). slice_get q n) (sent_more c (2 * l + half) front e)) ∙ at)
  where
    kept : (link : LinkNo) (note : Note) (t : Bool) → (stream_of c link.0 e.stamp.beat == 2 * l + half) ≡ t
        → IsGotOrLost c got sent e.stamp.beat (what.Sent link note)
        → slice_get (all_sent_at c (2 * l + half) front ++ cond t ((record { beat = e.stamp.beat; item = note }) ∷ []) []) n ≡ Some d → MayBeLostOn c l d.beat
    kept link note true same f there = last (length (all_sent_at c (2 * l + half) front) == n) refl
        (sym (slice_more (all_sent_at c (2 * l + half) front) (record { beat = e.stamp.beat; item = note }) n) ∙ there)
      where
        last : (u : Bool) → (length (all_sent_at c (2 * l + half) front) == n) ≡ u
            → cond u (Some (record { beat = e.stamp.beat; item = note })) (slice_get (all_sent_at c (2 * l + half) front) n) ≡ Some d → MayBeLostOn c l d.beat
        last true here is =
            let stream = eqb-true (stream_of c link.0 e.stamp.beat) (2 * l + half) same in
            let place = eqb-true (length (all_sent_at c (2 * l + half) front)) n here in
            let mine : record { beat = e.stamp.beat; item = note } ≡ d = cc in
            let count : count_under (stream_of c link.0 e.stamp.beat) sent ≡ n =
            told (stream_of c link.0 e.stamp.beat) ∙ ap (λ (s : ℕ). length (all_sent_at c s front)) stream ∙ place in
            ⊎_elim
            (λ (less : count_under (stream_of c link.0 e.stamp.beat) sent < count_under (stream_of c link.0 e.stamp.beat) got).
            let as_many : count_under (stream_of c link.0 e.stamp.beat) got ≡ count_under (2 * l + half) got = ap (λ (s : ℕ). count_under s got) stream in
            absurd (omega (arith, less, count, as_many, g)))
            (λ (lost : MayBeLostOn c link.0 e.stamp.beat).
            subst (λ (b : ℕ). MayBeLostOn c l b) (ap (λ (x : Dated Note). x.beat) mine)
            (subst (λ (k : ℕ). MayBeLostOn c k e.stamp.beat) (stream_is c link.0 l e.stamp.beat half low stream) lost))
            f
        last false here is = h l half low n d is g
    kept link note false same f there =
        h l half low n d (ap (λ (q : List (Dated Note)). slice_get q n) (sym (append-nil (all_sent_at c (2 * l + half) front))) ∙ there) g

    by : (w : What) → IsGotOrLost c got sent e.stamp.beat w
        → slice_get (all_sent_at c (2 * l + half) front ++ sent_at c (2 * l + half) e.stamp.beat w) n ≡ Some d → MayBeLostOn c l d.beat
    by (what.Sent link note) f there = kept link note (stream_of c link.0 e.stamp.beat == 2 * l + half) refl f there
    by other f there =
        h l half low n d (ap (λ (q : List (Dated Note)). slice_get q n) (sym (append-nil (all_sent_at c (2 * l + half) front))) ∙ there) g

pub none_lost : (c : Course) (got : StreamCounts) → NoneIsLost c got []
none_lost c got l half low n d at g = absurd (cc)

pub lost_here : (c : Course) (got sent : StreamCounts) (front journal : List Entry) (i : ℕ) (e : Entry) → i < length journal
    → ((d : Entry) → slice_index_or journal i d ≡ e) → TellsSent c sent (front ++ take i journal)
    → (IsGotOrLost c got sent e.stamp.beat e.what → ⊥) → NoneIsLost c got (front ++ take i journal) → IsLostIn c got front journal i
lost_here c got sent front journal i e low is told wrong before = by e.what refl wrong
  where
    by : (w : What) → e.what ≡ w → (IsGotOrLost c got sent e.stamp.beat w → ⊥) → IsLostIn c got front journal i
    by (what.Sent link note) at no_excuse =
        let s = stream_of c link.0 e.stamp.beat in
        record {
          entry = e;
          at = slice_get-get_or journal i e low ∙ ap (λ (x : Entry). Some x) (is e);
          link = link;
          note = note;
          sends = at;
          behind = at_least (λ (less : count_under s sent < count_under s got). no_excuse (inl less)) (told s);
          needed = λ lost. no_excuse (inr lost);
          none = before;
        }
      where
        at_least : {a b c : ℕ} → (a < b → ⊥) → a ≡ c → b ≤ c
        at_least {a} {b} {c} n e = omega (arith, n, e)
    by other at no_excuse = absurd (no_excuse tt)

-- ---- one journal more

pub if_some : {X : Type 0} (o : Option X) (A : Type 0) (B : X → Type 0) (x : X) → MatchOption o A B → o ≡ Some x → B x
if_some None A B x h e = absurd (cc)
if_some {X} (Some y) A B x h e =
    let same : y ≡ x = cc in
    subst B same h

pub if_none : {X : Type 0} (o : Option X) (A : Type 0) (B : X → Type 0) → MatchOption o A B → o ≡ None → A
if_none None A B h e = h
if_none (Some y) A B h e = absurd (cc)

pub entries_more : (journals : List (List Entry)) (n : ℕ) (journal : List Entry) → slice_get journals n ≡ Some journal
    → all_entries (take (n + 1) journals) ≡ all_entries (take n journals) ++ journal
entries_more journals n journal at =
    ap all_entries (take_at journals n journal at)
    ∙ flat_map-append (λ (j : List Entry). j) (take n journals) (journal ∷ [])
    ∙ ap (λ (q : List Entry). all_entries (take n journals) ++ q) (append-nil journal)

pub front_more : (front journal : List Entry) (i : ℕ) (e : Entry) → i < length journal → ((d : Entry) → slice_index_or journal i d ≡ e)
    → front ++ take (i + 1) journal ≡ (front ++ take i journal) ++ e ∷ []
front_more front journal i e low is =
    ap (λ (q : List Entry). front ++ q) (one_more journal i e low is) ∙ sym (append_assoc front (take i journal) (e ∷ []))

pub front_all : (front journal : List Entry) (i : ℕ) → length journal ≤ i → front ++ take i journal ≡ front ++ journal
front_all front journal i over = ap (λ (q : List Entry). front ++ q) (take_all i journal over)

pub entries_all : (journals : List (List Entry)) (n : ℕ) → length journals ≤ n → all_entries (take n journals) ≡ all_entries journals
entries_all journals n over = ap all_entries (take_all n journals over)

pub front_none : (front journal : List Entry) → front ++ take 0 journal ≡ front
front_none front journal = append-nil front

-- ---- the test of one entry

pub fits_is : (c : Course) (post : KeptMail) (got : StreamCounts) (beat : ℕ) (w : What) (link : LinkNo) (note : Note) (stream count : ℕ)
    (mail : Option Mail) (r : Bool) → w ≡ what.Got link note → stream ≡ stream_of c link.0 beat → count ≡ count_under stream got
    → mail ≡ mail_under stream count post → IsTrue r ↔ FitsMail c.plan.params.delay beat note mail → IsTrue r ↔ FitsNext c post got beat w
fits_is c post got beat w link note stream count mail r is s n m h =
    subst (λ (v : What). IsTrue r ↔ FitsNext c post got beat v) (sym is)
    (subst (λ (o : Option Mail). IsTrue r ↔ FitsMail c.plan.params.delay beat note o)
    (m ∙ ap (λ (x : ℕ). mail_under stream x post) n ∙ ap (λ (x : ℕ). mail_under x (count_under x got) post) s) h)
