-- How what a node has lost is counted, one entry and one journal after another.
use Rattle.std.proofs.Common.{◌≡◌, ℕ, ◌+◌, ◌<◌, List, [], ◌∷◌, ◌++◌, length, filter, take, get_or, Bool, true, false, Option, Some, None, refl, ap, sym, ◌∙◌, subst, arith, cond, ⊎_elim, append-nil, length-append}
use Rattle.std.specs.Prelude.{◌==◌, nat_le, nat_lt, if◌then◌else◌}
use Rattle.std.proofs.lemmas.Bool.{cases_Bool, eqb-true}
use Rattle.std.proofs.lemmas.Bool.Decides.{nat_tests}
use Rattle.std.proofs.lemmas.List.{take_more}
use Rattle.std.proofs.lemmas.List.Elements.{filter-append}
use Rattle.tiger_base.specs.declared.number.LinkNo.{LinkNo}
use Rattle.tiger_base.specs.declared.message.Note.{Note}
use Rattle.node_kit.specs.declared.journal.Entry.{Entry}
use Rattle.node_kit.specs.declared.journal.What.{What}
use Rattle.node_kit.specs.declared.journal.What.TheVariants as what
use Rattle.run_facts.specs.Carried.{sent_by, sent_on}
use Rattle.run_facts.specs.Events.{Dated}
use Rattle.run_facts.specs.Histories.{below}
use Rattle.run_facts.proofs.Along.{sent_on-append}
use Rattle.kept_worlds.specs.Events.{sent_below}
use Rattle.kept_worlds.specs.Telling.{Numbers, counted_on, early_send, link_sent}

pub none-sent : (back l x : ℕ) → x ≡ x + below back (sent_on l [])
unfolding sent_on
none-sent back l x = omega arith

below-both : (b : ℕ) (xs ys : List (Dated Note)) → below b (xs ++ ys) ≡ below b xs + below b ys
below-both b xs ys =
    ap length (filter-append (λ (d : Dated Note). nat_lt d.beat b) xs ys)
    ∙ length-append (xs_below xs) (xs_below ys)
  where
    xs_below : List (Dated Note) → List (Dated Note)
    xs_below ds = filter (λ (d : Dated Note). nat_lt d.beat b) ds

sent-one : (l : ℕ) (e : Entry) → sent_on l (e ∷ []) ≡ sent_by l e.stamp.beat e.what
unfolding sent_on
sent-one l e = append-nil (sent_by l e.stamp.beat e.what)

sent-more : (back l i : ℕ) (journal : List Entry) (d : Entry) → i < length journal
    → below back (sent_on l (take (i + 1) journal)) ≡ below back (sent_on l (take i journal))
    + below back (sent_by l (get_or journal i d).stamp.beat (get_or journal i d).what)
sent-more back l i journal d low =
    let e = get_or journal i d in
    ap (λ q. below back (sent_on l q)) (take_more journal i d low)
    ∙ ap (below back) (sent_on-append l (take i journal) (e ∷ []))
    ∙ below-both back (sent_on l (take i journal)) (sent_on l (e ∷ []))
    ∙ ap (λ q. below back (sent_on l (take i journal)) + below back q) (sent-one l e)

-- what an entry says was sent below a beat
by-what : (back l b : ℕ) (w : What) (link : LinkNo) → nat_lt b back ≡ true → link_sent w ≡ Some link
    → below back (sent_by l b w) ≡ cond (link.0 == l) 1 0
by-what back l b (what.Sent k note) link low is =
    let same : k ≡ link = cc in
    subst (λ (q : LinkNo). below back (sent_by l b (what.Sent k note)) ≡ cond (q.0 == l) 1 0) same (⊎_elim
    (λ (t : (k.0 == l) ≡ true). rw (t, low) refl)
    (λ (t : (k.0 == l) ≡ false). rw t refl)
    (cases_Bool (k.0 == l)))
by-what back l b other link low is = absurd (cc)

no-what : (back l b : ℕ) (w : What) → link_sent w ≡ None → below back (sent_by l b w) ≡ 0
no-what back l b (what.Sent k note) is = absurd (cc)
no-what back l b other is = refl

late-what : (back l b : ℕ) (w : What) → nat_lt b back ≡ false → below back (sent_by l b w) ≡ 0
late-what back l b (what.Sent k note) late = ⊎_elim
    (λ (t : (k.0 == l) ≡ true). rw (t, late) refl)
    (λ (t : (k.0 == l) ≡ false). rw t refl)
    (cases_Bool (k.0 == l))
late-what back l b other late = refl

early-some : (back l : ℕ) (e : Entry) (link : LinkNo) → early_send back e ≡ Some link
    → below back (sent_by l e.stamp.beat e.what) ≡ cond (link.0 == l) 1 0
early-some back l e link is = ⊎_elim
    (λ (t : nat_le back e.stamp.beat ≡ true).
    let q : ◌≡◌ {A = Option LinkNo} None (Some link) = sym (ap (λ (b : Bool). cond b None (link_sent e.what)) t) ∙ is in absurd (cc))
    (λ (t : nat_le back e.stamp.beat ≡ false).
    by-what back l e.stamp.beat e.what link (grind (arith, nat_tests, t)) (sym (ap (λ (b : Bool). cond b None (link_sent e.what)) t) ∙ is))
    (cases_Bool (nat_le back e.stamp.beat))

early-none : (back l : ℕ) (e : Entry) → early_send back e ≡ None → below back (sent_by l e.stamp.beat e.what) ≡ 0
early-none back l e is = ⊎_elim
    (λ (t : nat_le back e.stamp.beat ≡ true). late-what back l e.stamp.beat e.what (grind (arith, nat_tests, t)))
    (λ (t : nat_le back e.stamp.beat ≡ false).
    no-what back l e.stamp.beat e.what (sym (ap (λ (b : Bool). cond b None (link_sent e.what)) t) ∙ is))
    (cases_Bool (nat_le back e.stamp.beat))

-- one entry more
pub sent-next : (back i : ℕ) (journal : List Entry) (d : Entry) (link : LinkNo) (o : Option LinkNo) (start old new : Numbers)
    → i < length journal → o ≡ early_send back (get_or journal i d) → o ≡ Some link
    → ((l : ℕ) → counted_on l new ≡ (if link.0 == l then counted_on link.0 old + 1 else counted_on l old))
    → ((l : ℕ) → counted_on l old ≡ counted_on l start + below back (sent_on l (take i journal)))
    → (l : ℕ) → counted_on l new ≡ counted_on l start + below back (sent_on l (take (i + 1) journal))
sent-next back i journal d link o start old new low is some counted before l =
    let more = sent-more back l i journal d low in
    let one = early-some back l (get_or journal i d) link (sym is ∙ some) in
    let was = before l in
    counted l ∙ ⊎_elim
    (λ (t : (link.0 == l) ≡ true).
    let at : link.0 ≡ l = eqb-true _ _ t in
    let here : counted_on link.0 old ≡ counted_on l old = ap (λ q. counted_on q old) at in
    let this : ◌≡◌ {A = ℕ} (cond (link.0 == l) 1 0) 1 = ap (λ (b : Bool). cond b 1 0) t in
    rw t (omega (arith, more, one, was, here, this)))
    (λ (t : (link.0 == l) ≡ false).
    let this : ◌≡◌ {A = ℕ} (cond (link.0 == l) 1 0) 0 = ap (λ (b : Bool). cond b 1 0) t in
    rw t (omega (arith, more, one, was, this)))
    (cases_Bool (link.0 == l))

pub sent-not : (back i : ℕ) (journal : List Entry) (d : Entry) (o : Option LinkNo) (start old : Numbers)
    → i < length journal → o ≡ early_send back (get_or journal i d) → o ≡ None
    → ((l : ℕ) → counted_on l old ≡ counted_on l start + below back (sent_on l (take i journal)))
    → (l : ℕ) → counted_on l old ≡ counted_on l start + below back (sent_on l (take (i + 1) journal))
sent-not back i journal d o start old low is none before l =
    let more = sent-more back l i journal d low in
    let nothing = early-none back l (get_or journal i d) (sym is ∙ none) in
    let was = before l in
    omega (arith, more, nothing, was)

-- one journal more
below-append : (back l : ℕ) (js : List (List Entry)) (journal : List Entry)
    → sent_below back l (js ++ journal ∷ []) ≡ sent_below back l js + below back (sent_on l journal)
below-append back l [] journal = omega arith
below-append back l (j ∷ js) journal = let rest = below-append back l js journal in omega (arith, rest)

pub all-next : (back i : ℕ) (journals : List (List Entry)) (journal entries : List Entry) (start old new : Numbers)
    → i < length journals → journal ≡ get_or journals i journal → entries ≡ journal
    → ((l : ℕ) → counted_on l new ≡ counted_on l old + below back (sent_on l entries))
    → ((l : ℕ) → counted_on l old ≡ counted_on l start + sent_below back l (take i journals))
    → (l : ℕ) → counted_on l new ≡ counted_on l start + sent_below back l (take (i + 1) journals)
all-next back i journals journal entries start old new low item lent counted before l =
    let more = ap (sent_below back l) (take_more journals i journal low)
    ∙ ap (λ j. sent_below back l (take i journals ++ j ∷ [])) (sym item) ∙ below-append back l (take i journals) journal in
    let same : below back (sent_on l entries) ≡ below back (sent_on l journal) = ap (λ q. below back (sent_on l q)) lent in
    let was = before l in
    let now = counted l in
    omega (arith, more, same, was, now)
