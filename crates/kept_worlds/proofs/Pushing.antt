-- One turn of each loop that pushes events.
use Rattle.std.proofs.Common.{◌≡◌, ℕ, zero, suc, ◌+◌, ◌-◌, ◌<◌, ◌≤◌, List, [], ◌∷◌, ◌++◌, map, length, take, drop, get_or, Bool, true, false, Option, Some, None, refl, ap, sym, ◌∙◌, arith, append_assoc, append-nil, length-append, ⊎_elim, cond, subst}
use Rattle.std.specs.Prelude.{◌==◌, ◌&&◌, not, nat_le, nat_lt}
use Rattle.std.specs.List.{AllByRecursion}
use Rattle.std.proofs.lemmas.Bool.{cases_Bool}
use Rattle.std.proofs.lemmas.Bool.Decides.{nat_tests}
use Rattle.std.proofs.lemmas.List.{take_more, take_rest, drop_more}
use Rattle.std.proofs.lemmas.List.Elements.{filter-append}
use Rattle.tiger_base.specs.declared.message.Note.{Note}
use Rattle.tiger_base.specs.declared.number.LinkNo.{LinkNo}
use Rattle.node_kit.specs.declared.course.Course.{Course}
use Rattle.node_kit.specs.declared.journal.Entry.{Entry}
use Rattle.node_kit.specs.declared.journal.What.{What}
use Rattle.node_kit.specs.declared.journal.What.TheVariants as what
use Rattle.node_kit.specs.Life.{back_of}
use Rattle.run_facts.specs.Carried.{got_by, got_on, since, until}
use Rattle.run_facts.specs.Events.{Dated}
use Rattle.run_facts.proofs.Along.{got_on-append}
use Rattle.run_facts.proofs.Rows.{all-weaker, filter-all, filter-none}
use Rattle.ring_world.specs.declared.event.Act.{Act}
use Rattle.ring_world.specs.declared.event.Event.{Event}
use Rattle.kept_worlds.specs.Events.{begin_of_beat, said_in, get_told, get_of, end_of_beat, event_in, in_life, lost_in, lost_told, number_told, sent_before}
use Rattle.kept_worlds.specs.Numbering.{IsOneMore, by_life, got_in, is_back_by, number_next}
use Rattle.kept_worlds.specs.declared.life_counts.Lives.{Lives}
use Rattle.kept_worlds.specs.Telling.{Numbers, backs_told, counted_on, told_in, gets_told, ends_told, node_told, nodes_told}

pub ends-next : (c : Course) (n : ℕ) (journal : List Entry) (b : ℕ) (old new all : List Event) → b < c.beats
    → new ≡ old ++ map (event_in c n b) (end_of_beat c n b (said_in b journal)) → old ++ ends_told c n journal b (c.beats - b) ≡ all
    → new ++ ends_told c n journal (b + 1) (c.beats - (b + 1)) ≡ all
ends-next c n journal b old new all low pushed before =
    let here = map (event_in c n b) (end_of_beat c n b (said_in b journal)) in
    let rest = ends_told c n journal (b + 1) (c.beats - (b + 1)) in
    let left : c.beats - b ≡ suc (c.beats - (b + 1)) = omega (arith, low) in
    ap (λ q. q ++ rest) pushed ∙ append_assoc old here rest
    ∙ ap (λ k. old ++ ends_told c n journal b k) (sym left) ∙ before

pub backs-next : (c : Course) (n b : ℕ) (old new all : List Event) → b < c.beats
    → new ≡ old ++ map (event_in c n b) (begin_of_beat c n b) → old ++ backs_told c n b (c.beats - b) ≡ all
    → new ++ backs_told c n (b + 1) (c.beats - (b + 1)) ≡ all
backs-next c n b old new all low pushed before =
    let here = map (event_in c n b) (begin_of_beat c n b) in
    let rest = backs_told c n (b + 1) (c.beats - (b + 1)) in
    let left : c.beats - b ≡ suc (c.beats - (b + 1)) = omega (arith, low) in
    ap (λ q. q ++ rest) pushed ∙ append_assoc old here rest
    ∙ ap (λ k. old ++ backs_told c n b k) (sym left) ∙ before

pub nodes-next : (c : Course) (lost : ℕ → ℕ → ℕ) (n : ℕ) (journals : List (List Entry)) (journal : List Entry)
    (old new all : List Event)
    → n < length journals → journal ≡ get_or journals n journal → new ≡ old ++ node_told c n (lost n) journal
    → old ++ nodes_told c lost n (drop n journals) ≡ all
    → new ++ nodes_told c lost (n + 1) (drop (n + 1) journals) ≡ all
nodes-next c lost n journals journal old new all low item pushed before =
    let here = node_told c n (lost n) journal in
    let rest = nodes_told c lost (n + 1) (drop (n + 1) journals) in
    ap (λ q. q ++ rest) pushed ∙ append_assoc old here rest
    ∙ ap (λ j. old ++ (node_told c n (lost n) j ++ rest)) item
    ∙ ap (λ q. old ++ nodes_told c lost n q) (sym (drop_more journals n journal low)) ∙ before

-- what is left of entries is the first of them, and those behind it
told-first : (c : Course) (n : ℕ) (lost : ℕ → ℕ) (i : ℕ) (journal : List Entry) (d : Entry) → i < length journal
    → let e = get_or journal i d in
    gets_told c n lost (take i journal) (drop i journal)
    ≡ told_in c n e.stamp.beat (get_of c n lost e.stamp.beat (take i journal) e.what (drop (i + 1) journal))
    ++ gets_told c n lost (take (i + 1) journal) (drop (i + 1) journal)
told-first c n lost i journal d low =
    let e = get_or journal i d in
    ap (gets_told c n lost (take i journal)) (drop_more journal i d low)
    ∙ ap (λ q. told_in c n e.stamp.beat (get_of c n lost e.stamp.beat (take i journal) e.what (drop (i + 1) journal))
    ++ gets_told c n lost q (drop (i + 1) journal))
    (sym (take_more journal i d low))

got-one : (l : ℕ) (e : Entry) → got_on l (e ∷ []) ≡ got_by l e.stamp.beat e.what
unfolding got_on
got-one l e = append-nil (got_by l e.stamp.beat e.what)

got-more : (l i : ℕ) (journal : List Entry) (d : Entry) → i < length journal
    → got_on l (take (i + 1) journal)
    ≡ got_on l (take i journal) ++ got_by l (get_or journal i d).stamp.beat (get_or journal i d).what
got-more l i journal d low =
    let e = get_or journal i d in
    ap (got_on l) (take_more journal i d low)
    ∙ got_on-append l (take i journal) (e ∷ [])
    ∙ ap (λ q. got_on l (take i journal) ++ q) (got-one l e)

none-got : (l : ℕ) → got_on l [] ≡ []
unfolding got_on
none-got l = refl

-- what is counted of messages got, in the life of each beat, beside the entries so far
pub record AreCounted (c : Course) (n : ℕ) (lost : ℕ → ℕ) (i : ℕ) (journal : List Entry) (s : Lives) : Type 0 where
  pub back : s.back ≡ back_of c n
  pub lost_are : (l : ℕ) → counted_on l s.lost ≡ lost l
  pub got : (l x : ℕ) → got_in s l x ≡ length (in_life (back_of c n) x (got_on l (take i journal)))

-- before the first
pub counts-open : (c : Course) (n : ℕ) (journals : List (List Entry)) (journal : List Entry) (back : Option ℕ) (lost : Numbers) (s : Lives)
    → s ≡ record { back = back; lost = lost; first = []; later = [] } → back ≡ back_of c n
    → ((l : ℕ) → counted_on l lost ≡ sent_before back l journals) → AreCounted c n (lost_told c journals n) 0 journal s
counts-open c n journals journal back lost s is same counted = record {
  back = ap (λ (q : Lives). q.back) is ∙ same;
  lost_are = λ l. ap (λ (q : Lives). counted_on l q.lost) is ∙ counted l ∙ ap (λ o. sent_before o l journals) same;
  got = λ l x. ap (λ (q : Lives). got_in q l x) is ∙ both (back_of c n) back same l x;
}
  where
    both : (o b : Option ℕ) → b ≡ o → (l x : ℕ) → by_life b x 0 0 ≡ length (in_life o x (got_on l []))
    both None b e l x = ap (λ q. by_life q x 0 0) e ∙ sym (ap length (none-got l))
    both (Some w) b e l x = ap (λ q. by_life q x 0 0) e ∙ ⊎_elim
        (λ (t : nat_le w x ≡ true). rw t (sym (ap (λ ds. length (since w ds)) (none-got l))))
        (λ (t : nat_le w x ≡ false). rw t (sym (ap (λ ds. length (until w ds)) (none-got l))))
        (cases_Bool (nat_le w x))

-- one message more in a life
life-one : (o : Option ℕ) (x b : ℕ) (hit : Bool) (f l g m : ℕ) (ds es : List (Dated Note))
    → g ≡ cond (hit && not (is_back_by o b)) (suc f) f → m ≡ cond (hit && is_back_by o b) (suc l) l
    → es ≡ cond hit es [] → length es ≡ cond hit 1 0 → AllByRecursion (λ (d : Dated Note). d.beat ≡ b) es
    → by_life o x f l ≡ length (in_life o x ds) → by_life o x g m ≡ length (in_life o x (ds ++ es))
life-one None x b true f l g m ds es first later own one dated was =
    let all = length-append ds es in omega (arith, first, one, was, all)
life-one None x b false f l g m ds es first later own one dated was =
    let all = length-append ds es in omega (arith, first, one, was, all)
life-one (Some w) x b hit f l g m ds es first later own one dated was =
    let since_both = ap length (filter-append (λ (d : Dated Note). nat_le w d.beat) ds es) ∙ length-append (since w ds) (since w es) in
    let until_both = ap length (filter-append (λ (d : Dated Note). nat_lt d.beat w) ds es) ∙ length-append (until w ds) (until w es) in
    ⊎_elim
    (λ (back : nat_le w b ≡ true).
    let s : since w es ≡ es = filter-all (λ (d : Dated Note). nat_le w d.beat) es
    (all-weaker (λ (d : Dated Note). d.beat ≡ b) (λ d. nat_le w d.beat ≡ true) es (λ d e. grind (arith, nat_tests, e, back)) dated) in
    let u : until w es ≡ [] = filter-none (λ (d : Dated Note). nat_lt d.beat w) es
    (all-weaker (λ (d : Dated Note). d.beat ≡ b) (λ d. nat_lt d.beat w ≡ false) es (λ d e. grind (arith, nat_tests, e, back)) dated) in
    let sl = ap length s in
    let ul = ap length u in
    let g_is : g ≡ f = first ∙ ap (λ t. cond (hit && not t) (suc f) f) back ∙ and-not hit f in
    let m_is : m ≡ cond hit (suc l) l = later ∙ ap (λ t. cond (hit && t) (suc l) l) back ∙ and-true hit l in
    let m_sum : m ≡ l + length es = m_is ∙ count hit l (length es) one in
    ⊎_elim
    (λ (t : nat_le w x ≡ true).
    let old : l ≡ length (since w ds) = sym (ap (λ q. cond q l f) t) ∙ was ∙ ap (λ q. length (cond q (since w ds) (until w ds))) t in
    rw t (omega (arith, old, m_sum, since_both, sl)))
    (λ (t : nat_le w x ≡ false).
    let old : f ≡ length (until w ds) = sym (ap (λ q. cond q l f) t) ∙ was ∙ ap (λ q. length (cond q (since w ds) (until w ds))) t in
    rw t (omega (arith, old, g_is, until_both, ul)))
    (cases_Bool (nat_le w x)))
    (λ (back : nat_le w b ≡ false).
    let s : since w es ≡ [] = filter-none (λ (d : Dated Note). nat_le w d.beat) es
    (all-weaker (λ (d : Dated Note). d.beat ≡ b) (λ d. nat_le w d.beat ≡ false) es (λ d e. grind (arith, nat_tests, e, back)) dated) in
    let u : until w es ≡ es = filter-all (λ (d : Dated Note). nat_lt d.beat w) es
    (all-weaker (λ (d : Dated Note). d.beat ≡ b) (λ d. nat_lt d.beat w ≡ true) es (λ d e. grind (arith, nat_tests, e, back)) dated) in
    let sl = ap length s in
    let ul = ap length u in
    let g_is : g ≡ cond hit (suc f) f = first ∙ ap (λ t. cond (hit && not t) (suc f) f) back ∙ and-true hit f in
    let m_is : m ≡ l = later ∙ ap (λ t. cond (hit && t) (suc l) l) back ∙ and-not hit l in
    let g_sum : g ≡ f + length es = g_is ∙ count hit f (length es) one in
    ⊎_elim
    (λ (t : nat_le w x ≡ true).
    let old : l ≡ length (since w ds) = sym (ap (λ q. cond q l f) t) ∙ was ∙ ap (λ q. length (cond q (since w ds) (until w ds))) t in
    rw t (omega (arith, old, m_is, since_both, sl)))
    (λ (t : nat_le w x ≡ false).
    let old : f ≡ length (until w ds) = sym (ap (λ q. cond q l f) t) ∙ was ∙ ap (λ q. length (cond q (since w ds) (until w ds))) t in
    rw t (omega (arith, old, g_sum, until_both, ul)))
    (cases_Bool (nat_le w x)))
    (cases_Bool (nat_le w b))
  where
    and-true : (h : Bool) (k : ℕ) → cond (h && true) (suc k) k ≡ cond h (suc k) k
    and-true true k = refl
    and-true false k = refl

    and-not : (h : Bool) (k : ℕ) → cond (h && false) (suc k) k ≡ k
    and-not true k = refl
    and-not false k = refl

    count : (h : Bool) (k more : ℕ) → more ≡ cond h 1 0 → cond h (suc k) k ≡ k + more
    count true k more e = omega (arith, e)
    count false k more e = omega (arith, e)

-- a turn that finds a message, and one that finds none
pub record IsTold (c : Course) (n : ℕ) (lost : ℕ → ℕ) (i : ℕ) (journal : List Entry) (start new : List Event) (s : Lives) : Type 0 where
  pub told : new ++ gets_told c n lost (take i journal) (drop i journal) ≡ start ++ gets_told c n lost [] journal
  pub counts : AreCounted c n lost i journal s

lost-same : (o : Option ℕ) (x k : ℕ) → by_life o x 0 k ≡ lost_in o x k
lost-same None x k = refl
lost-same (Some w) x k = refl

pub got-next : (c : Course) (n : ℕ) (lost : ℕ → ℕ) (i : ℕ) (journal : List Entry) (d : Entry) (link : LinkNo) (note : Note) (number : ℕ)
    (act : Act) (start old new : List Event) (s later : Lives) → i < length journal
    → (get_or journal i d).what ≡ what.Got link note → number ≡ number_next s link.0 (get_or journal i d).stamp.beat
    → IsOneMore s later link.0 (get_or journal i d).stamp.beat
    → act ≡ get_told c n (get_or journal i d).stamp.beat link note number (take (length journal - (i + 1)) (drop (i + 1) journal))
    → new ≡ old ++ told_in c n (get_or journal i d).stamp.beat (act ∷ [])
    → old ++ gets_told c n lost (take i journal) (drop i journal) ≡ start ++ gets_told c n lost [] journal
    → AreCounted c n lost i journal s
    → IsTold c n lost (i + 1) journal start new later
got-next c n lost i journal d link note number act start old new s later low is next more acts pushed told same =
    let e = get_or journal i d in
    let behind = drop (i + 1) journal in
    let lent : act ≡ get_told c n e.stamp.beat link note number behind =
    acts ∙ ap (get_told c n e.stamp.beat link note number) (take_rest journal (i + 1)) in
    let number_is : number ≡ number_told c n lost e.stamp.beat link.0 (take i journal) =
    next ∙ ap (λ q. by_life s.back e.stamp.beat 0 (counted_on link.0 s.lost) + q) (same.got link.0 e.stamp.beat)
    ∙ ap (λ q. by_life s.back e.stamp.beat 0 q + length (in_life (back_of c n) e.stamp.beat (got_on link.0 (take i journal)))) (same.lost_are link.0)
    ∙ ap (λ o. by_life o e.stamp.beat 0 (lost link.0) + length (in_life (back_of c n) e.stamp.beat (got_on link.0 (take i journal)))) same.back
    ∙ ap (λ q. q + length (in_life (back_of c n) e.stamp.beat (got_on link.0 (take i journal)))) (lost-same (back_of c n) e.stamp.beat (lost link.0)) in
    let get : get_of c n lost e.stamp.beat (take i journal) e.what behind ≡ act ∷ [] =
    ap (λ w. get_of c n lost e.stamp.beat (take i journal) w behind) is
    ∙ ap (λ k. get_told c n e.stamp.beat link note k behind ∷ []) (sym number_is) ∙ ap (λ a. a ∷ []) (sym lent) in
    let here = told_in c n e.stamp.beat (act ∷ []) in
    let rest = gets_told c n lost (take (i + 1) journal) behind in
    record {
      told = ap (λ q. q ++ rest) pushed ∙ append_assoc old here rest
          ∙ ap (λ q. old ++ (told_in c n e.stamp.beat q ++ rest)) (sym get)
          ∙ ap (λ q. old ++ q) (sym (told-first c n lost i journal d low)) ∙ told;
      counts = record {
        back = more.back ∙ same.back;
        lost_are = λ l. ap (counted_on l) more.lost ∙ same.lost_are l;
        got = λ l x.
            let this : got_by l e.stamp.beat e.what ≡ got_by l e.stamp.beat (what.Got link note) = ap (got_by l e.stamp.beat) is in
            let got_it = got-this l e.stamp.beat link note in
            let old_got = subst (λ o. by_life o x (counted_on l s.first) (counted_on l s.later)
            ≡ length (in_life (back_of c n) x (got_on l (take i journal)))) same.back (same.got l x) in
            let first = subst (λ o. counted_on l later.first
            ≡ cond (link.0 == l && not (is_back_by o e.stamp.beat)) (suc (counted_on l s.first)) (counted_on l s.first)) same.back (more.first l) in
            let second = subst (λ o. counted_on l later.later
            ≡ cond (link.0 == l && is_back_by o e.stamp.beat) (suc (counted_on l s.later)) (counted_on l s.later)) same.back (more.later l) in
            ap (λ o. by_life o x (counted_on l later.first) (counted_on l later.later)) (more.back ∙ same.back)
            ∙ life-one (back_of c n) x e.stamp.beat (link.0 == l) (counted_on l s.first) (counted_on l s.later)
            (counted_on l later.first) (counted_on l later.later) (got_on l (take i journal)) (got_by l e.stamp.beat (what.Got link note))
            first second got_it.0 got_it.1 got_it.2 old_got
            ∙ ap (λ q. length (in_life (back_of c n) x (got_on l (take i journal) ++ q))) (sym this)
            ∙ ap (λ q. length (in_life (back_of c n) x q)) (sym (got-more l i journal d low));
      };
    }
  where
    got-this : (l b : ℕ) (link : LinkNo) (note : Note)
        → (got_by l b (what.Got link note) ≡ cond (link.0 == l) (got_by l b (what.Got link note)) [])
        × (length (got_by l b (what.Got link note)) ≡ cond (link.0 == l) 1 0)
        × AllByRecursion (λ (d : Dated Note). d.beat ≡ b) (got_by l b (what.Got link note))
    got-this l b link note = ⊎_elim
        (λ (t : (link.0 == l) ≡ true). rw t (refl, refl, (refl, tt)))
        (λ (t : (link.0 == l) ≡ false). rw t (refl, refl, tt))
        (cases_Bool (link.0 == l))

pub other-next : (c : Course) (n : ℕ) (lost : ℕ → ℕ) (i : ℕ) (journal : List Entry) (d : Entry) (start old : List Event) (s : Lives)
    → i < length journal → ((link : LinkNo) (note : Note) → (get_or journal i d).what ≡ what.Got link note → ⊥)
    → old ++ gets_told c n lost (take i journal) (drop i journal) ≡ start ++ gets_told c n lost [] journal
    → AreCounted c n lost i journal s
    → IsTold c n lost (i + 1) journal start old s
other-next c n lost i journal d start old s low other told same =
    let e = get_or journal i d in
    let behind = drop (i + 1) journal in
    let rest = gets_told c n lost (take (i + 1) journal) behind in
    let none = none-of e.stamp.beat (take i journal) e.what behind other in
    record {
      told = sym (ap (λ q. old ++ (q ++ rest)) (ap (told_in c n e.stamp.beat) none ∙ told-none e.stamp.beat))
          ∙ ap (λ q. old ++ q) (sym (told-first c n lost i journal d low)) ∙ told;
      counts = record {
        back = same.back;
        lost_are = same.lost_are;
        got = λ l x. same.got l x ∙ ap (λ q. length (in_life (back_of c n) x q))
            (sym (append-nil (got_on l (take i journal))) ∙ ap (λ q. got_on l (take i journal) ++ q) (sym (no-got l e.stamp.beat e.what other))
            ∙ sym (got-more l i journal d low));
      };
    }
  where
    told-none : (b : ℕ) → told_in c n b [] ≡ []
    told-none b = ⊎_elim
        (λ (t : nat_lt b c.beats ≡ true). rw t refl)
        (λ (t : nat_lt b c.beats ≡ false). rw t refl)
        (cases_Bool (nat_lt b c.beats))

    none-of : (b : ℕ) (before : List Entry) (w : What) (es : List Entry)
        → ((link : LinkNo) (note : Note) → w ≡ what.Got link note → ⊥) → get_of c n lost b before w es ≡ []
    none-of b before (what.Got link note) es h = absurd (h link note refl)
    none-of b before other es h = refl

    no-got : (l b : ℕ) (w : What) → ((link : LinkNo) (note : Note) → w ≡ what.Got link note → ⊥) → got_by l b w ≡ []
    no-got l b (what.Got link note) h = absurd (h link note refl)
    no-got l b other h = refl

pub node-next : (c : Course) (n : ℕ) (lost : ℕ → ℕ) (journal entries : List Entry) (old returned mid new : List Event) → entries ≡ journal
    → returned ≡ old ++ backs_told c n 0 c.beats
    → mid ≡ returned ++ gets_told c n lost [] entries → new ≡ mid ++ ends_told c n entries 0 c.beats
    → new ≡ old ++ node_told c n lost journal
node-next c n lost journal entries old returned mid new lent backs gets ends =
    let first = backs_told c n 0 c.beats in
    let got = gets_told c n lost [] journal in
    let end = ends_told c n journal 0 c.beats in
    let here : mid ≡ (old ++ first) ++ got = gets ∙ ap (λ q. returned ++ gets_told c n lost [] q) lent ∙ ap (λ q. q ++ got) backs in
    ends ∙ ap (λ q. mid ++ ends_told c n q 0 c.beats) lent ∙ ap (λ q. q ++ end) here
    ∙ append_assoc (old ++ first) got end ∙ append_assoc old first (got ++ end)

pub nodes-end : (c : Course) (lost : ℕ → ℕ → ℕ) (n : ℕ) (journals : List (List Entry)) (old all : List Event) → length journals ≤ n
    → old ++ nodes_told c lost n (drop n journals) ≡ all → old ≡ all
nodes-end c lost n journals old all over before =
    let none : drop n journals ≡ [] = drop_all n journals over in
    sym (append-nil old) ∙ ap (λ q. old ++ nodes_told c lost n q) (sym none) ∙ before
  where
    drop_all : (k : ℕ) (xs : List (List Entry)) → length xs ≤ k → drop k xs ≡ []
    drop_all zero [] h = refl
    drop_all zero (x ∷ xs) h = absurd (omega (arith, h))
    drop_all (suc k) [] h = refl
    drop_all (suc k) (x ∷ xs) h = drop_all k xs (omega (arith, h))

-- all entries are told
pub gets-end : (c : Course) (n : ℕ) (lost : ℕ → ℕ) (i : ℕ) (journal : List Entry) (start new : List Event) → length journal ≤ i
    → new ++ gets_told c n lost (take i journal) (drop i journal) ≡ start ++ gets_told c n lost [] journal
    → new ≡ start ++ gets_told c n lost [] journal
gets-end c n lost i journal start new over told =
    sym (append-nil new) ∙ ap (λ q. new ++ gets_told c n lost (take i journal) q) (sym (drop_all i journal over)) ∙ told
  where
    drop_all : (k : ℕ) (xs : List Entry) → length xs ≤ k → drop k xs ≡ []
    drop_all zero [] h = refl
    drop_all zero (x ∷ xs) h = absurd (omega (arith, h))
    drop_all (suc k) [] h = refl
    drop_all (suc k) (x ∷ xs) h = drop_all k xs (omega (arith, h))
