-- Events node for node, sorted by their beats and else left in their order, are the events beat for beat.
use Rattle.std.proofs.Common.{append-nil, ◌≡◌, ℕ, zero, suc, ◌+◌, ◌<◌, ◌≤◌, List, [], ◌∷◌, ◌++◌, map, filter, true, false, refl, ap, sym, ◌∙◌, subst, arith, ⊎_elim}
use Rattle.std.specs.Prelude.{◌==◌, nat_lt}
use Rattle.std.specs.List.{AllByRecursion}
use Rattle.std.specs.List.Sorted.{IsPermutation, IsSortedByKey, IsStableByKey}
use Rattle.std.specs.Ordering.{nat_cmp}
use Rattle.std.proofs.lemmas.Bool.{cases_Bool, cases_eq, eq-eqb, ne_eqb}
use Rattle.std.proofs.lemmas.Bool.Decides.{nat_tests}
use Rattle.std.proofs.lemmas.List.{map-append}
use Rattle.std.proofs.lemmas.List.Elements.{filter-append}
use Rattle.node_kit.specs.declared.course.Course.{Course}
use Rattle.node_kit.specs.declared.journal.Entry.{Entry}
use Rattle.run_facts.specs.Events.{Dated}
use Rattle.run_facts.proofs.Grouped.{sorted_groups}
use Rattle.run_facts.proofs.Orders.{groups}
use Rattle.run_facts.proofs.Rows.{all-append}
use Rattle.ring_world.specs.declared.event.Act.{Act}
use Rattle.ring_world.specs.declared.event.Act.TheVariants as act
use Rattle.ring_world.specs.declared.event.Event.{Event}
use Rattle.kept_worlds.specs.Events.{begin_of_beat, lost_told, said_in, get_of, gets_behind, end_of_beat, event_in, events_in, events_of_beat, events_from, events_by}
use Rattle.kept_worlds.specs.Telling.{backs_told, told_in, gets_told, ends_told, node_told, nodes_told}

-- all that is told is in a beat of the course
acts-all : (c : Course) (n b : ℕ) (acts : List Act) → b < c.beats → AllByRecursion (λ (e : Event). e.stamp.beat < c.beats) (map (event_in c n b) acts)
acts-all c n b [] low = tt
acts-all c n b (a ∷ acts) low = (low, acts-all c n b acts low)

told-all : (c : Course) (n b : ℕ) (acts : List Act) → AllByRecursion (λ (e : Event). e.stamp.beat < c.beats) (told_in c n b acts)
told-all c n b acts = ⊎_elim
    (λ (t : nat_lt b c.beats ≡ true). let low : b < c.beats = grind (arith, nat_tests, t) in rw t (acts-all c n b acts low))
    (λ (t : nat_lt b c.beats ≡ false). rw t tt)
    (cases_Bool (nat_lt b c.beats))

gets-all : (c : Course) (n : ℕ) (lost : ℕ → ℕ) (before es : List Entry) → AllByRecursion (λ (e : Event). e.stamp.beat < c.beats) (gets_told c n lost before es)
gets-all c n lost before [] = tt
gets-all c n lost before (e ∷ es) =
    all-append (λ (x : Event). x.stamp.beat < c.beats)
    (told_in c n e.stamp.beat (get_of c n lost e.stamp.beat before e.what es)) (gets_told c n lost (before ++ e ∷ []) es)
    (told-all c n e.stamp.beat (get_of c n lost e.stamp.beat before e.what es)) (gets-all c n lost (before ++ e ∷ []) es)

-- how node n ends a beat by its journal
abbrev end_by : Course → ℕ → List Entry → ℕ → List Act
end_by c n journal b = end_of_beat c n b (said_in b journal)

-- what it does in each of so many beats, as its returns and the ends of its beats
abbrev each_told : Course → ℕ → (ℕ → List Act) → ℕ → ℕ → List Event
each_told c n acts b zero = []
each_told c n acts b (suc k) = map (event_in c n b) (acts b) ++ each_told c n acts (b + 1) k

ends-each : (c : Course) (n : ℕ) (journal : List Entry) (b k : ℕ) → ends_told c n journal b k ≡ each_told c n (end_by c n journal) b k
ends-each c n journal b zero = refl
ends-each c n journal b (suc k) = ap (λ q. map (event_in c n b) (end_by c n journal b) ++ q) (ends-each c n journal (b + 1) k)

backs-each : (c : Course) (n b k : ℕ) → backs_told c n b k ≡ each_told c n (begin_of_beat c n) b k
backs-each c n b zero = refl
backs-each c n b (suc k) = ap (λ q. map (event_in c n b) (begin_of_beat c n b) ++ q) (backs-each c n (b + 1) k)

each-all : (c : Course) (n : ℕ) (acts : ℕ → List Act) (b k : ℕ) → b + k ≤ c.beats
    → AllByRecursion (λ (e : Event). e.stamp.beat < c.beats) (each_told c n acts b k)
each-all c n acts b zero h = tt
each-all c n acts b (suc k) h =
    all-append (λ (x : Event). x.stamp.beat < c.beats) (map (event_in c n b) (acts b)) (each_told c n acts (b + 1) k)
    (acts-all c n b (acts b) (omega (arith, h))) (each-all c n acts (b + 1) k (omega (arith, h)))

pub nodes-all : (c : Course) (lost : ℕ → ℕ → ℕ) (n : ℕ) (journals : List (List Entry))
    → AllByRecursion (λ (e : Event). e.stamp.beat < c.beats) (nodes_told c lost n journals)
nodes-all c lost n [] = tt
nodes-all c lost n (journal ∷ rest) =
    let Early = λ (x : Event). x.stamp.beat < c.beats in
    let backs = backs_told c n 0 c.beats in
    let gets = gets_told c n (lost n) [] journal in
    let ends = ends_told c n journal 0 c.beats in
    all-append Early (node_told c n (lost n) journal) (nodes_told c lost (n + 1) rest)
    (all-append Early backs (gets ++ ends)
    (subst (AllByRecursion Early) (sym (backs-each c n 0 c.beats)) (each-all c n (begin_of_beat c n) 0 c.beats (omega arith)))
    (all-append Early gets ends (gets-all c n (lost n) [] journal)
    (subst (AllByRecursion Early) (sym (ends-each c n journal 0 c.beats)) (each-all c n (end_by c n journal) 0 c.beats (omega arith)))))
    (nodes-all c lost (n + 1) rest)

-- of a beat: what a node gets in it
abbrev of_beat : ℕ → List Event → List Event
of_beat b es = filter (λ e. e.stamp.beat == b) es

acts-here : (c : Course) (n b : ℕ) (acts : List Act) → of_beat b (map (event_in c n b) acts) ≡ map (event_in c n b) acts
acts-here c n b [] = refl
acts-here c n b (a ∷ acts) =
    let t : (b == b) ≡ true = eq-eqb b b refl in rw t (ap (λ q. event_in c n b a ∷ q) (acts-here c n b acts))

acts-other : (c : Course) (n b x : ℕ) (acts : List Act) → (x ≡ b → ⊥) → of_beat b (map (event_in c n x) acts) ≡ []
acts-other c n b x [] ne = refl
acts-other c n b x (a ∷ acts) ne = let t : (x == b) ≡ false = ne_eqb x b ne in rw t (acts-other c n b x acts ne)

dated-here : (b : ℕ) (acts : List Act)
    → map (λ (g : Dated Act). g.item) (filter (λ g. g.beat == b) (map (λ (a : Act). record { beat = b; item = a }) acts)) ≡ acts
dated-here b [] = refl
dated-here b (a ∷ acts) = let t : (b == b) ≡ true = eq-eqb b b refl in rw t (ap (λ q. a ∷ q) (dated-here b acts))

dated-other : (b x : ℕ) (acts : List Act) → (x ≡ b → ⊥)
    → filter (λ (g : Dated Act). g.beat == b) (map (λ (a : Act). record { beat = x; item = a }) acts) ≡ []
dated-other b x [] ne = refl
dated-other b x (a ∷ acts) ne = let t : (x == b) ≡ false = ne_eqb x b ne in rw t (dated-other b x acts ne)

told-beat : (c : Course) (n b x : ℕ) (acts : List Act) → b < c.beats
    → of_beat b (told_in c n x acts)
    ≡ map (event_in c n b) (map (λ (g : Dated Act). g.item) (filter (λ g. g.beat == b) (map (λ (a : Act). record { beat = x; item = a }) acts)))
told-beat c n b x acts low = ⊎_elim
    (λ (same : x ≡ b).
    let t : nat_lt x c.beats ≡ true = grind (arith, nat_tests, same, low) in
    rw t (subst (λ q. of_beat b (map (event_in c n q) acts)
    ≡ map (event_in c n b) (map (λ (g : Dated Act). g.item)
    (filter (λ g. g.beat == b) (map (λ (a : Act). record { beat = q; item = a }) acts)))) (sym same)
    (acts-here c n b acts ∙ sym (ap (map (event_in c n b)) (dated-here b acts)))))
    (λ (other : x ≡ b → ⊥).
    let none = ap (λ q. map (event_in c n b) (map (λ (g : Dated Act). g.item) q)) (dated-other b x acts other) in
    ⊎_elim
    (λ (t : nat_lt x c.beats ≡ true). rw t (acts-other c n b x acts other ∙ sym none))
    (λ (t : nat_lt x c.beats ≡ false). rw t (sym none))
    (cases_Bool (nat_lt x c.beats)))
    (cases_eq x b)

gets-beat : (c : Course) (n : ℕ) (lost : ℕ → ℕ) (b : ℕ) (before es : List Entry) → b < c.beats
    → of_beat b (gets_told c n lost before es)
    ≡ map (event_in c n b) (map (λ (g : Dated Act). g.item) (filter (λ g. g.beat == b) (gets_behind c n lost before es)))
gets-beat c n lost b before [] low = refl
gets-beat c n lost b before (e ∷ es) low =
    let item = λ (g : Dated Act). g.item in
    let test = λ (g : Dated Act). g.beat == b in
    let here = map (λ (a : Act). record { beat = e.stamp.beat; item = a }) (get_of c n lost e.stamp.beat before e.what es) in
    let rest = gets_behind c n lost (before ++ e ∷ []) es in
    filter-append (λ (x : Event). x.stamp.beat == b)
    (told_in c n e.stamp.beat (get_of c n lost e.stamp.beat before e.what es)) (gets_told c n lost (before ++ e ∷ []) es)
    ∙ ap (λ q. q ++ of_beat b (gets_told c n lost (before ++ e ∷ []) es)) (told-beat c n b e.stamp.beat (get_of c n lost e.stamp.beat before e.what es) low)
    ∙ ap (λ q. map (event_in c n b) (map item (filter test here)) ++ q) (gets-beat c n lost b (before ++ e ∷ []) es low)
    ∙ sym (ap (λ q. map (event_in c n b) (map item q)) (filter-append test here rest)
    ∙ ap (map (event_in c n b)) (map-append item (filter test here) (filter test rest))
    ∙ map-append (event_in c n b) (map item (filter test here)) (map item (filter test rest)))

-- and what it does in it by itself
each-below : (c : Course) (n : ℕ) (acts : ℕ → List Act) (b a k : ℕ) → b < a → of_beat b (each_told c n acts a k) ≡ []
each-below c n acts b a zero low = refl
each-below c n acts b a (suc k) low =
    filter-append (λ (x : Event). x.stamp.beat == b) (map (event_in c n a) (acts a)) (each_told c n acts (a + 1) k)
    ∙ ap (λ q. q ++ of_beat b (each_told c n acts (a + 1) k)) (acts-other c n b a (acts a) (λ e. omega (arith, e, low)))
    ∙ each-below c n acts b (a + 1) k (omega (arith, low))

each-beat : (c : Course) (n : ℕ) (acts : ℕ → List Act) (b a k : ℕ) → a ≤ b → b < a + k
    → of_beat b (each_told c n acts a k) ≡ map (event_in c n b) (acts b)
each-beat c n acts b a zero low high = absurd (omega (arith, low, high))
each-beat c n acts b a (suc k) low high =
    let rest = each_told c n acts (a + 1) k in
    filter-append (λ (x : Event). x.stamp.beat == b) (map (event_in c n a) (acts a)) rest ∙ ⊎_elim
    (λ (same : a ≡ b).
    subst (λ q. of_beat b (map (event_in c n q) (acts q))
    ++ of_beat b (each_told c n acts (q + 1) k) ≡ map (event_in c n b) (acts b)) (sym same)
    (ap (λ q. q ++ of_beat b (each_told c n acts (b + 1) k)) (acts-here c n b (acts b))
    ∙ ap (λ q. map (event_in c n b) (acts b) ++ q) (each-below c n acts b (b + 1) k (omega arith))
    ∙ append-nil (map (event_in c n b) (acts b))))
    (λ (other : a ≡ b → ⊥).
    ap (λ q. q ++ of_beat b rest) (acts-other c n b a (acts a) other)
    ∙ each-beat c n acts b (a + 1) k (omega (arith, low, other)) (omega (arith, high)))
    (cases_eq a b)

-- so a beat of the list is the beat
nodes-beat : (c : Course) (lost : ℕ → ℕ → ℕ) (n b : ℕ) (journals : List (List Entry)) → b < c.beats
    → of_beat b (nodes_told c lost n journals) ≡ events_of_beat c lost b n journals
nodes-beat c lost n b [] low = refl
nodes-beat c lost n b (journal ∷ rest) low =
    let test = λ (x : Event). x.stamp.beat == b in
    let event = event_in c n b in
    let backs = backs_told c n 0 c.beats in
    let gets = gets_told c n (lost n) [] journal in
    let ends = ends_told c n journal 0 c.beats in
    let begin = begin_of_beat c n b in
    let got = map (λ (g : Dated Act). g.item) (filter (λ g. g.beat == b) (gets_behind c n (lost n) [] journal)) in
    let first : of_beat b backs ≡ map event begin = ap (of_beat b) (backs-each c n 0 c.beats)
    ∙ each-beat c n (begin_of_beat c n) b 0 c.beats (omega arith) (omega (arith, low)) in
    let last : of_beat b ends ≡ map event (end_by c n journal b) = ap (of_beat b) (ends-each c n journal 0 c.beats)
    ∙ each-beat c n (end_by c n journal) b 0 c.beats (omega arith) (omega (arith, low)) in
    let mid : of_beat b (gets ++ ends) ≡ map event (got ++ end_by c n journal b) =
    filter-append test gets ends ∙ ap (λ q. q ++ of_beat b ends) (gets-beat c n (lost n) b [] journal low)
    ∙ ap (λ q. map event got ++ q) last ∙ sym (map-append event got (end_by c n journal b)) in
    let all : of_beat b (node_told c n (lost n) journal) ≡ events_in c n (lost n) b journal =
    filter-append test backs (gets ++ ends) ∙ ap (λ q. q ++ of_beat b (gets ++ ends)) first ∙ ap (λ q. map event begin ++ q) mid
    ∙ sym (map-append event begin (got ++ end_by c n journal b)) in
    filter-append test (node_told c n (lost n) journal) (nodes_told c lost (n + 1) rest)
    ∙ ap (λ q. q ++ of_beat b (nodes_told c lost (n + 1) rest)) all
    ∙ ap (λ q. events_in c n (lost n) b journal ++ q) (nodes-beat c lost (n + 1) b rest low)

pub groups-told : (c : Course) (lost : ℕ → ℕ → ℕ) (b k : ℕ) (journals : List (List Entry)) → b + k ≤ c.beats
    → groups (λ (e : Event). e.stamp.beat) b k (nodes_told c lost 0 journals) ≡ events_from c lost b k journals
groups-told c lost b zero journals h = refl
groups-told c lost b (suc k) journals h =
    ap (λ q. q ++ groups (λ (e : Event). e.stamp.beat) (b + 1) k (nodes_told c lost 0 journals)) (nodes-beat c lost 0 b journals (omega (arith, h)))
    ∙ ap (λ q. events_of_beat c lost b 0 journals ++ q) (groups-told c lost (b + 1) k journals (omega (arith, h)))

-- what a stable sort by the beats makes of the list
pub sorted-events : (c : Course) (journals : List (List Entry)) (told sorted : List Event) → told ≡ nodes_told c (lost_told c journals) 0 journals
    → IsPermutation told sorted → IsSortedByKey (λ (e : Event). e.stamp.beat) nat_cmp sorted
    → IsStableByKey (λ (e : Event). e.stamp.beat) nat_cmp told sorted → sorted ≡ events_by c journals
sorted-events c journals told sorted is moved up stable =
    let key = λ (e : Event). e.stamp.beat in
    let early = subst (AllByRecursion (λ (e : Event). e.stamp.beat < c.beats)) (sym is) (nodes-all c (lost_told c journals) 0 journals) in
    sorted_groups key told sorted c.beats (λ b. (event_in c 0 b (act.Tick (record { 0 = 0 })), refl)) early moved up stable
    ∙ ap (groups key 0 c.beats) is ∙ groups-told c (lost_told c journals) 0 c.beats journals (omega arith)
