-- Lists by number, with one more.
use Rattle.std.proofs.Common.{◌≡◌, ℕ, ◌+◌, ◌*◌, ◌/◌, List, [], ◌∷◌, ◌++◌, Option, map, ap, sym, ◌∙◌, refl, arith}
use Rattle.std.specs.List.{flat_map, range_with_len}
use Rattle.std.proofs.lemmas.List.{append-nil}
use Rattle.std.proofs.lemmas.Bool.Decides.{nat_tests}
use Rattle.std.proofs.lemmas.List.Concat.{flat_map-append}
use Rattle.std.proofs.lemmas.List.Folds.{flat_map-map}
use Rattle.std.proofs.lemmas.List.FromFn.{map-range_with_len_more, sum_by-map-range_with_len_more}
use Rattle.rand_pcg.specs.Lcg.{Lcg}
use Rattle.node_kit.specs.declared.course.ReadFault.{ReadFault}
use Rattle.scenario_read.specs.declared.scenario.FileLine.{FileLine}
use Rattle.scenario_read.specs.declared.scenario.ScEvent.{ScEvent}
use Rattle.scenario_make.specs.Draws.{after, draw}
use Rattle.scenario_make.specs.Events.{at_start, beat_by, draws_of, events_at, events_by}
use Rattle.scenario_make.specs.Files.{at_file, line_by, bytes_of, length_by, lines_by, contents_by}
use Rattle.scenario_make.specs.Troubles.{offsets_by, death_among, two_deaths, fault_by, faults_by}
use Rattle.scenario_make.proofs.Drawing.{after-after, after-none, draw_behind}

flat_map-range_with_len_more : {A : Type 0} (f : ℕ → List A) (n : ℕ) → flat_map f (range_with_len 0 (n + 1)) ≡ flat_map f (range_with_len 0 n) ++ f n
flat_map-range_with_len_more f n =
    let e : 0 + n ≡ n = omega arith in
    sym (flat_map-map f (λ (k : ℕ). k) (range_with_len 0 (n + 1)))
    ∙ ap (flat_map f) (map-range_with_len_more (λ (k : ℕ). k) 0 n n e)
    ∙ flat_map-append f (map (λ (k : ℕ). k) (range_with_len 0 n)) (n ∷ [])
    ∙ ap (λ (front : List _). front ++ (f n ++ [])) (flat_map-map f (λ (k : ℕ). k) (range_with_len 0 n))
    ∙ ap (λ (rest : List _). flat_map f (range_with_len 0 n) ++ rest) (append-nil (f n))

pub offsets_by-more : (g : Lcg) (n : ℕ) → offsets_by g (n + 1) ≡ offsets_by g n ++ draw g n 4001 ∷ []
unfolding offsets_by
offsets_by-more g n = map-range_with_len_more (λ (i : ℕ). draw g i 4001) 0 n n (omega arith)

pub offsets_by-none : (g : Lcg) → offsets_by g 0 ≡ []
unfolding offsets_by
offsets_by-none g = refl

pub two_deaths-none : (first second : ℕ × ℕ) → two_deaths first second 0 ≡ []
unfolding two_deaths
two_deaths-none first second = refl

pub faults_by-none : (g : Lcg) → faults_by g 0 ≡ []
unfolding faults_by
faults_by-none g = refl

pub lines_by-none : (g : Lcg) → lines_by g 0 ≡ []
unfolding lines_by
lines_by-none g = refl

pub contents_by-none : (g : Lcg) → contents_by g 0 ≡ []
unfolding contents_by
contents_by-none g = refl

pub events_by-none : (g : Lcg) → events_by g 0 ≡ []
unfolding events_by
events_by-none g = refl

pub beat_by-none : (g : Lcg) → beat_by g 0 ≡ 0
unfolding beat_by
beat_by-none g = refl

pub at_start-none : (g : Lcg) → at_start g 0 ≡ g
unfolding at_start
at_start-none g = after-none g

pub at_start-all : (g : Lcg) → at_start g 300 ≡ after 660 g
unfolding at_start
at_start-all g = refl

pub faults_by-more : (g : Lcg) (n : ℕ) → faults_by g (n + 1) ≡ faults_by g n ++ fault_by (after (3 * n) g) ∷ []
unfolding faults_by
faults_by-more g n = map-range_with_len_more (λ (i : ℕ). fault_by (after (3 * i) g)) 0 n n (omega arith)

pub lines_by-more : (g : Lcg) (n : ℕ) → lines_by g (n + 1) ≡ lines_by g n ++ line_by (at_file g n) n ∷ []
unfolding lines_by
lines_by-more g n = map-range_with_len_more (λ (i : ℕ). line_by (at_file g i) i) 0 n n (omega arith)

pub contents_by-more : (g : Lcg) (n : ℕ) → contents_by g (n + 1) ≡ contents_by g n ++ bytes_of n (length_by (at_file g n)) ∷ []
unfolding contents_by
contents_by-more g n = map-range_with_len_more (λ (i : ℕ). bytes_of i (length_by (at_file g i))) 0 n n (omega arith)

pub events_by-more : (g : Lcg) (n : ℕ) → events_by g (n + 1) ≡ events_by g n ++ events_at (at_start g n) n (beat_by g (n + 1))
unfolding events_by
events_by-more g n = flat_map-range_with_len_more (λ (j : ℕ). events_at (at_start g j) j (beat_by g (j + 1))) n

pub beat_by-more : (g : Lcg) (n : ℕ) → beat_by g (n + 1) ≡ beat_by g n + draw (at_start g n) 0 10
unfolding beat_by
beat_by-more g n = sum_by-map-range_with_len_more (λ (x : ℕ). x) (λ (i : ℕ). draw (at_start g i) 0 10) 0 n n (omega arith)

-- ---- a turn of a loop

pub offsets_by-step : (g h : Lcg) (n x : ℕ) (old now : List ℕ) → old ≡ offsets_by g n → h ≡ after n g → x ≡ draw h 0 4001 → now ≡ old ++ x ∷ []
    → now ≡ offsets_by g (n + 1)
offsets_by-step g h n x old now before at drawn step =
    step ∙ ap (λ (xs : List ℕ). xs ++ x ∷ []) before ∙ ap (λ (y : ℕ). offsets_by g n ++ y ∷ []) (drawn ∙ draw_behind g h n 4001 at) ∙ sym (offsets_by-more g n)

pub two_deaths-step : (first second : ℕ × ℕ) (n : ℕ) (x : Option ℕ) (old now : List (Option ℕ)) → old ≡ two_deaths first second n
    → x ≡ death_among first second n → now ≡ old ++ x ∷ [] → now ≡ two_deaths first second (n + 1)
unfolding two_deaths
two_deaths-step first second n x old now before e step =
    step ∙ ap (λ (xs : List (Option ℕ)). xs ++ x ∷ []) before
    ∙ ap (λ (y : Option ℕ). map (death_among first second) (range_with_len 0 n) ++ y ∷ []) e
    ∙ sym (map-range_with_len_more (death_among first second) 0 n n (omega arith))

pub faults_by-step : (g h : Lcg) (n : ℕ) (x : ReadFault) (old now : List ReadFault) → old ≡ faults_by g n → h ≡ after (3 * n) g → x ≡ fault_by h
    → now ≡ old ++ x ∷ [] → now ≡ faults_by g (n + 1)
faults_by-step g h n x old now before at drawn step =
    step ∙ ap (λ (xs : List ReadFault). xs ++ x ∷ []) before ∙ ap (λ (y : ReadFault). faults_by g n ++ y ∷ []) (drawn ∙ ap fault_by at) ∙ sym (faults_by-more g n)

pub lines_by-step : (g h : Lcg) (n : ℕ) (x : FileLine) (old now : List FileLine) → old ≡ lines_by g n → h ≡ after (3 * n) g → x ≡ line_by h n
    → now ≡ old ++ x ∷ [] → now ≡ lines_by g (n + 1)
lines_by-step g h n x old now before at drawn step =
    step ∙ ap (λ (xs : List FileLine). xs ++ x ∷ []) before ∙ ap (λ (y : FileLine). lines_by g n ++ y ∷ []) (drawn ∙ ap (λ (k : Lcg). line_by k n) at) ∙ sym (lines_by-more g n)

pub contents_by-step : (g h : Lcg) (n : ℕ) (x : List ℕ) (old now : List (List ℕ)) → old ≡ contents_by g n → h ≡ after (3 * n) g → x ≡ bytes_of n (length_by h)
    → now ≡ old ++ x ∷ [] → now ≡ contents_by g (n + 1)
contents_by-step g h n x old now before at drawn step =
    step ∙ ap (λ (xs : List (List ℕ)). xs ++ x ∷ []) before
    ∙ ap (λ (y : List ℕ). contents_by g n ++ y ∷ []) (drawn ∙ ap (λ (k : Lcg). bytes_of n (length_by k)) at) ∙ sym (contents_by-more g n)

pub beat_by-step : (g h : Lcg) (n before beat : ℕ) → before ≡ beat_by g n → h ≡ at_start g n → beat ≡ before + draw h 0 10 → beat ≡ beat_by g (n + 1)
beat_by-step g h n before beat e at step =
    step ∙ ap (λ (b : ℕ). b + draw h 0 10) e ∙ ap (λ (k : Lcg). beat_by g n + draw k 0 10) at ∙ sym (beat_by-more g n)

pub events_by-step : (g h : Lcg) (n beat : ℕ) (old now : List ScEvent) → old ≡ events_by g n → h ≡ at_start g n → beat ≡ beat_by g (n + 1)
    → now ≡ old ++ events_at h n beat → now ≡ events_by g (n + 1)
events_by-step g h n beat old now before at e step =
    step ∙ ap (λ (es : List ScEvent). es ++ events_at h n beat) before ∙ ap (λ (b : ℕ). events_by g n ++ events_at h n b) e
    ∙ ap (λ (k : Lcg). events_by g n ++ events_at k n (beat_by g (n + 1))) at ∙ sym (events_by-more g n)

-- the three draws of each of several things
pub after_threes : (g h k : Lcg) (n : ℕ) → h ≡ after (3 * n) g → k ≡ after 3 h → k ≡ after (3 * (n + 1)) g
after_threes g h k n e f =
    let more : 3 * n + 3 ≡ 3 * (n + 1) = omega arith in
    f ∙ ap (after 3) e ∙ after-after g (3 * n) 3 ∙ ap (λ (m : ℕ). after m g) more

-- the draws of a start lead to the next one
pub at_start-more : (g h k : Lcg) (n : ℕ) → h ≡ at_start g n → k ≡ after (draws_of n) h → k ≡ at_start g (n + 1)
unfolding at_start
at_start-more g h k n e f =
    f ∙ ap (after (draws_of n)) e ∙ after-after g (2 * n + n / 5) (draws_of n) ∙ ap (λ (m : ℕ). after m g) (places n)
  where
    places : (n : ℕ) → 2 * n + n / 5 + draws_of n ≡ 2 * (n + 1) + (n + 1) / 5
    places n = grind (arith, nat_tests)
