-- What a runner hands over, the events of all nodes and each link's account, keeps the course.
use Rattle.std.proofs.Common.{◌≡◌, ℕ, zero, suc, ◌<◌, ◌≤◌, List, [], ◌∷◌, ◌++◌, length, Some, ⊎_elim, ap, sym, ◌∙◌}
use Rattle.std.proofs.Common.{subst, refl, arith, append-nil}
use Rattle.tiger_base.specs.declared.number.Stamp.{Stamp}
use Rattle.tiger_base.specs.declared.number.LinkNo.{LinkNo}
use Rattle.link_timing.specs.Clock.{new_clock}
use Rattle.node_kit.specs.Life.{Lifetime, lifetime_of}
use Rattle.node_kit.specs.Steps.Input.{Take}
use Rattle.run_facts.specs.Events.{NodeEvent, opening, stamp_at, sends_along, take_on, takes_along}
use Rattle.run_facts.specs.Events.NodeEvent.{Does, Ends}
use Rattle.run_facts.specs.Paced.{ArePacedOn}
use Rattle.run_facts.proofs.Along.{takes-append}
use Rattle.run_facts.proofs.Links.{link-ends}
use Rattle.run_facts.specs.Accounts.{HasCutIn, AreTurns, IsInTurn, AreInTurn, input_in, event_at, front, history_of}
use Rattle.run_facts.proofs.Indexed.{front-more, front-all, sent-all, all-at}
use Rattle.run_facts.specs.Histories.{TakesAt, HasCut, taken}
use Rattle.run_facts.specs.Laws.{AccountsKeep}

-- what is taken, by number and in lists
pub taken-front : {M S : Type 0} (l : ℕ) (first : ℕ → S) (life : ℕ → Lifetime) (lost : ℕ → ℕ)
    (events : ℕ → List (NodeEvent M)) (n i : ℕ)
    → i ≤ length (events n)
    → taken l (history_of first life lost events) n i ≡ takes_along l (front i (events n))
taken-front l first life lost events n zero h = refl
taken-front l first life lost events n (suc i) h =
    let e = event_at (events n) i in
    ap (λ ds. ds ++ take_on l e) (taken-front l first life lost events n i (omega (arith, h)))
    ∙ ap (λ ds. takes_along l (front i (events n)) ++ ds) (sym (append-nil (take_on l e)))
    ∙ sym (takes-append l (front i (events n)) (e ∷ []))
    ∙ sym (ap (takes_along l) (front-more i (events n) (omega (arith, h))))

pub taken-all : {M S : Type 0} (l : ℕ) (first : ℕ → S) (life : ℕ → Lifetime) (lost : ℕ → ℕ)
    (events : ℕ → List (NodeEvent M)) (n : ℕ)
    → taken l (history_of first life lost events) n (length (events n)) ≡ takes_along l (events n)
taken-all l first life lost events n =
    taken-front l first life lost events n (length (events n)) (omega arith) ∙ ap (takes_along l) (front-all (events n))

-- the turn of two events
pub turn-at : {M : Type 0} (es : List (NodeEvent M)) (i j : ℕ) → i < j → j < length es → AreInTurn es
    → IsInTurn (event_at es i) (event_at es j)
turn-at [] i j low high h = absurd (omega (arith, high))
turn-at (e ∷ es) i zero low high h = absurd (omega (arith, low))
turn-at (e ∷ es) zero (suc j) low high h = all-at (IsInTurn e) es j (omega (arith, high)) h.0
turn-at (e ∷ es) (suc i) (suc j) low high h = turn-at es i j (omega (arith, low)) (omega (arith, high)) h.1

pub take-input : {M : Type 0} (e : NodeEvent M) (stamp : Stamp) (link : LinkNo) (msg : M) → TakesAt e stamp link msg
    → input_in e ≡ Some (Take stamp link msg)
take-input {M} e stamp link msg took = ⊎_elim
    (λ (is : e ≡ Does (Take stamp link msg)). ap input_in is)
    (λ (cut : (sends : ℕ) × (e ≡ Ends (Take stamp link msg) sends)). ap input_in cut.1)
    took

pub turn-of_takes : {M : Type 0} (es : List (NodeEvent M)) (i j : ℕ) (a b : Stamp) (k l : LinkNo) (m o : M)
    → i < j → j < length es → AreInTurn es
    → TakesAt (event_at es i) a k m → TakesAt (event_at es j) b l o → a.beat ≡ b.beat
    → k.0 ≤ l.0
turn-of_takes {M} es i j a b k l m o low high h is_i is_j =
    let turn = turn-at es i j low high h in
    let one = subst (λ q. AreTurns q (input_in (event_at es j))) (take-input (event_at es i) a k m is_i) turn in
    subst (λ q. AreTurns (Some (Take a k m)) q) (take-input (event_at es j) b l o is_j) one

pub accounts-keep : (M S : Type 0) → AccountsKeep M S
accounts-keep M S note step c when nodes first lost events shown accounts =
    let life = lifetime_of c in
    let h = history_of first life lost events in
    record {
      stamped = λ n i low at.
          let all = (accounts.timeline n low).stamped in
          let stamp = all-at (λ e. stamp_at e ≡ when n (stamp_at e).beat) (events n) i at all in
          ap (λ (s : Stamp). s.reading) stamp ∙ shown n (stamp_at (event_at (events n) i)).beat;
      on_links = λ l from to low_from low_to ends.
          let start = new_clock l c.delay c.plan.params.delay in
          let Paced = ArePacedOn {X = M} start (life to) c.beats (HasCut l h to) in
          let on = accounts.links l from to low_from low_to ends in
          let sends = sends_along note step l (events from) (opening (first from) (life from)) in
          let takes = takes_along l (events to) in
          let in_lists = link-ends (life to) (HasCutIn l (events to)) c.plan.params.delay start sends takes on.0 on.1
          c.beats on.2 in
          let with_takes = subst (Paced sends) (sym (taken-all l first life lost events to)) in_lists in
          subst (λ ds. Paced ds (taken l h to (length (events to))))
          (sym (sent-all note step l first life lost events from)) with_takes;
      in_turn = λ n i j a b k l m o low up high is_i is_j same.
          turn-of_takes (events n) i j a b k l m o up high (accounts.timeline n low).in_turn is_i is_j same;
    }
