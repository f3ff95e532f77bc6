-- A closed relation that holds of each change in a tick holds of the tick.
use Rattle.std.proofs.Common.{◌≡◌, ℕ, ◌&&◌, ◌==◌, ◌%◌, List, [], ◌∷◌, ◌++◌, true, not, is_some, None, refl, subst, inl, inr}
use Rattle.std.specs.List.{flat_map}
use Rattle.std.proofs.lemmas.Bool.{cond_both}
use Rattle.std.proofs.lemmas.List.{append-nil}
use Rattle.tiger_base.specs.declared.number.Stamp.{Stamp}
use Rattle.tiger_base.specs.declared.tenancy.PieceState.{PieceState}
use Rattle.tiger_base.specs.declared.message.Msg.{Msg}
use Rattle.slot_plan.specs.declared.params.Params.{Params}
use Rattle.node_kit.specs.declared.outbox.Out.{Out}
use Rattle.node_kit.specs.Steps.{Deed}
use Rattle.deadman.specs.Silence.{is_silent}
use Rattle.node_kit.specs.Deeds.{nothing, then_do}
use Rattle.cub_rules.specs.declared.store.Store.{Store}
use Rattle.cub_rules.specs.Records.{with_piece_record}
use Rattle.cub_rules.specs.Ticks.{releasing, believing, inserting, with_each, with_split_lines, split_outs, first_pieces, splitting, forwarding, reading_blocks, reading_pieces, reading, serving_blocks, dropping_backups, serving_pieces, serving, beating, ticking}
use Rattle.cub_changes.specs.Changes.{Change, did}
use Rattle.cub_changes.specs.Changes.Change.{Release, Believe, SplitVisits, Forward, AskBlocks, AskPieces, ServeBlocks, DropBackups, ServePieces, Beat}
use Rattle.cub_changes.specs.Causes.{Stage}
use Rattle.lists.specs.Elements.{In}
use Rattle.cub_changes.specs.Causes.Stage.{OnMessage, OnRelease, OnDeadman, OnInsertion, OnService}
use Rattle.cub_changes.proofs.Closed.{IsClosed, OfEach, none_is, then_by, if_by}
use Rattle.cub_changes.proofs.Messages.{add_by}
use Rattle.cub_changes.proofs.Puts.{inserting_by}

-- the steps of a tick behind forwarding, from splitting on, and from insertion on
abbrev pub end_steps : Params → ℕ → Stamp → Store → Deed Msg Store
end_steps p c stamp = then_do (reading p stamp) (then_do (serving p c stamp) (beating p c stamp))

abbrev pub service_steps : Params → ℕ → Stamp → Store → Deed Msg Store
service_steps p c stamp = then_do (splitting p c stamp) (then_do (forwarding p c stamp) (end_steps p c stamp))

abbrev pub late_steps : Params → ℕ → Stamp → Store → Deed Msg Store
late_steps p c stamp = then_do (inserting p c stamp) (service_steps p c stamp)

-- what a cub keeps in a tick when insertion begins, and when splitting and forwarding do
abbrev pub before_inserting : Params → ℕ → Stamp → Store → Store
before_inserting p c stamp h = (believing p c stamp (releasing p stamp h).state).state

abbrev pub before_splitting : Params → ℕ → Stamp → Store → Store
before_splitting p c stamp h = (inserting p c stamp (before_inserting p c stamp h)).state

abbrev pub before_forwarding : Params → ℕ → Stamp → Store → Store
before_forwarding p c stamp h = (splitting p c stamp (before_splitting p c stamp h)).state

-- the changes behind forwarding
abbrev pub IsOfEnd : Change → Type 0
IsOfEnd AskBlocks = Unit {0}
IsOfEnd AskPieces = Unit {0}
IsOfEnd ServeBlocks = Unit {0}
IsOfEnd DropBackups = Unit {0}
IsOfEnd ServePieces = Unit {0}
IsOfEnd Beat = Unit {0}
IsOfEnd other = ⊥

-- which stages are those of a tick
abbrev pub IsOfTick : Stage → Type 0
IsOfTick (OnMessage link m) = ⊥
IsOfTick other = Unit {0}

-- a heartbeat leaves what the cub keeps
pub beating_same : (p : Params) (c : ℕ) (stamp : Stamp) (h : Store) → (beating p c stamp h).state ≡ h
unfolding beating
beating_same p c stamp h =
    let Same : Deed Msg Store → Type 0 = λ d. d.state ≡ h in
    cond_both (is_some h.comeback) (nothing h) _ Same (λ _. refl)
    (λ _. cond_both (stamp.beat % p.heart == 0) (did p c stamp Beat h) (nothing h) Same (λ _. refl) (λ _. refl))

module _ (P : Store → Deed Msg Store → Type 0) (closed : IsClosed P) (p : Params) (c : ℕ) (stamp : Stamp) where
  pub releasing_by : (h : Store) → OfEach P p c stamp OnRelease h → P h (releasing p stamp h)
  unfolding releasing
  releasing_by h each = each Release h tt

  pub believing_by : (h : Store) → OfEach P p c stamp OnDeadman h → P h (believing p c stamp h)
  unfolding believing
  believing_by h each =
      if_by P closed (not h.believes && is_silent h.watch stamp.reading) h _ (nothing h) (λ e. each Believe h (tt, e))
      (λ _. closed.none h)

  adding_from : (xs : List PieceState)
      → ((x : PieceState) → In x xs → (q : Store) → P q (record { outs = []; state = with_piece_record x q })) → (h : Store)
      → P h (record { outs = []; state = with_each with_piece_record xs h })
  adding_from [] one h = closed.none h
  adding_from (x ∷ xs) one h =
      let g : Store = with_piece_record x h in
      closed.both h (record { outs = []; state = g }) (record { outs = []; state = with_each with_piece_record xs g })
      (one x (inl refl) h) (adding_from xs (λ y i. one y (inr i)) g)

  -- each step from what holds of its own changes
  pub splitting_of : (h : Store) → (h.believes ≡ true → P h (did p c stamp SplitVisits h))
      → (h.believes ≡ true
      → (x : PieceState) → In x (flat_map (first_pieces p stamp h.handback) h.view.lines)
      → (q : Store) → P q (record { outs = []; state = with_piece_record x q }))
      → P h (splitting p c stamp h)
  unfolding splitting
  splitting_of h split one =
      let outs : List (Out Msg) = flat_map (split_outs p c stamp h.handback) h.view.lines in
      let g : Store = with_split_lines p stamp h in
      let after : Store = with_each with_piece_record (flat_map (first_pieces p stamp h.handback) h.view.lines) g in
      if_by P closed h.believes h (record { outs = outs; state = after }) (nothing h)
      (λ e.
      subst (λ (os : List (Out Msg)). P h (record { outs = os; state = after })) (append-nil outs)
      (closed.both h (did p c stamp SplitVisits h) (record { outs = []; state = after }) (split e)
      (adding_from (flat_map (first_pieces p stamp h.handback) h.view.lines) (one e) g)))
      (λ _. closed.none h)

  pub splitting_from : (h : Store) → (h.believes ≡ true → P h (did p c stamp SplitVisits h))
      → (h.believes ≡ true → (x : PieceState) (q : Store) → P q (record { outs = []; state = with_piece_record x q }))
      → P h (splitting p c stamp h)
  splitting_from h split one = splitting_of h split (λ e x i q. one e x q)

  pub forwarding_from : (h : Store) → P h (did p c stamp Forward h) → P h (forwarding p c stamp h)
  unfolding forwarding
  forwarding_from h one = one

  pub reading_from : (h : Store) → ((q : Store) → P q (did p c stamp AskBlocks q)) → ((q : Store) → P q (did p c stamp AskPieces q))
      → P h (reading p stamp h)
  unfolding reading reading_blocks reading_pieces
  reading_from h blocks pieces =
      then_by P closed (reading_blocks p stamp) (reading_pieces p stamp) h (blocks h) (pieces (reading_blocks p stamp h).state)

  pub serving_from : (h : Store) → ((q : Store) → P q (did p c stamp ServeBlocks q)) → ((q : Store) → P q (did p c stamp DropBackups q))
      → ((q : Store) → P q (did p c stamp ServePieces q)) → P h (serving p c stamp h)
  unfolding serving serving_blocks dropping_backups serving_pieces
  serving_from h blocks backups pieces =
      let h1 : Store = (serving_blocks p c stamp h).state in
      then_by P closed (serving_blocks p c stamp) (then_do (dropping_backups p stamp) (serving_pieces p c stamp)) h (blocks h)
      (then_by P closed (dropping_backups p stamp) (serving_pieces p c stamp) h1 (backups h1) (pieces (dropping_backups p stamp h1).state))

  pub beating_from : (h : Store) → (stamp.beat % p.heart == 0 ≡ true → h.comeback ≡ None → P h (did p c stamp Beat h))
      → P h (beating p c stamp h)
  unfolding beating
  beating_from h one =
      if_by P closed (is_some h.comeback) h (nothing h) _ (λ _. closed.none h)
      (λ f. if_by P closed (stamp.beat % p.heart == 0) h _ (nothing h) (λ e. one e (none_is h.comeback f)) (λ _. closed.none h))

  -- behind forwarding
  pub end_from : (h : Store) → ((x : Change) → IsOfEnd x → (q : Store) → P q (did p c stamp x q)) → P h (end_steps p c stamp h)
  end_from h one =
      let h1 : Store = (reading p stamp h).state in
      let h2 : Store = (serving p c stamp h1).state in
      then_by P closed (reading p stamp) (then_do (serving p c stamp) (beating p c stamp)) h
      (reading_from h (one AskBlocks tt) (one AskPieces tt))
      (then_by P closed (serving p c stamp) (beating p c stamp) h1
      (serving_from h1 (one ServeBlocks tt) (one DropBackups tt) (one ServePieces tt)) (beating_from h2 (λ _ _. one Beat tt h2)))

  -- each step from what holds of all changes of its stage
  pub splitting_by : (h : Store) → OfEach P p c stamp OnService h → P h (splitting p c stamp h)
  splitting_by h each =
      splitting_of h (λ e. each SplitVisits h (tt, e)) (λ e x i q. add_by P closed p c stamp OnService h each x q (e, i))

  pub forwarding_by : (h : Store) → OfEach P p c stamp OnService h → P h (forwarding p c stamp h)
  forwarding_by h each = forwarding_from h (each Forward h tt)

  pub reading_by : (h : Store) → OfEach P p c stamp OnService h → P h (reading p stamp h)
  reading_by h each = reading_from h (λ q. each AskBlocks q tt) (λ q. each AskPieces q tt)

  pub serving_by : (h : Store) → OfEach P p c stamp OnService h → P h (serving p c stamp h)
  serving_by h each = serving_from h (λ q. each ServeBlocks q tt) (λ q. each DropBackups q tt) (λ q. each ServePieces q tt)

  pub beating_by : (h : Store) → OfEach P p c stamp OnService h → P h (beating p c stamp h)
  beating_by h each = beating_from h (λ e f. each Beat h (tt, e, f))

  -- ---- the tick: behind forwarding, from splitting on, from insertion on, and all of it
  pub end_by : (h : Store) → ((from : Store) → OfEach P p c stamp OnService from) → P h (end_steps p c stamp h)
  end_by h each =
      let h1 : Store = (reading p stamp h).state in
      let h2 : Store = (serving p c stamp h1).state in
      then_by P closed (reading p stamp) (then_do (serving p c stamp) (beating p c stamp)) h (reading_by h (each h))
      (then_by P closed (serving p c stamp) (beating p c stamp) h1 (serving_by h1 (each h1)) (beating_by h2 (each h2)))

  pub service_by : (h : Store) → ((from : Store) → OfEach P p c stamp OnService from) → P h (service_steps p c stamp h)
  service_by h each =
      let h1 : Store = (splitting p c stamp h).state in
      let h2 : Store = (forwarding p c stamp h1).state in
      then_by P closed (splitting p c stamp) (then_do (forwarding p c stamp) (end_steps p c stamp)) h (splitting_by h (each h))
      (then_by P closed (forwarding p c stamp) (end_steps p c stamp) h1 (forwarding_by h1 (each h1)) (end_by h2 each))

  pub late_by : (h : Store) → ((from : Store) → OfEach P p c stamp OnInsertion from)
      → ((from : Store) → OfEach P p c stamp OnService from) → P h (late_steps p c stamp h)
  late_by h put each =
      then_by P closed (inserting p c stamp) (service_steps p c stamp) h (inserting_by P closed p c stamp h (put h))
      (service_by (inserting p c stamp h).state each)

  -- the tick as a chain: it holds of the tick if it holds of release, the deadman step, insertion and the rest
  pub tick_chain : (h : Store) → P h (releasing p stamp h)
      → P (releasing p stamp h).state (believing p c stamp (releasing p stamp h).state)
      → P (before_inserting p c stamp h) (inserting p c stamp (before_inserting p c stamp h))
      → P (before_splitting p c stamp h) (service_steps p c stamp (before_splitting p c stamp h))
      → P h (ticking p c stamp h)
  unfolding ticking
  tick_chain h release deadman insertion service =
      then_by P closed (releasing p stamp) (then_do (believing p c stamp) (late_steps p c stamp)) h release
      (then_by P closed (believing p c stamp) (late_steps p c stamp) (releasing p stamp h).state deadman
      (then_by P closed (inserting p c stamp) (service_steps p c stamp) (before_inserting p c stamp h) insertion service))

  -- The tick, if what a stage begins with may be known: it is what a deed leaves of which the relation holds. A rule that
  -- comes behind such a deed does as much.
  abbrev ComesBehind : Store → (Store → Deed Msg Store) → Type 0
  ComesBehind old rule = (d : Deed Msg Store) → P old d → P d.state (rule d.state)

  both_behind : (old : Store) (f g : Store → Deed Msg Store) → ComesBehind old f → ComesBehind old g → ComesBehind old (then_do f g)
  both_behind old f g first second d so =
      let one = first d so in
      let e : Deed Msg Store = record { outs = d.outs ++ (f d.state).outs; state = (f d.state).state } in
      then_by P closed f g d.state one (second e (closed.both old d (f d.state) so one))

  pub ticking_since : (old : Store) → ((g : Stage) (d : Deed Msg Store) → IsOfTick g → P old d → OfEach P p c stamp g d.state)
      → P old (ticking p c stamp old)
  unfolding ticking
  ticking_since old each =
      let serve : (d : Deed Msg Store) → P old d → OfEach P p c stamp OnService d.state = λ d so. each OnService d tt so in
      both_behind old (releasing p stamp) (then_do (believing p c stamp) (late_steps p c stamp)) (λ d so. releasing_by d.state (each OnRelease d tt so))
      (both_behind old (believing p c stamp) (late_steps p c stamp) (λ d so. believing_by d.state (each OnDeadman d tt so))
      (both_behind old (inserting p c stamp) (service_steps p c stamp) (λ d so. inserting_by P closed p c stamp d.state (each OnInsertion d tt so))
      (both_behind old (splitting p c stamp) (then_do (forwarding p c stamp) (end_steps p c stamp)) (λ d so. splitting_by d.state (serve d so))
      (both_behind old (forwarding p c stamp) (end_steps p c stamp) (λ d so. forwarding_by d.state (serve d so))
      (both_behind old (reading p stamp) (then_do (serving p c stamp) (beating p c stamp)) (λ d so. reading_by d.state (serve d so))
      (both_behind old (serving p c stamp) (beating p c stamp) (λ d so. serving_by d.state (serve d so)) (λ d so. beating_by d.state (serve d so))))))))
      (nothing old) (closed.none old)

  pub ticking_by : (h : Store) → ((g : Stage) (from : Store) → IsOfTick g → OfEach P p c stamp g from) → P h (ticking p c stamp h)
  ticking_by h each = ticking_since h (λ g d t _. each g d.state t)
