-- What a cub takes at a message goes out, even if its death cuts that event off; and of what goes out the first thing does.
use Rattle.std.proofs.Common.{◌≡◌, ℕ, List, [], ◌∷◌, ◌++◌, false, Option, Some, None, refl, sym, subst, ⊎_elim, inl, append_assoc, append-nil}
use Rattle.std.specs.List.{AllByRecursion}
use Rattle.tiger_base.specs.declared.number.Instance.{Instance}
use Rattle.tiger_base.specs.declared.number.LinkNo.{LinkNo}
use Rattle.tiger_base.specs.declared.number.Stamp.{Stamp}
use Rattle.tiger_base.specs.declared.tenancy.Rec.{Rec}
use Rattle.tiger_base.specs.declared.tenancy.State.{State}
use Rattle.tiger_base.specs.declared.message.Msg.{Msg}
use Rattle.tiger_base.specs.declared.message.Msg.TheVariants as msg
use Rattle.slot_plan.specs.declared.params.Params.{Params}
use Rattle.slot_plan.specs.Keys.{Key}
use Rattle.node_kit.specs.declared.journal.What.TheVariants as what
use Rattle.node_kit.specs.declared.outbox.Out.{Out}
use Rattle.node_kit.specs.declared.outbox.Out.TheVariants as out
use Rattle.node_kit.specs.Deeds.{each_in_turn}
use Rattle.node_kit.specs.Outputs.{cut_at, fewer_behind}
use Rattle.node_kit.specs.Steps.{Deed, Input}
use Rattle.insert_queue.specs.Queues.{has_start}
use Rattle.cub_rules.specs.declared.store.Store.{Store}
use Rattle.cub_rules.specs.Messages.{records_told, is_news, place_told, told, taking}
use Rattle.cub_rules.specs.Records.{took, dropping_start}
use Rattle.cub_rules.specs.Ticks.{told_placed}
use Rattle.run_facts.specs.Events.{is_tick_input}
use Rattle.lists.specs.Elements.{In}
use Rattle.cub_changes.proofs.Messages.{took_of}
use Rattle.lists.proofs.Each.{all_append, all_if}
use Rattle.lists.proofs.Elements.{chosen, in_right, in_cases}
use Rattle.proof_lives.specs.Lives.{Lives, cut_in, cut_outs, deed_of, outs_at, outs_in, store_at}
use Rattle.proof_lives.proofs.Cuts.{is_end, cut_front, IsKept, kept_goes_out}
use Rattle.proof_lives.proofs.Inputs.{take_of}
use Rattle.proof_lives.proofs.Moves.{taken_out}
use Rattle.proof_lives.proofs.Taking.{taking_hears}
use Rattle.proof_lives.proofs.Telling.{took_told}
use Rattle.cub_rules.specs.Comebacks.{lets_in, records_let_in}
use Rattle.slot_plan.specs.Times.{due}
use Rattle.cub_changes.proofs.Chains.{start_dropped}

-- what goes out is a front of what was put out
pub front_of_outs : {M : Type 0} (cut : Option ℕ) (os : List (Out M)) → (rest : List (Out M)) × (cut_outs cut os ++ rest ≡ os)
front_of_outs None os = ([], append-nil os)
front_of_outs (Some k) os = cut_front k os

-- if anything goes out, the first output does
pub first_goes : {M : Type 0} (cut : Option ℕ) (o x : Out M) (os : List (Out M)) → In o (cut_outs cut (x ∷ os))
    → In x (cut_outs cut (x ∷ os))
first_goes None o x os i = inl refl
first_goes {M} (Some k) o x os i =
    chosen (λ (ws : List (Out M)). In o ws → In x ws) (is_end k (x ∷ os)) [] (x ∷ cut_at (fewer_behind k x) os)
    (λ _ q. absurd q)
    (λ _ q. inl refl)
    i

-- ---- of a state

drop_kept : (v : Instance) (h : Store) → AllByRecursion IsKept (dropping_start v h).outs
drop_kept v h =
    subst (λ (d : Deed Msg Store). AllByRecursion IsKept d.outs) (sym (start_dropped v h))
    (all_if IsKept (has_start h.starts.waiting v) (out.Act (what.Unqueued v) ∷ []) (λ _. ((refl, refl), tt)))

took_kept : (r : Rec) (h : Store) → AllByRecursion IsKept (took r h).outs
took_kept r h =
    took_of (λ (d : Deed Msg Store). AllByRecursion IsKept d.outs) r h (λ _. tt) (λ _. ((refl, refl), tt))

each_kept : (rs : List Rec) (h : Store) → AllByRecursion IsKept (each_in_turn took rs h).outs
each_kept [] h = tt
each_kept (r ∷ rs) h = all_append IsKept (took r h).outs _ (took_kept r h) (each_kept rs (took r h).state)

place_untaken : (p : Params) (c : ℕ) (s : State) (k : Key) (h : Store) (r : Rec) → In (taken_out r) (place_told p c s k h) → ⊥
place_untaken p c s k h r =
    let None : List (Out Msg) → Type 0 = λ os. In (taken_out r) os → ⊥ in
    chosen None (lets_in h.comeback (due p s.tenancy.slot.0 s.visit)) _ []
    (λ _.
    chosen None (is_news s k h.view.lines) (told_placed p c s.tenancy ∷ []) []
    (λ _ i. ⊎_elim (λ (e : taken_out r ≡ told_placed p c s.tenancy). let z : ⊥ = absurd (cc) in z) (λ q. q) i)
    (λ _ i. i))
    (λ _ i. i)

told_goes : (cut : Option ℕ) (p : Params) (c : ℕ) (s : State) (k : Key) (r : Rec) (h : Store) → In (taken_out r) (told p c s k h).outs
    → In (taken_out r) (cut_outs cut (told p c s k h).outs)
told_goes cut p c s k r h i =
    let v : Instance = s.tenancy.instance in
    let g : Store = (dropping_start v h).state in
    let before : List (Out Msg) = (dropping_start v h).outs in
    let those : List Rec = records_let_in p h.comeback (records_told s k) in
    let after : List (Out Msg) = (each_in_turn took those g).outs in
    let last : List (Out Msg) = place_told p c s k h in
    let o : Out Msg = taken_out r in
    ⊎_elim
    (λ b. kept_goes_out cut o before (after ++ last) (drop_kept v h) b)
    (λ b. ⊎_elim
    (λ a.
    subst (λ (os : List (Out Msg)). In o (cut_outs cut os)) (append_assoc before after last)
    (kept_goes_out cut o (before ++ after) last
    (all_append IsKept before after (drop_kept v h) (each_kept those g)) (in_right o before after a)))
    (λ a. absurd (place_untaken p c s k h r a))
    (in_cases o after last b))
    (in_cases o before (after ++ last) i)

state_goes : (cut : Option ℕ) (p : Params) (c : ℕ) (stamp : Stamp) (link : LinkNo) (s : State) (r : Rec) (h : Store)
    → In (taken_out r) (taking p c stamp link (msg.ViewerState s) h).outs
    → In (taken_out r) (cut_outs cut (taking p c stamp link (msg.ViewerState s) h).outs)
state_goes cut p c stamp link s r h i =
    let t = took_told p c stamp link s r h i in
    subst (λ (d : Deed Msg Store). In (taken_out r) (cut_outs cut d.outs)) (sym t.1)
    (told_goes cut p c s t.0 r h (subst (λ (d : Deed Msg Store). In (taken_out r) d.outs) t.1 i))

-- a record that is taken at a message
pub taking_goes : (cut : Option ℕ) (p : Params) (c : ℕ) (stamp : Stamp) (link : LinkNo) (m : Msg) (r : Rec) (h : Store)
    → In (taken_out r) (taking p c stamp link m h).outs → In (taken_out r) (cut_outs cut (taking p c stamp link m h).outs)
taking_goes cut p c stamp link m r h i =
    let Goes : Msg → Type 0 = λ n. In (taken_out r) (cut_outs cut (taking p c stamp link n h).outs) in
    let s = (taking_hears p c stamp link m h).only_states r i in
    subst Goes (sym s.1)
    (state_goes cut p c stamp link s.0 r h (subst (λ (n : Msg). In (taken_out r) (taking p c stamp link n h).outs) s.1 i))

pub message_goes : (p : Params) (lives : Lives) (c i : ℕ) (r : Rec) → is_tick_input (lives.input c i) ≡ false
    → In (taken_out r) (outs_at p c (lives.input c) i) → In (taken_out r) (outs_in p lives c i)
message_goes p lives c i r message taken =
    let h : Store = store_at p c (lives.input c) i in
    let k = take_of (lives.input c i) message in
    subst (λ (q : Input Msg). In (taken_out r) (cut_outs (cut_in lives c i) (deed_of p c q h).outs)) (sym k.3)
    (taking_goes (cut_in lives c i) p c k.0 k.1 k.2 r h (subst (λ (q : Input Msg). In (taken_out r) (deed_of p c q h).outs) k.3 taken))
