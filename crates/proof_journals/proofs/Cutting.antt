-- What stands before an entry of a journal and behind it: by its event, and by the outputs of that.
use Rattle.std.proofs.Common.{◌≡◌, ℕ, suc, ◌+◌, ◌<◌, List, ◌∷◌, ◌++◌, map, false, Some, refl, sym, ap, subst, ◌∙◌, arith, ⊎_elim, inl, inr, append_assoc}
use Rattle.std.specs.Prelude.{◌⊎◌, slice_get}
use Rattle.std.proofs.lemmas.List.{append_cancel_left}
use Rattle.tiger_base.specs.declared.number.LinkNo.{LinkNo}
use Rattle.tiger_base.specs.declared.number.Stamp.{Stamp}
use Rattle.tiger_base.specs.declared.tenancy.State.{State}
use Rattle.tiger_base.specs.declared.message.Msg.{Msg}
use Rattle.tiger_base.specs.declared.message.Msg.TheVariants as msg
use Rattle.tiger_base.specs.declared.message.Note.TheVariants as note
use Rattle.tiger_base.specs.Notes.{noted}
use Rattle.slot_plan.specs.declared.params.Params.{Params}
use Rattle.node_kit.specs.declared.course.Order.{Order}
use Rattle.node_kit.specs.declared.journal.Entry.{Entry}
use Rattle.node_kit.specs.declared.journal.What.{What}
use Rattle.node_kit.specs.declared.journal.What.TheVariants as what
use Rattle.node_kit.specs.declared.outbox.Out.{Out}
use Rattle.node_kit.specs.declared.outbox.Out.TheVariants as out
use Rattle.node_kit.specs.Steps.{Deed, Input, IsAllowed, IsOwnEntry, what_of, entry_of, stamp_of}
use Rattle.run_facts.specs.Histories.{History, outs, past}
use Rattle.run_facts.specs.Timed.{is_died}
use Rattle.run_facts.proofs.Journals.{is_got}
use Rattle.disk_core.specs.State.{DiskState}
use Rattle.proof_lives.specs.Lives.{cut_in, outs_at, outs_in}
use Rattle.proof_lives.proofs.Going.{front_of_outs}
use Rattle.proof_lives.specs.Histories.{input_of}
use Rattle.run_facts.specs.Events.{stamp_at}
use Rattle.lists.specs.Elements.{In}
use Rattle.lists.proofs.Elements.{in_right, in_cases}
use Rattle.lists.proofs.Each.{all_in}
use Rattle.proof_lives.proofs.Carrying.{stamp_same}
use Rattle.proof_journals.proofs.Written.{acted, one_event_more}
use Rattle.proof_journals.proofs.Notes as old
use Rattle.proof_journals.proofs.Journals.{got_at, got_in, put_out, so_far, wrote, written, so_far_on}
use Rattle.proof_facts.specs.Beside.{Additions}
use Rattle.proof_facts.specs.Rings.{node_count}
use Rattle.proof_journals.proofs.BothLives.{IsByRules, before_it, beside_it, not_returning}
use Rattle.proof_lives.specs.TwoLifeRun.{WhichLife, IsOfLife, life_in, event_in}
use Rattle.proof_lives.proofs.TwoLives.{input_in}
use Rattle.proof_journals.proofs.Events.{AreKept, acts_if_out, adds_none, fair, input_of_life, journal_is, outs_of_input}
use Rattle.proof_journals.proofs.Lists.{in_front, moved, past_front, tail_same}

module _ {S : Type 0} {step : S → Input Msg → Deed Msg S} {p : Params} {orders : List Order}
    {disk_at : ℕ → DiskState} {added : Additions} {h : History Msg S} {journals : List (List Entry)}
    (kept : AreKept step p orders disk_at added h journals) where
  -- An entry is written in an event of its node, behind what the earlier events and the event itself had
  -- written; and what stands behind it is of that event or of later ones.
  pub record IsCutIn (n : ℕ) (xs : List Entry) (e : Entry) (ys : List Entry) : Type 0 where
    pub known : n < node_count p
    pub at : ℕ
    pub done : at < h.count n
    pub part : List Entry
    pub rest : List Entry
    pub front_is : xs ≡ so_far step h n at ++ part
    pub event_is : part ++ e ∷ rest ≡ wrote step h n at
    pub behind : (f : Entry) → In f ys → In f rest ⊎ ((k : ℕ) × (at < k) × (k < h.count n) × In f (wrote step h n k))

  pub cut_at_entry : (n : ℕ) (xs : List Entry) (e : Entry) (ys : List Entry) → slice_get journals n ≡ Some (xs ++ e ∷ ys)
      → IsCutIn n xs e ys
  cut_at_entry n xs e ys at =
      let j = journal_is kept n (xs ++ e ∷ ys) at in
      let w = written step h n (h.count n) xs e ys j.1 in
      let low = w.before in
      let more = so_far_on step h n (suc w.at) (h.count n) (omega arith) in
      let one : so_far step h n (suc w.at) ≡ xs ++ e ∷ w.rest =
      one_event_more step h n w.at
      ∙ ap (λ (es : List Entry). so_far step h n w.at ++ es) (sym w.event_is)
      ∙ sym (append_assoc (so_far step h n w.at) w.part (e ∷ w.rest))
      ∙ ap (λ (es : List Entry). es ++ e ∷ w.rest) (sym w.front_is) in
      let all : xs ++ e ∷ (w.rest ++ more.rest) ≡ xs ++ e ∷ ys =
      sym (append_assoc xs (e ∷ w.rest) more.rest)
      ∙ ap (λ (es : List Entry). es ++ more.rest) (sym one)
      ∙ more.is
      ∙ sym j.1 in
      let tail : w.rest ++ more.rest ≡ ys = tail_same e _ _ (append_cancel_left xs _ _ all) in
      record {
        known = j.0;
        at = w.at;
        done = low;
        part = w.part;
        rest = w.rest;
        front_is = w.front_is;
        event_is = w.event_is;
        behind = λ f i. ⊎_elim
            (λ k. inl k)
            (λ k. let r = more.from f k in let r1 = r.1 in inr (r.0, (let z : w.at < r.0 = omega arith in z), r.2, r.3))
            (in_cases f w.rest more.rest (moved f (sym tail) i));
      }

  -- An entry of a cub is that of an output of its rules at an input of one of its lives, behind those of what was put
  -- out before in its event.
  pub record IsOutputOf (c : ℕ) (front : List Entry) (e : Entry) (o : Out Msg) : Type 0 where
    pub which : WhichLife
    pub input : ℕ
    pub done : input < (life_in h which).count c
    pub earlier : List (Out Msg)
    pub later : List (Out Msg)
    pub outs_are : outs_at p c ((life_in h which).input c) input ≡ earlier ++ o ∷ later
    pub front_is : front ≡ so_far step h c (event_in h which c input)
        ++ (got_at ((life_in h which).input c input) ++ map
        (entry_of noted (stamp_of ((life_in h which).input c input))) (before_it h p which c input ++ earlier))
    pub stamp_is : e.stamp ≡ stamp_of ((life_in h which).input c input)
    pub goes : In o (outs_in p (life_in h which) c input)

  -- What goes out in an event of a cub, and neither tells of a return nor may be added, is so.
  of_rules : (c at : ℕ) (k : IsOfLife h c at) → c < p.cubs → at < h.count c → (o : Out Msg) → IsByRules o
      → (front : List Entry) (e : Entry) (earlier later : List (Out Msg))
      → outs noted step h c at ≡ earlier ++ o ∷ later → e ≡ entry_of noted (stamp_at (h.event c at)) o
      → front ≡ so_far step h c at ++ (got_in (h.event c at) ++ map (entry_of noted (stamp_at (h.event c at))) earlier)
      → IsOutputOf c front e o
  of_rules c at k small low o other front e earlier later all is front_is =
      let w : WhichLife = k.which in
      let i : ℕ = k.at in
      let inputs : ℕ → Input Msg = (life_in h w).input c in
      let past_it = past_front (before_it h p w c i) (outs_in p (life_in h w) c i ++ beside_it added w c i) earlier o later
      (sym all ∙ outs_of_input kept c at k small) (λ b. not_returning h p w c i o other b) in
      let mid : List (Out Msg) = past_it.0 in
      let inside = in_front (outs_in p (life_in h w) c i) (beside_it added w c i) mid o later past_it.2
      (λ b. adds_none kept w c i o small k.done other b) in
      let whole = front_of_outs (cut_in (life_in h w) c i) (outs_at p c inputs i) in
      let cut_off : List (Out Msg) = whole.0 in
      let same : input_of (h.event c at) ≡ inputs i = ap (λ (j : ℕ). input_of (h.event c j)) k.is ∙ sym (input_in h w c i) in
      let stamp : stamp_at (h.event c at) ≡ stamp_of (inputs i) =
      stamp_same (h.event c at) ∙ ap (λ (x : Input Msg). stamp_of x) same in
      record {
        which = w;
        input = i;
        done = k.done;
        earlier = mid;
        later = inside.0 ++ cut_off;
        outs_are = sym whole.1
            ∙ ap (λ (os : List (Out Msg)). os ++ cut_off) (sym inside.1)
            ∙ append_assoc mid (o ∷ inside.0) cut_off;
        front_is = front_is
            ∙ ap (λ (j : ℕ). so_far step h c j ++ (got_in (h.event c at)
            ++ map (entry_of noted (stamp_at (h.event c at))) earlier)) k.is
            ∙ ap (λ (x : Input Msg). so_far step h c (event_in h w c i) ++ (got_at x
            ++ map (entry_of noted (stamp_at (h.event c at))) earlier)) same
            ∙ ap (λ (s : Stamp). so_far step h c (event_in h w c i) ++ (got_at (inputs i)
            ++ map (entry_of noted s) earlier)) stamp
            ∙ ap (λ (os : List (Out Msg)). so_far step h c (event_in h w c i) ++ (got_at (inputs i)
            ++ map (entry_of noted (stamp_of (inputs i))) os)) past_it.1;
        stamp_is = ap (λ (x : Entry). x.stamp) is ∙ stamp;
        goes = moved o inside.1 (in_right o mid (o ∷ inside.0) (inl refl));
      }

  -- So is each entry of a cub that tells neither of a message that was got, nor of a death or a return.
  pub cub_output : (c : ℕ) → c < p.cubs → (front : List Entry) (e : Entry) (back : List Entry)
      → slice_get journals c ≡ Some (front ++ e ∷ back) → is_got e.what ≡ false → is_died e.what ≡ false
      → (o : Out Msg) × (what_of noted o ≡ e.what) × IsAllowed noted p c o × (IsByRules o → IsOutputOf c front e o)
  cub_output c small front e back at sent lives =
      let w = cut_at_entry c front e back at in
      let fairly = fair kept c w.at w.known w.done in
      let o = put_out step p c (h.event c w.at) (past noted step h c w.at) w.part e w.rest fairly sent lives w.event_is in
      let there : In o.output (outs noted step h c w.at) =
      moved o.output (sym o.outs_are) (in_right o.output o.earlier (o.output ∷ o.later) (inl refl)) in
      let k = input_of_life kept c w.at w.known w.done (acts_if_out kept c w.at o.output there) in (
        o.output,
        ap (λ (x : Entry). x.what) (sym o.is),
        all_in (IsAllowed noted p c) o.output (outs noted step h c w.at) fairly there,
        λ other. of_rules c w.at k small w.done o.output other front e o.earlier o.later o.outs_are o.is
            (w.front_is ∙ ap (λ (l : List Entry). so_far step h c w.at ++ l) o.part_is),
      )

  -- That of a cub's own is.
  pub own_output : (c : ℕ) → c < p.cubs → (front : List Entry) (e : Entry) (back : List Entry) (w : What)
      → IsOwnEntry w → IsByRules (out.Act w) → is_got w ≡ false → is_died w ≡ false
      → slice_get journals c ≡ Some (front ++ e ∷ back) → e.what ≡ w → IsOutputOf c front e (out.Act w)
  own_output c small front e back w own other sent lives at is =
      let o = cub_output c small front e back at (ap is_got is ∙ sent) (ap is_died is ∙ lives) in
      let same : o.0 ≡ out.Act w = acted o.0 w own (o.1 ∙ is) in
      subst (λ (x : Out Msg). IsOutputOf c front e x) same (o.3 (subst IsByRules (sym same) other))

  -- And that of a viewer state that was sent.
  pub sent_output : (c : ℕ) → c < p.cubs
      → (front : List Entry) (e : Entry) (back : List Entry) (link : LinkNo) (s : State)
      → slice_get journals c ≡ Some (front ++ e ∷ back)
      → e.what ≡ what.Sent link (note.ViewerState s) → IsOutputOf c front e (out.Send link (msg.ViewerState s))
  sent_output c small front e back link s at is =
      let o = cub_output c small front e back at (ap is_got is) (ap is_died is) in
      let same : o.0 ≡ out.Send link (msg.ViewerState s) = old.state_sent p c o.0 link s o.2 (o.1 ∙ is) in
      subst (λ (x : Out Msg). IsOutputOf c front e x) same (o.3 (subst IsByRules (sym same) tt))
