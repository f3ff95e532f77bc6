-- Asks of disks: each reaches its disk and each answer its cub in time, and what is answered was asked.
use Rattle.std.proofs.Common.{◌≡◌, ℕ, ◌+◌, ◌*◌, ◌<◌, ◌≤◌, List, true, Option, Some, sym, ap, subst, ◌∙◌, arith, ⊎_elim, inl}
use Rattle.tiger_base.specs.Span.{LibraryPart}
use Rattle.tiger_base.specs.declared.number.LinkNo.{LinkNo}
use Rattle.tiger_base.specs.declared.number.Stamp.{Stamp}
use Rattle.tiger_base.specs.declared.tenancy.Want.{Want}
use Rattle.tiger_base.specs.declared.message.Msg.{Msg}
use Rattle.tiger_base.specs.declared.message.Msg.TheVariants as msg
use Rattle.tiger_base.specs.Notes.{noted}
use Rattle.slot_plan.specs.declared.params.Params.{Params}
use Rattle.slot_plan.specs.Conditions.{IsPlan}
use Rattle.slot_plan.specs.Times.{cub_of}
use Rattle.node_kit.specs.declared.course.Order.{Order}
use Rattle.node_kit.specs.declared.outbox.Out.{Out}
use Rattle.node_kit.specs.declared.outbox.Out.TheVariants as out
use Rattle.node_kit.specs.Form.{is_in_form}
use Rattle.node_kit.specs.Links.{links_of, ends_of}
use Rattle.node_kit.specs.Steps.{Deed, Input, stamp_of}
use Rattle.node_kit.specs.Steps.Input.{Take}
use Rattle.node_kit.specs.Ways.{way_to_disk, way_from_disk}
use Rattle.run_facts.specs.Histories.{History, beat, outs}
use Rattle.disk_core.specs.State.{DiskState}
use Rattle.disk_core.specs.Rules.{disk_step, asked, read_part}
use Rattle.proof_lives.specs.Lives.{Lives, beat_at}
use Rattle.proof_lives.specs.FactsBy.{CameToTick, IsInOneLife}
use Rattle.proof_lives.specs.TwoLifeRun.{WhichLife, life_in}
use Rattle.proof_lives.specs.TwoLifeRun.WhichLife.{First}
use Rattle.lists.specs.Elements.{In}
use Rattle.proof_lives.specs.Facts.{DidAt, TookMessage}
use Rattle.proof_lives.proofs.Carrying.{same_ends}
use Rattle.proof_lives.proofs.SameLife.{same_life}
use Rattle.proof_lives.proofs.TwoLives.{beat_in}
use Rattle.proof_facts.specs.Beside.{Additions}
use Rattle.proof_facts.specs.Carried.{AnswersAsk, AskedDisk, DisksAnswer, WasAnswered}
use Rattle.proof_facts.specs.Facts.{beyond_with}
use Rattle.proof_facts.specs.Lives.{lives_of}
use Rattle.proof_facts.specs.Rings.{IsRingWith, IsDiskOf, node_count, node_of_disk}
use Rattle.proof_links.proofs.Carrying.{beyond_sends, came_from, came_to, delivered, did_as, from_cub, is_out, not_behind, reaches, sent_out, took_from}
use Rattle.proof_links.proofs.Fitting.{fits}
use Rattle.proof_links.proofs.Nodes.{SentByDisk, cub_inside, disk_inside, formed_at, immortal, is_up, lived, lives_on, sender}
use Rattle.proof_links.proofs.Ways.{ends_from_disk, ends_to_disk, is_to_disk}

-- the link on which a disk of the plan answers
own_way : {p : Params} {d : ℕ} (s : DiskState) → IsDiskOf p d s → way_from_disk s.params s.disk ≡ way_from_disk p d
own_way {p} {d} s of = ap (λ (q : Params). way_from_disk q s.disk) of.params ∙ ap (λ n. way_from_disk p n) of.number

-- A disk that is asked in form answers in the same event.
answers_now : {p : Params} {d : ℕ} (s : DiskState) (stamp : Stamp) (link : LinkNo) (want : Want) → IsDiskOf p d s
    → is_in_form p (noted (msg.ReadAsk want)) ≡ true
    → In (out.Send (way_from_disk p d) (msg.ReadDone want (read_part s stamp.beat want)))
    (disk_step s (Take stamp link (msg.ReadAsk want))).outs
unfolding asked
answers_now {p} {d} s stamp link want of form =
    let g : is_in_form s.params (noted (msg.ReadAsk want)) ≡ true =
    ap (λ (q : Params). is_in_form q (noted (msg.ReadAsk want))) of.params ∙ form in
    rw g (inl (ap (λ (x : LinkNo). out.Send x (msg.ReadDone want (read_part s stamp.beat want))) (sym (own_way s of))))

-- Equal answers are to one want, with one part.
same_answer : (a b : Want) (x y : Option LibraryPart) → msg.ReadDone a x ≡ msg.ReadDone b y → (a ≡ b) × (x ≡ y)
same_answer a b x y e = let q : a ≡ b = cc in let r : x ≡ y = cc in (q, r)

module _ {S : Type 0} {step : S → Input Msg → Deed Msg S} {p : Params} {orders : List Order} {disk_at : ℕ → DiskState}
    {added : Additions} {h : History Msg S} (plan : IsPlan p) (ring : IsRingWith step p orders disk_at added h) where
  abbrev lives : Lives
  lives = lives_of h

  -- What a cub did and its tick are of one life.
  one_life_of : (w : WhichLife) {c x b : ℕ} {o : Out Msg} → DidAt p (life_in h w) c o x → CameToTick p (life_in h w) c b
      → IsInOneLife (beyond_with p orders added h) c x b
  one_life_of w {c} {x} {b} d t v back le =
      let k = t.tick in
      let is : beat_at ((life_in h w).input c) k.at ≡ b = ap (λ (i : Input Msg). (stamp_of i).beat) k.is in
      let db = d.in_beat in
      let same = same_life p (life_in h w) (beyond_with p orders added h) (lived plan ring w) (fits plan ring w) c d.at k.at d.small
      d.done k.done v back (omega arith) in
      omega arith

  -- A cub that asks a disk has the answer when it comes to its tick of two ways later.
  answered : (w : WhichLife) (c disk x b : ℕ) (want : Want) → AskedDisk p (life_in h w) c disk want x
      → CameToTick p (life_in h w) c b → x + 2 * p.delay ≤ b
      → WasAnswered p (life_in h w) (disk_at disk) c want x
  answered w c disk x b want a tick late =
      let n : ℕ = node_of_disk p disk in
      let s : DiskState = disk_at disk in
      let cub = cub_inside plan ring c tick.tick.small in
      let inside = disk_inside plan ring disk a.inside in
      let lives_there = immortal plan ring n inside (omega arith) in
      let delay = plan.ranges.delay in
      let ask = did_as plan ring w a.ask in
      let xb = ask.in_beat in
      let to : ends_of (links_of p) (way_to_disk p disk).0 ≡ Some (c, n) =
      ends_to_disk p disk a.inside ∙ ap (λ k. Some (k, n)) (sym a.own) in
      let back : ends_of (links_of p) (way_from_disk p disk).0 ≡ Some (n, c) =
      ends_from_disk p disk a.inside ∙ ap (λ k. Some (n, k)) (sym a.own) in
      let ticked = not_behind plan ring c b n (came_to plan ring w tick.tick) inside (is_up plan ring n lives_there) in
      let r = delivered plan ring n ask.note cub inside lives_there to (omega arith) in
      let g : ℕ = r.stamp.beat in
      let m : Msg = msg.ReadDone want (read_part s g want) in
      let form =
      formed_at plan ring c ask.at (way_to_disk p disk) (msg.ReadAsk want) cub ask.note.done (is_out plan ring ask.note) in
      let said = answers_now s r.stamp (way_to_disk p disk) want (ring.rules.are_disks disk a.inside) form in
      let input : lives.input n r.when ≡ Take r.stamp (way_to_disk p disk) (msg.ReadAsk want) = r.is in
      let there : In (out.Send (way_from_disk p disk) m) (outs noted step h n r.when) =
      subst (λ (os : List (Out Msg)). In (out.Send (way_from_disk p disk) m) os)
      (sym (ring.rules.disks disk r.when a.inside r.before_it))
      (subst (λ (i : Input Msg). In (out.Send (way_from_disk p disk) m) (disk_step s i).outs) (sym input) said) in
      let when : beat h n r.when ≡ g = beat_in h First n r.when ∙ ap (λ (k : Input Msg). (stamp_of k).beat) r.is in
      let later = r.later in
      let soon = r.soon in
      let one = one_life_of w a.ask tick in
      let t = reaches plan ring w c b (sent_out plan ring n r.when (way_from_disk p disk) m g inside r.before_it when there)
      back tick (λ v returned le. let by = one v returned le in omega arith) (omega arith) in
      record {
        taken = g;
        beat = t.beat;
        answer = t.took;
        after = omega arith;
        in_time = omega arith;
        later = t.later;
        soon = t.soon;
      }

  -- What a disk answered a cub that cub had asked.
  asked_by : (w : WhichLife) {c y : ℕ} {want : Want} {part : Option LibraryPart}
      (g : TookMessage p (life_in h w) c (msg.ReadDone want part) y) (n i : ℕ) → n < node_count p → i < h.count n
      → ends_of (links_of p) g.link.0 ≡ Some (n, c) → beat h n i < y → y ≤ beat h n i + p.delay
      → SentByDisk plan ring n i g.link (msg.ReadDone want part)
      → AnswersAsk p (beyond_with p orders added h) disk_at c want part y
  asked_by w {c} {y} {want} {part} g n i inside done ends later soon said =
      let d : ℕ = said.disk in
      let a = said.answer in
      let s : DiskState = disk_at d in
      let same = same_answer want a.want part (read_part s a.stamp.beat a.want) a.is in
      let other : p.cubs ≤ n = subst (λ k. p.cubs ≤ k) (sym said.node) (omega arith) in
      let all = lives_on plan ring n inside other in
      let f = came_from plan ring First n i a.stamp a.link (msg.ReadAsk a.want) inside (omega arith) a.ask in
      let own = from_cub plan ring f (λ q. q) (λ q. q) in
      let sent = beyond_sends plan ring f.from f.at a.link (msg.ReadAsk a.want) own f.note.done f.sent in
      let asked_in : ℕ = beat h f.from f.at in
      let to = is_to_disk p f.from d a.link plan said.low (f.ends ∙ ap (λ k. Some (f.from, k)) said.node) in
      let way : g.link ≡ way_from_disk p d = a.way_is ∙ own_way s (ring.rules.are_disks d said.low) in
      let home : c ≡ cub_of p d = (same_ends n c (p.cubs + d) (cub_of p d)
      (sym ends ∙ ap (λ (l : LinkNo). ends_of (links_of p) l.0) way ∙ ends_from_disk p d said.low)).1 in
      let when : beat h n i ≡ a.stamp.beat =
      beat_in h First n i ∙ ap (λ (k : Input Msg). (stamp_of k).beat) a.ask in
      let ask : (beyond_with p orders added h).Sends c (way_to_disk p d) (msg.ReadAsk want) asked_in =
      subst (λ (v : Want). (beyond_with p orders added h).Sends c (way_to_disk p d) (msg.ReadAsk v) asked_in) (sym same.0)
      (subst (λ (l : LinkNo). (beyond_with p orders added h).Sends c l (msg.ReadAsk a.want) asked_in) to.0
      (subst (λ k. (beyond_with p orders added h).Sends k a.link (msg.ReadAsk a.want) asked_in) (to.1 ∙ sym home) sent)) in
      record {
        disk = d;
        asked = asked_in;
        taken = a.stamp.beat;
        ask = record { inside = said.low; own = home; ask = ask };
        after = f.later;
        in_time = f.soon;
        later = omega arith;
        soon = omega arith;
        is = same.1 ∙ ap (λ (v : Want). read_part s a.stamp.beat v) (sym same.0);
      }

  -- What the disks and the links to them give.
  pub disks_answer : (w : WhichLife) → DisksAnswer p (life_in h w) (beyond_with p orders added h) disk_at
  disks_answer w = record {
    answered = answered w;
    of_asks = λ c y want part g.
        let f = took_from plan ring w g in
        ⊎_elim
        (λ q. ⊎_elim (λ k. absurd k) (λ k. absurd k) q.1)
        (λ q. ⊎_elim (λ said. asked_by w g f.from f.at f.known f.note.done f.ends f.later f.soon said)
        (λ k. absurd k.1) q)
        (sender plan ring f.from f.at g.link (msg.ReadDone want part) f.known f.note.done f.sent);
  }
