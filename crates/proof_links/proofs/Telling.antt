-- What cubs send one another comes in time and in order, and what comes from a cub was sent by it.
use Rattle.std.proofs.Common.{◌≡◌, ℕ, ◌+◌, ◌<◌, ◌≤◌, List, refl, sym, ap, subst, ◌∙◌, arith, ⊎_elim}
use Rattle.std.proofs.lemmas.Bool.{cases_lt}
use Rattle.tiger_base.specs.declared.number.LinkNo.{LinkNo}
use Rattle.tiger_base.specs.declared.number.Stamp.{Stamp}
use Rattle.tiger_base.specs.declared.message.Msg.{Msg}
use Rattle.tiger_base.specs.declared.message.Msg.TheVariants as msg
use Rattle.tiger_base.specs.Notes.{noted}
use Rattle.slot_plan.specs.declared.params.Params.{Params}
use Rattle.slot_plan.specs.Conditions.{IsPlan}
use Rattle.node_kit.specs.declared.course.Order.{Order}
use Rattle.node_kit.specs.declared.outbox.Out.TheVariants as out
use Rattle.node_kit.specs.Steps.{Deed, Input, stamp_of}
use Rattle.node_kit.specs.Steps.Input.{Take}
use Rattle.run_facts.specs.Histories.{History, beat, outs, place}
use Rattle.disk_core.specs.State.{DiskState}
use Rattle.proof_lives.specs.TwoLifeRun.{WhichLife, event_in, life_in}
use Rattle.lists.specs.Elements.{In}
use Rattle.proof_lives.specs.FactsBy.{CameToTick, IsInOneLife}
use Rattle.proof_lives.proofs.Carrying.{same_ends}
use Rattle.proof_facts.specs.Beside.{Additions}
use Rattle.proof_facts.specs.Carried.{CameAhead, CubsAreTold, Leads, TookInOrder, WasSentBy, WasSentSince}
use Rattle.proof_facts.specs.Facts.{beyond_with}
use Rattle.proof_facts.specs.Rings.{IsRingWith}
use Rattle.proof_links.proofs.Carrying.{SentIn, beyond_sends, came_from, from_cub, number_of, numbers_rise, reaches, sends_as, sends_small, sent_in_life}
use Rattle.proof_links.proofs.Nodes.{cub_inside, rises}
use Rattle.proof_links.proofs.Once.{behind_it}
use Rattle.proof_links.proofs.Sending.{IsOfController, IsOfDisk}
use Rattle.proof_links.proofs.Ways.{is_ahead}

module _ {S : Type 0} {step : S → Input Msg → Deed Msg S} {p : Params} {orders : List Order} {disk_at : ℕ → DiskState}
    {added : Additions} {h : History Msg S} (plan : IsPlan p) (ring : IsRingWith step p orders disk_at added h) where
  -- What came on a link from a cub was sent by it.
  sent_by : (w : WhichLife) (a c i : ℕ) (stamp : Stamp) (link : LinkNo) (m : Msg) → Leads p link a c → a < p.cubs
      → c < p.cubs → i < (life_in h w).count c → (life_in h w).input c i ≡ Take stamp link m
      → WasSentBy p (beyond_with p orders added h) a c link m stamp.beat
  sent_by w a c i stamp link m leads own small low e =
      let f = came_from plan ring w c i stamp link m (cub_inside plan ring c small) low e in
      let who : f.from ≡ a = (same_ends f.from c a c (sym f.ends ∙ leads)).0 in
      let from : f.from < p.cubs = subst (λ n. n < p.cubs) (sym who) own in
      record {
        beat = beat h f.from f.at;
        sent = subst (λ n. (beyond_with p orders added h).Sends n link m (beat h f.from f.at)) who
            (beyond_sends plan ring f.from f.at link m from f.note.done f.sent);
        later = f.later;
        soon = f.soon;
        life = sent_in_life plan ring w small low (ap (λ (k : Input Msg). (stamp_of k).beat) e) f;
      }

  -- What a cub takes behind a message on the same link was sent in the beat of that message or after it.
  since : (w : WhichLife) (a c x i at : ℕ) (stamp : Stamp) (link : LinkNo) (m o : Msg) → Leads p link a c → a < p.cubs
      → c < p.cubs → (s : SentIn plan ring a link m x)
      → place link.0 h c (event_in h w c at) ≡ number_of plan ring a s.at s.place_there link
      → (t : Stamp) → (life_in h w).input c at ≡ Take t link m → at < i → i < (life_in h w).count c
      → (life_in h w).input c i ≡ Take stamp link o
      → WasSentSince (beyond_with p orders added h) a link o x
  since w a c x i at stamp link m o leads own small s number t is less low e =
      let f = came_from plan ring w c i stamp link o (cub_inside plan ring c small) low e in
      let who : f.from ≡ a = (same_ends f.from c a c (sym f.ends ∙ leads)).0 in
      let more = behind_it plan ring w c at i link.0 t link m small less low is refl in
      let there = f.number in
      let event : s.at ≤ f.at = ⊎_elim
      (λ (q : f.at < s.at).
      let r = numbers_rise plan ring s.at s.place_there f.note q in
      let same : number_of plan ring f.from s.at s.place_there link ≡ number_of plan ring a s.at s.place_there link =
      ap (λ n. number_of plan ring n s.at s.place_there link) who in
      absurd (omega arith))
      (λ (q : s.at ≤ f.at). q)
      (cases_lt f.at s.at) in
      let its : f.at < h.count a = subst (λ n. f.at < h.count n) who f.note.done in
      let rise = rises plan ring a s.at f.at (cub_inside plan ring a own) event its in
      let first = s.in_beat in
      record {
        beat = beat h a f.at;
        sent = beyond_sends plan ring a f.at link o own its
            (subst (λ n. In (out.Send link o) (outs noted step h n f.at)) who f.sent);
        since = omega arith;
      }

  -- What a cub sends another comes in time and in order.
  told_in_order : (w : WhichLife) (a c x b : ℕ) (link : LinkNo) (m : Msg) → (beyond_with p orders added h).Sends a link m x
      → Leads p link a c → c < p.cubs → CameToTick p (life_in h w) c b → IsInOneLife (beyond_with p orders added h) c x b
      → x + p.delay ≤ b
      → TookInOrder p (life_in h w) (beyond_with p orders added h) a c link m x
  told_in_order w a c x b link m sends leads small tick one late =
      let s = sends_as plan ring sends in
      let r = reaches plan ring w c b s leads tick one late in
      let t : Stamp = record { beat = r.beat; reading = r.took.reading } in
      let is : (life_in h w).input c r.took.at ≡ Take t link m = r.took.is ∙ ap (λ (l : LinkNo). Take t l m) r.way in
      record {
        at = r.took.at;
        done = r.took.done;
        beat = r.beat;
        reading = r.took.reading;
        is = is;
        later = r.later;
        soon = r.soon;
        behind = λ i stamp o less low e.
            since w a c x i r.took.at stamp link m o leads (sends_small plan ring sends) small s r.number t is less low e;
      }

  -- What only cubs may send came from a cub, which sent it some steps ahead.
  ahead : (w : WhichLife) (c i : ℕ) (stamp : Stamp) (link : LinkNo) (m : Msg) → (IsOfDisk m → ⊥) → (IsOfController m → ⊥)
      → c < p.cubs → i < (life_in h w).count c → (life_in h w).input c i ≡ Take stamp link m
      → CameAhead p (beyond_with p orders added h) c link m stamp.beat
  ahead w c i stamp link m no_disk no_controller small low e =
      let f = came_from plan ring w c i stamp link m (cub_inside plan ring c small) low e in
      let own = from_cub plan ring f no_disk no_controller in
      let x = is_ahead p f.from c link plan f.ends own small in
      record {
        from = f.from;
        ahead = x.steps;
        small = own;
        some = x.some;
        way = x.way;
        to = x.to;
        sent = sent_by w f.from c i stamp link m f.ends own small low e;
      }

  -- What the links between cubs bring.
  pub cubs_are_told : (w : WhichLife) → CubsAreTold p (life_in h w) (beyond_with p orders added h)
  cubs_are_told w = record {
    from = sent_by w;
    to = told_in_order w;
    mirrors = λ c i stamp link x small low e. ahead w c i stamp link (msg.MirrorState x) (λ q. q) (λ q. q) small low e;
    kills = λ c i stamp link v s n small low e.
        ahead w c i stamp link (msg.Kill v s n) (λ q. q) (λ q. q) small low e;
  }
