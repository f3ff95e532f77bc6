-- Why a read failed, by the journal of the disk that has what was wanted.
use Rattle.std.proofs.Common.{◌≡◌, ℕ, zero, suc, ◌+◌, ◌<◌, ◌≤◌, List, true, false, cond, None, Some, Option, refl, sym, ap, subst, ◌∙◌, arith, ⊎_elim, inl, inr}
use Rattle.std.specs.Prelude.{◌⊎◌, ◌==◌, ◌*◌, ◌&&◌, ◌-◌, max, nat_le, nat_lt}
use Rattle.std.proofs.lemmas.Bool.{cases_Bool, ne_eqb}
use Rattle.tiger_base.specs.declared.number.LinkNo.{LinkNo}
use Rattle.tiger_base.specs.declared.number.Stamp.{Stamp}
use Rattle.tiger_base.specs.declared.tenancy.Tenancy.{Tenancy}
use Rattle.tiger_base.specs.declared.tenancy.Want.{Want}
use Rattle.tiger_base.specs.Span.{LibraryPart}
use Rattle.tiger_base.specs.declared.message.Msg.{Msg}
use Rattle.tiger_base.specs.declared.message.Msg.TheVariants as msg
use Rattle.tiger_base.specs.declared.message.Note.TheVariants as note
use Rattle.tiger_base.specs.Notes.{noted}
use Rattle.slot_plan.specs.declared.params.Params.{Params}
use Rattle.slot_plan.specs.Times.{disk_count}
use Rattle.stripe_layout.specs.declared.catalogue.Catalogue.{Catalogue}
use Rattle.disk_image.specs.Image.{Image, block_part, piece_part}
use Rattle.node_kit.specs.declared.course.Order.{Order}
use Rattle.node_kit.specs.declared.course.ReadFault.{ReadFault}
use Rattle.node_kit.specs.declared.journal.Entry.{Entry}
use Rattle.node_kit.specs.declared.journal.What.TheVariants as what
use Rattle.node_kit.specs.declared.outbox.Out.TheVariants as out
use Rattle.node_kit.specs.Steps.{Deed, Input, stamp_of}
use Rattle.node_kit.specs.Ways.{way_to_disk}
use Rattle.run_facts.specs.Histories.{History, past, beat}
use Rattle.run_model.specs.Fronts.{AnyByRecursion}
use Rattle.run_model.proofs.Reflects.{and_left, and_right, any_found, equal, less, at_most}
use Rattle.run_claims.specs.Truths.{Lasts}
use Rattle.cub_rules.specs.State.{IsPieceAt}
use Rattle.disk_core.specs.State.{DiskState}
use Rattle.disk_core.specs.Rules.{strikes, is_faulty, part_for, read_part}
use Rattle.proof_lives.specs.Lives.{store_at}
use Rattle.proof_lives.specs.TwoLifeRun.{WhichLife, event_in, life_in}
use Rattle.proof_lives.specs.TwoLifeRun.WhichLife.{First}
use Rattle.proof_lives.proofs.TwoLives.{beat_in}
use Rattle.proof_lives.specs.Facts.{TookMessage}
use Rattle.lists.proofs.Each.{all_in}
use Rattle.proof_journals.proofs.BothLives.{by_life}
use Rattle.proof_moments.specs.Ties.{StandsIn}
use Rattle.proof_service.specs.Disks.{disk_at, part_at}
use Rattle.proof_facts.specs.Beside.{Additions}
use Rattle.proof_facts.specs.Blocks.{AnsweredAt}
use Rattle.proof_facts.specs.Facts.{blocks_of}
use Rattle.proof_facts.specs.Lives.{acting}
use Rattle.proof_facts.specs.Pieces.{want}
use Rattle.proof_facts.specs.Rings.{HaveImages, node_of_disk}
use Rattle.proof_links.proofs.Carrying.{Came, came_from, took_from, from_cub}
use Rattle.proof_links.proofs.Sending.{IsBack, IsOfCub}
use Rattle.proof_links.proofs.Nodes.{lived, sender, lives_on, SentByDisk}
use Rattle.proof_links.proofs.Ways.{is_to_disk}
use Rattle.proof_parts.proofs.AskLives.{read_for}
use Rattle.proof_journals.proofs.Events.{AreKept, did_at, did_in_life, event_of_life}
use Rattle.proof_moments.specs.ParcelTies.{IsRefusedAt, DisksTell}
use Rattle.proof_parcels.specs.Parcels.{HaveFaults}
use Rattle.proof_parcels.proofs.Cubs as cubs
use Rattle.proof_parcels.proofs.Entries.{event_writes_got, stands_written}

-- what an image lacks for a want of a piece, it lacks of the piece
lacks : (m : Image) (t : Tenancy) (n j : ℕ) → part_for m (want t n j) ≡ None → part_at m t n j ≡ None
unfolding part_for
lacks m t n zero e = e
lacks m t n (suc k) e =
    let f : (suc k == 0) ≡ false = ne_eqb _ _ (λ q. absurd (omega arith)) in
    let chosen_is : (cond (suc k == 0) (block_part m t.file (n - t.first)) (piece_part m t.file (n - t.first)
    (suc k))) ≡ piece_part m t.file (n - t.first) (suc k) = rw f refl in
    sym chosen_is ∙ e

-- a disk that gives nothing has a fault, or lacks the part
refuses : (s : DiskState) (b : ℕ) (w : Want) → None ≡ read_part s b w → (is_faulty s.faults s.disk b ≡ true)
    ⊎ (part_for s.image w ≡ None)
unfolding read_part
refuses s b w e = ⊎_elim
    (λ (t : is_faulty s.faults s.disk b ≡ true). inl t)
    (λ (f : is_faulty s.faults s.disk b ≡ false). inr (sym (e ∙ (rw f refl))))
    (cases_Bool (is_faulty s.faults s.disk b))

-- a fault that strikes lasts
strikes_last : (disk b : ℕ) (x : ReadFault) → strikes disk b x ≡ true → Lasts disk b x
strikes_last disk b x t =
    let two = and_left (x.disk.0 == disk && nat_le x.from b) (nat_lt b x.until) t in (
      (equal x.disk.0 disk).0 (and_left (x.disk.0 == disk) (nat_le x.from b) two),
      (at_most x.from b).0 (and_right (x.disk.0 == disk) (nat_le x.from b) two),
      (less b x.until).0 (and_right (x.disk.0 == disk && nat_le x.from b) (nat_lt b x.until) t),
    )

-- the ways to two disks are one only if the disks are
same_disk : (p : Params) (d e : ℕ) → way_to_disk p d ≡ way_to_disk p e → d ≡ e
unfolding way_to_disk
same_disk p d e q = let n : 3 * p.cubs + p.cubs * max 2 p.pieces + d ≡ 3 * p.cubs + p.cubs * max 2 p.pieces + e = ap
    (λ (l : LinkNo). l.0) q in omega arith

module _ {S : Type 0} {step : S → Input Msg → Deed Msg S} {p : Params} {orders : List Order} {disks : ℕ → DiskState}
    {added : Additions} {h : History Msg S} {journals : List (List Entry)}
    (kept : AreKept step p orders disks added h journals) where
  -- what a disk answered it was asked for by a cub, on the way of what was wanted
  pub record IsRead (w : Want) (part : Option LibraryPart) (y : ℕ) : Type 0 where
    pub disk : ℕ
    pub low : disk < disk_count p
    pub is : disk ≡ disk_at p w.visit w.piece
    pub stamp : Stamp
    pub link : LinkNo
    pub stands : StandsIn journals (node_of_disk p disk)
        (record { stamp = stamp; what = what.Got link (note.ReadAsk w) })
    pub before : stamp.beat < y
    pub gives : part ≡ read_part (disks disk) stamp.beat w

  pub is_read : (w : WhichLife) {c y : ℕ} {v : Want} {part : Option LibraryPart} → TookMessage p (life_in h w) c
      (msg.ReadDone v part) y → IsRead v part y
  is_read w {c} {y} {v} {part} g =
      let f = took_from kept.plan kept.ring w g in
      ⊎_elim
      (λ q. absurd (of_no_cub q.1))
      (λ q. ⊎_elim (λ said. by_disk f said) (λ k. absurd k.1) q)
      (sender kept.plan kept.ring f.from f.at g.link (msg.ReadDone v part) f.known f.note.done f.sent)
    where
      of_no_cub : IsOfCub (msg.ReadDone v part) ⊎ IsBack (msg.ReadDone v part) → ⊥
      of_no_cub o = ⊎_elim (λ k. k) (λ k. k) o

      by_disk : (f : Came kept.plan kept.ring c (event_in h w c g.at) y g.link (msg.ReadDone v part))
          → SentByDisk kept.plan kept.ring f.from f.at g.link (msg.ReadDone v part) → IsRead v part y
      by_disk f said =
          let d : ℕ = said.disk in
          let a = said.answer in
          let both : msg.ReadDone v part ≡ msg.ReadDone a.want (read_part (disks d) a.stamp.beat a.want) = a.is in
          let wants : v ≡ a.want = cc in
          let parts : part ≡ read_part (disks d) a.stamp.beat a.want = cc in
          let other : p.cubs ≤ f.from = subst (λ k. p.cubs ≤ k) (sym said.node) (omega arith) in
          let all = lives_on kept.plan kept.ring f.from f.known other in
          let done = f.note.done in
          let alive : f.at < acting h f.from = omega arith in
          let asked = came_from kept.plan kept.ring First f.from f.at a.stamp a.link (msg.ReadAsk a.want) f.known alive
          a.ask in
          let own = from_cub kept.plan kept.ring asked (λ q. q) (λ q. q) in
          let to = is_to_disk p asked.from d a.link kept.plan said.low (asked.ends
          ∙ ap (λ k. Some (asked.from, k)) said.node) in
          let did = did_in_life kept asked.from asked.at (out.Send a.link (msg.ReadAsk a.want)) own asked.note.done tt
          asked.sent in
          let ask = read_for p kept.plan (life_in h did.which) (lived kept.plan kept.ring did.which) asked.from
          (beat h asked.from asked.at) a.link a.want (did_at kept did) in
          let acts = (event_of_life kept First f.from f.at f.known alive).1 in
          let stands : StandsIn journals f.from (record {
            stamp = a.stamp;
            what = what.Got a.link
                (note.ReadAsk a.want);
          }) =
          stands_written kept f.from f.at _ f.known f.note.done (event_writes_got step (h.event f.from f.at)
          (past noted step h f.from f.at) a.stamp a.link (msg.ReadAsk a.want) acts a.ask) in
          let when : beat h f.from f.at ≡ a.stamp.beat = beat_in h First f.from f.at
          ∙ ap (λ (k : Input Msg). (stamp_of k).beat) a.ask in
          let later = f.later in
          subst (λ (z : Want). IsRead z part y) (sym wants) (record {
            disk = d;
            low = said.low;
            is = same_disk p d (disk_at p a.want.visit a.want.piece) (sym to.0 ∙ ask.way);
            stamp = a.stamp;
            link = a.link;
            stands = subst (λ (k : ℕ). StandsIn journals k (record {
              stamp = a.stamp;
              what = what.Got a.link
                  (note.ReadAsk a.want);
            })) said.node stands;
            before = omega arith;
            gives = parts;
          })

  module _ (c : Catalogue) (faults : List ReadFault) (images : HaveImages p c disks) (fault : HaveFaults p faults disks) where
    refused_in : (l : WhichLife) (k n j y : ℕ) (t : Tenancy) → AnsweredAt p (life_in h l) k t n j y None
        → IsRefusedAt p c (blocks_of p h disks) journals t n j y
    refused_in l k n j y t a =
        let w : Want = want t n j in
        let r = is_read l {c = k} {y = y} {v = w} {part = None}
        (record { small = a.small; at = a.at; done = a.done; reading = a.reading; link = a.link; is = a.is }) in
        let g = store_at p k ((life_in h l).input k) a.at in
        let few : j ≤ p.pieces = ⊎_elim
        (λ o. let z = o.0 in omega arith)
        (λ q. (cubs.numbered p k _ (all_in (IsPieceAt p k) _ g.pieces.items
        (cubs.kept (life_in h l) kept.plan (lived kept.plan kept.ring l) k a.small a.at a.done).pieces q.1)).1)
        a.there in
        let d : ℕ = disk_at p n j in
        let low : d < disk_count p = subst (λ (x : ℕ). x < disk_count p) r.is r.low in
        let number = (kept.ring.rules.are_disks d low).number in
        let gives : None ≡ read_part (disks d) r.stamp.beat w = r.gives
        ∙ ap (λ (x : ℕ). read_part (disks x) r.stamp.beat w) r.is in
        record {
          few = few;
          entry = record { stamp = r.stamp; what = what.Got r.link (note.ReadAsk w) };
          stands = subst (λ (x : ℕ). StandsIn journals (node_of_disk p x)
              (record { stamp = r.stamp; what = what.Got r.link (note.ReadAsk w) })) r.is r.stands;
          link = r.link;
          got = refl;
          before = r.before;
          why = ⊎_elim
              (λ s. inl (subst (λ (x : ℕ). is_faulty (disks d).faults x r.stamp.beat ≡ true) number s))
              (λ s. inr (
                (disks d).image,
                record {
                  catalogue = images.files d low;
                  pieces = images.pieces d low;
                  disk = images.disk d low;
                },
                lacks (disks d).image t n j s,
              ))
              (refuses (disks d) r.stamp.beat w gives);
        }

    refused : (k n j y : ℕ) (t : Tenancy) → (blocks_of p h disks).Failed k t n j y
        → IsRefusedAt p c (blocks_of p h disks) journals t n j y
    refused k n j y t a = by_life h (λ x. AnsweredAt p x k t n j y None) (λ l q. refused_in l k n j y t q) a

    struck : (disk b : ℕ) → disk < disk_count p → is_faulty (disks disk).faults disk b ≡ true
        → AnyByRecursion (Lasts disk b) faults
    unfolding is_faulty
    struck disk b low t =
        any_found (Lasts disk b) (strikes disk b) (strikes_last disk b) faults (fault disk b low t)

    pub tell : DisksTell p c faults (blocks_of p h disks) journals
    tell = record { refused = refused; struck = struck }
