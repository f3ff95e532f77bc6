-- A start comes before any deschedule of its instance: so whoever was reached by one puts the instance no more.
use Rattle.std.proofs.Common.{◌≡◌, ℕ, ◌+◌, ◌%◌, ◌<◌, ◌≤◌, sym, ap, subst, ◌∙◌, arith, ⊎_elim}
use Rattle.std.proofs.lemmas.Bool.{cases_lt}
use Rattle.std.proofs.Math.Nat.{mod-mod_of_dvd, dvd-mul_right}
use Rattle.tiger_base.specs.declared.tenancy.Ask.{Ask}
use Rattle.tiger_base.specs.declared.tenancy.Tenancy.{Tenancy}
use Rattle.slot_plan.specs.declared.params.Params.{Params}
use Rattle.slot_plan.specs.Conditions.{IsPlan}
use Rattle.slot_plan.specs.Times.{cub_of, disk_of}
use Rattle.slot_plan.proofs.Times.{time_mono}
use Rattle.proof_schedule.specs.Facts.{Facts, IsReleasedBy}
use Rattle.proof_schedule.specs.Laws.{Laws}
use Rattle.proof_schedule.specs.Schedule.{IsOrdered}
use Rattle.proof_schedule.proofs.Room.{Room, soon_after}
use Rattle.proof_schedule.proofs.Silence.{reached_gone}
use Rattle.proof_schedule.proofs.Lives.{first_same_life}

-- The cub of a visit is the cub of its disk.
pub disk_cub : (p : Params) (n : ℕ) → disk_of p n % p.cubs ≡ cub_of p n
unfolding disk_of cub_of
disk_cub p n = mod-mod_of_dvd p.cubs n (dvd-mul_right p.cubs p.disks)

-- The order behind a Put's start, which came in beat `start`.
pub record IsStart (p : Params) (r : Facts) (t : Tenancy) (start : ℕ) : Type 0 where
  pub ask : Ask
  pub instance : ask.instance.0 ≡ t.instance.0
  pub beat : ℕ
  pub begun : r.Begun ask beat
  pub after : beat < start
  pub soon : start ≤ beat + p.delay

module _ (p : Params) (ok : IsPlan p) (room : Room p) (r : Facts) (law : Laws p r) where
  -- The start of a Put was sent by the controller, whichever of the two it was.
  pub started : {c x : ℕ} {t : Tenancy} (i : r.Put c t x) → IsStart p r t (law.starts.comes i).start
  started i =
      let k = law.starts.comes i in
      let same = ap (λ v. v.0) k.asked.instance in
      ⊎_elim
      (λ a.
      let o = law.links.asked_from a in
      record { ask = k.ask; instance = same; beat = o.beat; begun = o.begun; after = o.later; soon = o.soon })
      (λ a.
      let o = law.links.apart_from a in
      record { ask = k.ask; instance = same; beat = o.beat; begun = o.begun; after = o.later; soon = o.soon })
      k.came

  -- So each tenancy that is put was ordered.
  pub ordered : {c x : ℕ} {t : Tenancy} → r.Put c t x → IsOrdered p r t
  ordered i =
      let k = law.starts.comes i in
      ⊎_elim
      (λ a.
      let o = law.links.asked_from a in
      record { ask = k.ask; beat = o.beat; begun = o.begun; asked = k.asked })
      (λ a.
      let o = law.links.apart_from a in
      record { ask = k.ask; beat = o.beat; begun = o.begun; asked = k.asked })
      k.came

  -- An instance has one order, and that one disk: so all its Puts are at visits of one cub.
  pub one_cub : {c d x y : ℕ} {t u : Tenancy} → r.Put c t x → r.Put d u y
      → u.instance.0 ≡ t.instance.0 → cub_of p u.first ≡ cub_of p t.first
  one_cub {c} {d} {x} {y} {t} {u} i j same =
      let a = ordered i in
      let o = ordered j in
      let instances = ap (λ v. v.0) a.asked.instance ∙ sym same ∙ sym (ap (λ v. v.0) o.asked.instance) in
      let asks : o.ask ≡ a.ask = (law.starts.one_order a.begun o.begun instances).0 in
      let disks : disk_of p u.first ≡ disk_of p t.first = sym o.asked.disk ∙ ap (λ (q : Ask). q.disk.0) asks ∙ a.asked.disk in
      sym (disk_cub p u.first) ∙ ap (λ v. v % p.cubs) disks ∙ disk_cub p t.first

  -- A start does not come after a hold of its instance is over: it comes within a way of its order,
  -- the deschedule no earlier than the order, and a hold is longer than a way.
  pub not_held : {c x : ℕ} {t : Tenancy} (i : r.Put c t x)
      → IsReleasedBy p r c t.instance.0 (law.starts.comes i).start → ⊥
  not_held {c} {x} {t} i k =
      let s = started i in
      let soon = s.soon in
      let gone = reached_gone p ok room r law c t.instance.0 k.beat k.reached in
      let before = gone.before in
      let first = law.starts.gone_after s.begun (subst (λ v. r.Gone v gone.beat) (sym s.instance) gone.gone) in
      let over = k.over in
      let m1 = soon_after p gone.beat (law.starts.comes i).start (omega arith) in
      let m2 = time_mono p gone.beat k.beat (omega arith) in
      let play = room.play in
      omega arith

  -- So a cub that puts an instance is reached by a deschedule of it, if at all, in a later beat.
  pub put_first : {c x y : ℕ} {t : Tenancy} → r.Put c t x → r.Reached c t.instance.0 y → x < y
  put_first {c} {x} {y} i h = ⊎_elim
      (λ (l : x < y). l)
      (λ (l : y ≤ x).
      let life = first_same_life r c x (law.states.inserts i).first y in
      absurd (not_held i ((law.starts.comes i).since y h l life)))
      (cases_lt x y)
