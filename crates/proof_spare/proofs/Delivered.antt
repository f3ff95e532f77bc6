-- In a run in which disks may die each settled visit of a tenancy that was put is delivered or excused by its disk or a stop.
use Rattle.std.proofs.Common.{◌≡◌, ℕ, ◌+◌, ◌<◌, ◌≤◌, Option, Some, None, refl, ⊎_elim, inl, inr}
use Rattle.std.specs.Prelude.{◌⊎◌}
use Rattle.tiger_base.specs.declared.tenancy.Tenancy.{Tenancy}
use Rattle.slot_plan.specs.declared.params.Params.{Params}
use Rattle.slot_plan.specs.Times.{cub_of, disk_of, due, time_of}
use Rattle.node_kit.specs.declared.journal.What.{What}
use Rattle.node_kit.specs.declared.journal.What.TheVariants as what
use Rattle.lists.specs.Elements.{In}
use Rattle.lists.proofs.Each.{all_by}
use Rattle.run_facts.specs.Order.{Noted, order_of}
use Rattle.run_model.specs.Served.{IsDelivered}
use Rattle.spare_claims.specs.Delivery.{AreSpareServed, IsExcusedByDisk, IsSpareExcused, IsSpareServedIfPut, lead_of_splits}
use Rattle.proof_schedule.specs.Facts.{Facts}
use Rattle.proof_pieces.specs.PieceFacts.{PieceFacts}
use Rattle.proof_service.specs.ServiceFacts.{ServiceFacts}
use Rattle.proof_service.specs.Spares.{IsExcusedOn, spare_lead}
use Rattle.proof_moments.specs.RecordedParcels.{Evidence, AreParcelsRecordedBut}
use Rattle.proof_moments.proofs.Excuses.{read_failed}
use Rattle.proof_moments.proofs.Served.{IsServedBut, got_of_puts, served_if_put}

-- What is due too soon for the facts is so for the claim.
too_soon : (p : Params) (time from : ℕ) → time < time_of p from + spare_lead p → time < time_of p from + lead_of_splits p
unfolding time_of
too_soon p time from less = less

module _ (p : Params) (a : Evidence) (r : Facts) (q : PieceFacts) (w : ServiceFacts) (end : ℕ) (death : ℕ → Option ℕ)
    (g : AreParcelsRecordedBut p a r q w end (λ t n. IsExcusedOn p w end (death (disk_of p n)) t n)) (beats : ℕ)
    (low : beats ≤ end + 1) where
  abbrev Excused : Tenancy → ℕ → Type 0
  Excused t n = IsExcusedOn p w end (death (disk_of p n)) t n

  -- What excuses a visit by its disk for the facts does so for the journals.
  by_disk : (t : Tenancy) (n : ℕ) (dies : Option ℕ) → IsExcusedOn p w end dies t n → IsExcusedByDisk p a.journals dies t n
  by_disk t n None e = read_failed p a r q w end g t n (cub_of p n) 0 e
  by_disk t n (Some from) e = ⊎_elim
      (λ f. inl (record {
        piece = f.piece;
        low = f.low;
        high = f.high;
        failed = read_failed p a r q w end g t n (cub_of p (n + f.piece)) f.piece f.failed;
      }))
      (λ f. inr (record {
        failed = read_failed p a r q w end g t n (cub_of p n) 0 f.failed;
        soon = too_soon p (due p t.slot.0 n) from f.soon;
      }))
      e

  excused : (t : Tenancy) (n : ℕ) → IsServedBut p a Excused t n
      → IsDelivered p a.catalogue a.journals t.instance.0 n ⊎ IsSpareExcused p a.journals death t.instance.0 n
  excused t n s = ⊎_elim
      (λ d. inl d)
      (λ e. inr (record {
        tenancy = t;
        visited = s.visited;
        excuse = ⊎_elim (λ f. inl (by_disk t n (death (disk_of p n)) f)) (λ f. inr f) e;
      }))
      s.how

  if_put : (x : Noted) → In x (order_of beats a.journals) → (v : What) → x.entry.what ≡ v
      → IsSpareServedIfPut p a.catalogue a.journals death (time_of p beats) v
  if_put x i (what.Put t) is = λ n first last settled.
      excused t n (served_if_put p a r q w end g beats low x i t is n first last settled)
  if_put x i other is = tt

  pub are_spare_served : AreSpareServed p a.catalogue a.journals death (time_of p beats) (order_of beats a.journals)
  are_spare_served = record {
    settled = all_by (λ (x : Noted). IsSpareServedIfPut p a.catalogue a.journals death (time_of p beats) x.entry.what)
        (order_of beats a.journals) (λ x i. if_put x i x.entry.what refl);
    got = got_of_puts p a r q w end g beats;
  }
