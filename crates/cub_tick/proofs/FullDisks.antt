-- A disk of which no visit is free, and which disks a cub has.
use Rattle.std.proofs.Common.{◌≡◌, ℕ, ◌+◌, ◌*◌, ◌<◌, ◌||◌, Bool, true, false, List, [], ◌∷◌, None, refl, sym, subst, arith}
use Rattle.std.specs.List.{AllByRecursion}
use Rattle.std.proofs.lemmas.Bool.{eqb-true}
use Rattle.tiger_base.specs.declared.number.DiskNo.{DiskNo}
use Rattle.tiger_base.specs.declared.tenancy.Ask.{Ask}
use Rattle.insert_queue.specs.Queues.{AreFor, has_disk, is_disk}
use Rattle.partial_view.specs.declared.line.Line.{Line}
use Rattle.slot_plan.specs.declared.params.Params.{Params}
use Rattle.slot_plan.specs.Conditions.{IsPlan}
use Rattle.slot_plan.specs.Times.{disk_count}
use Rattle.slot_plan.proofs.Times.{product_le}
use Rattle.slot_plan.proofs.Windows.{least_visit_none, least_visit_is_none}
use Rattle.partial_view.specs.Free.{is_free, IsFullAt}
use Rattle.cub_rules.specs.declared.store.Store.{Store}
use Rattle.cub_rules.specs.Ticks.{free_on}

-- no visit is found exactly if the disk is full
pub full_where_none : (p : Params) (reading disk : ℕ) (h : Store) → IsPlan p → h.view.params ≡ p → None ≡ free_on p reading disk h → IsFullAt h.view.params disk reading h.view.lines
unfolding free_on
full_where_none p reading disk h ok same e =
    subst (λ (q : Params). IsFullAt q disk reading h.view.lines) (sym same) (λ k o. least_visit_none p reading disk (is_free h.view.lines) k ok (sym e) o)

pub none_where_full : (p : Params) (reading disk : ℕ) (h : Store) → IsPlan p → h.view.params ≡ p → IsFullAt h.view.params disk reading h.view.lines → None ≡ free_on p reading disk h
unfolding free_on
none_where_full p reading disk h ok same full =
    sym (least_visit_is_none p reading disk (is_free h.view.lines) ok (subst (λ (q : Params). IsFullAt q disk reading h.view.lines) same full))

-- a cub's disk in one of its rows is one of all disks
pub disk_in : (p : Params) (cub row disk : ℕ) → cub < p.cubs → row < p.disks → disk ≡ cub + row * p.cubs → disk < disk_count p
disk_in p cub row disk low more e = omega (arith, low, e, product_le p.cubs (row + 1) p.cubs p.disks (omega arith) (omega (arith, more)))

-- if disks are full, so is that of each start which is for one of them
module _ (p : Params) (reading : ℕ) (lines : List Line) where
  full_among : (disks : List DiskNo) (disk : DiskNo) → has_disk disks disk ≡ true → AllByRecursion (λ (d : DiskNo). IsFullAt p d.0 reading lines) disks → IsFullAt p disk.0 reading lines
  full_among [] disk e full = absurd (cc)
  full_among (d ∷ ds) disk e full = cases (is_disk disk d) refl e (λ f. full_among ds disk f full.1)
    where
      cases : (t : Bool) → is_disk disk d ≡ t → (t || has_disk ds disk) ≡ true → (has_disk ds disk ≡ true → IsFullAt p disk.0 reading lines) → IsFullAt p disk.0 reading lines
      cases true t e rest = subst (λ (n : ℕ). IsFullAt p n reading lines) (eqb-true _ _ t) full.0
      cases false t e rest = rest e

  pub full_for : (disks : List DiskNo) (asks : List Ask) → AreFor disks asks → AllByRecursion (λ (d : DiskNo). IsFullAt p d.0 reading lines) disks → AllByRecursion (λ (a : Ask). IsFullAt p a.disk.0 reading lines) asks
  full_for disks [] h full = tt
  full_for disks (a ∷ rest) h full = (full_among disks a.disk h.0 full, full_for disks rest h.1 full)
