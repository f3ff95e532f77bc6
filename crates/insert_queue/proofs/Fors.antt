-- The disks that starts are for, as starts come and go and disks do.
use Rattle.std.proofs.Common.{◌≡◌, ℕ, ◌==◌, List, [], ◌∷◌, ◌++◌, Bool, true, false, cond, not, ◌||◌, Some, None, filter, refl, ap, subst, ◌∙◌}
use Rattle.std.specs.List.{list_any}
use Rattle.std.proofs.lemmas.Bool.{eqb-true}
use Rattle.tiger_base.specs.declared.number.DiskNo.{DiskNo}
use Rattle.tiger_base.specs.declared.number.Instance.{Instance}
use Rattle.tiger_base.specs.declared.tenancy.Ask.{Ask}
use Rattle.insert_queue.specs.Queues.{is_of, without, oldest_for, is_disk, has_disk, AllStay, AreFor}

or_left : (a b : Bool) → a ≡ true → (a || b) ≡ true
or_left true b e = refl
or_left false b e = absurd (cc)

or_right : (a b : Bool) → b ≡ true → (a || b) ≡ true
or_right true b e = refl
or_right false b e = e

-- starts are for the disks of a longer list too
pub for_longer : (old new : List DiskNo) (asks : List Ask) → AllStay old new → AreFor old asks → AreFor new asks
for_longer old new [] stay h = tt
for_longer old new (a ∷ rest) stay h = (stay a.disk h.0, for_longer old new rest stay h.1)

pub for_both : (disks : List DiskNo) (front back : List Ask) → AreFor disks front → AreFor disks back → AreFor disks (front ++ back)
for_both disks [] back f b = b
for_both disks (a ∷ rest) back f b = (f.0, for_both disks rest back f.1 b)

-- those that are left are for the disks where an instance's start is dropped
pub for_left : (disks : List DiskNo) (asks : List Ask) (v : Instance) → AreFor disks asks → AreFor disks (without asks v)
for_left disks [] v h = tt
for_left disks (a ∷ rest) v h =
    elim (not (is_of v a)) as (λ b. AreFor disks (cond b (a ∷ without rest v) (without rest v))) [ true ↦ (h.0, for_left disks rest v h.1) | false ↦ for_left disks rest v h.1 ]

-- no start waits for a disk that is none of these
pub none_for : (disks : List DiskNo) (asks : List Ask) (disk : DiskNo) → AreFor disks asks → has_disk disks disk ≡ false → oldest_for asks disk ≡ None
none_for disks [] disk h e = refl
none_for disks (a ∷ rest) disk h e = cases (a.disk.0 == disk.0) refl (none_for disks rest disk h.1 e)
  where
    cases : (t : Bool) → (a.disk.0 == disk.0) ≡ t → oldest_for rest disk ≡ None → cond t (Some a) (oldest_for rest disk) ≡ None
    cases true t ih =
        let there : has_disk disks disk ≡ true = subst (λ (n : ℕ). list_any (λ (d : DiskNo). d.0 == n) disks ≡ true) (eqb-true _ _ t) h.0 in
        absurd (cc)
    cases false t ih = ih

-- the disks of a list but one
abbrev others : DiskNo → List DiskNo → List DiskNo
others disk disks = filter (λ d. not (is_disk disk d)) disks

-- another disk than the one that is taken out is still there
other_stays : (disks : List DiskNo) (disk d : DiskNo) → is_disk disk d ≡ false → has_disk disks d ≡ true → has_disk (others disk disks) d ≡ true
other_stays [] disk d apart e = e
other_stays (x ∷ xs) disk d apart e = cases (is_disk d x) refl e (other_stays xs disk d apart)
  where
    skip : (t : Bool) → has_disk (others disk xs) d ≡ true → has_disk (cond t (x ∷ others disk xs) (others disk xs)) d ≡ true
    skip true e = or_right (is_disk d x) (has_disk (others disk xs) d) e
    skip false e = e

    cases : (t : Bool) → is_disk d x ≡ t → (t || has_disk xs d) ≡ true → (has_disk xs d ≡ true → has_disk (others disk xs) d ≡ true) → has_disk (others disk (x ∷ xs)) d ≡ true
    cases true t e ih =
        let kept : is_disk disk x ≡ false = ap (λ (n : ℕ). n == disk.0) (eqb-true x.0 d.0 t) ∙ apart in
        rw kept (or_left (is_disk d x) (has_disk (others disk xs) d) t)
    cases false t e ih = skip (not (is_disk disk x)) (ih e)

-- if no start waits for a disk, the starts are for the others
pub for_others : (disks : List DiskNo) (asks : List Ask) (disk : DiskNo) → AreFor disks asks → oldest_for asks disk ≡ None → AreFor (others disk disks) asks
for_others disks [] disk h e = tt
for_others disks (a ∷ rest) disk h e = cases (is_disk disk a.disk) refl e (for_others disks rest disk h.1)
  where
    cases : (t : Bool) → is_disk disk a.disk ≡ t → cond t (Some a) (oldest_for rest disk) ≡ None → (oldest_for rest disk ≡ None → AreFor (others disk disks) rest) → AreFor (others disk disks) (a ∷ rest)
    cases true t e ih = absurd (cc)
    cases false t e ih = (other_stays disks disk a.disk t h.0, ih e)
