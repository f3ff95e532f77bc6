-- The starts that wait for a disk, and what is left of them when the oldest one is put.
use Rattle.std.proofs.Common.{◌≡◌, ℕ, List, [], ◌∷◌, ◌++◌, Bool, true, false, cond, not, ◌||◌, Some, None, refl, sym, ap, ◌∙◌, subst, arith}
use Rattle.std.specs.List.{AllByRecursion, filter}
use Rattle.std.proofs.lemmas.Bool.Decides.{nat_tests}
use Rattle.tiger_base.specs.declared.number.DiskNo.{DiskNo}
use Rattle.tiger_base.specs.declared.number.Instance.{Instance}
use Rattle.tiger_base.specs.declared.tenancy.Ask.{Ask}
use Rattle.insert_queue.specs.Queues.{Queues, is_of, has_start, is_asked, without, oldest_for, IsOnce}
use Rattle.cub_rules.specs.Ticks.{is_for}

-- neither of two tests holds where one or the other does not
none_of : (a b : Bool) → (a || b) ≡ false → (a ≡ false) × (b ≡ false)
none_of true b e = (e, cc)
none_of false b e = (refl, e)

or_true : (a b : Bool) → b ≡ true → (a || b) ≡ true
or_true true b e = refl
or_true false b e = e

is_itself : (a : Ask) → is_of a.instance a ≡ true
is_itself a = grind (arith, nat_tests)

-- nothing is dropped of a list that has no start of the instance
without_absent : (asks : List Ask) (v : Instance) → has_start asks v ≡ false → without asks v ≡ asks
without_absent [] v e = refl
without_absent (a ∷ rest) v e =
    let both = none_of (is_of v a) (has_start rest v) e in
    rw (both.0) (ap (λ (xs : List Ask). a ∷ xs) (without_absent rest v both.1))

without_head : (a : Ask) (rest : List Ask) → has_start rest a.instance ≡ false → without (a ∷ rest) a.instance ≡ rest
without_head a rest e = rw (is_itself a) (without_absent rest a.instance e)

-- a start that is not for a disk changes nothing for the disk
without_other : (d : ℕ) (v : Instance) (b : Ask) (rest : List Ask) → is_for d b ≡ false → filter (is_for d) (without (b ∷ rest) v) ≡ filter (is_for d) (without rest v)
without_other d v b rest e =
    elim (not (is_of v b)) as (λ t. filter (is_for d) (cond t (b ∷ without rest v) (without rest v)) ≡ filter (is_for d) (without rest v)) [ true ↦ rw e refl | false ↦ refl ]

some_same : {X : Type 0} (a b : X) → Some a ≡ Some b → a ≡ b
some_same a b e = cc

-- the oldest start that waits for a disk comes first, and the others stand as they would without it
pub oldest_first : (asks : List Ask) (disk : DiskNo) (a : Ask) → IsOnce asks → oldest_for asks disk ≡ Some a
    → filter (is_for disk.0) asks ≡ a ∷ filter (is_for disk.0) (without asks a.instance)
oldest_first [] disk a once e = absurd (cc)
oldest_first (b ∷ bs) disk a once e = cases (is_for disk.0 b) refl e (oldest_first bs disk a once.1)
  where
    cases : (t : Bool) → is_for disk.0 b ≡ t → cond t (Some b) (oldest_for bs disk) ≡ Some a
        → (oldest_for bs disk ≡ Some a → filter (is_for disk.0) bs ≡ a ∷ filter (is_for disk.0) (without bs a.instance))
        → filter (is_for disk.0) (b ∷ bs) ≡ a ∷ filter (is_for disk.0) (without (b ∷ bs) a.instance)
    cases true t found ih =
        subst (λ (x : Ask). filter (is_for disk.0) (b ∷ bs) ≡ x ∷ filter (is_for disk.0) (without (b ∷ bs) x.instance)) (some_same b a found)
        (rw t (ap (λ (xs : List Ask). b ∷ filter (is_for disk.0) xs) (sym (without_head b bs once.0))))
    cases false t found ih = rw t (ih found ∙ ap (λ (xs : List Ask). a ∷ xs) (sym (without_other disk.0 a.instance b bs t)))

pub none_left : (asks : List Ask) (disk : DiskNo) → oldest_for asks disk ≡ None → filter (is_for disk.0) asks ≡ []
none_left [] disk e = refl
none_left (b ∷ bs) disk e = cases (is_for disk.0 b) refl e (none_left bs disk)
  where
    cases : (t : Bool) → is_for disk.0 b ≡ t → cond t (Some b) (oldest_for bs disk) ≡ None → (oldest_for bs disk ≡ None → filter (is_for disk.0) bs ≡ []) → filter (is_for disk.0) (b ∷ bs) ≡ []
    cases true t found ih = absurd (cc)
    cases false t found ih = rw t (ih found)

oldest_asked : (asks : List Ask) (disk : DiskNo) (a : Ask) → oldest_for asks disk ≡ Some a → has_start asks a.instance ≡ true
oldest_asked [] disk a e = absurd (cc)
oldest_asked (b ∷ bs) disk a e = cases (is_for disk.0 b) e (oldest_asked bs disk a)
  where
    cases : (t : Bool) → cond t (Some b) (oldest_for bs disk) ≡ Some a → (oldest_for bs disk ≡ Some a → has_start bs a.instance ≡ true) → has_start (b ∷ bs) a.instance ≡ true
    cases true found ih = subst (λ (x : Ask). has_start (b ∷ bs) x.instance ≡ true) (some_same b a found) (rw (is_itself b) refl)
    cases false found ih = or_true (is_of a.instance b) (has_start bs a.instance) (ih found)

pub is_asked_oldest : (q : Queues) (disk : DiskNo) (a : Ask) → oldest_for q.waiting disk ≡ Some a → is_asked q a.instance ≡ true
is_asked_oldest q disk a e = rw (oldest_asked q.waiting disk a e) refl

pub oldest_all : (P : Ask → Type 0) (asks : List Ask) (disk : DiskNo) (a : Ask) → AllByRecursion P asks → oldest_for asks disk ≡ Some a → P a
oldest_all P [] disk a h e = absurd (cc)
oldest_all P (b ∷ bs) disk a h e = cases (is_for disk.0 b) e (oldest_all P bs disk a h.1)
  where
    cases : (t : Bool) → cond t (Some b) (oldest_for bs disk) ≡ Some a → (oldest_for bs disk ≡ Some a → P a) → P a
    cases true found ih = subst P (some_same b a found) h.0
    cases false found ih = ih found

-- where each instance stands once in two lists together, it stands once in the first
absent_front : (front back : List Ask) (v : Instance) → has_start (front ++ back) v ≡ false → has_start front v ≡ false
absent_front [] back v e = refl
absent_front (a ∷ rest) back v e =
    let both = none_of (is_of v a) (has_start (rest ++ back) v) e in
    rw (both.0) (absent_front rest back v both.1)

pub once_front : (front back : List Ask) → IsOnce (front ++ back) → IsOnce front
once_front [] back h = tt
once_front (a ∷ rest) back h = (absent_front rest back a.instance h.0, once_front rest back h.1)
