-- What always holds of the starts, the disks that they wait for and the marks, as starts come and go.
use Rattle.std.proofs.Common.{◌≡◌, ℕ, ◌<◌, List, [], ◌∷◌, ◌++◌, Bool, true, false, ◌||◌, append-nil, length, get_or, sym, ap, ◌∙◌}
use Rattle.std.specs.Prelude.{slice_set}
use Rattle.tiger_base.specs.declared.number.DiskNo.{DiskNo}
use Rattle.tiger_base.specs.declared.number.Instance.{Instance}
use Rattle.tiger_base.specs.declared.tenancy.Ask.{Ask}
use Rattle.insert_queue.specs.Queues.{Queues, AllStay, AreFor, AreKept, has_disk, has_start, without, without_start}
use Rattle.instance_marks.specs.Marks.{most_marked}
use Rattle.instance_marks.proofs.Marked.{marked_less, marked_more}
use Rattle.insert_queue.proofs.Fors.{for_both, for_left, for_longer}
use Rattle.insert_queue.proofs.Marked.{all_wait, less_of_both, more_redundant, more_waits}
use Rattle.insert_queue.proofs.Once.{IsOnce-end, IsOnce-more, IsOnce-without, none_of, without-none}

-- what is told of an instance that has no start
pub record HasNone (q : Queues) (v : Instance) : Type 0 where
  pub waiting : false ≡ has_start q.waiting v
  pub redundant : false ≡ has_start q.redundant v
  pub same : q ≡ without_start q v

pub has_none : (waiting redundant : List Ask) (v : Instance) → (has_start waiting v || has_start redundant v) ≡ false → HasNone (record { waiting = waiting; redundant = redundant }) v
has_none waiting redundant v e =
    let none = none_of (has_start waiting v) (has_start redundant v) e in
    let both : List Ask → List Ask → Queues = λ xs ys. record { waiting = xs; redundant = ys } in
    record {
      waiting = sym none.0;
      redundant = sym none.1;
      same = sym (ap (λ (xs : List Ask). both xs (without redundant v)) (without-none waiting v none.0) ∙ ap (λ (ys : List Ask). both waiting ys) (without-none redundant v none.1));
    }

module _ (disks : List DiskNo) (marks : List Bool) (waiting redundant : List Ask) (h : AreKept disks marks waiting redundant) where
  module _ (new : Ask) (grown after : List Bool) (none : (has_start waiting new.instance || has_start redundant new.instance) ≡ false) (same : (n : ℕ) → get_or grown n false ≡ get_or marks n false)
      (place : new.instance.0 < most_marked → new.instance.0 < length grown) (is : after ≡ slice_set grown new.instance.0 true) where
    -- with one more that waits
    pub kept_waiting : (more : List DiskNo) (now : List Ask) → AllStay disks more → has_disk more new.disk ≡ true → now ≡ waiting ++ new ∷ [] → AreKept more after now redundant
    kept_waiting more now stay there now_is = rw now_is record {
      once = IsOnce-more waiting redundant new h.once none;
      all_for = for_both more waiting (new ∷ []) (for_longer disks more waiting stay h.all_for) (there, tt);
      marked = marked_more marks grown after (λ v. has_start waiting v || has_start redundant v) (λ v. has_start (waiting ++ new ∷ []) v || has_start redundant v) new.instance h.marked same place is (more_waits waiting redundant new);
    }

    -- with one more that is redundant
    pub kept_redundant : (now : List Ask) → now ≡ redundant ++ new ∷ [] → AreKept disks after waiting now
    kept_redundant now now_is = rw now_is record {
      once = IsOnce-end waiting redundant new h.once none;
      all_for = h.all_for;
      marked = marked_more marks grown after (λ v. has_start waiting v || has_start redundant v) (λ v. has_start waiting v || has_start (redundant ++ new ∷ []) v) new.instance h.marked same place is (more_redundant waiting redundant new);
    }

  -- without an instance's start
  pub kept_without : (after : List Bool) (waiting_now redundant_now : List Ask) (v : Instance) → after ≡ slice_set marks v.0 false → waiting_now ≡ without waiting v → redundant_now ≡ without redundant v → AreKept disks after waiting_now redundant_now
  kept_without after waiting_now redundant_now v is waiting_is redundant_is = rw (waiting_is, redundant_is) record {
    once = IsOnce-without waiting redundant v h.once;
    all_for = for_left disks waiting v h.all_for;
    marked = marked_less marks after (λ w. has_start waiting w || has_start redundant w) (λ w. has_start (without waiting v) w || has_start (without redundant v) w) v h.marked is (less_of_both waiting redundant v);
  }

  -- once the redundant ones wait
  pub kept_all : (more : List DiskNo) → AllStay disks more → AreFor more redundant → AreKept more marks (waiting ++ redundant) []
  kept_all more stay all = record {
    once = rw append-nil h.once;
    all_for = for_both more waiting redundant (for_longer disks more waiting stay h.all_for) all;
    marked = λ v small. h.marked v small ∙ sym (all_wait waiting redundant v);
  }
