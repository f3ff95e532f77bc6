-- A line that may stand next is read: what was read has it behind it, and is sound.
use Rattle.std.proofs.Common.{◌≡◌, ℕ, ◌+◌, ◌≤◌, List, [], ◌∷◌, ◌++◌, Some, refl, sym, ap, ◌∙◌, subst, arith, length, map, append_assoc, append-nil}
use Rattle.std.proofs.lemmas.List.Sums.{fold_push}
use Rattle.link_timing.specs.declared.Delay.{Delay}
use Rattle.slot_plan.specs.declared.params.Params.{Params}
use Rattle.stripe_layout.specs.declared.catalogue.FileInfo.{FileInfo}
use Rattle.node_kit.specs.declared.course.Digest32.{Digest32}
use Rattle.node_kit.specs.declared.course.Order.{Order}
use Rattle.node_kit.specs.declared.course.ReadFault.{ReadFault}
use Rattle.node_kit.specs.declared.journal.Entry.{Entry}
use Rattle.audit_text.specs.declared.item.Item.{Item}
use Rattle.audit_text.specs.declared.item.Item.TheVariants as item
use Rattle.audit_text.specs.Texts.{death_items, node_items, head_items}
use Rattle.audit_read.specs.Writable.{IsDeath, ReturnsIn, IsFault, IsFile, IsOrder, AreOrders, IsEntry, IsJournal, start_in}
use Rattle.audit_read.specs.Drafts.{given_parts, written, Admits, BegunAdmits, PlannedAdmits, LastingAdmits, PacedAdmits, FirstAdmits, GivenAdmits, ToldAdmits, padded, given_with, after, IsGiven, IsTold, IsSound}
use Rattle.audit_read.specs.declared.draft.Draft.{Draft}
use Rattle.audit_read.specs.declared.draft.Draft.TheVariants as draft
use Rattle.audit_read.specs.declared.given.Given.{Given}
use Rattle.audit_read.specs.declared.told.Told.{Told}
use Rattle.audit_read.proofs.Lists.{all_push, padded_with_length, padded_all, padded_backs, length_push, death_push, cut_with, back_with, mapped, before_nothing, node_push, entry_push}

-- ---- the lines

abbrev fault_item : ReadFault → Item
fault_item f = item.Fault f

abbrev file_item : FileInfo → Item
file_item f = item.File f

abbrev order_item : Order → Item
order_item o = item.Order o

abbrev digest_item : Digest32 → Item
digest_item d = item.Digest d

-- what is told of who dies
abbrev deaths_of : Given → List Item
deaths_of g = death_items g.cuts g.backs 0 g.deaths

-- the lines of what a run is given behind the head, with these of who dies
abbrev given_body : List Item → List ReadFault → List FileInfo → List Order → List Item
given_body dying fs is os = dying ++ map fault_item fs ++ map file_item is ++ map order_item os ++ [] ++ []

death_line : (dying more : List Item) (fs : List ReadFault) (is : List FileInfo) (os : List Order) (x : Item)
    → length fs ≡ 0 → length is ≡ 0 → length os ≡ 0 → more ≡ dying ++ x ∷ []
    → given_body more fs is os ≡ given_body dying fs is os ++ x ∷ []
death_line dying more [] [] [] x e f g pushed =
    before_nothing _ _ _ (before_nothing _ _ _ (before_nothing _ _ _ (before_nothing _ _ _ (before_nothing dying more x pushed))))
death_line dying more (y ∷ fs) is os x e f g pushed = absurd (omega (arith, e))
death_line dying more [] (y ∷ is) os x e f g pushed = absurd (omega (arith, f))
death_line dying more [] [] (y ∷ os) x e f g pushed = absurd (omega (arith, g))

fault_line : (dying : List Item) (fs : List ReadFault) (is : List FileInfo) (os : List Order) (x : ReadFault)
    → length is ≡ 0 → length os ≡ 0
    → given_body dying (fs ++ x ∷ []) is os ≡ given_body dying fs is os ++ item.Fault x ∷ []
fault_line dying fs [] [] x f g =
    before_nothing _ _ _ (before_nothing _ _ _ (before_nothing _ _ _ (before_nothing (dying ++ map fault_item fs) (dying ++ map fault_item (fs ++ x ∷ [])) (item.Fault x) (mapped fault_item dying fs x))))
fault_line dying fs (y ∷ is) os x f g = absurd (omega (arith, f))
fault_line dying fs [] (y ∷ os) x f g = absurd (omega (arith, g))

file_line : (dying : List Item) (fs : List ReadFault) (is : List FileInfo) (os : List Order) (x : FileInfo)
    → length os ≡ 0
    → given_body dying fs (is ++ x ∷ []) os ≡ given_body dying fs is os ++ item.File x ∷ []
file_line dying fs is [] x g =
    let before : List Item = dying ++ map fault_item fs in
    before_nothing _ _ _ (before_nothing _ _ _ (before_nothing (before ++ map file_item is) (before ++ map file_item (is ++ x ∷ [])) (item.File x) (mapped file_item before is x)))
file_line dying fs is (y ∷ os) x g = absurd (omega (arith, g))

order_line : (dying : List Item) (fs : List ReadFault) (is : List FileInfo) (os : List Order) (x : Order)
    → given_body dying fs is (os ++ x ∷ []) ≡ given_body dying fs is os ++ item.Order x ∷ []
order_line dying fs is os x =
    let before : List Item = dying ++ map fault_item fs ++ map file_item is in
    before_nothing _ _ _ (before_nothing (before ++ map order_item os) (before ++ map order_item (os ++ x ∷ [])) (item.Order x) (mapped order_item before os x))

-- the lines of what a run is given, before its journals
abbrev told_front : Given → List Item
told_front g = deaths_of g ++ map fault_item g.faults ++ map file_item g.files ++ map order_item g.orders

-- a line of the journals, before all digests
before_digests : (front nodes more : List Item) (ds : List Digest32) (x : Item) → length ds ≡ 0 → more ≡ nodes ++ x ∷ []
    → front ++ more ++ map digest_item ds ≡ (front ++ nodes ++ map digest_item ds) ++ x ∷ []
before_digests front nodes more [] x none e =
    before_nothing (front ++ nodes) (front ++ more) x (ap (λ (q : List Item). front ++ q) e ∙ sym (append_assoc front nodes (x ∷ [])))
before_digests front nodes more (d ∷ ds) x none e = absurd (omega (arith, none))

first_node : (front : List Item) (x : Item) → front ++ x ∷ [] ++ [] ≡ (front ++ [] ++ []) ++ x ∷ []
first_node front x =
    before_nothing (front ++ []) (front ++ x ∷ []) x (ap (λ (q : List Item). q ++ x ∷ []) (sym (append-nil front)))

-- ---- what holds of orders with one more

orders_push : (p : Params) (beats : ℕ) (files : List FileInfo) (before os : List Order) (o : Order)
    → AreOrders p beats files before os → IsOrder p beats files (before ++ os) o → AreOrders p beats files before (os ++ o ∷ [])
orders_push p beats files before [] o f i =
    (subst (λ (q : List Order). IsOrder p beats files q o) (append-nil before) i, tt)
orders_push p beats files before (x ∷ os) o f i =
    (f.0, orders_push p beats files (before ++ x ∷ []) os o f.1 (subst (λ (q : List Order). IsOrder p beats files q o) (sym (append_assoc before (x ∷ []) os)) i))

no_orders : (p : Params) (beats : ℕ) (files : List FileInfo) (os : List Order) → length os ≡ 0 → AreOrders p beats files [] os
no_orders p beats files [] e = tt
no_orders p beats files (o ∷ os) e = absurd (omega (arith, e))

-- ---- the steps

pub record Stepped (d : Draft) (i : Item) : Type 0 where
  pub sound : IsSound (after d i)
  pub more : written (after d i) ≡ written d ++ i ∷ []

-- the head is the same, and the rest has the line behind it
abbrev headed : Given → List Item → List Item
headed g q = head_items (given_parts g) ++ q

step_first : (i : Item) → FirstAdmits i → Stepped draft.Empty i
step_first item.Version a = record { sound = tt; more = refl }
step_first i a = absurd a

step_begun : (i : Item) → BegunAdmits i → Stepped draft.Begun i
step_begun (item.Plan p) a = record { sound = a; more = refl }
step_begun i a = absurd a

step_planned : (p : Params) (i : Item) → IsSound (draft.Planned p) → PlannedAdmits i → Stepped (draft.Planned p) i
step_planned p (item.Beats n) h a = record { sound = (h, a); more = refl }
step_planned p i h a = absurd a

step_lasting : (p : Params) (beats : ℕ) (i : Item) → IsSound (draft.Lasting p beats) → LastingAdmits p i → Stepped (draft.Lasting p beats) i
step_lasting p beats (item.Delay delay) h a = record { sound = (h.0, h.1, a); more = refl }
step_lasting p beats i h a = absurd a

step_paced : (p : Params) (beats : ℕ) (delay : Delay) (i : Item) → IsSound (draft.Paced p beats delay) → PacedAdmits p i → Stepped (draft.Paced p beats delay) i
step_paced p beats delay (item.Offsets offsets) h a = record {
  sound = record {
    plan = h.0;
    beats = h.1;
    delay = h.2;
    offsets = a;
    cubs = omega arith;
    deaths = tt;
    returns = tt;
    cuts = refl;
    backs = refl;
    cut_deaths = λ n. tt;
    returns_later = λ n. tt;
    faults = tt;
    files = tt;
    few = omega arith;
    orders = tt;
    starts = refl;
    latest = refl;
  };
  more = refl;
}
step_paced p beats delay i h a = absurd a

step_given : (g : Given) (i : Item) → IsGiven g → GivenAdmits g i → Stepped (draft.Given g) i
step_given g (item.Death cub beat left back) h a =
    let cuts : length g.cuts ≤ cub.0 = omega (arith, h.cuts, a.next) in
    let backs : length g.backs ≤ cub.0 = omega (arith, h.backs, a.next) in
    let long = padded_with_length g.deaths cub.0 (Some beat) a.next in
    record {
      sound = record {
        plan = h.plan;
        beats = h.beats;
        delay = h.delay;
        offsets = h.offsets;
        cubs = omega (arith, long, a.inside);
        deaths = all_push (IsDeath g.beats) (padded g.deaths cub.0) (Some beat) (padded_all g.beats g.deaths cub.0 h.deaths) a.early;
        returns = all_push (ReturnsIn g.beats) (padded g.backs cub.0) back (padded_backs g.beats g.backs cub.0 h.returns) a.in_run;
        cuts = padded_with_length g.cuts cub.0 left cuts ∙ sym long;
        backs = padded_with_length g.backs cub.0 back backs ∙ sym long;
        cut_deaths = cut_with g.deaths g.cuts cub.0 beat left a.next cuts h.cut_deaths;
        returns_later = back_with g.deaths g.backs cub.0 beat back a.next backs a.later h.returns_later;
        faults = h.faults;
        files = h.files;
        few = h.few;
        orders = h.orders;
        starts = h.starts;
        latest = h.latest;
      };
      more =
          let with : Given = given_with g (item.Death cub beat left back) in
          ap (headed g) (death_line (deaths_of g) (deaths_of with) g.faults g.files g.orders (item.Death cub beat left back) a.faults a.files a.orders
          (death_push g.cuts g.backs g.deaths cub.0 beat left back cuts backs a.next));
    }
step_given g (item.Fault f) h a = record {
  sound = record {
    plan = h.plan;
    beats = h.beats;
    delay = h.delay;
    offsets = h.offsets;
    cubs = h.cubs;
    deaths = h.deaths;
    returns = h.returns;
    cuts = h.cuts;
    backs = h.backs;
    cut_deaths = h.cut_deaths;
    returns_later = h.returns_later;
    faults = all_push (IsFault g.params g.beats) g.faults f h.faults a.2;
    files = h.files;
    few = h.few;
    orders = h.orders;
    starts = h.starts;
    latest = h.latest;
  };
  more = ap (headed g) (fault_line (deaths_of g) g.faults g.files g.orders f a.0 a.1);
}
step_given g (item.File f) h a = record {
  sound = record {
    plan = h.plan;
    beats = h.beats;
    delay = h.delay;
    offsets = h.offsets;
    cubs = h.cubs;
    deaths = h.deaths;
    returns = h.returns;
    cuts = h.cuts;
    backs = h.backs;
    cut_deaths = h.cut_deaths;
    returns_later = h.returns_later;
    faults = h.faults;
    files = all_push (IsFile g.params) g.files f h.files a.2;
    few = omega (arith, length_push g.files f, a.1);
    orders = no_orders g.params g.beats (g.files ++ f ∷ []) g.orders a.0;
    starts = h.starts;
    latest = h.latest;
  };
  more = ap (headed g) (file_line (deaths_of g) g.faults g.files g.orders f a.0);
}
step_given g (item.Order o) h a = record {
  sound = record {
    plan = h.plan;
    beats = h.beats;
    delay = h.delay;
    offsets = h.offsets;
    cubs = h.cubs;
    deaths = h.deaths;
    returns = h.returns;
    cuts = h.cuts;
    backs = h.backs;
    cut_deaths = h.cut_deaths;
    returns_later = h.returns_later;
    faults = h.faults;
    files = h.files;
    few = h.few;
    orders = orders_push g.params g.beats g.files [] g.orders o h.orders a;
    starts = ap (λ (n : ℕ). n + start_in o.what) h.starts ∙ sym (fold_push (λ (n : ℕ) (x : Order). n + start_in x.what) 0 g.orders o);
    latest = sym (fold_push (λ (n : ℕ) (x : Order). x.beat) 0 g.orders o);
  };
  more = ap (headed g) (order_line (deaths_of g) g.faults g.files g.orders o);
}
step_given g (item.Node n) h a = record {
  sound = record {
    given = h;
    nodes = omega arith;
    journals = tt;
    current = tt;
    digests = omega arith;
    in_order = λ some. absurd (omega (arith, some));
  };
  more =
      ap (λ (k : ℕ). headed g (told_front g ++ item.Node (record { 0 = k }) ∷ [] ++ [])) (sym a)
      ∙ ap (headed g) (first_node (told_front g) (item.Node n));
}
step_given g i h a = absurd a

step_told : (t : Told) (i : Item) → IsTold t → ToldAdmits t i → Stepped (draft.Told t) i
step_told t (item.Node n) h a = record {
  sound = record {
    given = h.given;
    nodes = omega (arith, length_push t.journals t.current, a.1, a.2);
    journals = all_push (IsJournal t.given.params t.given.beats) t.journals t.current h.journals h.current;
    current = tt;
    digests = h.digests;
    in_order = λ some. absurd (omega (arith, some, a.0));
  };
  more =
      let all : List (List Entry) = t.journals ++ t.current ∷ [] in
      let here : 0 + length all ≡ n.0 = omega (arith, length_push t.journals t.current, a.1) in
      let pushed : node_items 0 (all ++ [] ∷ []) ≡ node_items 0 all ++ item.Node n ∷ [] =
      node_push 0 all ∙ ap (λ (k : ℕ). node_items 0 all ++ item.Node (record { 0 = k }) ∷ []) here in
      ap (headed t.given) (before_digests (told_front t.given) (node_items 0 all) (node_items 0 (all ++ [] ∷ [])) t.digests (item.Node n) a.0 pushed);
}
step_told t (item.Entry e) h a = record {
  sound = record {
    given = h.given;
    nodes = h.nodes;
    journals = h.journals;
    current = all_push (IsEntry t.given.params t.given.beats) t.current e h.current a.1;
    digests = h.digests;
    in_order = h.in_order;
  };
  more =
      let before : List Item = node_items 0 (t.journals ++ t.current ∷ []) in
      let behind : List Item = node_items 0 (t.journals ++ (t.current ++ e ∷ []) ∷ []) in
      ap (headed t.given) (before_digests (told_front t.given) before behind t.digests (item.Entry e) a.0 (entry_push 0 t.journals t.current e));
}
step_told t (item.Digest d) h a = record {
  sound = record {
    given = h.given;
    nodes = h.nodes;
    journals = h.journals;
    current = h.current;
    digests = omega (arith, length_push t.digests d, a.1);
    in_order = λ some. a.0;
  };
  more =
      let front : List Item = told_front t.given ++ node_items 0 (t.journals ++ t.current ∷ []) in
      ap (headed t.given) (mapped digest_item front t.digests d);
}
step_told t item.End h a = record { sound = record { told = h; nodes = a.0; digests = a.1 }; more = refl }
step_told t i h a = absurd a

pub step : (d : Draft) (i : Item) → IsSound d → Admits d i → Stepped d i
step draft.Empty i h a = step_first i a
step draft.Begun i h a = step_begun i a
step (draft.Planned p) i h a = step_planned p i h a
step (draft.Lasting p beats) i h a = step_lasting p beats i h a
step (draft.Paced p beats delay) i h a = step_paced p beats delay i h a
step (draft.Given g) i h a = step_given g i h a
step (draft.Told t) i h a = step_told t i h a
step (draft.Whole t) i h a = absurd a
