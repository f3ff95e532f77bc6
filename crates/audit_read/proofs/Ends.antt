-- Whatever was read has lines behind it that end it to the text of a writable value.
use Rattle.std.proofs.Common.{◌≡◌, ℕ, zero, suc, ◌+◌, ◌-◌, ◌*◌, ◌<◌, ◌≤◌, ◌^◌, Bool, true, false, cond, List, [], ◌∷◌, ◌++◌, None, refl, sym}
use Rattle.std.proofs.Common.{ap, ◌∙◌, subst, arith, length, map, replicate, append_assoc, append-nil}
use Rattle.std.specs.Prelude.{nat_lt}
use Rattle.std.specs.List.{All, AllByRecursion}
use Rattle.std.proofs.Math.Nat.{mul-le-mul}
use Rattle.std.proofs.lemmas.List.{length-replicate}
use Rattle.std.proofs.lemmas.List.Elements.{All-replicate, All-from_recursion, recursion_from_All}
use Rattle.link_timing.specs.Clock.{FixedIsWithin}
use Rattle.link_timing.specs.declared.Delay.{Delay}
use Rattle.link_timing.specs.declared.Delay.TheVariants as delay
use Rattle.slot_plan.specs.Conditions.{IsInRange, IsPlan}
use Rattle.slot_plan.specs.Samples.{small}
use Rattle.slot_plan.specs.Times.{disk_count}
use Rattle.slot_plan.specs.declared.params.Params.{Params}
use Rattle.stripe_layout.specs.Layout.{IsCatalogue}
use Rattle.stripe_layout.specs.declared.catalogue.FileInfo.{FileInfo}
use Rattle.node_kit.specs.Courses.{CutsDeath, ReturnsLater}
use Rattle.node_kit.specs.Life.{death_of, cut_of, back_of}
use Rattle.node_kit.specs.declared.course.Course.{Course}
use Rattle.node_kit.specs.declared.course.Digest32.{Digest32}
use Rattle.node_kit.specs.declared.course.Kept.{Kept}
use Rattle.audit_text.specs.declared.item.Item.{Item}
use Rattle.audit_text.specs.declared.item.Item.TheVariants as item
use Rattle.audit_text.specs.Fields.{params_fields}
use Rattle.audit_text.specs.Fits.{ItemFits, DigestFits}
use Rattle.audit_text.specs.Texts.{Parts, parts_of, row_at, node_items, head_items, items_in}
use Rattle.audit_read.specs.Writable.{IsDeath, ReturnsIn, IsFault, IsFile, AreOrders, IsJournal, IsWritable, node_count, starts_in}
use Rattle.audit_read.specs.Drafts.{given_parts, whole_parts, written, Admits, AreOffsets, AreBeats, TellsAll, padded, told_with, begun_told, opened, after, IsGiven, IsTold, IsWhole, IsSound}
use Rattle.audit_read.specs.declared.draft.Draft.{Draft}
use Rattle.audit_read.specs.declared.draft.Draft.TheVariants as draft
use Rattle.audit_read.specs.declared.given.Given.{Given}
use Rattle.audit_read.specs.declared.told.Told.{Told}
use Rattle.audit_read.proofs.Lists.{all_push, padded_at, padded_items, padded_length, padded_all, padded_backs, length_push, bytes_from}
use Rattle.audit_read.proofs.Steps.{step}

-- ---- a whole text is that of a writable value

-- what makes parts writable
record AreWritable (q : Parts) : Type 0 where
  beats : AreBeats q.beats
  offsets : AreOffsets q.params q.offsets
  delay : FixedIsWithin q.delay q.params.delay
  cubs : length q.deaths ≡ q.params.cubs
  deaths : AllByRecursion (IsDeath q.beats) q.deaths
  returns : AllByRecursion (ReturnsIn q.beats) q.backs
  cuts : length q.cuts ≡ q.params.cubs
  backs : length q.backs ≡ q.params.cubs
  cut_deaths : (n : ℕ) → CutsDeath (row_at q.deaths n) (row_at q.cuts n)
  returns_later : (n : ℕ) → ReturnsLater (row_at q.deaths n) (row_at q.backs n)
  faults : AllByRecursion (IsFault q.params q.beats) q.faults
  files : AllByRecursion (IsFile q.params) q.files
  orders : AreOrders q.params q.beats q.files [] q.orders
  nodes : length q.journals ≡ node_count q.params
  journals : AllByRecursion (IsJournal q.params q.beats) q.journals
  digests : length q.digests ≡ starts_in q.orders
  numbers : All ItemFits (items_in q)

-- the cubs that are said to live have no lines
pub whole_items : (t : Told) → items_in (whole_parts t) ≡ written (draft.Whole t)
unfolding items_in
whole_items t =
    ap (λ (q : List Item). head_items (given_parts t.given)
    ++ (q ++ map (λ f. item.Fault f) t.given.faults ++ map (λ f. item.File f) t.given.files ++ map (λ o. item.Order o) t.given.orders
    ++ node_items 0 (t.journals ++ t.current ∷ []) ++ map (λ d. item.Digest d) t.digests) ++ item.End ∷ [])
    (padded_items t.given.cuts t.given.backs t.given.deaths t.given.params.cubs)

parts_are : (t : Told) → IsWhole t → AllByRecursion ItemFits (written (draft.Whole t)) → AreWritable (whole_parts t)
parts_are t w fits =
    let g : IsGiven t.given = w.told.given in
    record {
      beats = g.beats;
      offsets = g.offsets;
      delay = g.delay;
      cubs = padded_length t.given.deaths t.given.params.cubs g.cubs;
      deaths = padded_all t.given.beats t.given.deaths t.given.params.cubs g.deaths;
      returns = padded_backs t.given.beats t.given.backs t.given.params.cubs g.returns;
      cuts = padded_length t.given.cuts t.given.params.cubs (omega (arith, g.cuts, g.cubs));
      backs = padded_length t.given.backs t.given.params.cubs (omega (arith, g.backs, g.cubs));
      cut_deaths = λ n. rw (padded_at t.given.deaths t.given.params.cubs n, padded_at t.given.cuts t.given.params.cubs n) (g.cut_deaths n);
      returns_later = λ n. rw (padded_at t.given.deaths t.given.params.cubs n, padded_at t.given.backs t.given.params.cubs n) (g.returns_later n);
      faults = g.faults;
      files = g.files;
      orders = g.orders;
      nodes = length_push t.journals t.current ∙ w.nodes;
      journals = all_push (IsJournal t.given.params t.given.beats) t.journals t.current w.told.journals w.told.current;
      digests = w.digests;
      numbers = subst (λ (q : List Item). All ItemFits q) (sym (whole_items t)) (All-from_recursion ItemFits (written (draft.Whole t)) fits);
    }

-- what the rows of a course say of a cub they say of a node: of all others they say nothing
cut_of_node : (c : Course) → ((n : ℕ) → CutsDeath (row_at c.deaths n) (row_at c.cuts n)) → (n : ℕ) → CutsDeath (death_of c n) (cut_of c n)
cut_of_node c f n = by_kind (nat_lt n c.plan.params.cubs) where
  by_kind : (t : Bool) → CutsDeath (cond t (row_at c.deaths n) None) (cond t (row_at c.cuts n) None)
  by_kind true = f n
  by_kind false = tt

back_of_node : (c : Course) → ((n : ℕ) → ReturnsLater (row_at c.deaths n) (row_at c.backs n)) → (n : ℕ) → ReturnsLater (death_of c n) (back_of c n)
back_of_node c f n = by_kind (nat_lt n c.plan.params.cubs) where
  by_kind : (t : Bool) → ReturnsLater (cond t (row_at c.deaths n) None) (cond t (row_at c.backs n) None)
  by_kind true = f n
  by_kind false = tt

kept_is : (k : Kept) → AreWritable (parts_of k) → k.catalogue.block ≡ k.course.plan.params.block
    → k.catalogue.disks ≡ disk_count k.course.plan.params → IsWritable k
kept_is k a block disks = record {
  course = record {
    beats = a.beats.1;
    offsets = a.offsets.0;
    skewed = a.offsets.1;
    deaths = a.cubs;
    cuts = a.cuts;
    backs = a.backs;
    cut_deaths = cut_of_node k.course a.cut_deaths;
    returns_later = back_of_node k.course a.returns_later;
    delay = a.delay;
  };
  lasting = a.beats.0;
  deaths = a.deaths;
  returns = a.returns;
  faults = a.faults;
  block = block;
  disks = disks;
  files = a.files;
  orders = a.orders;
  nodes = a.nodes;
  journals = a.journals;
  digests = a.digests;
  numbers = a.numbers;
}

-- so the value with these parts is writable
pub whole_writable : (k : Kept) (t : Told) → IsWhole t → AllByRecursion ItemFits (written (draft.Whole t))
    → parts_of k ≡ whole_parts t → k.catalogue.block ≡ t.given.params.block → k.catalogue.disks ≡ disk_count t.given.params
    → IsWritable k
whole_writable k t w fits e block disks =
    let same : k.course.plan.params ≡ t.given.params = ap (λ (q : Parts). q.params) e in
    kept_is k (subst AreWritable (sym e) (parts_are t w fits))
    (block ∙ ap (λ (p : Params). p.block) (sym same)) (disks ∙ ap disk_count (sym same))

-- ---- there are few disks and nodes

pub few_disks : (p : Params) → IsInRange p → disk_count p ≤ 512
few_disks p r = let most : p.cubs * p.disks ≤ 64 * 8 = mul-le-mul r.cubs.1 r.disks.1 in omega (arith, most)

pub some_disks : (p : Params) → IsInRange p → 1 ≤ disk_count p
some_disks p r = let least : 3 * 1 ≤ p.cubs * p.disks = mul-le-mul r.cubs.0 r.disks.0 in omega (arith, least)

pub few_nodes : (p : Params) → IsPlan p → node_count p ≤ 578
few_nodes p plan = omega (arith, few_disks p plan.ranges, plan.ranges.cubs.1)

file_lengths : (p : Params) (files : List FileInfo) → AllByRecursion (IsFile p) files → AllByRecursion (λ (f : FileInfo). 1 ≤ f.len) files
file_lengths p [] all = tt
file_lengths p (f ∷ files) all = (all.0.0, file_lengths p files all.1)

pub catalogue_is : (g : Given) → IsGiven g → IsCatalogue g.files g.params.block (disk_count g.params)
catalogue_is g h = record {
  count = h.few;
  lengths = All-from_recursion (λ (f : FileInfo). 1 ≤ f.len) g.files (file_lengths g.params g.files h.files);
  block_low = h.plan.ranges.block.0;
  block_high = h.plan.ranges.block.1;
  disks_low = some_disks g.params h.plan.ranges;
  disks_high = few_disks g.params h.plan.ranges;
}

kept_of : (t : Told) → IsWhole t → Kept
kept_of t w = record {
  course = record {
    plan = record { params = t.given.params; sound = w.told.given.plan };
    beats = t.given.beats;
    offsets = t.given.offsets;
    deaths = padded t.given.deaths t.given.params.cubs;
    cuts = padded t.given.cuts t.given.params.cubs;
    backs = padded t.given.backs t.given.params.cubs;
    faults = t.given.faults;
    delay = t.given.delay;
  };
  catalogue = record {
    files = t.given.files;
    block = t.given.params.block;
    disks = disk_count t.given.params;
    sound = catalogue_is t.given w.told.given;
  };
  orders = t.given.orders;
  journals = t.journals ++ t.current ∷ [];
  digests = t.digests;
}

-- ---- the ends

-- there are lines that end it
abbrev pub Ends : Draft → Type 0
Ends d =
    AllByRecursion ItemFits (written d)
    → (k : Kept) × (more : List Item) × IsWritable k × (items_in (parts_of k) ≡ written d ++ more)

from_step : (d : Draft) (i : Item) → IsSound d → Admits d i → ItemFits i → Ends (after d i) → Ends d
from_step d i sound admits fit end fits =
    let grown : written (after d i) ≡ written d ++ i ∷ [] = (step d i sound admits).more in
    let found = end (subst (AllByRecursion ItemFits) (sym grown) (all_push ItemFits (written d) i fits fit)) in (
      found.0,
      i ∷ found.1,
      found.2,
      found.3 ∙ ap (λ (q : List Item). q ++ found.1) grown ∙ append_assoc (written d) (i ∷ []) found.1,
    )

whole_ends : (t : Told) → IsWhole t → Ends (draft.Whole t)
unfolding kept_of
whole_ends t w fits = (
  kept_of t w,
  [],
  whole_writable (kept_of t w) t w fits refl refl refl,
  whole_items t ∙ sym (append-nil (written (draft.Whole t))),
)

zeros : Digest32
zeros = record { 0 = replicate 32 0 }

zeros_fit : DigestFits zeros
unfolding zeros
zeros_fit =
    let all : AllByRecursion (λ (b : ℕ). b < 256) (replicate 32 0) =
    recursion_from_All (λ (b : ℕ). b < 256) (replicate 32 0) (All-replicate (λ (b : ℕ). b < 256) 32 0 (omega arith)) in
    (length-replicate {A = ℕ} 32 0, bytes_from (replicate 32 0) all)

told_sound : (t : Told) (i : Item) → IsTold t → Admits (draft.Told t) i → IsSound (after (draft.Told t) i)
told_sound t i h a = (step (draft.Told t) i h a).sound

digests_end : (n : ℕ) (t : Told) → IsTold t → TellsAll t → length t.digests + n ≡ starts_in t.given.orders → Ends (draft.Told t)
digests_end zero t h full count =
    let all : length t.digests ≡ starts_in t.given.orders = omega (arith, count) in
    from_step (draft.Told t) item.End h (full, all) tt (whole_ends t (record { told = h; nodes = full; digests = all }))
digests_end (suc n) t h full count =
    let one : Item = item.Digest zeros in
    let less : length t.digests < starts_in t.given.orders = omega (arith, count) in
    from_step (draft.Told t) one h (full, less) zeros_fit
    (digests_end n (told_with t one) (told_sound t one h (full, less)) full (omega (arith, count, length_push t.digests zeros)))

nodes_end : (n : ℕ) (t : Told) → IsTold t → length t.digests ≡ 0 → length t.journals + 1 + n ≡ node_count t.given.params → Ends (draft.Told t)
nodes_end zero t h none count =
    digests_end (starts_in t.given.orders) t h (omega (arith, count)) (omega (arith, none))
nodes_end (suc n) t h none count =
    let one : Item = item.Node (record { 0 = length t.journals + 1 }) in
    let less : length t.journals + 1 < node_count t.given.params = omega (arith, count) in
    from_step (draft.Told t) one h (none, refl, less) (omega (arith, less, few_nodes t.given.params h.given.plan))
    (nodes_end n (told_with t one) (told_sound t one h (none, refl, less)) none (omega (arith, count, length_push t.journals t.current)))

told_ends : (t : Told) → IsTold t → Ends (draft.Told t)
told_ends t h = by_digests t.digests refl where
  by_digests : (ds : List Digest32) → t.digests ≡ ds → Ends (draft.Told t)
  by_digests [] e =
      let none : length t.digests ≡ 0 = ap (λ (q : List Digest32). length q) e in
      nodes_end (node_count t.given.params - (length t.journals + 1)) t h none (omega (arith, h.nodes))
  by_digests (d ∷ ds) e =
      let some : length t.digests ≡ suc (length ds) = ap (λ (q : List Digest32). length q) e in
      digests_end (starts_in t.given.orders - length t.digests) t h (h.in_order (omega (arith, some))) (omega (arith, h.digests))

given_ends : (g : Given) → IsGiven g → Ends (draft.Given g)
given_ends g h =
    let one : Item = item.Node (record { 0 = 0 }) in
    from_step (draft.Given g) one h refl (omega arith) (told_ends (begun_told g) (step (draft.Given g) one h refl).sound)

paced_ends : (p : Params) (beats : ℕ) (d : Delay) → IsSound (draft.Paced p beats d) → Ends (draft.Paced p beats d)
paced_ends p beats d h =
    let offsets : List ℕ = replicate (p.cubs + 1) 0 in
    let admits : AreOffsets p offsets = (length-replicate (p.cubs + 1) 0, All-replicate (λ (o : ℕ). o ≤ p.skew) (p.cubs + 1) 0 (omega arith)) in
    from_step (draft.Paced p beats d) (item.Offsets offsets) h admits (All-replicate (λ (o : ℕ). o < 2 ^ 64) (p.cubs + 1) 0 (omega arith))
    (given_ends (opened p beats d offsets) (step (draft.Paced p beats d) (item.Offsets offsets) h admits).sound)

lasting_ends : (p : Params) (beats : ℕ) → IsSound (draft.Lasting p beats) → Ends (draft.Lasting p beats)
lasting_ends p beats h =
    let admits : FixedIsWithin (delay.Fixed 1) p.delay = (omega arith, h.0.ranges.delay.0) in
    from_step (draft.Lasting p beats) (item.Delay (delay.Fixed 1)) h admits (omega arith)
    (paced_ends p beats (delay.Fixed 1) (step (draft.Lasting p beats) (item.Delay (delay.Fixed 1)) h admits).sound)

planned_ends : (p : Params) → IsPlan p → Ends (draft.Planned p)
planned_ends p h =
    let admits : AreBeats 1 = (omega arith, omega arith) in
    from_step (draft.Planned p) (item.Beats 1) h admits (omega arith) (lasting_ends p 1 (h, admits))

small_plan : IsPlan small
small_plan = record {
  ranges = record {
    cubs = omega arith;
    disks = omega arith;
    slots = omega arith;
    play = omega arith;
    pieces = omega arith;
    block = omega arith;
    beat = omega arith;
    delay = omega arith;
    skew = omega arith;
    window_a = omega arith;
    window_b = omega arith;
    read_lead = omega arith;
    min_lead = omega arith;
    max_lead = omega arith;
    batch = omega arith;
    heart = omega arith;
    deadman = omega arith;
    hold = omega arith;
  };
  c1 = omega arith;
  c2 = omega arith;
  c3 = omega arith;
  c4 = omega arith;
  c5 = omega arith;
  c6 = omega arith;
  c7 = omega arith;
  c8 = omega arith;
  c9 = omega arith;
  c10 = omega arith;
  c11 = omega arith;
  c12 = omega arith;
}

begun_ends : Ends draft.Begun
begun_ends = from_step draft.Begun (item.Plan small) tt small_plan small_fits (planned_ends small small_plan) where
  small_fits : ItemFits (item.Plan small)
  small_fits = All-from_recursion (λ (n : ℕ). n < 2 ^ 64) (params_fields small) (omega arith, (omega arith, (omega arith, (omega arith, (omega arith, (omega arith, (omega arith, (omega arith, (omega arith, (omega arith, (omega arith, (omega arith, (omega arith, (omega arith, (omega arith, (omega arith, (omega arith, (omega arith, tt))))))))))))))))))

pub ends : (d : Draft) → IsSound d → Ends d
ends draft.Empty h = from_step draft.Empty item.Version tt tt tt begun_ends
ends draft.Begun h = begun_ends
ends (draft.Planned p) h = planned_ends p h
ends (draft.Lasting p beats) h = lasting_ends p beats h
ends (draft.Paced p beats d) h = paced_ends p beats d h
ends (draft.Given g) h = given_ends g h
ends (draft.Told t) h = told_ends t h
ends (draft.Whole t) h = whole_ends t h
