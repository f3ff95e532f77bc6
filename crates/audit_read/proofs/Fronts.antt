-- What is known where the reading stands: which lines are read, and what follows if the next one is not or none is left.
use Rattle.std.proofs.Common.{◌≡◌, ℕ, suc, ◌+◌, ◌≤◌, Bool, true, false, cond, List, [], ◌∷◌, ◌++◌, Option, Some, None, refl, sym, ap, ◌∙◌, subst, arith, eqb, length, map, take, drop, append_assoc, append-nil, length-append}
use Rattle.std.specs.List.{AllByRecursion, fold, count_by, slice_split}
use Rattle.std.proofs.Math.Seq.{take-append_seam, take-append-add, drop-append_seam}
use Rattle.std.proofs.lemmas.Bool.{eqb-true, both_ways}
use Rattle.std.proofs.lemmas.List.{map-append}
use Rattle.std.proofs.lemmas.List.Concat.{flat_map-append}
use Rattle.std.proofs.lemmas.List.Elements.{recursion_from_All, All-from_recursion}
use Rattle.std.proofs.lemmas.List.Splits.{slice_split_at}
use Rattle.std.proofs.lemmas.List.Sums.{fold-append, sum_by-cons}
use Rattle.slot_plan.specs.Times.{disk_count}
use Rattle.node_kit.specs.declared.course.Kept.{Kept}
use Rattle.audit_text.specs.declared.item.Item.{Item}
use Rattle.audit_text.specs.Fits.{ItemFits}
use Rattle.audit_text.specs.Lines.{line_of}
use Rattle.audit_text.specs.Texts.{parts_of, items_in, text_in, text_of}
use Rattle.audit_text.proofs.Feeds.{line_free, one_line}
use Rattle.audit_read.specs.Begun.{HasNoFeed, whole_lines, lines_of, Begins, IsFaultyAt}
use Rattle.audit_read.specs.Reached.{Reached}
use Rattle.audit_read.specs.Drafts.{written, Admits, after, IsSound, IsRead, IsReadAs, whole_parts}
use Rattle.audit_read.specs.Writable.{IsWritable}
use Rattle.audit_read.specs.declared.draft.Draft.{Draft}
use Rattle.audit_read.specs.declared.draft.Draft.TheVariants as draft
use Rattle.audit_read.specs.declared.told.Told.{Told}
use Rattle.audit_read.proofs.Lists.{all_push, length_push, none_from}
use Rattle.audit_read.proofs.Steps.{step}
use Rattle.audit_read.proofs.Walk.{IsWholeDraft, ReadsOut, reads_behind, walk}
use Rattle.audit_read.proofs.Ends.{ends, whole_items, whole_writable}

-- ---- the whole lines of a text

no_feed : (b : ℕ) → (b ≡ 10 → ⊥) → eqb b 10 ≡ false
no_feed b other = go (eqb b 10) refl where
  go : (t : Bool) → eqb b 10 ≡ t → t ≡ false
  go false e = refl
  go true e = absurd (other (eqb-true b 10 e))

no_feeds : (line : List ℕ) → HasNoFeed line → AllByRecursion (λ (b : ℕ). eqb b 10 ≡ false) line
no_feeds [] f = tt
no_feeds (b ∷ line) f = (no_feed b f.0, no_feeds line f.1)

abbrev feeds : List ℕ → ℕ
feeds bytes = count_by (λ (b : ℕ). eqb b 10) bytes

feeds-cons : (b : ℕ) (bytes : List ℕ) → feeds (b ∷ bytes) ≡ cond (eqb b 10) 1 0 + feeds bytes
feeds-cons b bytes = sum_by-cons (λ (x : ℕ). cond (eqb x 10) 1 0) b bytes

none_more : (n : ℕ) → 0 + n ≡ n
none_more n = omega arith

feeds_behind : (line rest : List ℕ) → HasNoFeed line → feeds (line ++ rest) ≡ feeds rest
feeds_behind [] rest f = refl
feeds_behind (b ∷ line) rest f =
    feeds-cons b (line ++ rest) ∙ ap (λ (t : Bool). cond t 1 0 + feeds (line ++ rest)) (no_feed b f.0)
    ∙ none_more (feeds (line ++ rest)) ∙ feeds_behind line rest f.1

take_one : (n : ℕ) (line : List ℕ) (lines : List (List ℕ)) → take (1 + n) (line ∷ lines) ≡ line ∷ take n lines
take_one n line lines = ap (λ (k : ℕ). take k (line ∷ lines)) (one n) where
  one : (k : ℕ) → 1 + k ≡ suc k
  one k = omega arith

pub first_line : (line rest : List ℕ) → HasNoFeed line → whole_lines (line ++ 10 ∷ rest) ≡ line ∷ whole_lines rest
unfolding whole_lines
first_line line rest f =
    ap (λ (n : ℕ). take n (slice_split (λ (b : ℕ). eqb b 10) (line ++ 10 ∷ rest))) (feeds_behind line (10 ∷ rest) f ∙ feeds-cons 10 rest)
    ∙ ap (take (1 + feeds rest)) (slice_split_at (λ (b : ℕ). eqb b 10) line 10 rest (All-from_recursion (λ (b : ℕ). eqb b 10 ≡ false) line (no_feeds line f)) refl)
    ∙ take_one (feeds rest) line (slice_split (λ (b : ℕ). eqb b 10) rest)

pub no_line : (rest : List ℕ) → HasNoFeed rest → whole_lines rest ≡ []
unfolding whole_lines
no_line rest f =
    ap (λ (n : ℕ). take n (slice_split (λ (b : ℕ). eqb b 10) rest)) (ap feeds (sym (append-nil rest)) ∙ feeds_behind rest [] f)

text_first : (i : Item) (is : List Item) (rest : List ℕ) → text_in (i ∷ is) ++ rest ≡ line_of i ++ 10 ∷ (text_in is ++ rest)
text_first i is rest =
    append_assoc (line_of i ++ 10 ∷ []) (text_in is) rest ∙ append_assoc (line_of i) (10 ∷ []) (text_in is ++ rest)

text_lines : (is : List Item) (rest : List ℕ) → AllByRecursion ItemFits is → whole_lines (text_in is ++ rest) ≡ map line_of is ++ whole_lines rest
text_lines [] rest f = refl
text_lines (i ∷ is) rest f =
    ap whole_lines (text_first i is rest) ∙ first_line (line_of i) (text_in is ++ rest) (line_free i f.0)
    ∙ ap (λ (q : List (List ℕ)). line_of i ∷ q) (text_lines is rest f.1)

-- ---- which items lines are of

abbrev head_line : List (List ℕ) → List ℕ
head_line [] = []
head_line (l ∷ ls) = l

abbrev tail_lines : List (List ℕ) → List (List ℕ)
tail_lines [] = []
tail_lines (l ∷ ls) = ls

-- items whose lines begin with those of other items begin with these
record BeginsWith (xs is : List Item) (line : List ℕ) : Type 0 where
  next : Item
  behind : List Item
  fit : ItemFits next
  said : line ≡ line_of next
  all : xs ≡ is ++ next ∷ behind

begins_with : (xs is : List Item) (line : List ℕ) (more : List (List ℕ)) → AllByRecursion ItemFits xs → AllByRecursion ItemFits is
    → map line_of xs ≡ map line_of is ++ line ∷ more → BeginsWith xs is line
begins_with [] [] line more f g e = absurd (omega (arith, ap (λ (q : List (List ℕ)). length q) e))
begins_with [] (i ∷ is) line more f g e = absurd (omega (arith, ap (λ (q : List (List ℕ)). length q) e))
begins_with (x ∷ xs) [] line more f g e = record { next = x; behind = xs; fit = f.0; said = sym (ap head_line e); all = refl }
begins_with (x ∷ xs) (i ∷ is) line more f g e =
    let same : x ≡ i = one_line x i f.0 g.0 (ap head_line e) in
    let b : BeginsWith xs is line = begins_with xs is line more f.1 g.1 (ap tail_lines e) in
    record {
      next = b.next;
      behind = b.behind;
      fit = b.fit;
      said = b.said;
      all = ap (λ (q : Item). q ∷ xs) same ∙ ap (λ (q : List Item). i ∷ q) b.all;
    }

same_items : (xs is : List Item) → AllByRecursion ItemFits xs → AllByRecursion ItemFits is → map line_of xs ≡ map line_of is → xs ≡ is
same_items [] [] f g e = refl
same_items [] (i ∷ is) f g e = absurd (omega (arith, ap (λ (q : List (List ℕ)). length q) e))
same_items (x ∷ xs) [] f g e = absurd (omega (arith, ap (λ (q : List (List ℕ)). length q) e))
same_items (x ∷ xs) (i ∷ is) f g e =
    ap (λ (q : Item). q ∷ xs) (one_line x i f.0 g.0 (ap head_line e))
    ∙ ap (λ (q : List Item). i ∷ q) (same_items xs is f.1 g.1 (ap tail_lines e))

-- ---- where the reading stands

pub at_start : (bytes : List ℕ) → Reached bytes draft.Empty 1 bytes
at_start bytes = record { sound = tt; fits = tt; same = refl; text = refl; count = refl }

one_more : (bytes : List ℕ) (d : Draft) (line : ℕ) (rest first behind : List ℕ) (i : Item)
    → Reached bytes d line rest → rest ≡ first ++ 10 ∷ behind → ItemFits i → first ≡ line_of i → Admits d i
    → Reached bytes (after d i) (line + 1) behind
one_more bytes d line rest first behind i r cut fit said admits =
    let grown : written (after d i) ≡ written d ++ i ∷ [] = (step d i r.sound admits).more in
    record {
      sound = (step d i r.sound admits).sound;
      fits = subst (AllByRecursion ItemFits) (sym grown) (all_push ItemFits (written d) i r.fits fit);
      same =
          ap (fold after draft.Empty) grown ∙ fold-append after draft.Empty (written d) (i ∷ [])
          ∙ ap (λ (q : Draft). after q i) r.same;
      text =
          r.text
          ∙ ap (λ (q : List ℕ). text_in (written d) ++ q) (cut ∙ ap (λ (q : List ℕ). q ++ 10 ∷ behind) said ∙ sym (append_assoc (line_of i) (10 ∷ []) behind))
          ∙ sym (append_assoc (text_in (written d)) (line_of i ++ 10 ∷ []) behind)
          ∙ ap (λ (q : List ℕ). q ++ behind) (grown_text d i grown);
      count = omega (arith, r.count, ap (λ (q : List Item). length q) grown, length_push (written d) i);
    } where
      grown_text : (d : Draft) (i : Item) → written (after d i) ≡ written d ++ i ∷ [] → text_in (written d) ++ (line_of i ++ 10 ∷ []) ≡ text_in (written (after d i))
      grown_text d i grown =
          ap (λ (q : List ℕ). text_in (written d) ++ q) (sym (append-nil (line_of i ++ 10 ∷ [])))
          ∙ sym (flat_map-append (λ (x : Item). line_of x ++ 10 ∷ []) (written d) (i ∷ [])) ∙ ap text_in (sym grown)

pub at_next : (bytes : List ℕ) (d e : Draft) (line : ℕ) (rest first behind : List ℕ)
    → Reached bytes d line rest → rest ≡ first ++ 10 ∷ behind → (i : Item) × IsReadAs d first e i → Reached bytes e (line + 1) behind
at_next bytes d e line rest first behind r cut read =
    let is : IsReadAs d first e read.0 = read.1 in
    subst (λ (q : Draft). Reached bytes q (line + 1) behind) (sym is.3) (one_more bytes d line rest first behind read.0 r cut is.0 is.1 is.2)

lines_there : (bytes : List ℕ) (d : Draft) (line : ℕ) (rest : List ℕ) → Reached bytes d line rest → whole_lines bytes ≡ map line_of (written d) ++ whole_lines rest
lines_there bytes d line rest r = ap whole_lines r.text ∙ text_lines (written d) rest r.fits

length-mapped : (is : List Item) → length (map line_of is) ≡ length is
length-mapped [] = refl
length-mapped (i ∷ is) = ap suc (length-mapped is)

-- the lines that are read begin a text
front_begins : (d : Draft) → IsSound d → AllByRecursion ItemFits (written d) → Begins (map line_of (written d))
front_begins d sound fits =
    let end = ends d sound fits in
    (end.0, map line_of end.1, end.2, ap (map line_of) end.3 ∙ map-append line_of (written d) end.1)

-- a line that says nothing that may stand next is none of any text with these lines before it

not_next : (bytes : List ℕ) (d : Draft) (line : ℕ) (rest first : List ℕ) → Reached bytes d line rest
    → ((i : Item) → ItemFits i → first ≡ line_of i → Admits d i → ⊥)
    → (k : Kept) → IsWritable k → (more : List (List ℕ)) → lines_of k ≡ map line_of (written d) ++ first ∷ more → ⊥
not_next bytes d line rest first r refused k w more e =
    let fits : AllByRecursion ItemFits (items_in (parts_of k)) = recursion_from_All ItemFits _ w.numbers in
    let b : BeginsWith (items_in (parts_of k)) (written d) first = begins_with (items_in (parts_of k)) (written d) first more fits r.fits e in
    let read : ReadsOut draft.Empty (written d ++ b.next ∷ b.behind) = subst (ReadsOut draft.Empty) b.all (walk k w) in
    let on : ReadsOut (fold after draft.Empty (written d)) (b.next ∷ b.behind) = reads_behind draft.Empty (written d) (b.next ∷ b.behind) read in
    refused b.next b.fit b.said (subst (λ (q : Draft). ReadsOut q (b.next ∷ b.behind)) r.same on).0

lines_of_text : (bytes : List ℕ) (k : Kept) → IsWritable k → bytes ≡ text_of k → whole_lines bytes ≡ lines_of k
unfolding text_of
lines_of_text bytes k w e =
    ap whole_lines (e ∙ sym (append-nil (text_in (items_in (parts_of k)))))
    ∙ text_lines (items_in (parts_of k)) [] (recursion_from_All ItemFits _ w.numbers)
    ∙ ap (λ (q : List (List ℕ)). lines_of k ++ q) (no_line [] tt) ∙ append-nil (lines_of k)

-- the next line cannot be read
pub fault_at_line : (bytes : List ℕ) (d : Draft) (line : ℕ) (rest first behind : List ℕ) → Reached bytes d line rest
    → rest ≡ first ++ 10 ∷ behind → HasNoFeed first
    → ((i : Item) → ItemFits i → first ≡ line_of i → Admits d i → ⊥) → IsFaultyAt bytes line
fault_at_line bytes d line rest first behind r cut free refused =
    let front : List (List ℕ) = map line_of (written d) in
    let good : ℕ = length (written d) in
    let long : length front ≡ good = length-mapped (written d) in
    let lines : whole_lines bytes ≡ front ++ first ∷ whole_lines behind =
    lines_there bytes d line rest r ∙ ap (λ (q : List (List ℕ)). front ++ q) (ap whole_lines cut ∙ first_line first behind free) in
    let all : length (whole_lines bytes) ≡ length front + length (first ∷ whole_lines behind) =
    ap (λ (q : List (List ℕ)). length q) lines ∙ length-append front (first ∷ whole_lines behind) in
    let taken : take good (whole_lines bytes) ≡ front =
    ap (λ (n : ℕ). take n (whole_lines bytes)) (sym long) ∙ ap (take (length front)) lines ∙ take-append_seam front (first ∷ whole_lines behind) in
    let longer : take (good + 1) (whole_lines bytes) ≡ front ++ first ∷ [] =
    ap (λ (n : ℕ). take (n + 1) (whole_lines bytes)) (sym long) ∙ ap (take (length front + 1)) lines ∙ take-append-add front (first ∷ whole_lines behind) 1 in
    record {
      none = λ k w e. not_next bytes d line rest first r refused k w (whole_lines behind) (sym (lines_of_text bytes k w e) ∙ lines);
      named = (
        good,
        r.count,
        record {
          within = omega (arith, all, long);
          begins = subst Begins (sym taken) (front_begins d r.sound r.fits);
          no_more = λ less begun.
              let found : Begins (front ++ first ∷ []) = subst Begins longer begun in
              not_next bytes d line rest first r refused found.0 found.2 found.1 (found.3 ∙ append_assoc front (first ∷ []) found.1);
        },
      );
    }

-- no whole line is left, and the text is not at its end
pub fault_at_end : (bytes : List ℕ) (d : Draft) (line : ℕ) (rest : List ℕ) → Reached bytes d line rest → HasNoFeed rest
    → (IsWholeDraft d → rest ≡ [] → ⊥) → IsFaultyAt bytes line
unfolding text_of
fault_at_end bytes d line rest r free other =
    let front : List (List ℕ) = map line_of (written d) in
    let good : ℕ = length (written d) in
    let long : length front ≡ good = length-mapped (written d) in
    let lines : whole_lines bytes ≡ front =
    lines_there bytes d line rest r ∙ ap (λ (q : List (List ℕ)). front ++ q) (no_line rest free) ∙ append-nil front in
    let all : length (whole_lines bytes) ≡ good = ap (λ (q : List (List ℕ)). length q) lines ∙ long in
    let taken : take good (whole_lines bytes) ≡ front =
    ap (λ (n : ℕ). take n (whole_lines bytes)) (sym long) ∙ ap (take (length front)) (lines ∙ sym (append-nil front)) ∙ take-append_seam front [] in
    record {
      none = λ k w e.
          let fits : AllByRecursion ItemFits (items_in (parts_of k)) = recursion_from_All ItemFits _ w.numbers in
          let same : items_in (parts_of k) ≡ written d = same_items (items_in (parts_of k)) (written d) fits r.fits (sym (lines_of_text bytes k w e) ∙ lines) in
          let read : ReadsOut draft.Empty (written d ++ []) = subst (ReadsOut draft.Empty) (same ∙ sym (append-nil (written d))) (walk k w) in
          let whole : IsWholeDraft d = subst IsWholeDraft r.same (reads_behind draft.Empty (written d) [] read) in
          let texts : text_in (written d) ++ rest ≡ text_in (written d) ++ [] = sym r.text ∙ e ∙ ap text_in same ∙ sym (append-nil (text_in (written d))) in
          let ended : rest ≡ [] = sym (drop-append_seam (text_in (written d)) rest) ∙ ap (drop (length (text_in (written d)))) texts ∙ drop-append_seam (text_in (written d)) [] in
          other whole ended;
      named = (
        good,
        r.count,
        record {
          within = omega (arith, all);
          begins = subst Begins (sym taken) (front_begins d r.sound r.fits);
          no_more = λ less begun. absurd (omega (arith, less, all));
        },
      );
    }

-- the text is whole
pub at_whole : (bytes : List ℕ) (t : Told) (line : ℕ) (rest : List ℕ) (k : Kept) → Reached bytes (draft.Whole t) line rest → rest ≡ []
    → parts_of k ≡ whole_parts t → bytes ≡ text_of k
unfolding text_of
at_whole bytes t line rest k r ended same =
    r.text ∙ ap (λ (q : List ℕ). text_in (written (draft.Whole t)) ++ q) ended ∙ append-nil (text_in (written (draft.Whole t)))
    ∙ ap text_in (sym (whole_items t) ∙ ap items_in (sym same))

-- ---- what the reading goes by

pub none_read : (d : Draft) (line : List ℕ) (e : Draft) (taken : Bool) → IsRead d line (cond taken (Some e) None) → taken ≡ false
    → (i : Item) → ItemFits i → line ≡ line_of i → Admits d i → ⊥
none_read d line e taken r isnt = subst (λ (b : Bool). IsRead d line (cond b (Some e) None)) isnt r

pub some_read : (d : Draft) (line : List ℕ) (e : Draft) (taken : Bool) → IsRead d line (cond taken (Some e) None) → taken ≡ true
    → (i : Item) × IsReadAs d line e i
some_read d line e taken r is = subst (λ (b : Bool). IsRead d line (cond b (Some e) None)) is r

pub shorter : (rest first behind : List ℕ) → rest ≡ first ++ 10 ∷ behind → length behind + 1 ≤ length rest
shorter rest first behind e = omega (arith, ap (λ (q : List ℕ). length q) e, length-append first (10 ∷ behind))

pub whole_is : (bytes : List ℕ) (d : Draft) (line : ℕ) (rest : List ℕ) (t : Told) (k : Kept) → Reached bytes d line rest → d ≡ draft.Whole t
    → parts_of k ≡ whole_parts t → k.catalogue.block ≡ t.given.params.block → k.catalogue.disks ≡ disk_count t.given.params → IsWritable k
whole_is bytes d line rest t k r e parts block disks =
    let w : Reached bytes (draft.Whole t) line rest = subst (λ (q : Draft). Reached bytes q line rest) e r in
    whole_writable k t w.sound w.fits parts block disks

pub text_is : (bytes : List ℕ) (d : Draft) (line : ℕ) (rest : List ℕ) (t : Told) (k : Kept) → Reached bytes d line rest → d ≡ draft.Whole t
    → rest ≡ [] → parts_of k ≡ whole_parts t → bytes ≡ text_of k
text_is bytes d line rest t k r e ended parts =
    at_whole bytes t line rest k (subst (λ (q : Draft). Reached bytes q line rest) e r) ended parts

pub empty_from : (rest : List ℕ) (b : Bool) → b ≡ eqb (length rest) 0 → b ≡ true → rest ≡ []
empty_from rest b e t = none_from rest (eqb-true (length rest) 0 (sym e ∙ t))

pub not_empty : (rest : List ℕ) (b : Bool) → b ≡ eqb (length rest) 0 → b ≡ false → rest ≡ [] → ⊥
not_empty rest b e f nil = both_ways b f (e ∙ ap (λ (q : List ℕ). eqb (length q) 0) nil)

pub not_whole : (d : Draft) → ((t : Told) → d ≡ draft.Whole t → ⊥) → IsWholeDraft d → ⊥
not_whole (draft.Whole t) n w = n t refl
not_whole d n w = absurd w
