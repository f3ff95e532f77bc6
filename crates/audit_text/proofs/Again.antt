-- The line of an item is read as that item.
use Rattle.std.proofs.Common.{◌≡◌, ℕ, ◌+◌, ◌-◌, ◌%◌, ◌^◌, Bool, true, false, cond, List, [], ◌∷◌, ◌++◌, Option, Some, None, refl, sym, ap, ◌∙◌, arith, eqb}
use Rattle.std.specs.List.{fold, AllByRecursion}
use Rattle.std.proofs.lemmas.Bool.Decides.{nat_tests}
use Rattle.std.proofs.lemmas.List.Elements.{recursion_from_All}
use Rattle.std.proofs.lemmas.List.Sums.{fold-append}
use Rattle.hex.proofs.HexLemmas.{decode_sized-encode_lower}
use Rattle.link_timing.specs.declared.Delay.TheVariants as delay
use Rattle.node_kit.specs.declared.course.Digest32.{Digest32}
use Rattle.node_kit.specs.declared.course.OrderKind.{OrderKind}
use Rattle.node_kit.specs.declared.course.OrderKind.TheVariants.{Begin, Finish}
use Rattle.node_kit.specs.declared.journal.Entry.{Entry}
use Rattle.node_kit.specs.declared.journal.What.{What}
use Rattle.node_kit.specs.declared.journal.What.TheVariants as what
use Rattle.tiger_base.specs.declared.message.Note.{Note}
use Rattle.tiger_base.specs.declared.message.Note.TheVariants as note
use Rattle.tiger_base.specs.declared.part.Span.{Span}
use Rattle.tiger_base.specs.declared.tenancy.Kind.{Kind}
use Rattle.tiger_base.specs.declared.tenancy.Kind.TheVariants.{Own, Backup}
use Rattle.tiger_base.specs.declared.tenancy.Tag.{Tag}
use Rattle.audit_text.specs.declared.item.Item.{Item}
use Rattle.audit_text.specs.declared.item.Item.TheVariants as item
use Rattle.audit_text.specs.declared.item.Word.{Word}
use Rattle.audit_text.specs.declared.item.Word.TheVariants as word
use Rattle.audit_text.specs.Fields.{flag_number, kind_number, one_more, or_zero, tag_fields, part_fields, note_fields, what_fields, what_word, params_fields, order_fields, order_word, fields_of, word_of}
use Rattle.audit_text.specs.Fits.{IsShort, IsLong, TagFits, PartFits, LeftFits, BackFits, NoteFits, WhatFits, OrderFits, DigestFits, ItemFits}
use Rattle.audit_text.specs.Lines.{spaced, behind_word, line_of}
use Rattle.audit_text.specs.Reading.{word_in, note_in, what_by, entry_by, params_by, digest_in, item_by, item_in}
use Rattle.audit_text.specs.Scanning.{scanned, closed, nothing, numbers_in}
use Rattle.audit_text.specs.Words.{letters}
use Rattle.audit_text.proofs.Numbers.{numbers_read}

-- ---- the word

word_again : (w : Word) (rest : List ℕ) → word_in (letters w ++ rest) ≡ w
unfolding word_in
word_again word.Tiger rest = refl
word_again word.Plan rest = refl
word_again word.Beats rest = refl
word_again word.Fixed rest = refl
word_again word.Drawn rest = refl
word_again word.Offsets rest = refl
word_again word.Death rest = refl
word_again word.Fault rest = refl
word_again word.File rest = refl
word_again word.Begin rest = refl
word_again word.Finish rest = refl
word_again word.Node rest = refl
word_again word.Got rest = refl
word_again word.Sent rest = refl
word_again word.Took rest = refl
word_again word.Dropped rest = refl
word_again word.Queued rest = refl
word_again word.Unqueued rest = refl
word_again word.Put rest = refl
word_again word.Gone rest = refl
word_again word.ReadFailed rest = refl
word_again word.Believed rest = refl
word_again word.Died rest = refl
word_again word.Returned rest = refl
word_again word.Digest rest = refl
word_again word.End rest = refl

-- a word has no number
word_scanned : (w : Word) → closed (fold scanned nothing (letters w)) ≡ []
unfolding scanned
word_scanned word.Tiger = refl
word_scanned word.Plan = refl
word_scanned word.Beats = refl
word_scanned word.Fixed = refl
word_scanned word.Drawn = refl
word_scanned word.Offsets = refl
word_scanned word.Death = refl
word_scanned word.Fault = refl
word_scanned word.File = refl
word_scanned word.Begin = refl
word_scanned word.Finish = refl
word_scanned word.Node = refl
word_scanned word.Got = refl
word_scanned word.Sent = refl
word_scanned word.Took = refl
word_scanned word.Dropped = refl
word_scanned word.Queued = refl
word_scanned word.Unqueued = refl
word_scanned word.Put = refl
word_scanned word.Gone = refl
word_scanned word.ReadFailed = refl
word_scanned word.Believed = refl
word_scanned word.Died = refl
word_scanned word.Returned = refl
word_scanned word.Digest = refl
word_scanned word.End = refl

behind_read : (w : Word) (ns : List ℕ) → AllByRecursion IsLong ns → numbers_in (letters w ++ spaced ns) ≡ ns
unfolding numbers_in
behind_read w ns long =
    rw (fold-append scanned nothing (letters w) (spaced ns))
    (numbers_read ns long (fold scanned nothing (letters w)) ∙ rw (word_scanned w) refl)

-- ---- each number of an item is a long one

longer : (n : ℕ) → IsShort n → IsLong n
longer n short = omega (arith, short)

flag_long : (b : Bool) → IsLong (flag_number b)
flag_long false = omega arith
flag_long true = omega arith

kind_long : (k : Kind) → IsLong (kind_number k)
kind_long Own = omega arith
kind_long Backup = omega arith

tag_long : (t : Option Tag) → TagFits t → AllByRecursion IsLong (tag_fields t)
tag_long None f = (omega arith, tt)
tag_long (Some t) f = (omega arith, (longer _ f.0, (f.1, tt)))

part_long : (s : Option Span) → PartFits s → AllByRecursion IsLong (part_fields s)
part_long None f = (omega arith, tt)
part_long (Some s) f = (omega arith, (longer _ f.0, (f.1, (f.2, tt))))

note_long : (n : Note) → NoteFits n → AllByRecursion IsLong (note_fields n)
note_long (note.ViewerState s) f = (omega arith, (longer _ f.0.0, (longer _ f.0.1, (longer _ f.0.2, (f.0.3, (f.0.4, (f.1, tt)))))))
note_long (note.MirrorState s) f = (omega arith, (longer _ f.0.0, (longer _ f.0.1, (longer _ f.0.2, (f.0.3, (f.0.4, (f.1, (longer _ f.2, tt))))))))
note_long (note.Start redundant a) f = (omega arith, (longer _ f.0, (longer _ f.1, (f.2, (longer _ f.3, (flag_long redundant, tt))))))
note_long (note.Deschedule instance tag) f = (omega arith, (longer _ f.0, tag_long tag f.1))
note_long (note.Kill instance slot visit) f = (omega arith, (longer _ f.0, (longer _ f.1, (f.2, tt))))
note_long (note.Placed t) f = (omega arith, (longer _ f.0, (longer _ f.1, (longer _ f.2, (f.3, (f.4, tt))))))
note_long note.Heartbeat f = (omega arith, tt)
note_long (note.Back from) f = (omega arith, (f, tt))
note_long (note.ReadAsk w) f = (omega arith, (longer _ f.0, (longer _ f.1, (f.2, (longer _ f.3, (f.4, (longer _ f.5, tt)))))))
note_long (note.ReadDone w part) f = (omega arith, (longer _ f.0.0, (longer _ f.0.1, (f.0.2, (longer _ f.0.3, (f.0.4, (longer _ f.0.5, part_long part f.1)))))))
note_long (note.Whole w sent s) f = (omega arith, (longer _ f.0.0, (longer _ f.0.1, (f.0.2, (longer _ f.0.3, (f.0.4, (longer _ f.0.5, (f.1, (longer _ f.2.0, (f.2.1, (f.2.2, tt)))))))))))
note_long (note.Piece w sent s) f = (omega arith, (longer _ f.0.0, (longer _ f.0.1, (f.0.2, (longer _ f.0.3, (f.0.4, (longer _ f.0.5, (f.1, (longer _ f.2.0, (f.2.1, (f.2.2, tt)))))))))))

left_long : (o : Option ℕ) → LeftFits o → IsLong (one_more o)
left_long None f = omega arith
left_long (Some n) f = f

back_long : (o : Option ℕ) → BackFits o → IsLong (or_zero o)
back_long None f = omega arith
back_long (Some n) f = f.1

what_long : (w : What) → WhatFits w → AllByRecursion IsLong (what_fields w)
what_long (what.Got link n) f = (longer _ f.0, note_long n f.1)
what_long (what.Sent link n) f = (longer _ f.0, note_long n f.1)
what_long (what.Took q) f = (longer _ f.0.0, (longer _ f.0.1, (longer _ f.0.2, (f.0.3, (f.0.4, (f.1, (kind_long q.kind, tt)))))))
what_long (what.Dropped q) f = (longer _ f.0.0, (longer _ f.0.1, (longer _ f.0.2, (f.0.3, (f.0.4, (f.1, (kind_long q.kind, tt)))))))
what_long (what.Queued instance disk) f = (longer _ f.0, (longer _ f.1, tt))
what_long (what.Unqueued instance) f = (longer _ f, tt)
what_long (what.Put t) f = (longer _ f.0, (longer _ f.1, (longer _ f.2, (f.3, (f.4, tt)))))
what_long (what.Gone instance) f = (longer _ f, tt)
what_long (what.ReadFailed w) f = (longer _ f.0, (longer _ f.1, (f.2, (longer _ f.3, (f.4, (longer _ f.5, tt))))))
what_long (what.Believed cub) f = (longer _ f, tt)
what_long what.Died f = tt
what_long what.Returned f = tt

order_long : (o : OrderKind) → OrderFits o → AllByRecursion IsLong (order_fields o)
order_long (Begin a) f = (longer _ f.0, (longer _ f.1, (f.2, (longer _ f.3, tt))))
order_long (Finish v) f = (longer _ f, tt)

pub fields_long : (i : Item) → ItemFits i → AllByRecursion IsLong (fields_of i)
fields_long item.Version f = (omega arith, tt)
fields_long (item.Plan p) f = recursion_from_All IsLong (params_fields p) f
fields_long (item.Beats n) f = (f, tt)
fields_long (item.Delay d) f = (f, tt)
fields_long (item.Offsets offsets) f = recursion_from_All IsLong offsets f
fields_long (item.Death cub beat left back) f = (longer _ f.0, (f.1, (left_long left f.2, (back_long back f.3, tt))))
fields_long (item.Fault x) f = (longer _ f.0, (f.1, (f.2, tt)))
fields_long (item.File x) f = (f.0, (longer _ f.1, tt))
fields_long (item.Order o) f = (f.0, order_long o.what f.1)
fields_long (item.Node n) f = (longer _ f, tt)
fields_long (item.Entry e) f = (f.0, (f.1, what_long e.what f.2))
fields_long (item.Digest d) f = tt
fields_long item.End f = tt

-- ---- from its word and its numbers

short_again : (n : ℕ) → IsShort n → n % 2 ^ 32 ≡ n
short_again n short = omega (arith, short)

kind_again : (k : Kind) → cond (eqb (kind_number k) 0) Own Backup ≡ k
kind_again Own = refl
kind_again Backup = refl

flag_again : (b : Bool) → cond (eqb (flag_number b) 0) false true ≡ b
flag_again false = refl
flag_again true = refl

left_again : (o : Option ℕ) → LeftFits o → cond (eqb (one_more o) 0) None (Some (one_more o - 1)) ≡ o
left_again None f = refl
left_again (Some n) f =
    let more : eqb (n + 1) 0 ≡ false = grind (arith, nat_tests) in
    let less : n + 1 - 1 ≡ n = omega arith in
    rw (more, less) refl

back_again : (o : Option ℕ) → BackFits o → cond (eqb (or_zero o) 0) None (Some (or_zero o)) ≡ o
back_again None f = refl
back_again (Some n) f =
    let some = f.0 in
    let more : eqb n 0 ≡ false = grind (arith, nat_tests, some) in
    rw more refl

note_again : (n : Note) → NoteFits n → (b r l : ℕ) → note_in (b ∷ r ∷ l ∷ note_fields n) ≡ n
unfolding note_in
note_again (note.ViewerState s) f b r l = rw (short_again _ f.0.0, short_again _ f.0.1, short_again _ f.0.2) refl
note_again (note.MirrorState s) f b r l = rw (short_again _ f.0.0, short_again _ f.0.1, short_again _ f.0.2, short_again _ f.2) refl
note_again (note.Start redundant ask) f b r l = rw (short_again _ f.0, short_again _ f.1, short_again _ f.3, flag_again redundant) refl
note_again (note.Deschedule instance None) f b r l = rw (short_again _ f.0) refl
note_again (note.Deschedule instance (Some tag)) f b r l = rw (short_again _ f.0, short_again _ f.1.0) refl
note_again (note.Kill instance slot visit) f b r l = rw (short_again _ f.0, short_again _ f.1) refl
note_again (note.Placed t) f b r l = rw (short_again _ f.0, short_again _ f.1, short_again _ f.2) refl
note_again note.Heartbeat f b r l = refl
note_again (note.Back from) f b r l = refl
note_again (note.ReadAsk w) f b r l = rw (short_again _ f.0, short_again _ f.1, short_again _ f.3, short_again _ f.5) refl
note_again (note.ReadDone w None) f b r l = rw (short_again _ f.0.0, short_again _ f.0.1, short_again _ f.0.3, short_again _ f.0.5) refl
note_again (note.ReadDone w (Some s)) f b r l = rw (short_again _ f.0.0, short_again _ f.0.1, short_again _ f.0.3, short_again _ f.0.5, short_again _ f.1.0) refl
note_again (note.Whole w sent s) f b r l = rw (short_again _ f.0.0, short_again _ f.0.1, short_again _ f.0.3, short_again _ f.0.5, short_again _ f.2.0) refl
note_again (note.Piece w sent s) f b r l = rw (short_again _ f.0.0, short_again _ f.0.1, short_again _ f.0.3, short_again _ f.0.5, short_again _ f.2.0) refl

what_again : (w : What) → WhatFits w → (b r : ℕ) → what_by (what_word w) (b ∷ r ∷ what_fields w) ≡ w
what_again (what.Got link n) f b r = rw (short_again link.0 f.0, note_again n f.1 b r link.0) refl
what_again (what.Sent link n) f b r = rw (short_again link.0 f.0, note_again n f.1 b r link.0) refl
what_again (what.Took q) f b r = rw (short_again _ f.0.0, short_again _ f.0.1, short_again _ f.0.2, kind_again q.kind) refl
what_again (what.Dropped q) f b r = rw (short_again _ f.0.0, short_again _ f.0.1, short_again _ f.0.2, kind_again q.kind) refl
what_again (what.Queued instance disk) f b r = rw (short_again _ f.0, short_again _ f.1) refl
what_again (what.Unqueued instance) f b r = rw (short_again _ f) refl
what_again (what.Put t) f b r = rw (short_again _ f.0, short_again _ f.1, short_again _ f.2) refl
what_again (what.Gone instance) f b r = rw (short_again _ f) refl
what_again (what.ReadFailed w) f b r = rw (short_again _ f.0, short_again _ f.1, short_again _ f.3, short_again _ f.5) refl
what_again (what.Believed cub) f b r = rw (short_again _ f) refl
what_again what.Died f b r = refl
what_again what.Returned f b r = refl

entry_again : (e : Entry) → ItemFits (item.Entry e) → entry_by (what_word e.what) (fields_of (item.Entry e)) ≡ e
unfolding entry_by
entry_again e f = rw (what_again e.what f.2 e.stamp.beat e.stamp.reading) refl

-- a word of an entry makes an entry
entry_word : (w : What) (line ns : List ℕ) → item_by (what_word w) line ns ≡ item.Entry (entry_by (what_word w) ns)
unfolding item_by
entry_word (what.Got link n) line ns = refl
entry_word (what.Sent link n) line ns = refl
entry_word (what.Took q) line ns = refl
entry_word (what.Dropped q) line ns = refl
entry_word (what.Queued instance disk) line ns = refl
entry_word (what.Unqueued instance) line ns = refl
entry_word (what.Put t) line ns = refl
entry_word (what.Gone instance) line ns = refl
entry_word (what.ReadFailed w) line ns = refl
entry_word (what.Believed cub) line ns = refl
entry_word what.Died line ns = refl
entry_word what.Returned line ns = refl

digest_again : (d : Digest32) → DigestFits d → digest_in (line_of (item.Digest d)) ≡ d
unfolding digest_in line_of
digest_again d f = rw (decode_sized-encode_lower d.0 32 f.0 f.1) refl

item_again : (i : Item) → ItemFits i → (line : List ℕ) → line ≡ line_of i → item_by (word_of i) line (fields_of i) ≡ i
unfolding item_by params_by
item_again item.Version f line is = refl
item_again (item.Plan p) f line is = refl
item_again (item.Beats n) f line is = refl
item_again (item.Delay (delay.Fixed n)) f line is = refl
item_again (item.Delay (delay.Drawn n)) f line is = refl
item_again (item.Offsets offsets) f line is = refl
item_again (item.Death cub beat left back) f line is =
    rw (short_again _ f.0, left_again left f.2, back_again back f.3) refl
item_again (item.Fault x) f line is = rw (short_again _ f.0) refl
item_again (item.File x) f line is = rw (short_again _ f.1) refl
item_again (item.Order o) f line is = order_again o.what f.1 where
  order_again : (k : OrderKind) → OrderFits k → item_by (order_word k) line (o.beat ∷ order_fields k) ≡ item.Order (record { beat = o.beat; what = k })
  order_again (Begin ask) g = rw (short_again _ g.0, short_again _ g.1, short_again _ g.3) refl
  order_again (Finish v) g = rw (short_again _ g) refl
item_again (item.Node n) f line is = rw (short_again _ f) refl
item_again (item.Entry e) f line is = entry_word e.what line _ ∙ ap (λ (x : Entry). item.Entry x) (entry_again e f)
item_again (item.Digest d) f line is = ap (λ (x : Digest32). item.Digest x) (ap digest_in is ∙ digest_again d f)
item_again item.End f line is = refl

-- ---- so a line that is an item's is read as the item

-- a line of numbers
numbered : (i : Item) → behind_word i ≡ spaced (fields_of i) → ItemFits i → item_in (line_of i) (numbers_in (line_of i)) ≡ i
unfolding line_of
numbered i behind f =
    rw (word_again (word_of i) (behind_word i), behind, behind_read (word_of i) (fields_of i) (fields_long i f))
    (item_again i f (letters (word_of i) ++ spaced (fields_of i)) (ap (λ (q : List ℕ). letters (word_of i) ++ q) (sym behind)))

-- the line of a digest
digest_word : (d : Digest32) → word_in (line_of (item.Digest d)) ≡ word.Digest
unfolding line_of
digest_word d = word_again word.Digest (behind_word (item.Digest d))

digest_line : (d : Digest32) → DigestFits d → (ns : List ℕ) → item_in (line_of (item.Digest d)) ns ≡ item.Digest d
unfolding item_by
digest_line d f ns = rw (digest_word d) (ap (λ (x : Digest32). item.Digest x) (digest_again d f))

any_again : (i : Item) → ItemFits i → item_in (line_of i) (numbers_in (line_of i)) ≡ i
any_again item.Version f = numbered item.Version refl f
any_again (item.Plan p) f = numbered (item.Plan p) refl f
any_again (item.Beats n) f = numbered (item.Beats n) refl f
any_again (item.Delay d) f = numbered (item.Delay d) refl f
any_again (item.Offsets offsets) f = numbered (item.Offsets offsets) refl f
any_again (item.Death cub beat left back) f = numbered (item.Death cub beat left back) refl f
any_again (item.Fault x) f = numbered (item.Fault x) refl f
any_again (item.File x) f = numbered (item.File x) refl f
any_again (item.Order o) f = numbered (item.Order o) refl f
any_again (item.Node n) f = numbered (item.Node n) refl f
any_again (item.Entry e) f = numbered (item.Entry e) refl f
any_again (item.Digest d) f = digest_line d f (numbers_in (line_of (item.Digest d)))
any_again item.End f = numbered item.End refl f

pub line_again : (i : Item) (line : List ℕ) → ItemFits i → line ≡ line_of i → item_in line (numbers_in line) ≡ i
line_again i line f is = rw is (any_again i f)
