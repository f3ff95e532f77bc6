-- The reads that a cub asks for in a tick: each is for a record of its own, and each such record is asked for once.
use Rattle.std.proofs.Common.{◌≡◌, ℕ, ◌+◌, ◌≤◌, List, [], ◌∷◌, ◌++◌, map, filter, Bool, true, false, cond, refl, sym, ap, subst, ◌∙◌, arith, ⊎_elim, inl, inr}
use Rattle.std.specs.List.{AllByRecursion, flat_map}
use Rattle.tiger_base.specs.declared.number.Stamp.{Stamp}
use Rattle.tiger_base.specs.declared.tenancy.PieceState.{PieceState}
use Rattle.tiger_base.specs.declared.tenancy.Tenancy.{Tenancy}
use Rattle.tiger_base.specs.declared.tenancy.Want.{Want}
use Rattle.tiger_base.specs.declared.message.Msg.{Msg}
use Rattle.tiger_base.specs.declared.message.Msg.TheVariants as msg
use Rattle.tiger_base.specs.Records.{want_of, want_of_piece, same_want}
use Rattle.slot_plan.specs.declared.params.Params.{Params}
use Rattle.slot_plan.specs.Times.{disk_of}
use Rattle.node_kit.specs.declared.outbox.Out.{Out}
use Rattle.node_kit.specs.declared.outbox.Out.TheVariants as out
use Rattle.node_kit.specs.Ways.{way_to_disk}
use Rattle.partial_view.specs.declared.line.Line.{Line}
use Rattle.node_kit.specs.Steps.{Deed}
use Rattle.cub_rules.specs.declared.store.Store.{Store}
use Rattle.cub_rules.specs.Ticks.{must_read, ask_outs, asked_of_disk, leaves_by, reading, asked_block}
use Rattle.cub_changes.proofs.Chains.{read_is}
use Rattle.lists.specs.Elements.{In}
use Rattle.lists.proofs.Elements.{chosen, from_filter, from_flat_map, in_cases}
use Rattle.lists.proofs.Each.{all_in}
use Rattle.proof_journals.proofs.Ones.{IsNone, IsOne, none_one, one_append}
use Rattle.proof_parts.proofs.Found.{one_want}
use Rattle.proof_facts.specs.Pieces.{piece, AsksFor}
use Rattle.proof_parcels.proofs.Apart.{AreApart, OtherKey, Differ, IsOnce, apart_filter}
use Rattle.cub_rules.specs.Comebacks.{serves_at}
use Rattle.slot_plan.specs.Keys.{due_of}
use Rattle.partial_view.specs.Lines.{key_of}

-- ---- lists

-- what elements that are apart give passes a test once, if what two of them give does not pass it both
one_flat : {X Y : Type 0} (R : X → X → Type 0) (test : Y → Bool) (f : X → List Y) (xs : List X) → AreApart R xs
    → ((x : X) → IsOne test (f x))
    → ((x y : X) (a b : Y) → In x xs → In y xs → R x y → In a (f x) → In b (f y) → test a ≡ true → test b ≡ true
    → ⊥) → IsOne test (flat_map f xs)
one_flat R test f [] apart each other = tt
one_flat {X} {Y} R test f (x ∷ xs) apart each other = one_append test (f x) (flat_map f xs) (each x)
    (one_flat R test f xs apart.1 each (λ y z a b i j. other y z a b (inr i) (inr j)))
    (λ a b i j t s. let r = from_flat_map f b xs j in other x r.0 a b (inl refl) (inr r.1) (apart.0 r.0 r.1) i r.2 t s)

-- one thing is one
pub one_alone : {X : Type 0} (test : X → Bool) (x : X) → IsOne test (x ∷ [])
one_alone test x = ((λ t y i s. i), tt)

pub one_if : {X : Type 0} (test : X → Bool) (b : Bool) (xs : List X) → IsOne test xs → IsOne test (cond b xs [])
one_if {X} test b xs one = chosen (λ (l : List X). IsOne test l) b xs [] (λ _. one) (λ _. tt)

one_by_one : {X Y : Type 0} (f : X → Y) (xs : List X) → flat_map (λ x. f x ∷ []) xs ≡ map f xs
one_by_one f [] = refl
one_by_one {X} {Y} f (x ∷ xs) = ap (λ (ys : List Y). f x ∷ ys) (one_by_one f xs)

-- ---- what lines and pieces give

-- one thing is wanted of each output that passes
abbrev pub IsFor : (Out Msg → Bool) → Want → Want → Out Msg → Type 0
IsFor test w v o = test o ≡ true → w ≡ v

-- What is put out for lines and then for pieces passes a test once, if what passes is for one want, and the pieces with one
-- want have one tenancy: a line is for a whole block, and a piece has a number.
pub one_of_records : (test : Out Msg → Bool) (w : Want) (some : List Line) (late : List PieceState) (middle : List (Out Msg))
    (f : Line → List (Out Msg)) (g : PieceState → List (Out Msg)) → AreApart OtherKey some → AreApart Differ late
    → ((x : Line) → IsOne test (f x)) → ((x : PieceState) → IsOne test (g x)) → IsNone test middle
    → ((x : Line) → AllByRecursion (IsFor test w (want_of x.rec)) (f x))
    → ((x : PieceState) → AllByRecursion (IsFor test w (want_of_piece x)) (g x))
    → ((x : PieceState) → In x late → 1 ≤ x.piece)
    → ((x y : PieceState) (a b : Out Msg) → In x late → In y late → In a (g x) → In b (g y)
    → y.visit ≡ x.visit → y.piece ≡ x.piece → y.tenancy.slot.0 ≡ x.tenancy.slot.0 → y.tenancy ≡ x.tenancy)
    → IsOne test (flat_map f some ++ (middle ++ flat_map g late))
one_of_records test w some late middle f g lines_apart pieces_apart one_line one_piece none of_line of_piece low one_tenancy =
    one_append test (flat_map f some) (middle ++ flat_map g late)
    (one_flat OtherKey test f some lines_apart one_line
    (λ x y a b i j apart k l t s.
    apart (ap (λ (z : Want). (z.slot, z.visit)) (sym (line_for x a k t) ∙ line_for y b l s))))
    (one_append test middle (flat_map g late) (none_one test middle none)
    (one_flat Differ test g late pieces_apart one_piece
    (λ x y a b i j differ k l t s.
    let both : want_of_piece y ≡ want_of_piece x = sym (piece_for y b l s) ∙ piece_for x a k t in
    let visits : y.visit ≡ x.visit = ap (λ (z : Want). z.visit) both in
    let numbers : y.piece ≡ x.piece = ap (λ (z : Want). z.piece) both in
    let same : y.tenancy ≡ x.tenancy = one_tenancy x y a b i j k l visits numbers (ap (λ (z : Want). z.slot.0) both) in
    differ (sym (ap (λ (z : Tenancy). piece z y.visit y.piece) same ∙ ap (λ (m : ℕ). piece x.tenancy m y.piece) visits
    ∙ ap (λ (m : ℕ). piece x.tenancy x.visit m) numbers))))
    (λ a b i j t s. none a i t))
    (λ a b i j t s. ⊎_elim
    (λ k. none b k s)
    (λ k.
    let r = from_flat_map f a some i in
    let m = from_flat_map g b late k in
    let number : m.0.piece ≡ 0 = ap (λ (z : Want). z.piece) (sym (piece_for m.0 b m.2 s) ∙ line_for r.0 a r.2 t) in
    let some_piece = low m.0 m.1 in
    absurd (omega arith))
    (in_cases b middle (flat_map g late) j))
  where
    line_for : (x : Line) (o : Out Msg) → In o (f x) → test o ≡ true → w ≡ want_of x.rec
    line_for x o i t = all_in (IsFor test w (want_of x.rec)) o (f x) (of_line x) i t

    piece_for : (x : PieceState) (o : Out Msg) → In o (g x) → test o ≡ true → w ≡ want_of_piece x
    piece_for x o i t = all_in (IsFor test w (want_of_piece x)) o (g x) (of_piece x) i t

-- ---- reads

-- an output asks for this want
abbrev pub asks : Want → Out Msg → Bool
asks w (out.Send link (msg.ReadAsk v)) = same_want w v
asks w other = false

module _ (p : Params) (stamp : Stamp) (h : Store) where
  -- one thing is asked for once, if for one piece of a visit there is one record
  pub ask_once : (w : Want) → IsOnce h → ((x : PieceState) → In x h.unasked.items → 1 ≤ x.piece)
      → ((t u : Tenancy) (n j : ℕ) → AsksFor p stamp h t n j → AsksFor p stamp h u n j → u.slot.0 ≡ t.slot.0 → u ≡ t)
      → IsOne (asks w) (reading p stamp h).outs
  ask_once w once low one_record =
      let soon : PieceState → Bool = leaves_by p (stamp.reading + p.read_lead) in
      let late : List PieceState = filter soon h.unasked.items in
      let line_ask : Line → Out Msg = λ x. out.Send (way_to_disk p (disk_of p x.rec.visit)) (msg.ReadAsk (want_of x.rec)) in
      subst (λ (d : Deed Msg Store). IsOne (asks w) d.outs) (sym (read_is p 0 stamp h))
      (subst (λ (os : List (Out Msg)). IsOne (asks w) (flat_map (ask_outs p stamp h.comeback) h.view.lines ++ os)) (one_by_one (asked_of_disk p) late)
      (one_of_records (asks w) w h.view.lines late [] (ask_outs p stamp h.comeback) (λ x. asked_of_disk p x ∷ []) once.lines_apart
      (apart_filter Differ soon h.unasked.items once.unasked_apart)
      (λ x. one_if (asks w) (must_read p stamp x) (asked_block p h.comeback x)
      (one_if (asks w) (serves_at h.comeback (due_of p (key_of x))) (line_ask x ∷ []) (one_alone (asks w) (line_ask x))))
      (λ x. one_alone (asks w) (asked_of_disk p x)) (λ o i t. i)
      (λ x.
      let Are : List (Out Msg) → Type 0 = AllByRecursion (IsFor (asks w) w (want_of x.rec)) in
      chosen Are (must_read p stamp x) (asked_block p h.comeback x) []
      (λ _. chosen Are (serves_at h.comeback (due_of p (key_of x))) (line_ask x ∷ []) []
      (λ _. (one_want w (want_of x.rec), tt)) (λ _. tt))
      (λ _. tt))
      (λ x. (one_want w (want_of_piece x), tt)) (λ x i. low x (from_filter soon x h.unasked.items i).0)
      (λ x y a b i j k l visits numbers slots.
      let f = from_filter soon x h.unasked.items i in
      let g = from_filter soon y h.unasked.items j in
      one_record x.tenancy y.tenancy x.visit x.piece (inr (low x f.0, f.0, f.1))
      (subst (λ (n : ℕ). AsksFor p stamp h y.tenancy n x.piece) visits
      (subst (λ (m : ℕ). AsksFor p stamp h y.tenancy y.visit m) numbers (inr (low y g.0, g.0, g.1)))) slots)))
