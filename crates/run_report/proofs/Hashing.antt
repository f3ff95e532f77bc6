-- Hashes of spans by the states behind their fronts.
use Rattle.std.proofs.Common.{◌≡◌, ℕ, zero, suc, ◌+◌, ◌-◌, ◌<◌, List, [], ◌∷◌, ◌++◌, ◌⊎◌, inl, inr, ⊎_elim, Bool, true, false, ◌&&◌, ◌==◌, Some, None, length, take, map, get_or, refl, sym, ap, ◌∙◌, subst, arith}
use Rattle.std.specs.Prelude.{slice_get, if◌then◌else◌, IfOk, Result}
use Rattle.std.specs.List.{filter}
use Rattle.std.proofs.lemmas.Bool.{eqb-true, false≢true}
use Rattle.std.proofs.lemmas.List.{take_more, take_all, take-map, length-map, get_or-map, map-append, append-nil, flat_map_more}
use Rattle.std.proofs.lemmas.List.Elements.{filter-append}
use Rattle.std.proofs.lemmas.Option.{none-some, slice_get-get_or}
use Rattle.sha2.specs.Sha256.{sha256}
use Rattle.sha2.specs.Hashers.{Holds256}
use Rattle.sha2.specs.declared.Sha256.{Sha256}
use Rattle.tiger_base.specs.declared.part.Span.{Span}
use Rattle.node_kit.specs.declared.course.Digest32.{Digest32}
use Rattle.run_report.specs.declared.digest.Front.{Front}
use Rattle.run_report.specs.declared.outcome.BlockOut.{BlockOut}
use Rattle.run_report.specs.declared.outcome.Outcome.{Outcome}
use Rattle.run_report.specs.Digests.{is_got, span_bytes, got_bytes, digest_of, digests_of, got_spans, spans_bytes, digest_of_spans, Hashed, spans_of, AreFronts}

and_left : (a b : Bool) → (a && b) ≡ true → a ≡ true
and_left true b e = refl
and_left false b e = absurd (false≢true e)

and_right : (a b : Bool) → (a && b) ≡ true → b ≡ true
and_right true b e = e
and_right false b e = absurd (false≢true e)

same-span : (a b : Span) → (a.file.0 == b.file.0 && (a.from == b.from && a.len == b.len)) ≡ true → a ≡ b
same-span a b e =
    let back = and_right (a.file.0 == b.file.0) (a.from == b.from && a.len == b.len) e in
    let file = eqb-true a.file.0 b.file.0 (and_left (a.file.0 == b.file.0) (a.from == b.from && a.len == b.len) e) in
    let from = eqb-true a.from b.from (and_left (a.from == b.from) (a.len == b.len) back) in
    let len = eqb-true a.len b.len (and_right (a.from == b.from) (a.len == b.len) back) in
    ap (λ (x : ℕ). record { file = record { 0 = x }; from = a.from; len = a.len }) file
    ∙ (ap (λ (x : ℕ). record { file = b.file; from = x; len = a.len }) from
    ∙ ap (λ (x : ℕ). record { file = b.file; from = b.from; len = x }) len)

-- ---- the first fronts

below : (fs : List Front) (n i : ℕ) (f : Front) → slice_get (take n fs) i ≡ Some f
    → (slice_get fs i ≡ Some f) × (take (suc i) (spans_of (take n fs)) ≡ take (suc i) (spans_of fs))
below [] zero i f e = absurd (none-some f e)
below [] (suc n) i f e = absurd (none-some f e)
below (x ∷ fs) zero i f e = absurd (none-some f e)
below (x ∷ fs) (suc n) zero f e = (e, refl)
below (x ∷ fs) (suc n) (suc i) f e =
    let h = below fs n i f e in (h.0, ap (λ (l : List Span). x.span ∷ l) h.1)

pub fronts-cut : (library : List (List ℕ)) (fs new : List Front) (n : ℕ) → new ≡ take n fs
    → AreFronts library fs → AreFronts library new
fronts-cut library fs new n cut are = subst (AreFronts library) (sym cut)
    (λ i f e. let h = below fs n i f e in
    subst (λ (s : List Span). Holds256 f.state (spans_bytes library s)) (sym h.1) (are i f h.0))

pub spans-cut : (fs new : List Front) (n : ℕ) → new ≡ take n fs → spans_of new ≡ take n (spans_of fs)
spans-cut fs new n cut = ap spans_of cut ∙ sym (take-map (λ (f : Front). f.span) n fs)

-- ---- one more

at-push : (fs : List Front) (g : Front) (i : ℕ) (f : Front) → slice_get (fs ++ g ∷ []) i ≡ Some f
    → ((slice_get fs i ≡ Some f) × (take (suc i) (spans_of (fs ++ g ∷ [])) ≡ take (suc i) (spans_of fs)))
    ⊎ ((g ≡ f) × (take (suc i) (spans_of (fs ++ g ∷ [])) ≡ spans_of fs ++ g.span ∷ []))
at-push [] g zero f e = inr (cc, refl)
at-push [] g (suc i) f e = absurd (none-some f e)
at-push (x ∷ fs) g zero f e = inl (e, refl)
at-push (x ∷ fs) g (suc i) f e =
    ⊎_elim (λ h. inl (h.0, ap (λ (l : List Span). x.span ∷ l) h.1))
    (λ h. inr (h.0, ap (λ (l : List Span). x.span ∷ l) h.1)) (at-push fs g i f e)

bytes-more : (library : List (List ℕ)) (ss : List Span) (s : Span)
    → spans_bytes library (ss ++ s ∷ []) ≡ spans_bytes library ss ++ span_bytes library s
unfolding spans_bytes
bytes-more library ss s = sym (flat_map_more (span_bytes library) [] ss s)

pub fronts-push : (h : Hashed) (library : List (List ℕ)) (fs new : List Front) (g : Front) (bytes : List ℕ)
    → ◌≡◌ {A = Hashed} (record { library = library; spans = spans_of fs }) h → new ≡ fs ++ g ∷ []
    → bytes ≡ span_bytes library g.span → Holds256 g.state (spans_bytes h.library h.spans ++ bytes)
    → AreFronts library fs → AreFronts library new
fronts-push h library fs new g bytes seen pushed read holds are = subst (AreFronts library) (sym pushed)
    (λ i f e. ⊎_elim
    (λ k. subst (λ (s : List Span). Holds256 f.state (spans_bytes library s)) (sym k.1) (are i f k.0))
    (λ k. subst (λ (s : List Span). Holds256 f.state (spans_bytes library s)) (sym k.1)
    (subst (λ (q : Front). Holds256 q.state (spans_bytes library (spans_of fs ++ g.span ∷ []))) k.0 whole))
    (at-push fs g i f e))
  where
    whole : Holds256 g.state (spans_bytes library (spans_of fs ++ g.span ∷ []))
    whole =
        subst (Holds256 g.state) (sym (bytes-more library (spans_of fs) g.span))
        (subst (λ (b : List ℕ). Holds256 g.state (spans_bytes library (spans_of fs) ++ b)) read
        (subst (λ (q : Hashed). Holds256 g.state (spans_bytes q.library q.spans ++ bytes)) (sym seen) holds))

-- ---- all of them

pub last-state : (library : List (List ℕ)) (fs items : List Front) (f : Front) (s : Sha256) → items ≡ fs
    → Some f ≡ slice_get items (length items - 1) → s ≡ f.state → AreFronts library fs
    → Holds256 s (spans_bytes library (spans_of fs))
last-state library fs items f s same last copied are =
    let long = length-map fs (λ (q : Front). q.span) in
    let there : slice_get fs (length fs - 1) ≡ Some f =
    subst (λ (l : List Front). slice_get l (length l - 1) ≡ Some f) same (sym last) in
    subst (λ (q : Sha256). Holds256 q (spans_bytes library (spans_of fs))) (sym copied)
    (subst (λ (l : List Span). Holds256 f.state (spans_bytes library l))
    (take_all (suc (length fs - 1)) (spans_of fs) (omega (arith, long))) (are (length fs - 1) f there))

pub no-state : (library : List (List ℕ)) (fs items : List Front) (s : Sha256) → items ≡ fs
    → None ≡ slice_get items (length items - 1) → Holds256 s [] → Holds256 s (spans_bytes library (spans_of fs))
unfolding spans_bytes
no-state library [] items s same last empty = empty
no-state library (f ∷ fs) items s same last empty =
    let none : None ≡ slice_get (f ∷ fs) (length (f ∷ fs) - 1) =
    subst (λ (l : List Front). None ≡ slice_get l (length l - 1)) same last in
    absurd (none-some _ (none ∙ slice_get-get_or (f ∷ fs) (length (f ∷ fs) - 1) f (omega arith)))

pub digest-is : (library : List (List ℕ)) (spans : List Span) (bytes : List ℕ)
    → bytes ≡ sha256 (spans_bytes library spans)
    → ◌≡◌ {A = Digest32} (record { 0 = bytes }) (digest_of_spans library spans)
unfolding digest_of_spans
digest-is library spans bytes e = ap (λ (b : List ℕ). record { 0 = b }) e

pub is-reached : (fs : List Front) (n : ℕ) (f : Front) (s : Span) → n < length fs → f ≡ get_or fs n f
    → (f.span.file.0 == s.file.0 && (f.span.from == s.from && f.span.len == s.len)) ≡ true
    → take (n + 1) (spans_of fs) ≡ take n (spans_of fs) ++ s ∷ []
is-reached fs n f s lt is same =
    let g : Front → Span = λ q. q.span in
    take_more (spans_of fs) n s (omega (arith, lt, length-map fs g))
    ∙ ap (λ (x : Span). take n (spans_of fs) ++ x ∷ [])
    (get_or-map g fs n f s lt ∙ (sym (ap g is) ∙ same-span f.span s same))

-- ---- the blocks of a start

got-next : (xs : List BlockOut) (i : ℕ) (b : BlockOut) → i < length xs → b ≡ get_or xs i b
    → got_spans (take (i + 1) xs) ≡ got_spans (take i xs) ++ got_spans (b ∷ [])
unfolding got_spans
got-next xs i b lt is =
    let f : BlockOut → Span = λ q. q.span in
    let p : BlockOut → Bool = λ q. is_got q.kind in
    ap (λ (l : List BlockOut). map f (filter p l)) (take_more xs i b lt ∙ ap (λ (q : BlockOut). take i xs ++ q ∷ []) (sym is))
    ∙ (ap (map f) (filter-append p (take i xs) (b ∷ [])) ∙ map-append f (filter p (take i xs)) (filter p (b ∷ [])))

one-got : (b : BlockOut) (t : Bool) → is_got b.kind ≡ t → got_spans (b ∷ []) ≡ (if t then b.span ∷ [] else [])
unfolding got_spans
one-got b true e = rw e refl
one-got b false e = rw e refl

pub got-more : (xs ys : List BlockOut) (i : ℕ) (b : BlockOut) (front : List Span) → ys ≡ xs → i < length ys
    → b ≡ get_or ys i b → is_got b.kind ≡ true → front ≡ got_spans (take i xs) → front ++ b.span ∷ [] ≡ got_spans (take (i + 1) xs)
got-more xs ys i b front same lt at got before =
    let low : i < length xs = omega (arith, lt, ap length same) in
    let is : b ≡ get_or xs i b = at ∙ ap (λ (l : List BlockOut). get_or l i b) same in
    ap (λ (l : List Span). l ++ b.span ∷ []) before
    ∙ (ap (λ (l : List Span). got_spans (take i xs) ++ l) (sym (one-got b true got)) ∙ sym (got-next xs i b low is))

pub got-same : (xs ys : List BlockOut) (i : ℕ) (b : BlockOut) (front : List Span) → ys ≡ xs → i < length ys
    → b ≡ get_or ys i b → is_got b.kind ≡ false → front ≡ got_spans (take i xs) → front ≡ got_spans (take (i + 1) xs)
got-same xs ys i b front same lt at missed before =
    let low : i < length xs = omega (arith, lt, ap length same) in
    let is : b ≡ get_or xs i b = at ∙ ap (λ (l : List BlockOut). get_or l i b) same in
    before ∙ (sym (append-nil (got_spans (take i xs)))
    ∙ (ap (λ (l : List Span). got_spans (take i xs) ++ l) (sym (one-got b false missed)) ∙ sym (got-next xs i b low is)))

bytes-of-got : (library : List (List ℕ)) (bs : List BlockOut) → spans_bytes library (got_spans bs) ≡ got_bytes library bs
unfolding spans_bytes got_spans got_bytes
bytes-of-got library [] = refl
bytes-of-got library (b ∷ bs) = by_test (is_got b.kind) refl (bytes-of-got library bs)
  where
    by_test : (t : Bool) → is_got b.kind ≡ t → spans_bytes library (got_spans bs) ≡ got_bytes library bs
        → spans_bytes library (got_spans (b ∷ bs)) ≡ got_bytes library (b ∷ bs)
    by_test true e rest = rw e (ap (λ (l : List ℕ). span_bytes library b.span ++ l) rest)
    by_test false e rest = rw e rest

pub start-digest : {E : Type 0} (h : Hashed) (library : List (List ℕ)) (o : Outcome) (r : Result Digest32 E)
    → h.library ≡ library → h.spans ≡ got_spans o.blocks
    → IfOk r (λ d. d ≡ digest_of_spans h.library h.spans) → IfOk r (λ d. d ≡ digest_of library o)
unfolding digest_of digest_of_spans
start-digest h library o r same spans is =
    subst (λ (x : Digest32). IfOk r (λ d. d ≡ x))
    (ap (λ (l : List (List ℕ)). digest_of_spans l h.spans) same
    ∙ (ap (digest_of_spans library) spans
    ∙ ap (λ (b : List ℕ). record { 0 = sha256 b }) (bytes-of-got library o.blocks))) is

pub wanted-there : (library : List (List ℕ)) (os : List Outcome) (p : ℕ) (o : Outcome) (d : Digest32)
    → p < length os → o ≡ get_or os p o → d ≡ digest_of library o → slice_get (digests_of library os) p ≡ Some d
unfolding digests_of
wanted-there library os p o d lt is hashed =
    let f = digest_of library in
    slice_get-get_or (map f os) p d (omega (arith, lt, length-map os f))
    ∙ ap (λ (x : Digest32). Some x) (get_or-map f os p o d lt ∙ (ap f (sym is) ∙ sym hashed))

pub as-many : (library : List (List ℕ)) (os : List Outcome) → length (digests_of library os) ≡ length os
unfolding digests_of
as-many library os = length-map os (digest_of library)
