-- What a log has of each kind of entry, one entry after another.
use Rattle.std.proofs.Common.{◌≡◌, ℕ, zero, suc, ◌+◌, ◌<◌, ◌≤◌, Bool, true, false, cond, List, [], ◌∷◌, ◌++◌, length, take, filter, refl, sym, ap, subst, ◌∙◌, arith, length-append, ⊎_elim}
use Rattle.std.specs.Prelude.{slice_index_or, if◌then◌else◌}
use Rattle.std.proofs.lemmas.Bool.{cases_Bool}
use Rattle.std.proofs.lemmas.List.Elements.{filter-append}
use Rattle.run_facts.specs.Commanded.{is_gone}
use Rattle.run_facts.specs.Order.{Noted}
use Rattle.run_facts.specs.Timed.{is_died}
use Rattle.audit_frame.specs.Lines.{noted_line, told_by}
use Rattle.audit_frame.specs.declared.lines.Line.{Line}
use Rattle.audit_frame.proofs.Deciding.{line_more, all_lines}
use Rattle.audit_verdict.specs.Counting.{AreCountsIn, gets_piece, gets_whole, is_any_put, is_viewed, passing}
use Rattle.audit_verdict.specs.declared.counts.EntryCounts.{EntryCounts}

one_more : (test : Noted → Bool) (log : List Noted) (x : Noted) (old new : ℕ) → new ≡ old + (if test x then 1 else 0)
    → old ≡ passing test log → new ≡ passing test (log ++ x ∷ [])
one_more test log x old new is h =
    is ∙ ap (λ (n : ℕ). n + (if test x then 1 else 0)) h ∙ ap (λ (n : ℕ). passing test log + n) (last (test x))
    ∙ sym (length-append (filter test log) (filter test (x ∷ []))) ∙ ap length (sym (filter-append test log (x ∷ [])))
  where
    last : (b : Bool) → (if b then 1 else 0) ≡ length (cond b (x ∷ []) [])
    last true = refl
    last false = refl

-- how the counts of one entry more come of those before it
pub record IsOneMore (viewers : ℕ) (x : Noted) (old new : EntryCounts) : Type 0 where
  pub all : new.all ≡ old.all + 1
  pub puts : new.puts ≡ old.puts + (if is_any_put x.entry.what then 1 else 0)
  pub stops : new.stops ≡ old.stops + (if is_gone x.entry.what then 1 else 0)
  pub deaths : new.deaths ≡ old.deaths + (if is_died x.entry.what then 1 else 0)
  pub blocks : new.blocks ≡ old.blocks + (if is_viewed viewers gets_whole x then 1 else 0)
  pub pieces : new.pieces ≡ old.pieces + (if is_viewed viewers gets_piece x then 1 else 0)

pub counts_more : (viewers : ℕ) (log : List Noted) (x : Noted) (old new : EntryCounts) → IsOneMore viewers x old new
    → AreCountsIn viewers log old → AreCountsIn viewers (log ++ x ∷ []) new
counts_more viewers log x old new m h = record {
  all = m.all ∙ ap (λ (n : ℕ). n + 1) h.all ∙ sym (length-append log (x ∷ []));
  puts = one_more (λ y. is_any_put y.entry.what) log x old.puts new.puts m.puts h.puts;
  stops = one_more (λ y. is_gone y.entry.what) log x old.stops new.stops m.stops h.stops;
  deaths = one_more (λ y. is_died y.entry.what) log x old.deaths new.deaths m.deaths h.deaths;
  blocks = one_more (is_viewed viewers gets_whole) log x old.blocks new.blocks m.blocks h.blocks;
  pieces = one_more (is_viewed viewers gets_piece) log x old.pieces new.pieces m.pieces h.pieces;
}

-- the same by the tests of the entry
pub counts_by : (viewers : ℕ) (log : List Noted) (x : Noted) (old : EntryCounts) (put stop death block piece : Bool) (puts stops deaths blocks pieces : ℕ)
    → put ≡ is_any_put x.entry.what → stop ≡ is_gone x.entry.what → death ≡ is_died x.entry.what → block ≡ is_viewed viewers gets_whole x
    → piece ≡ is_viewed viewers gets_piece x → puts ≡ (if put then 1 else 0) → stops ≡ (if stop then 1 else 0)
    → deaths ≡ (if death then 1 else 0) → blocks ≡ (if block then 1 else 0) → pieces ≡ (if piece then 1 else 0)
    → AreCountsIn viewers log old
    → AreCountsIn viewers (log ++ x ∷ []) (record {
      all = old.all + 1;
      puts = old.puts + puts;
      stops = old.stops + stops;
      deaths = old.deaths + deaths;
      blocks = old.blocks + blocks;
      pieces = old.pieces + pieces;
    })
counts_by viewers log x old put stop death block piece puts stops deaths blocks pieces a b c d e pa pb pc pd pe h =
    counts_more viewers log x old _ (record {
      all = refl;
      puts = both old.puts put (is_any_put x.entry.what) puts pa a;
      stops = both old.stops stop (is_gone x.entry.what) stops pb b;
      deaths = both old.deaths death (is_died x.entry.what) deaths pc c;
      blocks = both old.blocks block (is_viewed viewers gets_whole x) blocks pd d;
      pieces = both old.pieces piece (is_viewed viewers gets_piece x) pieces pe e;
    }) h
  where
    both : (n : ℕ) (t u : Bool) (m : ℕ) → m ≡ (if t then 1 else 0) → t ≡ u → n + m ≡ n + (if u then 1 else 0)
    both n t u m is same = ap (λ (k : ℕ). n + k) (is ∙ ap (λ (v : Bool). if v then 1 else 0) same)

-- ---- along lines

pub line_counted : (viewers : ℕ) (lines : List Line) (i : ℕ) (x : Line) (new : EntryCounts) → i < length lines
    → ((d : Line) → slice_index_or lines i d ≡ x) → AreCountsIn viewers (take i (told_by lines) ++ noted_line x ∷ []) new
    → AreCountsIn viewers (take (i + 1) (told_by lines)) new
line_counted viewers lines i x new low is h = subst (λ (log : List Noted). AreCountsIn viewers log new) (sym (line_more lines i x low is)) h

pub all_counted : (viewers : ℕ) (lines : List Line) (i : ℕ) (c : EntryCounts) → length lines ≤ i
    → AreCountsIn viewers (take i (told_by lines)) c → AreCountsIn viewers (told_by lines) c
all_counted viewers lines i c over h = subst (λ (log : List Noted). AreCountsIn viewers log c) (all_lines lines i over) h

-- ---- room

some_pass : (test : Noted → Bool) (log : List Noted) → passing test log ≤ length log
some_pass test [] = omega arith
some_pass test (x ∷ xs) = ⊎_elim
    (λ (t : test x ≡ true). let rest = some_pass test xs in rw t (omega (arith, rest)))
    (λ (f : test x ≡ false). let rest = some_pass test xs in rw f (omega (arith, rest)))
    (cases_Bool (test x))

few_taken : {X : Type 0} (i : ℕ) (xs : List X) → length (take i xs) ≤ i
few_taken zero xs = omega arith
few_taken (suc i) [] = omega arith
few_taken (suc i) (x ∷ xs) = let rest = few_taken i xs in omega (arith, rest)

-- no more pass a test than there are entries so far
few_pass : (test : Noted → Bool) (log : List Noted) (i c : ℕ) → length log ≤ i → c ≡ passing test log → c < i + 1
few_pass test log i c few is = let some = some_pass test log in omega (arith, few, is, some)

-- so each count is below the number of the next entry
pub record AreBelow (next : ℕ) (c : EntryCounts) : Type 0 where
  pub all : c.all < next
  pub puts : c.puts < next
  pub stops : c.stops < next
  pub deaths : c.deaths < next
  pub blocks : c.blocks < next
  pub pieces : c.pieces < next

pub are_below : (viewers : ℕ) (lines : List Line) (i : ℕ) (c : EntryCounts) → AreCountsIn viewers (take i (told_by lines)) c → AreBelow (i + 1) c
are_below viewers lines i c h =
    let log = take i (told_by lines) in
    let few : length log ≤ i = few_taken i (told_by lines) in
    let all : c.all < i + 1 = let is = h.all in omega (arith, few, is) in
    record {
      all = all;
      puts = few_pass (λ y. is_any_put y.entry.what) log i c.puts few h.puts;
      stops = few_pass (λ y. is_gone y.entry.what) log i c.stops few h.stops;
      deaths = few_pass (λ y. is_died y.entry.what) log i c.deaths few h.deaths;
      blocks = few_pass (is_viewed viewers gets_whole) log i c.blocks few h.blocks;
      pieces = few_pass (is_viewed viewers gets_piece) log i c.pieces few h.pieces;
    }
