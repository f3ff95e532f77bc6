-- Bytes cut at the first line feed, by where a search found it.
use Rattle.std.proofs.Common.{◌≡◌, ℕ, ◌+◌, ◌-◌, ◌<◌, ◌≤◌, true, eqb, List, [], ◌∷◌, ◌++◌, Some, refl, sym, ap, ◌∙◌, subst, arith, length, take, drop, get_or}
use Rattle.std.specs.List.{AllByRecursion}
use Rattle.std.proofs.lemmas.Bool.{eqb-true, eq-eqb}
use Rattle.std.proofs.lemmas.List.{get_or-take, drop_more, length-append, length-take-le, take-append-drop, take_rest}
use Rattle.std.proofs.lemmas.List.Elements.{All-from_get_or, recursion_from_All}
use Rattle.memchr.specs.Find.{Nowhere, NoneBefore, Passes, is_byte}
use Rattle.node_kit.specs.declared.journal.Entry.{Entry}
use Rattle.audit_text.specs.declared.item.Item.TheVariants as item
use Rattle.audit_text.specs.Fits.{ItemFits}
use Rattle.audit_text.specs.Lines.{line_of}
use Rattle.audit_text.proofs.Feeds.{line_free}
use Rattle.audit_read.specs.Begun.{HasNoFeed}
use Rattle.audit_read.specs.Cuts.{IsLineCut}

abbrev IsFeed : List ℕ → ℕ → Type 0
IsFeed bytes k = Passes (is_byte 10) bytes k

-- no byte of so many at the front is a line feed
front_free : (bytes : List ℕ) (k : ℕ) → k ≤ length bytes → Nowhere (IsFeed bytes) 0 k → HasNoFeed (take k bytes)
front_free bytes k within none =
    recursion_from_All (λ (b : ℕ). b ≡ 10 → ⊥) (take k bytes)
    (All-from_get_or (λ (b : ℕ). b ≡ 10 → ⊥) (take k bytes) 0 (λ i low is.
    let low_bytes : i < k = omega (arith, low, length-take-le k bytes within) in
    none i (omega arith) low_bytes (eq-eqb (get_or bytes i 0) 10 (sym (get_or-take k bytes i 0 low_bytes) ∙ is))))

pub no_feed_found : (bytes : List ℕ) → Nowhere (IsFeed bytes) 0 (length bytes) → HasNoFeed bytes
no_feed_found bytes none =
    recursion_from_All (λ (b : ℕ). b ≡ 10 → ⊥) bytes
    (All-from_get_or (λ (b : ℕ). b ≡ 10 → ⊥) bytes 0 (λ i low is. none i (omega arith) low (eq-eqb (get_or bytes i 0) 10 is)))

pub feed_found : (bytes : List ℕ) (k : ℕ) → NoneBefore (IsFeed bytes) 0 (length bytes) k → IsFeed bytes k
    → HasNoFeed (take k bytes) × (bytes ≡ take k bytes ++ 10 ∷ take (length bytes - (k + 1)) (drop (k + 1) bytes))
feed_found bytes k first is = (
  front_free bytes k (omega (arith, first.high)) first.before,
  sym (take-append-drop k bytes)
      ∙ ap (λ (q : List ℕ). take k bytes ++ q)
      (drop_more bytes k 0 first.high ∙ ap (λ (b : ℕ). b ∷ drop (k + 1) bytes) (eqb-true (get_or bytes k 0) 10 is)
      ∙ ap (λ (q : List ℕ). 10 ∷ q) (sym (take_rest bytes (k + 1)))),
)

-- bytes cut behind the line of an entry
front_of : (front rest : List ℕ) → take (length front) (front ++ rest) ≡ front
front_of [] rest = refl
front_of (b ∷ front) rest = ap (λ (q : List ℕ). b ∷ q) (front_of front rest)

pub cut_read : (bytes : List ℕ) (e : Entry) (behind : List ℕ) (k : ℕ) → bytes ≡ line_of (item.Entry e) ++ 10 ∷ behind → ItemFits (item.Entry e)
    → k ≡ length bytes - length behind - 1 → IsLineCut bytes (take k bytes) (Some e) behind
cut_read bytes e behind k is fits long =
    let line : List ℕ = line_of (item.Entry e) in
    let same : k ≡ length line = omega (arith, long, ap (λ (q : List ℕ). length q) is, length-append line (10 ∷ behind)) in
    let front : take k bytes ≡ line = ap (λ (q : List ℕ). take k q) is ∙ ap (λ (n : ℕ). take n (line ++ 10 ∷ behind)) same ∙ front_of line (10 ∷ behind) in
    record {
      free = subst HasNoFeed (sym front) (line_free (item.Entry e) fits);
      parts = is ∙ ap (λ (q : List ℕ). q ++ 10 ∷ behind) (sym front);
      says = (front, fits);
    }
