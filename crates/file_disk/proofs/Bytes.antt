-- Bytes that were put over others.
use Rattle.std.proofs.Common.{◌≡◌, ℕ, ◌+◌, ◌-◌, ◌<◌, ◌≤◌, ◌⊎◌, inl, inr, List, ◌++◌, length, take, drop, replicate, get_or, ap, sym, ◌∙◌, arith}
use Rattle.std.proofs.lemmas.Bool.{cases_lt}
use Rattle.std.proofs.lemmas.List.{length-append, length-replicate, length-take-le, get_or_past, get_or-replicate, get_or_append_left, get_or-append-add, get_or-take, get_or-drop}
use Rattle.file_disk.specs.Memory.{padded, overwritten}

abbrev zeros : ℕ → List ℕ
zeros n = replicate n 0

length-zeros : (n : ℕ) → length (zeros n) ≡ n
length-zeros n = length-replicate {A = ℕ} n 0

zeros-at : (n i : ℕ) → get_or (zeros n) i 0 ≡ 0
zeros-at n i = elim (cases_lt i n) [
  | inl there ↦ get_or-replicate {A = ℕ} n i 0 0 there
  | inr past ↦ get_or_past (zeros n) i 0 (omega (arith, length-zeros n))
]

-- a list reaches at least as far as it is padded to
pub length-padded : (told : List ℕ) (len : ℕ) → len ≤ length (padded told len)
length-padded told len =
    let zeros_len = length-zeros (len - length told) in
    let whole = length-append told (zeros (len - length told)) in
    omega (arith, zeros_len, whole)

-- the zeros behind it are those that it was read with
pub padded-reads : (told : List ℕ) (len i : ℕ) → get_or (padded told len) i 0 ≡ get_or told i 0
padded-reads told len i =
    let more = zeros (len - length told) in
    elim (cases_lt i (length told)) [
      | inl inside ↦ get_or_append_left told more 0 i inside
      | inr behind ↦
          let k = i - length told in
          let place : i ≡ length told + k = omega arith in
          ap (λ (n : ℕ). get_or (told ++ more) n 0) place
          ∙ get_or-append-add told more k 0
          ∙ zeros-at (len - length told) k
          ∙ sym (get_or_past told i 0 behind)
    ]

-- what stands before the bytes
length-front : (told : List ℕ) (at len : ℕ) → length (take at (padded told (at + len))) ≡ at
length-front told at len =
    length-take-le at (padded told (at + len)) (omega (arith, length-padded told (at + len)))

-- the bytes stand where they were put
pub overwritten-there : (told : List ℕ) (at : ℕ) (bytes : List ℕ) (i : ℕ) → i < length bytes
    → get_or (overwritten told at bytes) (at + i) 0 ≡ get_or bytes i 0
overwritten-there told at bytes i h =
    let front = take at (padded told (at + length bytes)) in
    let tail = drop (at + length bytes) told in
    ap (λ (n : ℕ). get_or (front ++ (bytes ++ tail)) (n + i) 0) (sym (length-front told at (length bytes)))
    ∙ get_or-append-add front (bytes ++ tail) i 0
    ∙ get_or_append_left bytes tail 0 i h

-- before them nothing changed
overwritten-before : (told : List ℕ) (at : ℕ) (bytes : List ℕ) (i : ℕ) → i < at
    → get_or (overwritten told at bytes) i 0 ≡ get_or told i 0
overwritten-before told at bytes i h =
    let end = at + length bytes in
    let front = take at (padded told end) in
    let short = length-front told at (length bytes) in
    get_or_append_left front (bytes ++ drop end told) 0 i (omega (arith, short))
    ∙ get_or-take at (padded told end) i 0 h
    ∙ padded-reads told end i

-- nor behind them
overwritten-behind : (told : List ℕ) (at : ℕ) (bytes : List ℕ) (k : ℕ)
    → get_or (overwritten told at bytes) (at + (length bytes + k)) 0 ≡ get_or told (at + length bytes + k) 0
overwritten-behind told at bytes k =
    let end = at + length bytes in
    let front = take at (padded told end) in
    let tail = drop end told in
    ap (λ (n : ℕ). get_or (front ++ (bytes ++ tail)) (n + (length bytes + k)) 0) (sym (length-front told at (length bytes)))
    ∙ get_or-append-add front (bytes ++ tail) (length bytes + k) 0
    ∙ get_or-append-add bytes tail k 0
    ∙ get_or-drop end told k 0

pub overwritten-outside : (told : List ℕ) (at : ℕ) (bytes : List ℕ) (i : ℕ) → (i < at) ⊎ (at + length bytes ≤ i)
    → get_or (overwritten told at bytes) i 0 ≡ get_or told i 0
overwritten-outside told at bytes i (inl before) = overwritten-before told at bytes i before
overwritten-outside told at bytes i (inr behind) =
    let k = i - (at + length bytes) in
    let there : i ≡ at + (length bytes + k) = omega arith in
    let again : at + length bytes + k ≡ i = omega arith in
    ap (λ (n : ℕ). get_or (overwritten told at bytes) n 0) there
    ∙ overwritten-behind told at bytes k
    ∙ ap (λ (n : ℕ). get_or told n 0) again
