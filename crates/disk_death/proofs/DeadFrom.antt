-- From when on disks are dead, found from the last read fault to the first, and for one disk of a cub after another.
use Rattle.std.proofs.Common.{◌≡◌, ℕ, ◌+◌, ◌-◌, ◌*◌, ◌<◌, ◌≤◌, List, [], ◌∷◌, ◌++◌, length, drop, get_or, map, Option, None, sym, ap, ◌∙◌, arith}
use Rattle.std.specs.List.{range_with_len}
use Rattle.std.proofs.lemmas.List.{drop_all, drop_more}
use Rattle.slot_plan.specs.declared.params.Params.{Params}
use Rattle.node_kit.specs.declared.course.ReadFault.{ReadFault}
use Rattle.disk_death.specs.Deaths.{death_by_fault, death_of_disk, deaths_at}
use Rattle.disk_death.proofs.Walks.{row_on, map_map}

module _ (faults : List ReadFault) (beats disk : ℕ) where
  pub death_last : None ≡ death_of_disk (drop (length faults) faults) beats disk
  unfolding death_of_disk
  death_last = ap (λ (xs : List ReadFault). death_of_disk xs beats disk) (sym (drop_all (length faults) faults (omega arith)))

  -- a turn of the search: the fault before those that were looked at
  pub death_before : (i : ℕ) (or : ReadFault) (death result : Option ℕ) → 0 < i → i ≤ length faults → death ≡ death_of_disk (drop i faults) beats disk
      → result ≡ death_by_fault beats disk (get_or faults (i - 1) or) death → result ≡ death_of_disk (drop (i - 1) faults) beats disk
  unfolding death_of_disk
  death_before i or death result pos low e made =
      let on : i ≡ i - 1 + 1 = omega (arith, pos) in
      let parts : drop (i - 1) faults ≡ get_or faults (i - 1) or ∷ drop (i - 1 + 1) faults = drop_more faults (i - 1) or (omega (arith, pos, low)) in
      made ∙ (ap (λ (o : Option ℕ). death_by_fault beats disk (get_or faults (i - 1) or) o) e
      ∙ (ap (λ (n : ℕ). death_by_fault beats disk (get_or faults (i - 1) or) (death_of_disk (drop n faults) beats disk)) on
      ∙ ap (λ (xs : List ReadFault). death_of_disk xs beats disk) (sym parts)))

module _ (p : Params) (faults : List ReadFault) (beats cub : ℕ) where
  -- the death of the disk in a row of the cub's
  abbrev pub death_in_row : ℕ → Option ℕ
  death_in_row row = death_of_disk faults beats (cub + row * p.cubs)

  pub rows_on : (now after : List (Option ℕ)) (row : ℕ) (death : Option ℕ) (disk : ℕ) → now ≡ map death_in_row (range_with_len 0 row) → after ≡ now ++ death ∷ []
      → death ≡ death_of_disk faults beats disk → disk ≡ cub + row * p.cubs → after ≡ map death_in_row (range_with_len 0 (row + 1))
  rows_on now after row death disk e is one at =
      row_on death_in_row now after row death e is (one ∙ ap (λ (d : ℕ). death_of_disk faults beats d) at)

  pub rows_done : (now : List (Option ℕ)) (row : ℕ) → now ≡ map death_in_row (range_with_len 0 row) → row ≡ p.disks → now ≡ deaths_at p faults beats cub
  rows_done now row e all =
      e ∙ (ap (λ (n : ℕ). map death_in_row (range_with_len 0 n)) all
      ∙ map_map (λ (d : ℕ). death_of_disk faults beats d) (λ (r : ℕ). cub + r * p.cubs) (range_with_len 0 p.disks))
