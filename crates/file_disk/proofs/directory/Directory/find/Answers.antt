use Rattle.std.proofs.Common.{◌≡◌, ◌+◌, ◌≤◌, List, None, nat_lt, rules, sym, ap, ◌∙◌, subst, option_and_then}
use Rattle.std.specs.List.{AllByRecursion}
use Rattle.std.proofs.lemmas.List.Sorted.{IsPartitionPoint-from_clause, IsPartitionedBy-ltb}
use Rattle.file_disk.specs.Devices.{last_end}
use Rattle.file_disk.specs.Extents.{rank, Rise, extent_names, above_ranks}
use Rattle.file_disk.specs.declared.directory.Extent.{Extent}
use Rattle.file_disk.proofs.Finding.{rise-ordered, if_named, find-value, find-end}
use Rattle.file_disk.proofs.directory.Directory.find.Goals as goal

-- what stands where the names cease to be before the wanted one
pub returns-in-Some : goal.returns-in-Some
returns-in-Some c =
    let es = c.self.inside.extents.items in
    let name = c.args.name in
    let xs = c.as_slice-extents.result.now in
    let same : xs ≡ es = c.as_slice-extents.ensures.value in
    let rise = subst (λ (ys : List Extent). Rise 0 (extent_names ys) above_ranks) (sym same) c.self.invariant.order in
    let ends = subst (λ (ys : List Extent). AllByRecursion (λ (e : Extent). e.at + e.len ≤ last_end) ys) (sym same) c.self.invariant.ends in
    let point = IsPartitionPoint-from_clause (λ (e : Extent). nat_lt (rank e.name) (rank name)) xs c.partition_point-place.result c.partition_point-place.ensures.partitioned
    (IsPartitionedBy-ltb (λ (e : Extent). rank e.name) xs (rank name) (rise-ordered xs 0 above_ranks rise)) (λ a r q k. search rules) in
    let is = c.only_named.ensures ∙ ap (option_and_then (if_named name)) (sym c.in-Some.is) in
    record {
      value = find-value xs c.args.self.now name c.partition_point-place.result c.extent_at.result c.only_named.result (same ∙ c.self.view_is) rise point.0 point.1 c.extent_at.ensures is;
      end = find-end xs name c.partition_point-place.result c.extent_at.result c.only_named.result ends c.extent_at.ensures is;
    }

-- and nothing stands there
pub returns-in-None : goal.returns-in-None
returns-in-None c =
    let es = c.self.inside.extents.items in
    let name = c.args.name in
    let xs = c.as_slice-extents.result.now in
    let same : xs ≡ es = c.as_slice-extents.ensures.value in
    let rise = subst (λ (ys : List Extent). Rise 0 (extent_names ys) above_ranks) (sym same) c.self.invariant.order in
    let ends = subst (λ (ys : List Extent). AllByRecursion (λ (e : Extent). e.at + e.len ≤ last_end) ys) (sym same) c.self.invariant.ends in
    let point = IsPartitionPoint-from_clause (λ (e : Extent). nat_lt (rank e.name) (rank name)) xs c.partition_point-place.result c.partition_point-place.ensures.partitioned
    (IsPartitionedBy-ltb (λ (e : Extent). rank e.name) xs (rank name) (rise-ordered xs 0 above_ranks rise)) (λ a r q k. search rules) in
    let is = ap (option_and_then (if_named name)) (sym c.in-None.is) in
    record {
      value = find-value xs c.args.self.now name c.partition_point-place.result c.extent_at.result None (same ∙ c.self.view_is) rise point.0 point.1 c.extent_at.ensures is;
      end = tt;
    }
