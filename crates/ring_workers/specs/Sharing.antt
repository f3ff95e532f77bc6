-- In which share each node is, and in which order the members of a share have their turns.
use Rattle.std.specs.Prelude.{ℕ, zero, suc, ◌+◌, ◌-◌, List, [], ◌∷◌, ◌++◌, get_or, ◌==◌, ◌&&◌, Bool, false, not, Option, None, Some, if◌then◌else◌}
use Rattle.tiger_base.specs.declared.number.NodeNo.{NodeNo}
use Rattle.node_kit.specs.Links.{Links, ends_of, controller_of}

-- the share of node n by a table
abbrev pub home_by : List ℕ → ℕ → ℕ
home_by homes n = get_or homes n 0

-- the members of a share among so many nodes from one on
abbrev pub members_from : List ℕ → ℕ → ℕ → ℕ → List NodeNo
members_from homes share first zero = []
members_from homes share first (suc k) =
    members_from homes share first k ++ (if home_by homes (first + k) == share then (record { 0 = first + k }) ∷ [] else [])

-- those from the one number up to but not with the other
abbrev pub members_in : List ℕ → ℕ → ℕ → ℕ → List NodeNo
members_in homes share first last = members_from homes share first (last - first)

-- its cubs, the controller, its disks, the viewers
abbrev pub members_of : Links → ℕ → List ℕ → ℕ → List NodeNo
members_of links cubs homes share =
    members_in homes share 0 cubs ++ members_in homes share (controller_of links) (controller_of links + 1)
    ++ members_in homes share cubs (controller_of links)
    ++ members_in homes share (controller_of links + 1) (controller_of links + 2)

-- whether a link of these ends, if there is one, leads from one share to another
abbrev pub crosses : List ℕ → Option (ℕ × ℕ) → Bool
crosses homes None = false
crosses homes (Some ends) = not (home_by homes ends.0 == home_by homes ends.1)

-- whether link l does
abbrev pub goes_between : Links → List ℕ → ℕ → Bool
goes_between links homes l = crosses homes (ends_of links l)

-- whether a link of these ends, if there is one, leads into a share from another one
abbrev pub enters_by : List ℕ → ℕ → Option (ℕ × ℕ) → Bool
enters_by homes share None = false
enters_by homes share (Some ends) = not (home_by homes ends.0 == share) && (home_by homes ends.1 == share)

-- the node from which it leads out of a share into another one
abbrev pub leaves_by : List ℕ → ℕ → Option (ℕ × ℕ) → Option ℕ
leaves_by homes share None = None
leaves_by homes share (Some ends) =
    if (home_by homes ends.0 == share) && not (home_by homes ends.1 == share) then Some ends.0 else None
