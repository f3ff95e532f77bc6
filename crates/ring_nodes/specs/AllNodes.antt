-- The step of any node, where the nodes stand, and all nodes of a run as they open.
use Rattle.std.specs.Prelude.{◌≡◌, ℕ, zero, suc, ◌+◌, ◌==◌, List, [], ◌∷◌, ◌++◌, Some, None, filter, slice_get}
use Rattle.tiger_base.specs.declared.message.Msg.{Msg}
use Rattle.slot_plan.specs.declared.params.Params.{Params}
use Rattle.slot_plan.specs.Times.{disk_count}
use Rattle.stripe_layout.specs.declared.catalogue.Catalogue.{Catalogue}
use Rattle.disk_image.specs.Image.{Image}
use Rattle.node_kit.specs.declared.course.Order.{Order}
use Rattle.node_kit.specs.declared.course.ReadFault.{ReadFault}
use Rattle.node_kit.specs.Steps.{Deed, Input}
use Rattle.node_kit.specs.Deeds.{wrapped}
use Rattle.cub_rules.specs.State.{opening_store, IsCub}
use Rattle.cub_rules.specs.Cubs.{cub_step}
use Rattle.disk_core.specs.State.{IsDisk}
use Rattle.disk_core.specs.Rules.{disk_step}
use Rattle.controller_core.specs.State.{IsController, fresh_controller}
use Rattle.controller_core.specs.Rules.{controller_step}
use Rattle.viewer_core.specs.Parts.{AreViewers}
use Rattle.viewer_core.specs.Rules.{viewers_step}
use Rattle.ring_nodes.specs.declared.nodes.AnyNode.{AnyNode}
use Rattle.ring_nodes.specs.declared.nodes.AnyNode.TheVariants as node

-- the step of any node is the step of the node that it is
abbrev pub any_step : {G : Type 0} → AnyNode G → Input Msg → Deed Msg (AnyNode G)
any_step (node.Cub s) i = wrapped node.Cub (cub_step s i)
any_step (node.Disk s) i = wrapped node.Disk (disk_step s i)
any_step (node.Controller s) i = wrapped node.Controller (controller_step s i)
any_step (node.Viewers s) i = wrapped node.Viewers (viewers_step s i)

-- where it stands
abbrev pub StandsAny : {G : Type 0} → AnyNode G → Params → ℕ → Type 0
StandsAny (node.Cub s) p n = IsCub s p n
StandsAny (node.Disk s) p n = IsDisk s p n
StandsAny (node.Controller s) p n = IsController s p n
StandsAny (node.Viewers s) p n = AreViewers s p n

-- each of the nodes stands at its number
abbrev pub AllStand : {G : Type 0} → Params → List (AnyNode G) → Type 0
AllStand {G} p nodes = (k : ℕ) (s : AnyNode G) → slice_get nodes k ≡ Some s → StandsAny s p k

-- the number of nodes of a plan
abbrev pub node_count : Params → ℕ
node_count p = p.cubs + disk_count p + 2

-- what a rule gives for the numbers below n, in their order
abbrev pub numbered : {A : Type 0} → (ℕ → A) → ℕ → List A
numbered f zero = []
numbered f (suc n) = numbered f n ++ f n ∷ []

-- what a rule gives for the elements of a list and their numbers, which begin at one
abbrev pub each_numbered : {A B : Type 0} → (ℕ → A → B) → ℕ → List A → List B
each_numbered f first [] = []
each_numbered f first (x ∷ xs) = f first x ∷ each_numbered f (first + 1) xs

-- a cub opens with nothing, its predecessor heard at reading 0, and has not ticked yet
abbrev pub opening_cub : {G : Type 0} → Params → ℕ → AnyNode G
opening_cub p cub = node.Cub (record { params = p; cub = cub; store = opening_store p 0; last = None })

-- the read faults of a disk
abbrev pub faults_of : ℕ → List ReadFault → List ReadFault
faults_of disk faults = filter (λ fault. fault.disk.0 == disk) faults

-- a disk opens with its image and its read faults
abbrev pub opening_disk : {G : Type 0} → Params → List ReadFault → ℕ → Image → AnyNode G
opening_disk p faults disk image =
    node.Disk (record { params = p; disk = disk; image = image; faults = faults_of disk faults })

-- the controller opens with its orders, and knows nothing yet
abbrev pub opening_controller : {G : Type 0} → Params → List Order → AnyNode G
opening_controller p orders = node.Controller (fresh_controller p orders)

-- the nodes of a run as they open: the cubs, the disks, the controller, and the viewers, who have nothing
abbrev pub opening_nodes : {G : Type 0} → Params → List ReadFault → List Image → List Order → List (AnyNode G)
opening_nodes p faults images orders =
    numbered (opening_cub p) p.cubs
    ++ each_numbered (opening_disk p faults) 0 images
    ++ opening_controller p orders
    ∷ node.Viewers []
    ∷ []

-- the image of a disk
abbrev pub image_at : Params → Catalogue → List (List ℕ) → ℕ → Image
image_at p catalogue library disk = record { library = library; catalogue = catalogue; pieces = p.pieces; disk = disk }

-- the images of all disks, in their order
abbrev pub images_of : Params → Catalogue → List (List ℕ) → List Image
images_of p catalogue library = numbered (image_at p catalogue library) (disk_count p)
