-- What is known of a catalogue determines it.
use Rattle.std.specs.Prelude.{◌≡◌, map}
use Rattle.stripe_layout.specs.declared.catalogue.Catalogue.{Catalogue}

-- Two catalogues are the same if their files have the same lengths and first disks, and they have the
-- same block and number of disks: all that they keep besides is that they are sound.
abbrev pub CataloguesAreOne : Type 0
CataloguesAreOne =
    (a b : Catalogue) → map (λ info. info.len) a.files ≡ map (λ info. info.len) b.files
    → map (λ info. info.disk) a.files ≡ map (λ info. info.disk) b.files
    → a.block ≡ b.block → a.disks ≡ b.disks → a ≡ b
