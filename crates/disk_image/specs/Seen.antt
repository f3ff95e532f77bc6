-- What a disk's image is seen as, and what always holds of it.
use Rattle.disk_image.specs.Image.{Image, HasLengths}
use Rattle.disk_image.specs.declared.image.DiskImage.TheInside.{Inside}

abbrev pub seen : Inside → Image
seen i =
    record { library = i.library.now; catalogue = i.catalogue; pieces = i.pieces; disk = i.disk.0 }

-- its layout is one of its library
abbrev pub IsLaidOut : Inside → Type 0
IsLaidOut i = HasLengths i.library.now i.catalogue
