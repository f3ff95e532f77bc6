-- Which words are not this command.
use Rattle.std.proofs.Common.{ℕ, true, false, List}
use Rattle.tiger_disks.specs.Words.{AsksNone, IsNoDisks}

-- words that ask for it neither without `--force` nor with it
pub no_disks : (words : List (List ℕ)) → AsksNone words false → AsksNone words true → IsNoDisks words
no_disks words no_plain no_forced name image false = no_plain name image
no_disks words no_plain no_forced name image true = no_forced name image
