-- Laws of the pieces of a block.
use Rattle.std.proofs.Common.{◌≡◌, ◌≢◌, ℕ, ◌+◌, ◌-◌, ◌*◌, ◌/◌, ◌%◌, ◌<◌, ◌≤◌, refl, ap, sym, ◌∙◌, ⊎_elim, arith}
use Rattle.std.proofs.Math.Nat.{mul-le-mul_left, mul-le-mul_right, mul_comm, div-mul-le_self, div-le_of_le-mul, mul-div_cancel_left, zero-div, div-add-mod}
use Rattle.std.proofs.Math.Arith.{mod-mul}
use Rattle.std.proofs.lemmas.Nat.{le-div, mod_below, mod-mul-add}
use Rattle.std.proofs.lemmas.Bool.{cases_lt}
use Rattle.tiger_base.specs.declared.part.Span.{Span}
use Rattle.mirror_pieces.specs.Pieces.{piece_start, piece_end, piece_of, piece_disk}
use Rattle.mirror_pieces.specs.Laws.{PiecesMakeBlock, PiecesOnOtherCubs}

-- a piece starts no later than it ends
pub start-le-end : (len pieces k : ℕ) → 1 ≤ pieces → piece_start len pieces k ≤ piece_end len pieces k
unfolding piece_start piece_end
start-le-end len pieces k some =
    let less : (k - 1) * len ≤ k * len = mul-le-mul_right len (omega arith) in
    le-div ((k - 1) * len / pieces) (k * len) pieces some (omega (arith, div-mul-le_self ((k - 1) * len) pieces))

-- a piece ends inside the block
pub end-le-len : (len pieces k : ℕ) → k ≤ pieces → piece_end len pieces k ≤ len
unfolding piece_end
end-le-len len pieces k last = div-le_of_le-mul pieces (mul-le-mul_right len last)

-- the piece behind a piece starts where that ends
pub start-next : (len pieces k : ℕ) → piece_start len pieces (k + 1) ≡ piece_end len pieces k
unfolding piece_start piece_end
start-next len pieces k = let e : k + 1 - 1 ≡ k = omega arith in rw e refl

-- the first piece starts at the block's first byte
pub start-first : (len pieces : ℕ) → piece_start len pieces 1 ≡ 0
unfolding piece_start
start-first len pieces = omega (arith, zero-div pieces)

-- the last piece ends with the block
pub end-last : (len pieces : ℕ) → 1 ≤ pieces → piece_end len pieces pieces ≡ len
unfolding piece_end
end-last len pieces some = mul-div_cancel_left len some

-- where a piece begins in its file, and how many bytes it has
pub piece_of-from : (block : Span) (pieces k : ℕ) → (piece_of block pieces k).from ≡ block.from + piece_start block.len pieces k
unfolding piece_of
piece_of-from block pieces k = refl

pub piece_of-len : (block : Span) (pieces k : ℕ) → (piece_of block pieces k).len ≡ piece_end block.len pieces k - piece_start block.len pieces k
unfolding piece_of
piece_of-len block pieces k = refl

pub piece_of-file : (block : Span) (pieces k : ℕ) → (piece_of block pieces k).file ≡ block.file
unfolding piece_of
piece_of-file block pieces k = refl

-- where a piece ends in its file
pub piece_of-to : (block : Span) (pieces k : ℕ) → 1 ≤ pieces → (piece_of block pieces k).from + (piece_of block pieces k).len ≡ block.from + piece_end block.len pieces k
piece_of-to block pieces k some = omega (arith, piece_of-from block pieces k, piece_of-len block pieces k, start-le-end block.len pieces k some)

pub IsCutUp-holds : PiecesMakeBlock
IsCutUp-holds block pieces some =
    record {
      file = λ k. piece_of-file block pieces k;
      begun = omega (arith, piece_of-from block pieces 1, start-first block.len pieces);
      joined = λ k _. omega (arith, piece_of-to block pieces k some, piece_of-from block pieces (k + 1), start-next block.len pieces k);
      ended = omega (arith, piece_of-to block pieces pieces some, end-last block.len pieces some);
      short = λ k _ last. omega (arith, piece_of-len block pieces k, end-le-len block.len pieces k last);
      inside = λ k _ last. omega (arith, piece_of-to block pieces k some, end-le-len block.len pieces k last);
    }

-- a disk stands at the same cub, whether the disks are counted round or on and on
pub disk_cub : (cubs each n : ℕ) → 1 ≤ cubs → 1 ≤ each → n % (cubs * each) % cubs ≡ n % cubs
disk_cub cubs each n some more =
    rw (mul_comm cubs each, mod-mul n more some)
    (mod-mul-add (n / cubs % each) cubs (n % cubs) (mod_below n cubs some))

times_le : (a b c : ℕ) → b ≤ c → a * b ≤ a * c
times_le a b c h = mul-le-mul_left a h

-- two numbers less than a round apart have different remainders
pub apart : (round n k : ℕ) → 0 < k → k < round → n % round ≢ (n + k) % round
apart round n k low high e =
    let a = div-add-mod n round in
    let b = div-add-mod (n + k) round in
    ⊎_elim
    (λ l. omega (arith, times_le round (n / round + 1) ((n + k) / round) (omega (arith, l))))
    (λ g. omega (arith, times_le round ((n + k) / round) (n / round) g))
    (cases_lt (n / round) ((n + k) / round))

-- two numbers less than a round apart that have one remainder are one
same_remainder : (round n j k : ℕ) → j < round → k < round → (n + j) % round ≡ (n + k) % round → j ≤ k → j ≡ k
same_remainder round n j k low high e le =
    ⊎_elim
    (λ l.
    let far : n + k ≡ n + j + (k - j) = omega arith in
    absurd (apart round (n + j) (k - j) (omega arith) (omega arith) (e ∙ ap (λ (x : ℕ). x % round) far)))
    (λ g. omega arith)
    (cases_lt j k)

-- the cub of a piece's disk
pub piece_disk-cub : (cubs each d k : ℕ) → 1 ≤ cubs → 1 ≤ each → piece_disk d k (cubs * each) % cubs ≡ (d + k) % cubs
unfolding piece_disk
piece_disk-cub cubs each d k some more = disk_cub cubs each (d + k) some more

pub IsSpread-holds : PiecesOnOtherCubs
IsSpread-holds cubs each d pieces room more =
    let at : (k : ℕ) → piece_disk d k (cubs * each) % cubs ≡ (d + k) % cubs = λ k. piece_disk-cub cubs each d k (omega arith) more in
    record {
      other = λ k first last e. apart cubs d k first (omega arith) (sym e ∙ at k);
      distinct = λ j k jf jl kf kl e.
          let same : (d + j) % cubs ≡ (d + k) % cubs = sym (at j) ∙ e ∙ at k in
          ⊎_elim
          (λ l. same_remainder cubs d j k (omega arith) (omega arith) same (omega arith))
          (λ g. sym (same_remainder cubs d k j (omega arith) (omega arith) (sym same) g))
          (cases_lt j k);
    }
