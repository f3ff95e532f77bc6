-- What is known of a catalogue determines it, since there is one proof that it is sound.
use Rattle.std.proofs.Common.{◌≡◌, ℕ, List, [], ◌∷◌, map, refl, ap, subst}
use Rattle.stripe_layout.specs.declared.catalogue.Catalogue.{Catalogue}
use Rattle.stripe_layout.specs.declared.catalogue.FileInfo.{FileInfo}
use Rattle.stripe_layout.specs.Layout.{IsCatalogue}
use Rattle.proof_answer.specs.Catalogues.{CataloguesAreOne}
use Rattle.proof_answer.proofs.Lists.{head-tail}
use denote.Struct.Props.{props}

-- two proofs that a catalogue is sound are the same
sound-once : (files : List FileInfo) (block disks : ℕ) → IsProp (IsCatalogue files block disks)
sound-once files block disks = hlevel props

-- a catalogue of these parts
abbrev made : (files : List FileInfo) (block disks : ℕ) → IsCatalogue files block disks → Catalogue
made files block disks sound = record { files = files; block = block; disks = disks; sound = sound }

same-parts : (f g : List FileInfo) (k l d e : ℕ) (s : IsCatalogue f k d) (t : IsCatalogue g l e)
    → f ≡ g → k ≡ l → d ≡ e
    → made f k d s ≡ made g l e t
same-parts f g k l d e s t same_files same_block same_disks =
    let one = made f k d s in
    let again : (u : IsCatalogue f k d) → one ≡ made f k d u = λ u. ap (made f k d) (sound-once f k d s u) in
    let disks = subst (λ (j : ℕ). (u : IsCatalogue f k j) → one ≡ made f k j u) same_disks again in
    let block = subst (λ (j : ℕ). (u : IsCatalogue f j e) → one ≡ made f j e u) same_block disks in
    let files = subst (λ (h : List FileInfo). (u : IsCatalogue h l e) → one ≡ made h l e u) same_files block in
    files t

-- files with the same lengths and first disks are the same
info-same : (x y : FileInfo) → x.len ≡ y.len → x.disk ≡ y.disk → x ≡ y
info-same x y len disk =
    let same : ◌≡◌ {A = FileInfo} (record { len = x.len; disk = x.disk })
    (record { len = y.len; disk = y.disk }) = rw (len, disk) refl in
    same

files-same : (f g : List FileInfo) → map (λ info. info.len) f ≡ map (λ info. info.len) g
    → map (λ info. info.disk) f ≡ map (λ info. info.disk) g → f ≡ g
files-same [] [] h k = refl
files-same [] (y ∷ ys) h k = absurd (cc)
files-same (x ∷ xs) [] h k = absurd (cc)
files-same (x ∷ xs) (y ∷ ys) h k =
    let len = head-tail x.len y.len (map (λ info. info.len) xs) (map (λ info. info.len) ys) h in
    let disk = head-tail x.disk y.disk (map (λ info. info.disk) xs) (map (λ info. info.disk) ys) k in
    let rest = files-same xs ys len.1 disk.1 in
    rw (info-same x y len.0 disk.0, rest) refl

pub catalogues-are-one : CataloguesAreOne
catalogues-are-one a b lengths disks block all_disks =
    let files = files-same a.files b.files lengths disks in
    same-parts a.files b.files a.block b.block a.disks b.disks a.sound b.sound files block all_disks
