-- That the text is exact: no line says two things, and no text is of two values.
use Rattle.std.specs.Prelude.{◌≡◌, ℕ, length}
use Rattle.std.specs.List.{All}
use Rattle.node_kit.specs.declared.course.Kept.{Kept}
use Rattle.node_kit.specs.Courses.{CutsDeath, ReturnsLater}
use Rattle.node_kit.specs.Life.{death_of, cut_of, back_of}
use Rattle.audit_text.specs.declared.item.Item.{Item}
use Rattle.audit_text.specs.Fits.{ItemFits}
use Rattle.audit_text.specs.Lines.{line_of}
use Rattle.audit_text.specs.Texts.{parts_of, items_in, text_of}

abbrev pub OneLine : Type 0
OneLine = (i j : Item) → ItemFits i → ItemFits j → line_of i ≡ line_of j → i ≡ j

-- all numbers of a kept value fit their types, and it says of each cub whether it dies, whether its death cuts it off,
-- and whether it returns, which only who dies does
pub record FitsTypes (k : Kept) : Type 0 where
  pub numbers : All ItemFits (items_in (parts_of k))
  pub cubs : length k.course.deaths ≡ k.course.plan.params.cubs
  pub cuts : length k.course.cuts ≡ k.course.plan.params.cubs
  pub backs : length k.course.backs ≡ k.course.plan.params.cubs
  pub cut_deaths : (n : ℕ) → CutsDeath (death_of k.course n) (cut_of k.course n)
  pub returns_later : (n : ℕ) → ReturnsLater (death_of k.course n) (back_of k.course n)

abbrev pub OneValue : Type 0
OneValue =
    (k j : Kept) → FitsTypes k → FitsTypes j → text_of k ≡ text_of j → parts_of k ≡ parts_of j
