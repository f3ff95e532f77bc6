-- The text of a kept value, from its head, its body and its end.
use Rattle.std.proofs.Common.{◌≡◌, ℕ, List, [], ◌∷◌, ◌++◌, refl, sym, ap, ◌∙◌, append_assoc, codes}
use Rattle.std.proofs.lemmas.List.Concat.{flat_map-append}
use Rattle.node_kit.specs.declared.course.Kept.{Kept}
use Rattle.audit_text.specs.declared.item.Item.TheVariants as item
use Rattle.audit_text.specs.Lines.{line_of}
use Rattle.audit_text.specs.Texts.{parts_of, head_items, body_items, items_in, text_in, text_of}

end_line : text_in (item.End ∷ []) ≡ codes "end\n"
unfolding line_of
end_line = refl

pub whole_text : (k : Kept) → text_of k ≡ (text_in (head_items (parts_of k)) ++ text_in (body_items (parts_of k))) ++ codes "end\n"
unfolding text_of items_in
whole_text k =
    flat_map-append (λ i. line_of i ++ 10 ∷ []) (head_items (parts_of k)) (body_items (parts_of k) ++ item.End ∷ [])
    ∙ ap (λ (q : List ℕ). text_in (head_items (parts_of k)) ++ q) (flat_map-append (λ i. line_of i ++ 10 ∷ []) (body_items (parts_of k)) (item.End ∷ []))
    ∙ ap (λ (q : List ℕ). text_in (head_items (parts_of k)) ++ (text_in (body_items (parts_of k)) ++ q)) end_line
    ∙ sym (append_assoc (text_in (head_items (parts_of k))) (text_in (body_items (parts_of k))) (codes "end\n"))
