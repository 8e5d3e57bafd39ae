-- Arrays in memory are the parts of the table.
use Rattle.std.proofs.Common.{ℕ, ◌≡◌, List, [], ◌∷◌, ◌++◌, None, length, refl, sym, ap, ◌∙◌}
use Rattle.vx_buffer.specs.Buffer.{Buffer}
use Rattle.vx_trees.specs.Rose.{end, more, roses_list, roses_of}
use Rattle.vx_trees.proofs.Lists.{roses_of-roses_list}
use Rattle.vx_array_tree.specs.Tree.{Tree, Trees}
use Rattle.vx_arrays.specs.VarBinViews.{varbinview_tree}
use Rattle.vx_generator.specs.Columns.{Columns}
use Rattle.vx_generator.specs.Made.{buffer, lists_tree, long_text, names_tree, numbers_tree, texts_tree, texts_type, views}

pub long_len : length long_text ≡ 21
unfolding long_text
long_len = refl

pub views_len : length views ≡ 80
unfolding views long_text
views_len = refl

pub texts_made : (bs : List Buffer) (b : Buffer) → bs ≡ buffer long_text 0 ∷ [] → b ≡ buffer views 4 → varbinview_tree texts_type 5 bs b None ≡ texts_tree
texts_made bs b p q = ap (λ u. varbinview_tree texts_type 5 u b None) p ∙ ap (λ v. varbinview_tree texts_type 5 (buffer long_text 0 ∷ []) v None) q

-- The fields of the table of columns.
abbrev pub fields_tree : Columns → ℕ → Trees
fields_tree c n = more (numbers_tree c.numbers c.validity n) (more (names_tree c.codes n) (more (lists_tree c.elements c.count c.offsets n) end))

-- The list that three pushes leave.
pushed : (a b c : Tree) (e p q r : Trees) → e ≡ end → roses_list p ≡ roses_list e ++ a ∷ [] → roses_list q ≡ roses_list p ++ b ∷ [] → roses_list r ≡ roses_list q ++ c ∷ []
    → r ≡ more a (more b (more c end))
pushed a b c e p q r i x y z =
    sym (roses_of-roses_list r) ∙ ap roses_of (z ∙ ap (λ l. l ++ c ∷ []) (y ∙ ap (λ l. l ++ b ∷ []) (x ∙ ap (λ u. roses_list u ++ a ∷ []) i)))

joined : (a b c x y z : Tree) → a ≡ x → b ≡ y → c ≡ z → more a (more b (more c end)) ≡ more x (more y (more z end))
joined a b c x y z p q r = cc

-- Three pushes of the fields leave these.
pub fields_pushed : (v w : Columns) (n : ℕ) (a b c : Tree) (e p q r : Trees) → v ≡ w
    → a ≡ numbers_tree v.numbers v.validity n → b ≡ names_tree v.codes n → c ≡ lists_tree v.elements v.count v.offsets n
    → e ≡ end → roses_list p ≡ roses_list e ++ a ∷ [] → roses_list q ≡ roses_list p ++ b ∷ [] → roses_list r ≡ roses_list q ++ c ∷ []
    → r ≡ fields_tree w n
fields_pushed v w n a b c e p q r s f g h i x y z =
    pushed a b c e p q r i x y z ∙ joined a b c _ _ _ f g h ∙ ap (λ k. fields_tree k n) s
