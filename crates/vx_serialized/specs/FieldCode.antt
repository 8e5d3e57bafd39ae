-- How the value of a field of a table is stored, where a struct has one in its model: as a tree of marks.
use Rattle.std.specs.Prelude.{ℕ, List, refl, ◌⊎◌}
use Rattle.std.specs.Coded.{Coded, code_by, coded⊎, coded_ℕ, coded_list}
use Rattle.std.proofs.Common.{◌≡◌, ap}
use mathlib.Core.Logic.{inl, inr}
use base.Stored.{coded_unit}
use Rattle.vx_flat.specs.Value.{Field, absent, number, elements, text, texts, table, tables, member, unknown, Fields, no_fields, field, Rows, no_rows, row}
use Rattle.vx_trees.specs.Codes.{coded_rose}
use Rattle.vx_trees.specs.Rose.{Rose, Roses, node, end, more}

-- What a field is, apart from its tables: absent, a number, elements, a text, texts; a table, tables; a member by its
-- tag, and a tag alone.
abbrev Mark : Type 0
Mark = Unit {0} ⊎ (ℕ ⊎ (List ℕ ⊎ (List ℕ ⊎ (List (List ℕ) ⊎ (Unit {0} ⊎ (Unit {0} ⊎ (ℕ ⊎ ℕ)))))))

abbrev mutual
  field_tree : Field → Rose Mark
  field_tree absent = node (inl tt) end
  field_tree (number n) = node (inr (inl n)) end
  field_tree (elements bs) = node (inr (inr (inl bs))) end
  field_tree (text bs) = node (inr (inr (inr (inl bs)))) end
  field_tree (texts ss) = node (inr (inr (inr (inr (inl ss))))) end
  field_tree (table vs) = node (inr (inr (inr (inr (inr (inl tt)))))) (fields_trees vs)
  field_tree (tables rs) = node (inr (inr (inr (inr (inr (inr (inl tt))))))) (rows_trees rs)
  field_tree (member g vs) = node (inr (inr (inr (inr (inr (inr (inr (inl g)))))))) (fields_trees vs)
  field_tree (unknown g) = node (inr (inr (inr (inr (inr (inr (inr (inr g)))))))) end

  fields_trees : Fields → Roses Mark
  fields_trees no_fields = end
  fields_trees (field v vs) = more (field_tree v) (fields_trees vs)

  rows_trees : Rows → Roses Mark
  rows_trees no_rows = end
  rows_trees (row vs rs) = more (node (inl tt) (fields_trees vs)) (rows_trees rs)

abbrev mutual
  tree_field : Rose Mark → Field
  tree_field (node (inl u) ts) = absent
  tree_field (node (inr (inl n)) ts) = number n
  tree_field (node (inr (inr (inl bs))) ts) = elements bs
  tree_field (node (inr (inr (inr (inl bs)))) ts) = text bs
  tree_field (node (inr (inr (inr (inr (inl ss))))) ts) = texts ss
  tree_field (node (inr (inr (inr (inr (inr (inl u)))))) ts) = table (trees_fields ts)
  tree_field (node (inr (inr (inr (inr (inr (inr (inl u))))))) ts) = tables (trees_rows ts)
  tree_field (node (inr (inr (inr (inr (inr (inr (inr (inl g)))))))) ts) = member g (trees_fields ts)
  tree_field (node (inr (inr (inr (inr (inr (inr (inr (inr g)))))))) ts) = unknown g

  trees_fields : Roses Mark → Fields
  trees_fields end = no_fields
  trees_fields (more t ts) = field (tree_field t) (trees_fields ts)

  trees_rows : Roses Mark → Rows
  trees_rows end = no_rows
  trees_rows (more (node m vs) ts) = row (trees_fields vs) (trees_rows ts)

-- A field is read again from its tree.
mutual
  pub field_again : (v : Field) → tree_field (field_tree v) ≡ v
  field_again absent = refl
  field_again (number n) = refl
  field_again (elements bs) = refl
  field_again (text bs) = refl
  field_again (texts ss) = refl
  field_again (table vs) = ap (λ ws. table ws) (fields_again vs)
  field_again (tables rs) = ap (λ ws. tables ws) (rows_again rs)
  field_again (member g vs) = ap (λ ws. member g ws) (fields_again vs)
  field_again (unknown g) = refl

  fields_again : (vs : Fields) → trees_fields (fields_trees vs) ≡ vs
  fields_again no_fields = refl
  fields_again (field v vs) = λ i. field (field_again v i) (fields_again vs i)

  rows_again : (rs : Rows) → trees_rows (rows_trees rs) ≡ rs
  rows_again no_rows = refl
  rows_again (row vs rs) = λ i. row (fields_again vs i) (rows_again rs i)

abbrev mark_code : Coded Mark
mark_code =
    coded⊎ coded_unit (coded⊎ coded_ℕ (coded⊎ (coded_list coded_ℕ) (coded⊎ (coded_list coded_ℕ) (coded⊎ (coded_list (coded_list coded_ℕ))
    (coded⊎ coded_unit (coded⊎ coded_unit (coded⊎ coded_ℕ coded_ℕ)))))))

-- A field is stored as its tree.
abbrev pub field_code : Coded Field
field_code = code_by (Rose Mark) (coded_rose (inl tt) mark_code) field_tree tree_field field_again
