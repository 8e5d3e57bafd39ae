-- How plain values are stored, where a struct has one as its model.
use Rattle.std.specs.Prelude.{◌≡◌, ℕ, List, [], ◌∷◌, Option, Some, None, ◌⊎◌, refl}
use Rattle.std.specs.Coded.{Coded, code_by, coded_ℕ, coded_list, coded_option, coded⊎}
use Rattle.std.proofs.Common.{inl, inr, ap, ◌∙◌}
use Rattle.vx_trees.specs.Rose.{Rose, Roses, node, end, more}
use Rattle.vx_trees.specs.Codes.{coded_roses}
use Rattle.vx_proto.specs.Value.{Content, number, octets, message, Slots, no_slots, slot, Entries, no_entries, entry, Entry, Value, entries_of, slots_of, list_of, value_of}

list_again : (es : List Entry) → list_of (entries_of es) ≡ es
list_again [] = refl
list_again (x ∷ xs) = ap (λ (t : List Entry). x ∷ t) (list_again xs)

-- Taking the nested slots of a value out again gives the value.
pub value_again : (v : Value) → value_of (slots_of v) ≡ v
value_again [] = refl
value_again (es ∷ v) = ap (λ (t : List Entry). t ∷ value_of (slots_of v)) (list_again es) ∙ ap (λ (t : Value). es ∷ t) (value_again v)

-- A label: a number, bytes, or nothing beside what stands below.
abbrev Label : Type 0
Label = Option (ℕ ⊎ List ℕ)

abbrev mutual
  -- What a member holds as a tree: a number or bytes alone, a message above its slots.
  pub content_tree : Content → Rose Label
  content_tree (number n) = node (Some (inl n)) end
  content_tree (octets s) = node (Some (inr s)) end
  content_tree (message v) = node None (slot_trees v)

  -- Each slot is a tree above its members.
  pub slot_trees : Slots → Roses Label
  slot_trees no_slots = end
  slot_trees (slot es v) = more (node None (entry_trees es)) (slot_trees v)

  -- Each member is a tree of its number, above what it holds.
  pub entry_trees : Entries → Roses Label
  entry_trees no_entries = end
  entry_trees (entry n e es) = more (node (Some (inl n)) (more (content_tree e) end)) (entry_trees es)

-- The number of a label, or 0.
abbrev number_of : Label → ℕ
number_of None = 0
number_of (Some (inl n)) = n
number_of (Some (inr s)) = 0

abbrev mutual
  -- The content that a tree stands for.
  pub tree_content : Rose Label → Content
  tree_content (node None ts) = message (tree_slots ts)
  tree_content (node (Some (inl n)) ts) = number n
  tree_content (node (Some (inr s)) ts) = octets s

  pub tree_slots : Roses Label → Slots
  tree_slots end = no_slots
  tree_slots (more (node l ts) us) = slot (tree_entries ts) (tree_slots us)

  pub tree_entries : Roses Label → Entries
  tree_entries end = no_entries
  tree_entries (more (node l ts) us) = entry (number_of l) (first_content ts) (tree_entries us)

  pub first_content : Roses Label → Content
  first_content end = number 0
  first_content (more t ts) = tree_content t

mutual
  pub content_back : (e : Content) → tree_content (content_tree e) ≡ e
  content_back (number n) = refl
  content_back (octets s) = refl
  content_back (message v) = ap message (slots_back v)

  pub slots_back : (v : Slots) → tree_slots (slot_trees v) ≡ v
  slots_back no_slots = refl
  slots_back (slot es v) = λ i. slot (entries_back es i) (slots_back v i)

  pub entries_back : (es : Entries) → tree_entries (entry_trees es) ≡ es
  entries_back no_entries = refl
  entries_back (entry n e es) = λ i. entry n (content_back e i) (entries_back es i)

abbrev label_code : Coded Label
label_code = coded_option (coded⊎ coded_ℕ (coded_list coded_ℕ))

abbrev slots_code : Coded Slots
slots_code = code_by (Roses Label) (coded_roses label_code) slot_trees tree_slots slots_back

-- A plain value is stored as its slots, each a tree.
abbrev pub value_code : Coded Value
value_code = code_by Slots slots_code slots_of value_of value_again
