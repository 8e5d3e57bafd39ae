-- The texts of a listing, one part after the other.
use Rattle.std.proofs.Common.{◌≡◌, ℕ, zero, suc, ◌+◌, ◌-◌, ◌<◌, ◌≤◌, Bool, false, List, [], ◌∷◌, ◌++◌, Some, Result, Ok, Err, IfOk, String, Global, string_bytes, length, drop, get_or, codes, nat_lt, refl, sym, ap, ◌∙◌, arith, add-one, append_assoc}
use Rattle.std.specs.Prelude.{slice_get, if◌then◌else◌}
use Rattle.std.specs.List.{flat_map}
use Rattle.vx_trees.specs.Rose.{node, label, below, roses_of}
use Rattle.vx_buffer.specs.Buffer.{Buffer}
use Rattle.vx_types.specs.Typ.{Typ}
use Rattle.vx_types.specs.Value.{Value}
use Rattle.vx_array_tree.specs.Tree.{Tree, row_at, cells}
use Rattle.vxcat_store.specs.Listing.{length_text, further_length, lengths_text, node_line, node_lines, node_lines_below, shown_row, row_line, row_lines}
use Rattle.vxcat_store.specs.RowText.{value_text}

-- The lengths that are left from a buffer on.
abbrev pub lengths_from : ℕ → List Buffer → List ℕ
lengths_from zero buffers = lengths_text buffers
lengths_from (suc i) buffers = flat_map further_length (drop (suc i) buffers)

further_from : (buffers : List Buffer) (i : ℕ) (b : Buffer) → slice_get buffers i ≡ Some b → flat_map further_length (drop i buffers) ≡ further_length b ++ flat_map further_length (drop (suc i) buffers)
further_from [] i b at = absurd (cc)
further_from (x ∷ xs) zero b at = let same : x ≡ b = cc in ap (λ (z : Buffer). further_length z ++ flat_map further_length xs) same
further_from (x ∷ xs) (suc i) b at = further_from xs i b at

-- The first buffer has no comma before it, and each later one has.
first_from : (buffers : List Buffer) (b : Buffer) → slice_get buffers 0 ≡ Some b → lengths_from 0 buffers ≡ length_text b ++ lengths_from 1 buffers
first_from [] b at = absurd (cc)
first_from (x ∷ xs) b at = let same : x ≡ b = cc in ap (λ (z : Buffer). length_text z ++ flat_map further_length xs) same

-- With the next buffer's length, the text goes on to what is left after it.
pub lengths_next : (buffers : List Buffer) (i : ℕ) (b : Buffer) (old new : List ℕ) → slice_get buffers i ≡ Some b → old ++ lengths_from i buffers ≡ lengths_text buffers
    → (i ≡ 0 → new ≡ old ++ length_text b) → (0 < i → new ≡ old ++ further_length b) → new ++ lengths_from (i + 1) buffers ≡ lengths_text buffers
lengths_next buffers zero b old new at so first further =
    ap (λ z. z ++ lengths_from 1 buffers) (first refl) ∙ append_assoc old (length_text b) (lengths_from 1 buffers) ∙ ap (λ z. old ++ z) (sym (first_from buffers b at)) ∙ so
lengths_next buffers (suc i) b old new at so first further =
    let left = flat_map further_length (drop (suc (suc i)) buffers) in
    let next : flat_map further_length (drop (suc i) buffers) ≡ further_length b ++ left = further_from buffers (suc i) b at in
    rw (add-one (suc i)) (ap (λ z. z ++ left) (further (omega arith)) ∙ append_assoc old (further_length b) left ∙ ap (λ z. old ++ z) (sym next) ∙ so)

-- A node's lines are its own, and those of the trees below it.
pub node_lines-is : (indent : List ℕ) (tree : Tree) → node_lines indent tree ≡ node_line indent (label tree) ++ node_lines_below (indent ++ codes "  ") (below tree)
node_lines-is indent (node head children) = refl

-- From a tree on, its own lines come first.
pub node_lines_below-drop : (indent : List ℕ) (trees : List Tree) (i : ℕ) (d : Tree) → i < length trees
    → node_lines_below indent (roses_of (drop i trees)) ≡ node_lines indent (get_or trees i d) ++ node_lines_below indent (roses_of (drop (i + 1) trees))
node_lines_below-drop indent trees i d within = rw (add-one i) (dropped trees i within) where
  dropped : (ts : List Tree) (k : ℕ) → k < length ts → node_lines_below indent (roses_of (drop k ts)) ≡ node_lines indent (get_or ts k d) ++ node_lines_below indent (roses_of (drop (suc k) ts))
  dropped [] k within = absurd (omega (arith, within))
  dropped (t ∷ ts) zero within = refl
  dropped (t ∷ ts) (suc k) within = dropped ts k (omega (arith, within))

-- The same for a child that was looked up, at an indent that was made.
pub child_lines : (indent deeper : List ℕ) (trees : List Tree) (i : ℕ) (d child : Tree) → deeper ≡ indent ++ codes "  " → i < length trees → child ≡ get_or trees i d
    → node_lines_below (indent ++ codes "  ") (roses_of (drop i trees)) ≡ node_lines deeper child ++ node_lines_below (indent ++ codes "  ") (roses_of (drop (i + 1) trees))
child_lines indent deeper trees i d child made within is = rw (made, is) (node_lines_below-drop (indent ++ codes "  ") trees i d within)

-- What was written and what is left of a text are the whole; the same holds once the next line is written.
pub line_next : (old new left line rest all : List ℕ) → new ≡ old ++ line → left ≡ line ++ rest → old ++ left ≡ all → new ++ rest ≡ all
line_next old new left line rest all added is so = ap (λ z. z ++ rest) added ∙ append_assoc old line rest ∙ ap (λ z. old ++ z) (sym is) ∙ so

-- From a row on, its own line comes first.
pub row_lines-next : (tree : Tree) (i shown : ℕ) → i < shown → row_lines tree i (shown - i) ≡ row_line tree i ++ row_lines tree (i + 1) (shown - (i + 1))
row_lines-next tree i shown within =
    let count : shown - i ≡ suc (shown - (i + 1)) = omega (arith, within) in
    ap (λ (n : ℕ). row_lines tree i n) count

small : (n : ℕ) → n ≤ 10000 → nat_lt 10000 n ≡ false
small n h = grind arith

-- A row of few cells is shown by its value's text at the array's type.
pub row_shown : {E : Type 0} (tree : Tree) (i : ℕ) (value : Value) (d : Typ) (result : Result (String Global) E) → value ≡ row_at tree i → d ≡ (label tree).dtype → cells tree i ≤ 10000
    → IfOk result (λ text. string_bytes text ≡ value_text value d) → IfOk result (λ text. string_bytes text ≡ shown_row tree i)
row_shown tree i value d (Err e) row typed few text_is = tt
row_shown tree i value d (Ok text) row typed few text_is =
    let e = (label tree).dtype in
    let shown : Bool → List ℕ = λ large. if large then codes "(large)" else value_text (row_at tree i) e in
    text_is ∙ ap (λ v. value_text v d) row ∙ ap (λ z. value_text (row_at tree i) z) typed ∙ sym (ap shown (small (cells tree i) few))
