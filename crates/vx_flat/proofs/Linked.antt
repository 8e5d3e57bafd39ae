-- Blocks that are written one after the other: each link is set when its block is written, and in
-- the end all blocks are those of linked pieces.
use Rattle.std.proofs.Common.{◌≡◌, refl, sym, ap, subst, ◌∙◌, arith, Bool, true, false, ℕ, zero, suc, ◌+◌, ◌-◌, ◌*◌, ◌≤◌, ◌<◌}
use Rattle.std.proofs.Common.{List, [], ◌∷◌, ◌++◌, length, take, drop, append_assoc, append-nil, Option, Some, None, length-take, length-drop}
use Rattle.std.specs.Prelude.{if◌then◌else◌}
use Rattle.std.proofs.lemmas.List.{take-append-le, drop-append-le, length-append, length-replicate}
use Rattle.vx_flat.specs.declared.builder.piece.BlockField.{BlockField}
use Rattle.vx_flat.specs.declared.builder.piece.BlockField.TheVariants as entry
use Rattle.vx_flat.specs.declared.builder.piece.LinkKind.{LinkKind}
use Rattle.vx_flat.specs.declared.schema.Width.TheVariants.{Four, Eight}
use Rattle.vx_flat.specs.declared.writing.block.BlockOffsets.{BlockOffsets}
use Rattle.vx_flat.specs.declared.writing.block.Cell.{Cell}
use Rattle.vx_flat.specs.FieldTables.{align, zeros, le_bytes, inline_end, distances, entry_bytes, field_table_bytes}
use Rattle.vx_flat.specs.Layout.{cells_bytes, links_bytes, block_bytes, own_field_table, bytes_from, bytes_of, layout}
use Rattle.vx_flat.specs.Linking.{rest, cells_of, left_by_all, firsts, rests, width_at, block_of, left_by_piece, loose_block, all_before, nothing_linked, linked}
use Rattle.vx_flat.specs.IsOf.{IsOf}
use Rattle.vx_flat.specs.Pieces.{Piece, table_piece, elements_piece, links_piece, text_piece, pieces, entries, fields_pieces}
use Rattle.vx_flat.specs.Schema.{Schema, width, fields_of}
use Rattle.vx_flat.specs.Value.{Fields}
use Rattle.vx_flat.specs.BlockOffsets.{Known, known_at, table_offsets, offsets, intern, block_offsets, target_of}
use Rattle.vx_flat.proofs.BlockBytes.{entries_length}
use Rattle.vx_flat.proofs.Bytes.{align_past, length_le}
use Rattle.vx_flat.proofs.Cells.{end_past}
use Rattle.vx_flat.proofs.Chain.{starts, block_length}
use Rattle.vx_flat.proofs.Depth.{value_linked}
use Rattle.vx_flat.proofs.Loose.{cells_length, links_length}
use Rattle.vx_flat.specs.declared.builder.slot.Slot.{Slot}
use Rattle.vx_flat.specs.Building.{patch, entry_slots, element_slots, slots_of, Built, nothing_by, next_link, later_links, waiting}
use Rattle.vx_flat.specs.Building.{targeted, offsets_after, with_piece, with_rest, with_pieces}
use Rattle.vx_flat.specs.BuilderView.{SlotsLie, SlotLies}

-- ---- four bytes

-- four bytes are set where they lie, whatever comes after
pub patch_front : (m x : List ℕ) (p n : ℕ) → p + 4 ≤ length m → patch (m ++ x) p n ≡ patch m p n ++ x
patch_front m x p n h =
    let a : take p (m ++ x) ≡ take p m = take-append-le p m x (omega (arith, h)) in
    let b : drop (p + 4) (m ++ x) ≡ drop (p + 4) m ++ x = drop-append-le (p + 4) m x h in
    rw (a, b) (simp append_assoc)

pub patch_length : (m : List ℕ) (p n : ℕ) → p + 4 ≤ length m → length (patch m p n) ≡ length m
patch_length m p n h =
    let a = length-append (take p m) (le_bytes 4 n ++ drop (p + 4) m) in
    let b = length-append (le_bytes 4 n) (drop (p + 4) m) in
    let c = length-take p m in
    let d = length-drop (p + 4) m in
    let e = length_le 4 n in
    omega (arith, a, b, c, d, e, h)

-- the four bytes after a list
patch_here : (m x : List ℕ) (a n : ℕ) → patch (m ++ (le_bytes 4 a ++ x)) (length m) n ≡ m ++ (le_bytes 4 n ++ x)
patch_here [] x a n = refl
patch_here (y ∷ m) x a n =
    let e : suc (length m) + 4 ≡ suc (length m + 4) = omega arith in
    rw e (ap (λ z. y ∷ z) (patch_here m x a n))

patch_behind : (m x : List ℕ) (a n p : ℕ) → p ≡ length m → patch (m ++ (le_bytes 4 a ++ x)) p n ≡ m ++ (le_bytes 4 n ++ x)
patch_behind m x a n p e = ap (λ q. patch (m ++ (le_bytes 4 a ++ x)) q n) e ∙ patch_here m x a n

-- ---- links are set to blocks

-- The links are set to the blocks of these numbers, as far as there are some.
abbrev pub patches : List BlockOffsets → List ℕ → List Slot → List ℕ → List ℕ
patches places m [] ns = m
patches places m (l ∷ ls) [] = m
patches places m (l ∷ ls) (n ∷ ns) = patches places (patch m l.place (target_of places n - l.place)) ls ns

none_set : (places : List BlockOffsets) (m : List ℕ) (ls : List Slot) → patches places m ls [] ≡ m
none_set places m [] = refl
none_set places m (l ∷ ls) = refl

pub lie_same : (ls : List Slot) (n k : ℕ) → n ≤ k → SlotsLie ls n → SlotsLie ls k
lie_same [] n k le h = tt
lie_same (l ∷ ls) n k le h = (omega (arith, h.0, le), lie_same ls n k le h.1)

pub lie_both : (xs ys : List Slot) (n : ℕ) → SlotsLie xs n → SlotsLie ys n → SlotsLie (xs ++ ys) n
lie_both [] ys n a b = b
lie_both (x ∷ xs) ys n a b = (a.0, lie_both xs ys n a.1 b)

set_front : (places : List BlockOffsets) (ls : List Slot) (m x ks : List ℕ) → SlotsLie ls (length m)
    → patches places (m ++ x) ls ks ≡ patches places m ls ks ++ x
set_front places [] m x ks h = refl
set_front places (l ∷ ls) m x [] h = refl
set_front places (l ∷ ls) m x (k ∷ ks) h =
    let v = target_of places k - l.place in
    let same = patch_length m l.place v h.0 in
    ap (λ z. patches places z ls ks) (patch_front m x l.place v h.0)
    ∙ set_front places ls (patch m l.place v) x ks (lie_same ls (length m) (length (patch m l.place v)) (omega (arith, same)) h.1)

-- ---- entries

all_none : (es : List BlockField) → left_by_all es [] ≡ []
all_none [] = refl
all_none (entry.Absent ∷ es) = all_none es
all_none (entry.Number w v ∷ es) = all_none es
all_none (entry.Link k ∷ es) = all_none es
all_none (entry.UnknownMember ∷ es) = all_none es

regroup : (m z b r y : List ℕ) → m ++ ((z ++ (b ++ r)) ++ y) ≡ (m ++ (z ++ b)) ++ (r ++ y)
regroup m z b r y = simp append_assoc

grown : (m : List ℕ) (t p d w : ℕ) (b : List ℕ) → t + p ≡ length m → p ≤ d → length b ≡ w
    → t + (d + w) ≡ length (m ++ (zeros (d - p) ++ b))
grown m t p d w b h le l =
    let a = length-append m (zeros (d - p) ++ b) in
    let c = length-append (zeros (d - p)) b in
    let e = length-replicate {A = ℕ} (d - p) 0 in
    omega (arith, h, le, l, a, c, e)

module _ (places : List BlockOffsets) where
  cells_none : (es : List BlockField) (t p : ℕ) → target_of places 0 ≤ t
      → cells_bytes places t p (cells_of es []) ≡ cells_bytes [] t p (cells_of es [])
  cells_none [] t p h = refl
  cells_none (entry.Absent ∷ es) t p h = cells_none es t p h
  cells_none (entry.Number w v ∷ es) t p h =
      let u = width_at w in
      let d = align (width u) p in
      ap (λ z. zeros (d - p) ++ (le_bytes (width u) v ++ z)) (cells_none es t (d + width u) h)
  cells_none (entry.Link k ∷ es) t p h =
      let d = align 4 p in
      let e : target_of places 0 - (t + d) ≡ 0 - (t + d) = omega (arith, h) in
      let r = cells_none es t (d + 4) h in
      λ i. zeros (d - p) ++ (le_bytes 4 (e i) ++ r i)
  cells_none (entry.UnknownMember ∷ es) t p h =
      let d = align 4 p in
      ap (λ z. zeros (d - p) ++ (le_bytes 4 0 ++ z)) (cells_none es t (d + 4) h)

  links_none : (k p : ℕ) → target_of places 0 ≤ p → links_bytes places p (firsts k []) ≡ links_bytes [] p (firsts k [])
  links_none zero p h = refl
  links_none (suc k) p h =
      let e : target_of places 0 - p ≡ 0 - p = omega (arith, h) in
      let r = links_none k (p + 4) (omega (arith, h)) in
      λ i. le_bytes 4 (e i) ++ r i

  -- the links of a table's entries, and then others
  entries_set : (es : List BlockField) (n i t p : ℕ) (m y : List ℕ) (ls : List Slot) (ns : List ℕ) → t + p ≡ length m
      → target_of places 0 ≤ t
      → patches places (m ++ (cells_bytes [] t p (cells_of es []) ++ y)) (entry_slots n t i p es ++ ls) ns
      ≡ patches places (m ++ (cells_bytes places t p (cells_of es ns) ++ y)) ls (left_by_all es ns)
  entries_set [] n i t p m y ls ns h z = refl
  entries_set (entry.Absent ∷ es) n i t p m y ls ns h z = entries_set es n (i + 1) t p m y ls ns h z
  entries_set (entry.Number w v ∷ es) n i t p m y ls ns h z =
      let u = width_at w in
      let d = align (width u) p in
      let b = le_bytes (width u) v in
      let long = grown m t p d (width u) b h (align_past u p) (length_le (width u) v) in
      ap (λ x. patches places x (entry_slots n t (i + 1) (d + width u) es ++ ls) ns)
      (regroup m (zeros (d - p)) b (cells_bytes [] t (d + width u) (cells_of es [])) y)
      ∙ (entries_set es n (i + 1) t (d + width u) (m ++ (zeros (d - p) ++ b)) y ls ns long z
      ∙ ap (λ x. patches places x ls (left_by_all es ns))
      (sym (regroup m (zeros (d - p)) b (cells_bytes places t (d + width u) (cells_of es ns)) y)))
  entries_set (entry.UnknownMember ∷ es) n i t p m y ls ns h z =
      let d = align 4 p in
      let b = le_bytes 4 0 in
      let long = grown m t p d 4 b h (align_past Four p) (length_le 4 0) in
      ap (λ x. patches places x (entry_slots n t (i + 1) (d + 4) es ++ ls) ns)
      (regroup m (zeros (d - p)) b (cells_bytes [] t (d + 4) (cells_of es [])) y)
      ∙ (entries_set es n (i + 1) t (d + 4) (m ++ (zeros (d - p) ++ b)) y ls ns long z
      ∙ ap (λ x. patches places x ls (left_by_all es ns))
      (sym (regroup m (zeros (d - p)) b (cells_bytes places t (d + 4) (cells_of es ns)) y)))
  entries_set (entry.Link k ∷ es) n i t p m y ls [] h z =
      ap (λ x. m ++ (x ++ y)) (sym (cells_none (entry.Link k ∷ es) t p z))
      ∙ (sym (none_set places (m ++ (cells_bytes places t p (cells_of (entry.Link k ∷ es) []) ++ y)) ls)
      ∙ ap (λ ns. patches places (m ++ (cells_bytes places t p (cells_of (entry.Link k ∷ es) []) ++ y)) ls ns)
      (sym (all_none es)))
  entries_set (entry.Link k ∷ es) n i t p m y ls (x ∷ ns) h z =
      let d = align 4 p in
      let v = target_of places x - (t + d) in
      let b = le_bytes 4 v in
      let gap = zeros (d - p) in
      let loose = cells_bytes [] t (d + 4) (cells_of es []) in
      let long = grown m t p d 4 b h (align_past Four p) (length_le 4 v) in
      let here : t + d ≡ length (m ++ gap) =
      let a = length-append m gap in
      let e = length-replicate {A = ℕ} (d - p) 0 in
      let le = align_past Four p in
      omega (arith, a, e, h, le) in
      let before : m ++ ((gap ++ (le_bytes 4 (0 - (t + d)) ++ loose)) ++ y) ≡ (m ++ gap) ++ (le_bytes 4 (0 - (t + d)) ++ (loose ++ y)) = simp append_assoc in
      let after : (m ++ gap) ++ (b ++ (loose ++ y)) ≡ (m ++ (gap ++ b)) ++ (loose ++ y) = simp append_assoc in
      ap (λ q. patches places (patch q (t + d) v) (entry_slots n t (i + 1) (d + 4) es ++ ls) ns) before
      ∙ (ap (λ q. patches places q (entry_slots n t (i + 1) (d + 4) es ++ ls) ns)
      (patch_behind (m ++ gap) (loose ++ y) (0 - (t + d)) v (t + d) here ∙ after)
      ∙ (entries_set es n (i + 1) t (d + 4) (m ++ (gap ++ b)) y ls ns long z
      ∙ ap (λ q. patches places q ls (left_by_all es ns))
      (sym (regroup m gap b (cells_bytes places t (d + 4) (cells_of es ns)) y))))

  rests_none : (k : ℕ) → rests k [] ≡ []
  rests_none zero = refl
  rests_none (suc k) = rests_none k

  elements_set : (k n p i : ℕ) (kind : LinkKind) (m y : List ℕ) (ls : List Slot) (ns : List ℕ) → p ≡ length m
      → target_of places 0 ≤ p
      → patches places (m ++ (links_bytes [] p (firsts k []) ++ y)) (element_slots n kind p i k ++ ls) ns
      ≡ patches places (m ++ (links_bytes places p (firsts k ns) ++ y)) ls (rests k ns)
  elements_set zero n p i kind m y ls ns h z = refl
  elements_set (suc k) n p i kind m y ls [] h z =
      ap (λ x. m ++ (x ++ y)) (sym (links_none (suc k) p z))
      ∙ (sym (none_set places (m ++ (links_bytes places p (firsts (suc k) []) ++ y)) ls)
      ∙ ap (λ ns. patches places (m ++ (links_bytes places p (firsts (suc k) []) ++ y)) ls ns) (sym (rests_none k)))
  elements_set (suc k) n p i kind m y ls (x ∷ ns) h z =
      let v = target_of places x - p in
      let b = le_bytes 4 v in
      let loose = links_bytes [] (p + 4) (firsts k []) in
      let long : p + 4 ≡ length (m ++ b) = let a = length-append m b in let e = length_le 4 v in omega (arith, a, e, h) in
      let before : m ++ ((le_bytes 4 (0 - p) ++ loose) ++ y) ≡ m ++ (le_bytes 4 (0 - p) ++ (loose ++ y)) = simp append_assoc in
      let after : m ++ (b ++ (loose ++ y)) ≡ (m ++ b) ++ (loose ++ y) = simp append_assoc in
      let back : (m ++ b) ++ (links_bytes places (p + 4) (firsts k ns) ++ y) ≡ m ++ ((b ++ links_bytes places (p + 4) (firsts k ns)) ++ y) = simp append_assoc in
      ap (λ q. patches places (patch q p v) (element_slots n kind (p + 4) (i + 1) k ++ ls) ns) before
      ∙ (ap (λ q. patches places q (element_slots n kind (p + 4) (i + 1) k ++ ls) ns)
      (patch_behind m (loose ++ y) (0 - p) v p h ∙ after)
      ∙ (elements_set k n (p + 4) (i + 1) kind (m ++ b) y ls ns long (omega (arith, z))
      ∙ ap (λ q. patches places q ls (rests k ns)) back))

-- ---- a block's form does not depend on the targets of its links

distances_same : (es : List BlockField) (p : ℕ) (ns ms : List ℕ) → distances p (cells_of es ns) ≡ distances p (cells_of es ms)
distances_same [] p ns ms = refl
distances_same (entry.Absent ∷ es) p ns ms = ap (λ z. 0 ∷ z) (distances_same es p ns ms)
distances_same (entry.Number w v ∷ es) p ns ms =
    let d = align (width (width_at w)) p in ap (λ z. d ∷ z) (distances_same es (d + width (width_at w)) ns ms)
distances_same (entry.Link k ∷ es) p ns ms =
    let d = align 4 p in ap (λ z. d ∷ z) (distances_same es (d + 4) (rest ns) (rest ms))
distances_same (entry.UnknownMember ∷ es) p ns ms =
    let d = align 4 p in ap (λ z. d ∷ z) (distances_same es (d + 4) ns ms)

ends_same : (es : List BlockField) (p : ℕ) (ns ms : List ℕ) → inline_end p (cells_of es ns) ≡ inline_end p (cells_of es ms)
ends_same [] p ns ms = refl
ends_same (entry.Absent ∷ es) p ns ms = ends_same es p ns ms
ends_same (entry.Number w v ∷ es) p ns ms = ends_same es (align (width (width_at w)) p + width (width_at w)) ns ms
ends_same (entry.Link k ∷ es) p ns ms = ends_same es (align 4 p + 4) (rest ns) (rest ms)
ends_same (entry.UnknownMember ∷ es) p ns ms = ends_same es (align 4 p + 4) ns ms

counts_same : (es : List BlockField) (ns ms : List ℕ) → length (cells_of es ns) ≡ length (cells_of es ms)
counts_same es ns ms = cells_length es ns ∙ sym (cells_length es ms)

tables_same : (es : List BlockField) (ns ms : List ℕ) → field_table_bytes (cells_of es ns) ≡ field_table_bytes (cells_of es ms)
tables_same es ns ms =
    λ i. le_bytes 2 (4 + 2 * counts_same es ns ms i)
    ++ (le_bytes 2 (ends_same es 4 ns ms i) ++ entry_bytes (distances_same es 4 ns ms i))

own_same : (own : Bool) (es : List BlockField) (ns ms : List ℕ) → own_field_table own (cells_of es ns) ≡ own_field_table own (cells_of es ms)
own_same true es ns ms =
    λ i. tables_same es ns ms i
    ++ zeros (align 8 (4 + 2 * counts_same es ns ms i) - (4 + 2 * counts_same es ns ms i))
own_same false es ns ms = refl

table_offsets_same : (p : ℕ) (o : Option ℕ) (es : List BlockField) (ns ms : List ℕ) → table_offsets p (cells_of es ns) o ≡ table_offsets p (cells_of es ms) o
table_offsets_same p (Some q) es ns ms = λ i. record { start = p; target = p; end = p + ends_same es 4 ns ms i; fields = q; is_own = false }
table_offsets_same p None es ns ms =
    λ i. let t = p + align 8 (4 + 2 * counts_same es ns ms i) in
    record { start = p; target = t; end = t + ends_same es 4 ns ms i; fields = p; is_own = true }

offsets_same : (known : Known) (p : ℕ) (q : Piece) (ns : List ℕ) → offsets known p (block_of q ns) ≡ offsets known p (loose_block q)
offsets_same known p (table_piece es) ns =
    ap (λ b. table_offsets p (cells_of es ns) (known_at known b)) (tables_same es ns [])
    ∙ table_offsets_same p (known_at known (field_table_bytes (cells_of es []))) es ns []
offsets_same known p (elements_piece n bs) ns = refl
offsets_same known p (links_piece k n) ns =
    ap (λ m. record { start = p; target = p; end = p + (4 + 4 * m); fields = 0; is_own = true })
    (links_length n ns ∙ sym (links_length n []))
offsets_same known p (text_piece bs) ns = refl

intern_same : (shares : Bool) (known : Known) (s : BlockOffsets) (q : Piece) (ns : List ℕ) → intern shares known s (block_of q ns) ≡ intern shares known s (loose_block q)
intern_same true known s (table_piece es) ns =
    ap (λ b. if s.is_own then known ++ (b, s.fields) ∷ [] else known) (tables_same es ns [])
intern_same false known s (table_piece es) ns = refl
intern_same true known s (elements_piece n bs) ns = refl
intern_same false known s (elements_piece n bs) ns = refl
intern_same true known s (links_piece k n) ns = refl
intern_same false known s (links_piece k n) ns = refl
intern_same true known s (text_piece bs) ns = refl
intern_same false known s (text_piece bs) ns = refl

-- ---- the links of a block

own_length : (p : ℕ) (cs : List Cell) (o : Option ℕ) → p + length (own_field_table (table_offsets p cs o).is_own cs) ≡ (table_offsets p cs o).target
own_length p cs (Some q) = omega arith
own_length p cs None =
    let n = 4 + 2 * length cs in
    let a = length-append (field_table_bytes cs) (zeros (align 8 n - n)) in
    let b = length-append (le_bytes 2 n) (le_bytes 2 (inline_end 4 cs) ++ entry_bytes (distances 4 cs)) in
    let c = length-append (le_bytes 2 (inline_end 4 cs)) (entry_bytes (distances 4 cs)) in
    let d = entries_length 4 cs in
    let e = length-replicate {A = ℕ} (align 8 n - n) 0 in
    let l = align_past Eight n in
    omega (arith, a, b, c, d, e, l, length_le 2 n, length_le 2 (inline_end 4 cs))

start_same : (p : ℕ) (cs : List Cell) (o : Option ℕ) → p ≤ (table_offsets p cs o).target
start_same p cs (Some q) = omega arith
start_same p cs None = omega arith

module _ (places : List BlockOffsets) where
  piece_set : (known : Known) (q : Piece) (n p : ℕ) (m y : List ℕ) (ls : List Slot) (ns : List ℕ) → p ≡ length m
      → target_of places 0 ≤ (offsets known p (loose_block q)).target
      → patches places (m ++ (block_bytes [] (offsets known p (loose_block q)) (loose_block q) ++ y))
      (slots_of n (offsets known p (loose_block q)).target q ++ ls) ns
      ≡ patches places (m ++ (block_bytes places (offsets known p (loose_block q)) (block_of q ns) ++ y)) ls (left_by_piece q ns)
  piece_set known (table_piece es) n p m y ls ns h z =
      let s = offsets known p (loose_block (table_piece es)) in
      let cs = cells_of es [] in
      let own = own_field_table s.is_own cs in
      let back = le_bytes 4 (s.target - s.fields) in
      let there : s.target + 4 ≡ length (m ++ (own ++ back)) =
      let a = length-append m (own ++ back) in
      let b = length-append own back in
      let c = own_length p cs (known_at known (field_table_bytes cs)) in
      let d = length_le 4 (s.target - s.fields) in
      omega (arith, a, b, c, d, h) in
      ap (λ x. patches places x (entry_slots n s.target 0 4 es ++ ls) ns) (regroup m own back (cells_bytes [] s.target 4 cs) y)
      ∙ (entries_set places es n 0 s.target 4 (m ++ (own ++ back)) y ls ns there z
      ∙ (ap (λ x. patches places x ls (left_by_all es ns)) (sym (regroup m own back (cells_bytes places s.target 4 (cells_of es ns)) y))
      ∙ ap (λ o. patches places (m ++ ((o ++ (back ++ cells_bytes places s.target 4 (cells_of es ns))) ++ y)) ls (left_by_all es ns))
      (own_same s.is_own es [] ns)))
  piece_set known (elements_piece k bs) n p m y ls ns h z = refl
  piece_set known (links_piece kind k) n p m y ls ns h z =
      let a = le_bytes 4 (length (firsts k [])) in
      let there : p + 4 ≡ length (m ++ a) = let b = length-append m a in let c = length_le 4 (length (firsts k [])) in omega (arith, b, c, h) in
      let before : m ++ ((a ++ links_bytes [] (p + 4) (firsts k [])) ++ y) ≡ (m ++ a) ++ (links_bytes [] (p + 4) (firsts k []) ++ y) = simp append_assoc in
      let after : (m ++ a) ++ (links_bytes places (p + 4) (firsts k ns) ++ y) ≡ m ++ ((a ++ links_bytes places (p + 4) (firsts k ns)) ++ y) = simp append_assoc in
      ap (λ x. patches places x (element_slots n kind (p + 4) 0 k ++ ls) ns) before
      ∙ (elements_set places k n (p + 4) 0 kind (m ++ a) y ls ns there (omega (arith, z))
      ∙ (ap (λ x. patches places x ls (rests k ns)) after
      ∙ ap (λ c. patches places (m ++ ((le_bytes 4 c ++ links_bytes places (p + 4) (firsts k ns)) ++ y)) ls (rests k ns))
      (links_length k [] ∙ sym (links_length k ns))))
  piece_set known (text_piece bs) n p m y ls ns h z = refl

-- ---- blocks one after the other

pub targeted_length : (n : ℕ) (o : Option Slot) (target : ℕ) (m : List ℕ) → 4 ≤ length m → SlotLies o (length m)
    → length (targeted n o target m) ≡ length m
targeted_length n (Some l) target m h lies = patch_length m l.place (target - l.place) lies
targeted_length zero None target m h lies = patch_length m 0 target (omega (arith, h))
targeted_length (suc n) None target m h lies = refl

pub targeted_front : (n : ℕ) (o : Option Slot) (target : ℕ) (m x : List ℕ) → 4 ≤ length m → SlotLies o (length m)
    → targeted n o target (m ++ x) ≡ targeted n o target m ++ x
targeted_front n (Some l) target m x h lies = patch_front m x l.place (target - l.place) lies
targeted_front zero None target m x h lies = patch_front m x 0 target (omega (arith, h))
targeted_front (suc n) None target m x h lies = refl

next_lies : (ls : List Slot) (n : ℕ) → SlotsLie ls n → SlotLies (next_link ls) n
next_lies [] n h = tt
next_lies (l ∷ ls) n h = h.0

later_lie : (ls : List Slot) (n : ℕ) → SlotsLie ls n → SlotsLie (later_links ls) n
later_lie [] n h = tt
later_lie (l ∷ ls) n h = h.1

targeted_set : (places : List BlockOffsets) (n target k : ℕ) (ls : List Slot) (m ks : List ℕ) → 0 < n → target ≡ target_of places k
    → patches places (targeted n (next_link ls) target m) (later_links ls) ks ≡ patches places m ls (k ∷ ks)
targeted_set places zero target k ls m ks h e = absurd (omega (arith, h))
targeted_set places (suc n) target k [] m ks h e = refl
targeted_set places (suc n) target k (l ∷ ls) m ks h e = ap (λ a. patches places (patch m l.place (a - l.place)) ls ks) e

targeted_block : (front : List BlockOffsets) (s : BlockOffsets) (ss : List BlockOffsets) (n : ℕ) → length front ≡ n → target_of (front ++ s ∷ ss) n ≡ s.target
targeted_block [] s ss zero e = refl
targeted_block [] s ss (suc n) e = absurd (omega (arith, e))
targeted_block (f ∷ front) s ss zero e = absurd (omega (arith, e))
targeted_block (f ∷ front) s ss (suc n) e = targeted_block front s ss n (omega (arith, e))

entry_slots_lie : (es : List BlockField) (n t i p : ℕ) → SlotsLie (entry_slots n t i p es) (t + inline_end p (cells_of es []))
entry_slots_lie [] n t i p = tt
entry_slots_lie (entry.Link k ∷ es) n t i p =
    let a = end_past (align 4 p + 4) (cells_of es []) in
    (omega (arith, a), entry_slots_lie es n t (i + 1) (align 4 p + 4))
entry_slots_lie (entry.Absent ∷ es) n t i p = entry_slots_lie es n t (i + 1) p
entry_slots_lie (entry.Number w v ∷ es) n t i p =
    entry_slots_lie es n t (i + 1) (align (width (width_at w)) p + width (width_at w))
entry_slots_lie (entry.UnknownMember ∷ es) n t i p = entry_slots_lie es n t (i + 1) (align 4 p + 4)

element_slots_lie : (k n p i : ℕ) (kind : LinkKind) → SlotsLie (element_slots n kind p i k) (p + 4 * k)
element_slots_lie zero n p i kind = tt
element_slots_lie (suc k) n p i kind =
    let rest = element_slots_lie k n (p + 4) (i + 1) kind in
    let e : p + 4 + 4 * k ≡ p + 4 * suc k = omega arith in
    (omega arith, subst (λ m. SlotsLie (element_slots n kind (p + 4) (i + 1) k) m) e rest)

pub table_end : (p : ℕ) (cs : List Cell) (o : Option ℕ) → (table_offsets p cs o).end ≡ (table_offsets p cs o).target + inline_end 4 cs
table_end p cs None = refl
table_end p cs (Some q) = refl

-- the links of a block lie in it
slots_lie : (known : Known) (q : Piece) (n p : ℕ) → SlotsLie (slots_of n (offsets known p (loose_block q)).target q) (offsets known p (loose_block q)).end
slots_lie known (table_piece es) n p =
    let cs = cells_of es [] in
    let o = known_at known (field_table_bytes cs) in
    subst (λ m. SlotsLie (entry_slots n (table_offsets p cs o).target 0 4 es) m) (sym (table_end p cs o))
    (entry_slots_lie es n (table_offsets p cs o).target 0 4)
slots_lie known (elements_piece k bs) n p = tt
slots_lie known (links_piece kind k) n p =
    let e : p + 4 + 4 * k ≡ p + (4 + 4 * length (firsts k [])) = let l = links_length k [] in omega (arith, l) in
    subst (λ m. SlotsLie (element_slots n kind (p + 4) 0 k) m) e (element_slots_lie k n (p + 4) 0 kind)
slots_lie known (text_piece bs) n p = tt

-- a block starts no later than its target, and its target is no later than its end
pub targets_past : (known : Known) (q : Piece) (p : ℕ) → p ≤ (offsets known p (loose_block q)).target
targets_past known (table_piece es) p = start_same p (cells_of es []) (known_at known (field_table_bytes (cells_of es [])))
targets_past known (elements_piece k bs) p = omega arith
targets_past known (links_piece kind k) p = omega arith
targets_past known (text_piece bs) p = omega arith

pub ends_past : (known : Known) (q : Piece) (p : ℕ) → (offsets known p (loose_block q)).target ≤ (offsets known p (loose_block q)).end
ends_past known (table_piece es) p =
    let cs = cells_of es [] in
    let o = known_at known (field_table_bytes cs) in
    let e = table_end p cs o in omega (arith, e)
ends_past known (elements_piece k bs) p = omega arith
ends_past known (links_piece kind k) p = omega arith
ends_past known (text_piece bs) p = omega arith

-- how many bytes there are with one more block
pub with_length : (b : Built) (q : Piece) → 4 ≤ length b.bytes → SlotLies b.waits (length b.bytes)
    → length (with_piece b q).bytes ≡ (offsets_after b q).end
with_length b q h lies =
    let s = offsets_after b q in
    let m = targeted b.count b.waits s.target b.bytes in
    let x = block_bytes [] s (loose_block q) in
    let a = length-append m (zeros (s.start - length b.bytes) ++ x) in
    let c = length-append (zeros (s.start - length b.bytes)) x in
    let d = length-replicate {A = ℕ} (s.start - length b.bytes) 0 in
    let e = block_length [] b.known (align 8 (length b.bytes)) (loose_block q) in
    let f = starts b.known (align 8 (length b.bytes)) (loose_block q) in
    let g = align_past Eight (length b.bytes) in
    let l = targeted_length b.count b.waits s.target b.bytes h lies in
    omega (arith, a, c, d, e, f, g, l)

pub after_lie : (b : Built) (q : Piece) → 4 ≤ length b.bytes → SlotLies b.waits (length b.bytes) → SlotsLie b.left (length b.bytes)
    → SlotsLie (with_piece b q).left (length (with_piece b q).bytes)
after_lie b q h waits left =
    let s = offsets_after b q in
    let n = length (with_piece b q).bytes in
    let e = with_length b q h waits in
    let past = align_past Eight (length b.bytes) in
    let targets = targets_past b.known q (align 8 (length b.bytes)) in
    let ends = ends_past b.known q (align 8 (length b.bytes)) in
    lie_both (slots_of b.count s.target q) b.left n
    (subst (λ m. SlotsLie (slots_of b.count s.target q) m) (sym e) (slots_lie b.known q b.count (align 8 (length b.bytes))))
    (lie_same b.left (length b.bytes) n (omega (arith, e, past, targets, ends)) left)

-- the bytes of blocks that came after others, whose links were left, the next one first
pub rest_bytes : (places : List BlockOffsets) (qs : List Piece) (b : Built) (front : List BlockOffsets) → length front ≡ b.count → 0 < b.count
    → places ≡ front ++ block_offsets b.shares b.known (length b.bytes) (all_before b.count qs nothing_linked).blocks
    → target_of places 0 ≤ length b.bytes → 4 ≤ length b.bytes → SlotsLie b.left (length b.bytes)
    → (with_rest b qs).bytes
    ≡ patches places b.bytes b.left (all_before b.count qs nothing_linked).loose
    ++ bytes_from places (length b.bytes) (block_offsets b.shares b.known (length b.bytes) (all_before b.count qs nothing_linked).blocks)
    (all_before b.count qs nothing_linked).blocks
rest_bytes places [] b front n some is root four lies = sym (append-nil (patches places b.bytes b.left []) ∙ none_set places b.bytes b.left)
rest_bytes places (q ∷ qs) b front n some is root four lies =
    let w = waiting b in
    let r = all_before (b.count + 1) qs nothing_linked in
    let p = align 8 (length b.bytes) in
    let s = offsets b.known p (loose_block q) in
    let x = block_of q r.loose in
    let next = with_piece w q in
    let known' = intern b.shares b.known s (loose_block q) in
    let waits = next_lies b.left (length b.bytes) lies in
    let later = later_lie b.left (length b.bytes) lies in
    let long : length next.bytes ≡ s.end = with_length w q four waits in
    let past = align_past Eight (length b.bytes) in
    let targets = targets_past b.known q p in
    let ends = ends_past b.known q p in
    let same_offsets : offsets b.known p x ≡ s = offsets_same b.known p q r.loose in
    let same_block_offsets : block_offsets b.shares b.known (length b.bytes) (x ∷ r.blocks) ≡ s ∷ block_offsets b.shares known' (length next.bytes) r.blocks =
    (λ i. same_offsets i ∷ block_offsets b.shares (intern b.shares b.known (same_offsets i) x) (same_offsets i).end r.blocks)
    ∙ ((λ i. s ∷ block_offsets b.shares (intern_same b.shares b.known s q r.loose i) s.end r.blocks)
    ∙ ap (λ m. s ∷ block_offsets b.shares known' m r.blocks) (sym long)) in
    let ss = block_offsets b.shares known' (length next.bytes) r.blocks in
    let whole : places ≡ (front ++ s ∷ []) ++ ss = is ∙ (ap (λ z. front ++ z) same_block_offsets ∙ sym (append_assoc front (s ∷ []) ss)) in
    let here : s.target ≡ target_of places b.count =
    sym (ap (λ z. target_of z b.count) (is ∙ ap (λ z. front ++ z) same_block_offsets) ∙ targeted_block front s ss b.count n) in
    let m = targeted b.count (next_link b.left) s.target b.bytes in
    let gap = zeros (s.start - length b.bytes) in
    let m_long = targeted_length b.count (next_link b.left) s.target b.bytes four waits in
    let starts_at = starts b.known p (loose_block q) in
    let start : p ≡ length (m ++ gap) =
    let a = length-append m gap in
    let e = length-replicate {A = ℕ} (s.start - length b.bytes) 0 in
    omega (arith, a, e, m_long, starts_at, past) in
    let further = rest_bytes places qs next (front ++ s ∷ []) (let a = length-append front (s ∷ []) in omega (arith, a, n)) (omega arith)
    whole (omega (arith, root, long, past, targets, ends)) (omega (arith, four, long, past, targets, ends))
    (after_lie w q four waits later) in
    let laid : m ++ (gap ++ block_bytes [] s (loose_block q)) ≡ (m ++ gap) ++ (block_bytes [] s (loose_block q) ++ []) = simp (append_assoc, append-nil) in
    let done : (m ++ gap) ++ (block_bytes places s x ++ []) ≡ m ++ (gap ++ block_bytes places s x) = simp (append_assoc, append-nil) in
    let set : patches places next.bytes next.left r.loose ≡ patches places b.bytes b.left (b.count ∷ left_by_piece q r.loose) ++ (gap ++ block_bytes places s x) =
    ap (λ z. patches places z (slots_of b.count s.target q ++ later_links b.left) r.loose) laid
    ∙ (piece_set places b.known q b.count p (m ++ gap) [] (later_links b.left) r.loose start (omega (arith, root, past, targets))
    ∙ (ap (λ z. patches places z (later_links b.left) (left_by_piece q r.loose)) done
    ∙ (set_front places (later_links b.left) m (gap ++ block_bytes places s x) (left_by_piece q r.loose)
    (lie_same (later_links b.left) (length b.bytes) (length m) (omega (arith, m_long)) later)
    ∙ ap (λ z. z ++ (gap ++ block_bytes places s x))
    (targeted_set places b.count s.target b.count b.left b.bytes (left_by_piece q r.loose) some here)))) in
    let tail = bytes_from places (length next.bytes) ss r.blocks in
    let f = patches places b.bytes b.left (b.count ∷ left_by_piece q r.loose) in
    further
    ∙ (ap (λ z. z ++ tail) set
    ∙ (assembled f gap (block_bytes places s x) tail
    ∙ (ap (λ z. f ++ (gap ++ (block_bytes places s x ++ bytes_from places z ss r.blocks))) long
    ∙ ap (λ z. f ++ bytes_from places (length b.bytes) z (x ∷ r.blocks)) (sym same_block_offsets))))
  where
    assembled : (f g x t : List ℕ) → (f ++ (g ++ x)) ++ t ≡ f ++ (g ++ (x ++ t))
    assembled f g x t = simp append_assoc

-- all blocks of pieces are those of the linked pieces
pub pieces_bytes : (shares : Bool) (p : Piece) (qs : List Piece)
    → (with_pieces (nothing_by shares) (p ∷ qs)).bytes ≡ bytes_of shares (linked (p ∷ qs))
unfolding bytes_of
pieces_bytes shares p qs =
    let r = all_before 1 qs nothing_linked in
    let s = offsets [] 8 (loose_block p) in
    let x = block_of p r.loose in
    let b = with_piece (nothing_by shares) p in
    let known' = intern shares [] s (loose_block p) in
    let long : length b.bytes ≡ s.end = with_length (nothing_by shares) p (omega arith) tt in
    let targets = targets_past [] p 8 in
    let ends = ends_past [] p 8 in
    let same_offsets : offsets [] 8 x ≡ s = offsets_same [] 8 p r.loose in
    let ss = block_offsets shares known' (length b.bytes) r.blocks in
    let places : List BlockOffsets = block_offsets shares [] 8 (x ∷ r.blocks) in
    let same_block_offsets : places ≡ s ∷ ss =
    (λ i. same_offsets i ∷ block_offsets shares (intern shares [] (same_offsets i) x) (same_offsets i).end r.blocks)
    ∙ ((λ i. s ∷ block_offsets shares (intern_same shares [] s p r.loose i) s.end r.blocks)
    ∙ ap (λ m. s ∷ block_offsets shares known' m r.blocks) (sym long)) in
    let root : target_of places 0 ≡ s.target = ap (λ z. target_of z 0) same_block_offsets in
    let further = rest_bytes places qs b (s ∷ []) refl (omega arith) same_block_offsets (omega (arith, root, long, ends))
    (omega (arith, long, targets, ends)) (after_lie (nothing_by shares) p (omega arith) tt tt) in
    let head = le_bytes 4 s.target ++ zeros 4 in
    let starts_at = starts [] 8 (loose_block p) in
    let gap : zeros (s.start - 8) ≡ [] = ap (λ n. zeros (n - 8)) starts_at in
    let begun : b.bytes ≡ head ++ (block_bytes [] s (loose_block p) ++ []) =
    ap (λ z. head ++ (z ++ block_bytes [] s (loose_block p))) gap
    ∙ ap (λ z. head ++ z) (sym (append-nil (block_bytes [] s (loose_block p)))) in
    let set : patches places b.bytes b.left r.loose ≡ head ++ block_bytes places s x =
    ap (λ z. patches places z (slots_of 0 s.target p ++ []) r.loose) begun
    ∙ (piece_set places [] p 0 8 head [] [] r.loose refl (omega (arith, root))
    ∙ ap (λ z. head ++ z) (append-nil (block_bytes places s x))) in
    let tail = λ (n : ℕ). bytes_from places n ss r.blocks in
    let gap' : zeros (s.start - 8) ≡ [] = gap in
    further
    ∙ (ap (λ z. z ++ tail (length b.bytes)) set
    ∙ (regrouped (le_bytes 4 s.target) (zeros 4) (block_bytes places s x) (tail (length b.bytes))
    ∙ (ap (λ n. le_bytes 4 s.target ++ (zeros 4 ++ (block_bytes places s x ++ tail n))) long
    ∙ (ap (λ z. le_bytes 4 s.target ++ (zeros 4 ++ (z ++ (block_bytes places s x ++ tail s.end)))) (sym gap')
    ∙ (ap (λ a. le_bytes 4 a ++ (zeros 4 ++ bytes_from places 8 (s ∷ ss) (x ∷ r.blocks))) (sym root)
    ∙ ap (λ z. le_bytes 4 (target_of places 0) ++ (zeros 4 ++ bytes_from places 8 z (x ∷ r.blocks))) (sym same_block_offsets))))))
  where
    regrouped : (a z x t : List ℕ) → ((a ++ z) ++ x) ++ t ≡ a ++ (z ++ (x ++ t))
    regrouped a z x t = simp append_assoc

-- and so the layout of a value is what its pieces are
pub value_bytes : (s : Schema) (shares : Bool) (vs : Fields) → IsOf s vs → (with_pieces (nothing_by shares) (pieces s vs)).bytes ≡ layout shares s vs
value_bytes s shares vs h =
    pieces_bytes shares (table_piece (entries (fields_of s s.root) vs)) (fields_pieces s (fields_of s s.root) vs)
    ∙ ap (bytes_of shares) (value_linked s vs h)
