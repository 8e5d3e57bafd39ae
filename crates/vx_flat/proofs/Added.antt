-- A composed block was added to a message: what was built is what was built before, with the block's piece.
use Rattle.std.proofs.Common.{◌≡◌, ℕ, ◌+◌, ◌-◌, ◌<◌, ◌≤◌, ◌^◌, Bool, true, false, List, [], ◌∷◌, ◌++◌, length, reverse, Option, Some, None}
use Rattle.std.proofs.Common.{refl, sym, ap, subst, ◌∙◌, arith, inr, append_assoc}
use Rattle.std.specs.Prelude.{if◌then◌else◌, ◌&&◌}
use Rattle.vx_flat.specs.declared.builder.piece.BlockField.{BlockField}
use Rattle.vx_flat.specs.declared.builder.piece.LinkKind.{LinkKind}
use Rattle.vx_flat.specs.declared.builder.message.Message.{Message}
use Rattle.vx_flat.specs.declared.builder.slot.Slot.{Slot}
use Rattle.vx_flat.specs.declared.schema.Width.TheVariants.{Eight}
use Rattle.vx_flat.specs.declared.writing.block.BlockOffsets.{BlockOffsets}
use Rattle.vx_flat.specs.Building.{Built, targeted, offsets_after, with_piece, slots_of, IsTooLong}
use Rattle.vx_flat.specs.BuilderView.{begun, front, built, IsOpen, SlotsLie, SlotLies}
use Rattle.vx_flat.specs.FieldTables.{align, zeros, field_table_bytes}
use Rattle.vx_flat.specs.Layout.{block_bytes}
use Rattle.vx_flat.specs.Linking.{loose_block, cells_of}
use Rattle.vx_flat.specs.Pieces.{Piece, table_piece, elements_piece, links_piece, text_piece}
use Rattle.vx_flat.specs.BlockOffsets.{Known, offsets, intern, known_at}
use Rattle.vx_flat.proofs.Bytes.{align_past}
use Rattle.vx_flat.proofs.Cells.{end_past}
use Rattle.vx_flat.proofs.Composing.{begun_front, begun_same, begun_length}
use Rattle.vx_flat.proofs.Linked.{targeted_front, with_length, after_lie, lie_same, targets_past, table_end}

-- a block has at least four bytes
offsets_grows : (known : Known) (p : ℕ) (q : Piece) → p + 4 ≤ (offsets known p (loose_block q)).end
offsets_grows known p (table_piece es) =
    let cs = cells_of es [] in
    let e = table_end p cs (known_at known (field_table_bytes cs)) in
    let a = targets_past known (table_piece es) p in
    let b = end_past 4 cs in
    omega (arith, e, a, b)
offsets_grows known p (elements_piece n bs) = omega arith
offsets_grows known p (links_piece k n) = omega arith
offsets_grows known p (text_piece bs) = omega arith

lies_later : (o : Option Slot) (n k : ℕ) → n ≤ k → SlotLies o n → SlotLies o k
lies_later None n k le h = tt
lies_later (Some l) n k le h = omega (arith, le, h)

some_begun : (m : List ℕ) → (0 < length m → 8 ≤ length m) → 8 ≤ length (begun m)
some_begun [] h = omega arith
some_begun (b ∷ m) h = h (omega arith)

-- What was added: the bytes of a block after its front, its links, and its field table.
pub record Adds (old : Message) (known : Known) (shares : Bool) (q : Piece) (s : BlockOffsets) (block : List ℕ) (links : List Slot) (new : Message) (later : Known) : Type 0 where
  pub place : s ≡ offsets known (align 8 (length (begun old.bytes.items))) (loose_block q)
  pub block_is : block ≡ front old.bytes.items ++ (zeros (s.start - length (begun old.bytes.items)) ++ block_bytes [] s (loose_block q))
  pub links_are : links ≡ slots_of old.count s.target q
  pub bytes : new.bytes.items ≡ targeted old.count old.waits s.target (old.bytes.items ++ block)
  pub count : new.count ≡ old.count + 1
  pub left : reverse new.left.items ≡ links ++ reverse old.left.items
  pub waits : new.waits ≡ None
  pub interned : later ≡ intern shares known s (loose_block q)

module _ (old new : Message) (known later : Known) (shares failed : Bool) (q : Piece) (s : BlockOffsets) (block : List ℕ) (links : List Slot)
    (stands : IsOpen old) (h : Adds old known shares q s block links new later) where
  before_is : Built
  before_is = built old known shares failed

  there : offsets_after (built old known shares failed) q ≡ s
  there = sym h.place

  four : 8 ≤ length (begun old.bytes.items)
  four = some_begun old.bytes.items stands.some

  waits_lie : SlotLies old.waits (length (begun old.bytes.items))
  waits_lie = lies_later old.waits (length old.bytes.items) (length (begun old.bytes.items)) (begun_length old.bytes.items) stands.waits

  left_lie : SlotsLie (reverse old.left.items) (length (begun old.bytes.items))
  left_lie = lie_same (reverse old.left.items) (length old.bytes.items) (length (begun old.bytes.items)) (begun_length old.bytes.items) stands.left

  raw : new.bytes.items ≡ targeted old.count old.waits s.target (begun old.bytes.items)
      ++ (zeros (s.start - length (begun old.bytes.items)) ++ block_bytes [] s (loose_block q))
  raw =
      let behind = zeros (s.start - length (begun old.bytes.items)) ++ block_bytes [] s (loose_block q) in
      h.bytes
      ∙ (ap (λ x. targeted old.count old.waits s.target (old.bytes.items ++ x)) h.block_is
      ∙ (ap (λ x. targeted old.count old.waits s.target x) (begun_front old.bytes.items behind)
      ∙ targeted_front old.count old.waits s.target (begun old.bytes.items) behind (omega (arith, four)) waits_lie))

  bytes_are : new.bytes.items ≡ (with_piece (built old known shares failed) q).bytes
  bytes_are =
      raw
      ∙ ap (λ (z : BlockOffsets). targeted old.count old.waits z.target (begun old.bytes.items)
      ++ (zeros (z.start - length (begun old.bytes.items)) ++ block_bytes [] z (loose_block q))) (sym there)

  pub length_is : length new.bytes.items ≡ s.end
  length_is =
      ap (λ (m : List ℕ). length m) bytes_are
      ∙ (with_length (built old known shares failed) q (omega (arith, four)) waits_lie ∙ ap (λ (z : BlockOffsets). z.end) there)

  ends : length (begun old.bytes.items) + 4 ≤ s.end
  ends =
      let a = align_past Eight (length (begun old.bytes.items)) in
      let b = offsets_grows known (align 8 (length (begun old.bytes.items))) q in
      let e = ap (λ (z : BlockOffsets). z.end) there in
      omega (arith, a, b, e)

  some_new : 0 < length new.bytes.items
  some_new = omega (arith, length_is, ends)

  pub end_is : length (begun new.bytes.items) ≡ s.end
  end_is = ap (λ (m : List ℕ). length m) (begun_same new.bytes.items some_new) ∙ length_is

  pub built_is : built new later shares false ≡ with_piece (built old known shares failed) q
  built_is =
      let b = begun_same new.bytes.items some_new ∙ bytes_are in
      let l = h.left
      ∙ (ap (λ x. x ++ reverse old.left.items) h.links_are
      ∙ ap (λ (z : BlockOffsets). slots_of old.count z.target q ++ reverse old.left.items) (sym there)) in
      let k = h.interned ∙ ap (λ z. intern shares known z (loose_block q)) (sym there) in
      λ i. record {
        bytes = b i;
        count = h.count i;
        left = l i;
        waits = h.waits i;
        known = k i;
        shares = shares;
        failed = false;
      }

  pub opens : IsOpen new
  opens =
      let a = after_lie (built old known shares failed) q (omega (arith, four)) waits_lie left_lie in
      let l = subst (λ (b : Built). SlotsLie b.left (length b.bytes)) (sym built_is) a in
      let m = begun_length old.bytes.items in
      record {
        left = subst (λ (n : List ℕ). SlotsLie (reverse new.left.items) (length n)) (begun_same new.bytes.items some_new) l;
        waits = subst (λ o. SlotLies o (length new.bytes.items)) (sym h.waits) tt;
        many = omega (arith, h.count, stands.many, length_is, ends, m);
        some = λ p. omega (arith, length_is, ends, four);
      }

-- where a block would end past the longest message, it is too long
pub too_long : (old : Message) (known : Known) (shares failed : Bool) (q : Piece) (s : BlockOffsets) → IsOpen old
    → s ≡ offsets known (align 8 (length (begun old.bytes.items))) (loose_block q) → 2 ^ 31 ≤ s.end
    → IsTooLong (built old known shares failed) (q ∷ [])
too_long old known shares failed q s stands place past =
    let four = some_begun old.bytes.items stands.some in
    let waits = lies_later old.waits (length old.bytes.items) (length (begun old.bytes.items)) (begun_length old.bytes.items) stands.waits in
    let l = with_length (built old known shares failed) q (omega (arith, four)) waits in
    let e = ap (λ (z : BlockOffsets). z.end) place in
    inr (omega (arith, l, e, past))

-- ---- what is composed

-- a block after its front
pub composed : (block begins cleared d m x : List ℕ) (start place : ℕ) → block ≡ begins ++ x
    → begins ≡ cleared ++ (front d ++ zeros (start - length (begun d))) → cleared ≡ [] → d ≡ m → start ≡ place
    → block ≡ front m ++ (zeros (place - length (begun m)) ++ x)
composed block begins cleared d m x start place b f c e s =
    b
    ∙ (ap (λ z. z ++ x) (f ∙ ap (λ z. z ++ (front d ++ zeros (start - length (begun d)))) c)
    ∙ (append_assoc (front d) (zeros (start - length (begun d))) x
    ∙ (λ i. front (e i) ++ (zeros (s i - length (begun (e i))) ++ x))))

-- only tables are interned
pub intern_elements : (shares : Bool) (known : Known) (s : BlockOffsets) (n : ℕ) (bs : List ℕ) → known ≡ intern shares known s (loose_block (elements_piece n bs))
intern_elements true known s n bs = refl
intern_elements false known s n bs = refl

pub intern_links : (shares : Bool) (known : Known) (s : BlockOffsets) (k : LinkKind) (n : ℕ) → known ≡ intern shares known s (loose_block (links_piece k n))
intern_links true known s k n = refl
intern_links false known s k n = refl

pub intern_text : (shares : Bool) (known : Known) (s : BlockOffsets) (bs : List ℕ) → known ≡ intern shares known s (loose_block (text_piece bs))
intern_text true known s bs = refl
intern_text false known s bs = refl

pub intern_table : (shares : Bool) (known : Known) (s : BlockOffsets) (es : List BlockField) (bs : List ℕ) → bs ≡ field_table_bytes (cells_of es [])
    → (if shares && s.is_own then known ++ (bs, s.fields) ∷ [] else known) ≡ intern shares known s (loose_block (table_piece es))
intern_table true known s es bs e = ap (λ b. if s.is_own then known ++ (b, s.fields) ∷ [] else known) e
intern_table false known s es bs e = refl
