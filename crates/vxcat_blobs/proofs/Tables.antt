-- The table of a seed keeps the limits on writing, and its blob spells it.
use Rattle.std.proofs.Common.{ℕ, zero, suc, ◌≡◌, ◌+◌, ◌*◌, ◌/◌, ◌<◌, ◌≤◌, ◌^◌, ◌%◌, Bool, true, false, List, [], ◌∷◌, ◌++◌, Option, None, Some, inl, inr, length, is_some, refl, sym, ap, ◌∙◌, subst, arith}
use Rattle.std.specs.Prelude.{nat_lt, ◌==◌, if◌then◌else◌}
use Rattle.std.proofs.lemmas.List.{length-append}
use Rattle.std.proofs.lemmas.List.Elements.{All-from_recursion}
use Rattle.vx_buffer.specs.Buffer.{Buffer}
use Rattle.vx_buffer.specs.Joined.{joined}
use Rattle.vx_trees.specs.Rose.{Rose, node, end, more, label}
use Rattle.vx_trees.specs.Walks.{levels}
use Rattle.vx_types.specs.Known.{IsKnown, no_readers}
use Rattle.vx_type_wire.specs.Schema.{type_schema}
use Rattle.vx_type_wire.specs.TypeTable.{type_table}
use Rattle.vx_type_wire.specs.Written as T
use Rattle.vx_type_wire.specs.declared.error.TypeWireError.{TypeWireError}
use Rattle.vx_type_wire.specs.declared.error.TypeWireError.TheVariants as type_error
use Rattle.vx_numbers.specs.declared.ptype.PType.TheVariants.{U8, U32}
use Rattle.vx_array_tree.specs.Body as B
use Rattle.vx_array_tree.specs.Encoding as E
use Rattle.vx_array_tree.specs.Encodings.Primitives as Primitives
use Rattle.vx_array_tree.specs.Table.{id_of}
use Rattle.vx_array_tree.specs.Tree.{Tree}
use Rattle.vx_scalars.specs.Stats.{no_stats}
use Rattle.vx_flat.specs.Blocks.{Block, table_block, elements_block, links_block, text_block, blocks}
use Rattle.vx_flat.specs.declared.writing.block.Cell.{Cell}
use Rattle.vx_flat.specs.declared.writing.block.BlockOffsets.{BlockOffsets}
use Rattle.vx_flat.specs.Building.{nothing_built, with_pieces}
use Rattle.vx_flat.specs.FieldTables.{align, inline_end, field_table_bytes}
use Rattle.vx_flat.specs.Layout.{length_of, written_layout, shares}
use Rattle.vx_flat.specs.Limits.{limits, KeepsLimits}
use Rattle.vx_flat.specs.Pieces.{pieces}
use Rattle.vx_flat.specs.Schema.{Schema}
use Rattle.vx_flat.specs.BlockOffsets.{Known, known_at, table_offsets, offsets, intern, block_offsets, last_end}
use Rattle.vx_flat.specs.Value.{Fields, table, elements, field, no_fields}
use Rattle.vx_flat.specs.ValueWeight.{weight_of}
use Rattle.vx_flat.specs.Weight.{weight}
use Rattle.vx_flat.proofs.LawsOfMessages.{weight-shown, layout_length}
use Rattle.vx_proto.specs.Written.{varint_within, varint_bytes, written}
use Rattle.vx_wire_tree.specs.Context.{Context, with_ids, grown, grown_by}
use Rattle.vx_wire_tree.specs.Fields.{DictFields}
use Rattle.vx_wire_tree.specs.Limits.{HasMessages, IsDescribable, AreDescribable}
use Rattle.vx_wire_tree.specs.ReadBack.{IsReadAs, IsWritten, ReadsBack}
use Rattle.vx_wire_tree.specs.Session.{IsShipped, shipped}
use Rattle.vx_wire_tree.specs.Taken.{unregistered, unserializable, undeclared, unwilling}
use Rattle.vx_wire_tree.specs.Wire.{Wire, buffers_in, ids_in}
use Rattle.vx_wire_tree.specs.DecodesTo.{DecodesTo}
use Rattle.vx_wire_tree.specs.Matches.{Matches}
use Rattle.vx_wire_tree.specs.Written.{wire, canon, body_id, writes_two}
use Rattle.vx_wire_tree.proofs.Laws.{canon_own, never_untaken, taken_whole, written_matches}
use Rattle.vx_encodings.specs.BoolMessage.{bool_bytes}
use Rattle.vx_encodings.specs.DictMessage.{dict_bytes}
use Rattle.vx_encodings.specs.ListMessage.{list_bytes}
use Rattle.vx_encodings.specs.Messages.{codec, stats_field}
use Rattle.vx_scalar_wire.specs.StatsTable.{AreStorable}
use Rattle.vx_registry.specs.Session.{no_plugins, shipped_registry}
use Rattle.vx_registry.proofs.LawsSessions.{registry_lawful, shipped_alone}
use Rattle.vx_serialized.specs.ArraySchema.{array_schema}
use Rattle.vx_serialized.specs.declared.message.Descriptor.{Descriptor}
use Rattle.vx_serialized.specs.Message.{NodeFields}
use Rattle.vx_serde.specs.MessageValue.{node_value, message_value, descriptors_bytes}
use Rattle.vx_serde.specs.Numbered.{numbered}
use Rattle.vx_serde.specs.Placing.{descriptors_from, data_end}
use Rattle.vx_serde.specs.Causes.{RefusesArray}
use Rattle.vx_serialized.specs.declared.error.WireError.{WireError}
use Rattle.vx_serialized.specs.declared.error.WireError.TheVariants as wire_error
use Rattle.vx_serde.specs.Request.{CanRecode}
use Rattle.vx_serde.specs.Limits.{most_levels}
use Rattle.vx_serde.specs.Serializing.{IsSerialized, IsWrittenBlob}
use Rattle.vx_serde.specs.Spells.{Spells, KeepsReaderLimits, KeepsWriterLimits, ids_after}
use Rattle.vx_serde.specs.Taking.{as_written}
use Rattle.vx_serde.specs.Written.{message_bytes, IsWritable}
use Rattle.vx_serde.proofs.LawsOfReading.{written_within_limits}
use Rattle.vx_serde.proofs.LawsOfWriting.{shows-layout, length-blob, message_value_is_of, placed_from_ids, numbered_fits, wire-tabled, wire-whole, told_spelled, grown_by-placed}
use Rattle.vxcat_blobs.specs.MakeCommand.{make_options, make_session, no_ids}
use Rattle.vxcat_blobs.proofs.OwnNames.{wire_named, read_named}
use Rattle.vx_generator.specs.Columns.{columns}
use Rattle.vx_generator.specs.Made.{buffer, long_text, views, made, made_type}
use Rattle.vx_generator.proofs.Laws.{made_sound, made_normal, made_stats, small, few}

-- ---- how long a layout is at most

-- The greatest length of a block, with what is left out before it.
abbrev size : Block → ℕ
size (table_block cs) = 7 + (align 8 (4 + 2 * length cs) + inline_end 4 cs)
size (elements_block n bs) = 11 + length bs
size (links_block ls) = 11 + 4 * length ls
size (text_block bs) = 12 + length bs

abbrev pub sizes : List Block → ℕ
sizes [] = 0
sizes (b ∷ bs) = size b + sizes bs

aligned : (p : ℕ) → align 8 p ≤ p + 7
aligned p = omega arith

table_end : (p : ℕ) (cs : List Cell) (o : Option ℕ) → (table_offsets p cs o).end ≤ p + (align 8 (4 + 2 * length cs) + inline_end 4 cs)
table_end p cs None = omega arith
table_end p cs (Some q) = omega arith

offsets_end : (known : Known) (p : ℕ) (b : Block) → (offsets known (align 8 p) b).end ≤ p + size b
offsets_end known p (table_block cs) = omega (arith, aligned p, table_end (align 8 p) cs (known_at known (field_table_bytes cs)))
offsets_end known p (elements_block n bs) = omega (arith, aligned p)
offsets_end known p (links_block ls) = omega (arith, aligned p)
offsets_end known p (text_block bs) = omega (arith, aligned p)

ends : (sharing : Bool) (known : Known) (p : ℕ) (bs : List Block) → last_end p (block_offsets sharing known p bs) ≤ p + sizes bs
ends sharing known p [] = omega arith
ends sharing known p (b ∷ bs) =
    let s : BlockOffsets = offsets known (align 8 p) b in
    omega (arith, offsets_end known p b, ends sharing (intern sharing known s b) s.end bs)

pub layout_short : (s : Schema) (v : Fields) → length (written_layout s v) ≤ 8 + sizes (blocks s v)
unfolding length_of
layout_short s v = omega (arith, layout_length shares (blocks s v), ends shares [] 8 (blocks s v))

-- ---- what the metadata of the table's nodes takes

varint_short : (left n : ℕ) → length (varint_within left n) ≤ left
varint_short zero n = omega arith
varint_short (suc left) n = at (varint_short left (n / 128)) (nat_lt n 128) where
  at : length (varint_within left (n / 128)) ≤ left → (b : Bool) → length (if b then n ∷ [] else (128 + n % 128) ∷ varint_within left (n / 128)) ≤ suc left
  at h true = omega arith
  at h false = omega (arith, h)

-- The number of elements after its key, or nothing where it is 0.
abbrev counted : Bool → ℕ → List ℕ
counted b n = if b then [] else 8 ∷ varint_within 10 n

counted_short : (b : Bool) (n : ℕ) → length (counted b n) ≤ 11
counted_short true n = omega arith
counted_short false n = omega (arith, varint_short 10 n)

list_is : (n : ℕ) → list_bytes n U32 ≡ (counted (n == 0) n ++ []) ++ (16 ∷ 2 ∷ [])
unfolding written varint_bytes
list_is n = refl

list_short : (n : ℕ) → length (list_bytes n U32) ≤ 13
list_short n =
    omega (arith, ap (λ (l : List ℕ). length l) (list_is n), length-append (counted (n == 0) n ++ []) (16 ∷ 2 ∷ []), length-append (counted (n == 0) n) [], counted_short (n == 0) n)

-- The message of the dictionary's metadata: five values, codes of one byte that are never null.
abbrev dict_fields : DictFields
dict_fields = record { values_len = 5; codes_ptype = U8; is_nullable_codes = Some false; all_values_referenced = Some false }

dict_short : length (dict_bytes dict_fields) ≤ 8
unfolding written varint_bytes
dict_short = omega arith

bool_short : length (bool_bytes 0) ≤ 2
unfolding written varint_bytes
bool_short = omega arith

-- ---- the table's message

-- The table's nodes in a message, by the metadata of the three that have some.
abbrev fields_of_node : ℕ → List ℕ → List ℕ → NodeFields
fields_of_node encoding metadata numbers = record { encoding = encoding; metadata = metadata; buffers = numbers; stats = stats_field no_stats }

abbrev table_nodes : List ℕ → List ℕ → List ℕ → Rose NodeFields
table_nodes flags texts lists =
    node (fields_of_node 0 [] [])
    (more (node (fields_of_node 1 [] (0 ∷ [])) (more (node (fields_of_node 2 flags (1 ∷ [])) end) end))
    (more (node (fields_of_node 3 texts []) (more (node (fields_of_node 1 [] (2 ∷ [])) end) (more (node (fields_of_node 4 [] (3 ∷ 4 ∷ [])) end) end)))
    (more (node (fields_of_node 5 lists []) (more (node (fields_of_node 1 [] (5 ∷ [])) end) (more (node (fields_of_node 1 [] (6 ∷ [])) end) end)))
    end)))

abbrev table_value : List ℕ → List ℕ → List ℕ → List ℕ → Fields
table_value flags texts lists descriptors = field (table (node_value (table_nodes flags texts lists))) (field (elements descriptors) no_fields)

value_short : (flags texts lists descriptors : List ℕ) → sizes (blocks array_schema (table_value flags texts lists descriptors)) ≤ 4000 + (length flags + length texts + length lists + length descriptors)
value_short flags texts lists descriptors = omega arith

pub value_within_limits : (flags texts lists descriptors : List ℕ) → length flags + length texts + length lists + length descriptors ≤ 1000 → KeepsLimits limits (weight_of (table_value flags texts lists descriptors))
value_within_limits flags texts lists descriptors few = (omega arith, omega arith, omega (arith, few))

-- ---- the table

-- The identifiers of its nodes.
abbrev pub table_ids : List (List ℕ)
table_ids = id_of E.struct ∷ id_of E.primitive ∷ id_of E.bool ∷ id_of E.dict ∷ id_of E.varbinview ∷ id_of E.list ∷ []

pub table_grows : (seed rows : ℕ) → grown codec make_session no_ids (made seed rows) ≡ Some (record { ids = table_ids; allowed = None })
unfolding made
table_grows seed rows = ap (λ w. grown_by (ids_in w) no_ids) (wire_named make_session refl (made seed rows))

-- Each node is written, and read back.
pub table_written : (seed rows : ℕ) → IsWritten make_session (made seed rows)
unfolding made
table_written seed rows = (
  record { writer = shipped E.struct; writer_is = refl },
  (
    (record { writer = shipped E.primitive; writer_is = refl }, ((record { writer = shipped E.bool; writer_is = refl }, tt), tt)),
    (
      (record { writer = shipped E.dict; writer_is = refl }, ((record { writer = shipped E.primitive; writer_is = refl }, tt), ((record { writer = shipped E.varbinview; writer_is = refl }, tt), tt))),
      ((record { writer = shipped E.list; writer_is = refl }, ((record { writer = shipped E.primitive; writer_is = refl }, tt), ((record { writer = shipped E.primitive; writer_is = refl }, tt), tt))), tt),
    ),
  ),
)

-- No plugin writes it, so it is written unchanged.
session_shipped : IsShipped make_session
session_shipped = shipped_alone no_readers

table_levels : (seed rows : ℕ) → levels (made seed rows) ≡ 3
unfolding made
table_levels seed rows = refl

pub table_whole : (seed rows : ℕ) → as_written make_session make_options (made seed rows) ≡ made seed rows
table_whole seed rows = taken_whole make_session session_shipped (most_levels make_options) (made seed rows) (table_written seed rows) (omega (arith, table_levels seed rows))

none_storable : AreStorable no_stats
none_storable = record { least = tt; greatest = tt; sum = tt; null_count = tt; uncompressed_size = tt; nan_count = tt }

none_counted : length {A = ℕ} [] < 2 ^ 64
none_counted = omega arith

flags_counted : length (bool_bytes 0) < 2 ^ 64
flags_counted = omega (arith, bool_short)

texts_counted : length (dict_bytes dict_fields) < 2 ^ 64
texts_counted = omega (arith, dict_short)

lists_counted : (n : ℕ) → length (list_bytes n U32) < 2 ^ 64
lists_counted n = omega (arith, list_short n)

own_read : (x : Primitives.Data) (n : ℕ) → IsReadAs (make_session.reader (body_id (writes_two make_session) (B.primitive x) n)) E.primitive (body_id (writes_two make_session) (B.primitive x) n) n
own_read x n = read_named make_session refl (B.primitive x) n (record { encoding = refl; held = tt })

table_read_back : (seed rows : ℕ) → rows ≤ 1000000 → ReadsBack codec make_session (made seed rows)
unfolding made
table_read_back seed rows h = (
  record { reader = record { encoding = refl; held = tt }; message = tt; countable = none_counted; known = tt; storable = none_storable },
  (
    (record { reader = own_read (record { values = buffer (columns seed rows rows).numbers 3 }) rows; message = tt; countable = none_counted; known = tt; storable = none_storable }, ((record { reader = record { encoding = refl; held = tt }; message = tt; countable = flags_counted; known = tt; storable = none_storable }, tt), tt)),
    (
      (
        record { reader = record { encoding = refl; held = tt }; message = omega arith; countable = texts_counted; known = tt; storable = none_storable },
        ((record { reader = own_read (record { values = buffer (columns seed rows rows).codes 0 }) rows; message = tt; countable = none_counted; known = tt; storable = none_storable }, tt), ((record { reader = record { encoding = refl; held = tt }; message = tt; countable = none_counted; known = tt; storable = none_storable }, tt), tt)),
      ),
      (
        (
          record { reader = record { encoding = refl; held = tt }; message = omega (arith, h, few seed rows rows); countable = lists_counted (columns seed rows rows).count; known = tt; storable = none_storable },
          ((record { reader = own_read (record { values = buffer (columns seed rows rows).elements 1 }) (columns seed rows rows).count; message = tt; countable = none_counted; known = tt; storable = none_storable }, tt), ((record { reader = own_read (record { values = buffer (columns seed rows rows).offsets 2 }) (suc rows); message = tt; countable = none_counted; known = tt; storable = none_storable }, tt), tt)),
        ),
        tt,
      ),
    ),
  ),
)

table_messages : (seed rows : ℕ) → rows ≤ 1000000 → HasMessages (made seed rows)
unfolding made
table_messages seed rows h = (
  tt,
  (
    (tt, ((tt, tt), tt)),
    (
      (omega arith, ((tt, tt), ((tt, tt), tt))),
      (
        (omega (arith, h, few seed rows rows), ((tt, tt), ((tt, tt), tt))),
        tt,
      ),
    ),
  ),
)

describable : (bytes : List ℕ) (exponent : ℕ) → exponent ≤ 16 → length bytes < 2 ^ 32 → IsDescribable (buffer bytes exponent)
describable bytes exponent e l = record { exponent = e; len = omega (arith, l) }

long_len : length long_text ≡ 21
unfolding long_text
long_len = refl

views_len : length views ≡ 80
unfolding views long_text
views_len = refl

table_describable : (seed rows : ℕ) → rows ≤ 1000000 → AreDescribable (buffers_in (wire codec make_session (made seed rows)))
unfolding made
table_describable seed rows h =
    let c = columns seed rows rows in
    let fits = small seed rows h in
    All-from_recursion (λ b. IsDescribable b) (buffers_in (wire codec make_session (made seed rows))) (
      describable c.numbers 3 (omega arith) (omega (arith, fits)),
      (
        describable c.validity 0 (omega arith) (omega (arith, fits)),
        (
          describable c.codes 0 (omega arith) (omega (arith, fits)),
          (
            describable long_text 0 (omega arith) (omega (arith, long_len)),
            (
              describable views 4 (omega arith) (omega (arith, views_len)),
              (
                describable c.elements 1 (omega arith) (omega (arith, fits)),
                (
                  describable c.offsets 2 (omega arith) (omega (arith, fits)),
                  tt,
                ),
              ),
            ),
          ),
        ),
      ),
    )

-- The table's nodes as its message numbers them.
table_numbered : (seed rows : ℕ)
    → numbered table_ids 0 (wire codec make_session (made seed rows)) ≡ table_nodes (bool_bytes 0) (dict_bytes dict_fields) (list_bytes (columns seed rows rows).count U32)
unfolding made
table_numbered seed rows = ap (λ w. numbered table_ids 0 w) (wire_named make_session refl (made seed rows))

table_after : (seed rows : ℕ) → ids_after make_session (made seed rows) no_ids ≡ table_ids
unfolding made
table_after seed rows = ap (λ w. with_ids no_ids.ids (ids_in w)) (wire_named make_session refl (made seed rows))

descriptors_len : (seed rows : ℕ) → length (descriptors_bytes (descriptors_from make_options 0 (buffers_in (wire codec make_session (made seed rows))))) ≡ 56
unfolding made
descriptors_len seed rows = refl

data_small : (seed rows : ℕ) → rows ≤ 1000000 → data_end make_options 0 (buffers_in (wire codec make_session (made seed rows))) < 2 ^ 33
unfolding made
data_small seed rows h = omega (arith, small seed rows h, long_len, views_len)

table_few : (seed rows : ℕ) → length (buffers_in (wire codec make_session (made seed rows))) ≡ 7
unfolding made
table_few seed rows = refl

table_nested : (seed rows : ℕ) → levels (wire codec make_session (made seed rows)) ≡ 3
unfolding made
table_nested seed rows = refl

-- ---- limits on writing

module _ (seed rows : ℕ) (h : rows ≤ 1000000) where
  abbrev t : Tree
  t = made seed rows

  abbrev w : Wire
  w = wire codec make_session t

  abbrev ds : List Descriptor
  ds = descriptors_from make_options 0 (buffers_in w)

  abbrev value : Fields
  value = message_value (numbered table_ids 0 w) ds

  abbrev own_value : Fields
  own_value = table_value (bool_bytes 0) (dict_bytes dict_fields) (list_bytes (columns seed rows rows).count U32) (descriptors_bytes ds)

  value_is : value ≡ own_value
  value_is = λ i. field (table (node_value (table_numbered seed rows i))) (field (elements (descriptors_bytes ds)) no_fields)

  parts_short : length (bool_bytes 0) + length (dict_bytes dict_fields) + length (list_bytes (columns seed rows rows).count U32) + length (descriptors_bytes ds) ≤ 100
  parts_short = omega (arith, bool_short, dict_short, list_short (columns seed rows rows).count, descriptors_len seed rows)

  message_short : length (message_bytes table_ids make_options w) ≤ 5000
  message_short =
      let bound = subst (λ (z : Fields). sizes (blocks array_schema z) ≤ 4000 + (length (bool_bytes 0) + length (dict_bytes dict_fields) + length (list_bytes (columns seed rows rows).count U32) + length (descriptors_bytes ds))) (sym value_is)
      (value_short (bool_bytes 0) (dict_bytes dict_fields) (list_bytes (columns seed rows rows).count U32) (descriptors_bytes ds)) in
      omega (arith, layout_short array_schema value, bound, parts_short)

  message_within_limits : KeepsLimits limits (weight array_schema (message_bytes table_ids make_options w))
  message_within_limits =
      let placed = placed_from_ids table_ids w (wire-whole codec make_session t) (grown_by-placed (ids_in w) no_ids (record { ids = table_ids; allowed = None }) (table_grows seed rows)).placed in
      let of = message_value_is_of (numbered table_ids 0 w) ds (numbered_fits table_ids 0 w (omega (arith, table_few seed rows)) placed (wire-tabled make_session t)) in
      let shown = shows-layout value of (omega (arith, message_short)) in
      let within_limits = subst (λ (z : Fields). KeepsLimits limits (weight_of z)) (sym value_is)
      (value_within_limits (bool_bytes 0) (dict_bytes dict_fields) (list_bytes (columns seed rows rows).count U32) (descriptors_bytes ds) (omega (arith, parts_short))) in
      subst (λ z. KeepsLimits limits z) (sym (weight-shown array_schema (message_bytes table_ids make_options w) value shown)) within_limits

  writable : IsWritable table_ids make_options w
  writable = record {
    tree = record { nested = omega (arith, table_nested seed rows); few = omega (arith, table_few seed rows); describable = table_describable seed rows h };
    short = omega (arith, message_short);
    within_limits = message_within_limits;
    ends = omega (arith, length-blob table_ids make_options w, data_small seed rows h, message_short);
  }

  -- The table keeps the limits on writing.
  pub table_limits : KeepsWriterLimits make_session t no_ids make_options
  table_limits = record {
    messages = table_messages seed rows h;
    writable = subst (λ z. IsWritable z make_options w) (sym (table_after seed rows)) writable;
  }

  -- ---- what is written is read back

  -- It is read back as itself.
  pub table_own : canon codec make_session t ≡ t
  table_own = canon_own codec make_session t (made_sound seed rows h) (made_normal seed rows) (made_stats seed rows)

  table_told : DecodesTo codec make_session w (label t).dtype (label t).len t
  table_told =
      let sound = made_sound seed rows h in
      let law = registry_lawful no_plugins shipped_registry no_readers in
      record {
        matched = subst (λ z. Matches codec make_session w z) table_own (written_matches codec make_session law t sound (table_read_back seed rows h));
        dtype = refl;
        len = refl;
        sound = sound;
      }

  module _ (after : Context) (buffers : List Buffer) (x : IsSerialized make_session t make_options no_ids after buffers) where
    -- The blob is that of the unchanged table.
    blob : IsWrittenBlob make_session t make_options no_ids after buffers
    blob = subst (λ (z : Tree). IsWrittenBlob make_session z make_options no_ids after buffers) (table_whole seed rows) x.blob

    -- The blob that was written for the table spells it.
    pub table_spelled : Spells (joined buffers) after.ids (label t).dtype (label t).len make_session t
    table_spelled =
        subst (λ (b : List ℕ). Spells b after.ids (label t).dtype (label t).len make_session t) (sym blob.written)
        (told_spelled make_session t no_ids after make_options blob.grown_is blob.limits (label t).dtype (label t).len t table_told)

    -- It can be recoded.
    pub table_again : CanRecode (record { blob = joined buffers; dtype = (label t).dtype; len = (label t).len; ids = after.ids; context = no_ids; options = make_options; session = make_session })
    table_again = record {
      array = t;
      spelled = table_spelled;
      reader_limits = subst (λ (b : List ℕ). KeepsReaderLimits make_options b) (sym blob.written) (written_within_limits make_session t no_ids make_options blob.limits);
      writer_limits = blob.limits;
      grows = ap is_some blob.grown_is;
    }

-- ---- the bytes of its type

type_writable : T.IsWritable made_type
type_writable = record { shallow = omega arith; within_limits = (omega arith, omega arith, omega arith) }

type_fits : length (with_pieces nothing_built (pieces type_schema (type_table made_type))).bytes ≤ 1000
type_fits = omega arith

not_failed : nothing_built.failed ≡ true → ⊥
not_failed e = absurd (cc)

-- The only refusal where the type is written is allocation failure.
pub type_memory : (e : TypeWireError) → T.RefusesWritingTypeTable made_type nothing_built e → e ≡ type_error.OutOfMemory
type_memory type_error.OutOfMemory h = refl
type_memory type_error.WireLimit (inl h) = absurd (h type_writable)
type_memory type_error.WireLimit (inr (inl h)) = absurd (not_failed h)
type_memory type_error.WireLimit (inr (inr h)) = absurd (omega (arith, h, type_fits))
type_memory type_error.BadTable h = absurd h
type_memory type_error.TableLimit h = absurd h
type_memory type_error.BadMessage h = absurd h
type_memory type_error.TooDeep h = absurd h
type_memory type_error.BadType h = absurd h
type_memory type_error.UnknownExtension h = absurd h
type_memory type_error.ExtensionRefused h = absurd h

-- No extension stands in it.
pub type_known : IsKnown no_readers made_type
type_known = (tt, ((tt, tt), ((tt, tt), ((tt, ((tt, tt), tt)), tt))))

-- ---- the only refusal where the table is written is allocation failure

pub table_memory : (seed rows : ℕ) → rows ≤ 1000000 → (e : WireError) → RefusesArray make_session (made seed rows) no_ids make_options e → e ≡ wire_error.OutOfMemory
table_memory seed rows h wire_error.OutOfMemory r = refl
table_memory seed rows h wire_error.NotPermitted r = absurd (none_or_some (sym (table_grows seed rows) ∙ ap (λ (z : Tree). grown codec make_session no_ids z) (sym (table_whole seed rows)) ∙ r.none)) where
  none_or_some : {A : Type 0} {x : A} → Some x ≡ None → ⊥
  none_or_some e = absurd (cc)
table_memory seed rows h wire_error.WireLimit r = absurd (r (subst (λ (z : Tree). KeepsWriterLimits make_session z no_ids make_options) (sym (table_whole seed rows)) (table_limits seed rows h)))
table_memory seed rows h wire_error.NotRegistered r = absurd (never_untaken make_session session_shipped (most_levels make_options) unregistered (made seed rows) (table_written seed rows) r)
table_memory seed rows h wire_error.NotSerializable r = absurd (never_untaken make_session session_shipped (most_levels make_options) unserializable (made seed rows) (table_written seed rows) r)
table_memory seed rows h wire_error.UndeclaredId r = absurd (never_untaken make_session session_shipped (most_levels make_options) undeclared (made seed rows) (table_written seed rows) r)
table_memory seed rows h wire_error.PluginRefused r = absurd (never_untaken make_session session_shipped (most_levels make_options) unwilling (made seed rows) (table_written seed rows) r)
table_memory seed rows h wire_error.TooShort r = absurd r
table_memory seed rows h wire_error.BadTable r = absurd r
table_memory seed rows h wire_error.TableLimit r = absurd r
table_memory seed rows h wire_error.BadAlignment r = absurd r
table_memory seed rows h wire_error.Compressed r = absurd r
table_memory seed rows h wire_error.OutOfBounds r = absurd r
table_memory seed rows h wire_error.UnknownIndex r = absurd r
table_memory seed rows h wire_error.UnknownEncoding r = absurd r
table_memory seed rows h wire_error.BadMetadata r = absurd r
table_memory seed rows h wire_error.BadShape r = absurd r
table_memory seed rows h wire_error.BadContent r = absurd r
table_memory seed rows h wire_error.ForeignControl r = absurd r
table_memory seed rows h wire_error.BadStats r = absurd r
