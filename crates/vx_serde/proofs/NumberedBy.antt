-- Nodes whose encodings are numbered by a list of numbers.
use Rattle.std.proofs.Common.{ℕ, suc, ◌≡◌, ◌+◌, ◌*◌, ◌≤◌, List, [], ◌∷◌, ◌++◌, Option, Some, None, option_map, length, drop, get_or, refl, sym, ap, ◌∙◌, subst, arith, append_assoc, append-nil, length-append, add-zero}
use Rattle.std.proofs.lemmas.List.{drop-drop, drop_at, get_or-drop}
use Rattle.vx_flat.specs.IsOf.{IsOf}
use Rattle.vx_flat.specs.Layout.{written_layout}
use Rattle.vx_flat.specs.Value.{Field, Fields, table, elements, field, no_fields}
use Rattle.vx_flat.specs.ValueWeight.{weight_of, weight_of_field, weight_of_fields, weight_of_rows}
use Rattle.vx_proto.specs.Parts.{flag_number}
use Rattle.vx_scalars.specs.Stats.{Told, Stats}
use Rattle.vx_scalars.specs.WrittenStats.{written_sum, exact_flag, exact_count}
use Rattle.vx_scalars.specs.declared.precision.Precision.TheVariants.{Exact, Inexact, Absent}
use Rattle.vx_scalar_wire.specs.StatsTable.{value_field, number_field, count_bits, stats_table}
use Rattle.vx_trees.specs.Rose.{node, end, more}
use Rattle.vx_trees.specs.Everywhere.{Everywhere, EverywhereBelow}
use Rattle.vx_trees.specs.Walks.{nodes, nodes_of, gathered}
use Rattle.vx_wire_tree.specs.Context.{Context, grown_by}
use Rattle.vx_wire_tree.specs.Wire.{Wire, Wires, IsWhole, buffers_at_node, buffers_in, ids_in, present}
use Rattle.vx_serialized.specs.ArraySchema.{array_schema}
use Rattle.vx_serde.specs.Blocks.{encodings_in, encodings_below, numbered_by, numbered_below_by, message_by, layout_by}
use Rattle.vx_serialized.specs.declared.message.Descriptor.{Descriptor}
use Rattle.vx_serde.specs.MessageValue.{node_value, rows_value, descriptors_bytes}
use Rattle.vx_serde.specs.Numbered.{encoding_index, numbers_from, numbered, numbered_below}
use Rattle.vx_serde.specs.WritingSteps.{layout_of}
use Rattle.vx_serde.proofs.GrownPlaced.{grown_by-placed}
use Rattle.vx_serde.proofs.MessageRead.{message_value_is_of}
use Rattle.vx_serde.proofs.NumberedRead.{IsTabledNode, placed_from_ids, numbered_fits}
use Rattle.vx_serde.proofs.WiredStats.{IsToldNode}

-- ---- each node has one number

mutual
  encodings-count : (ids : List (List ℕ)) (w : Wire) → length (encodings_in ids w) ≡ nodes w
  encodings-count ids (node h ws) = ap suc (encodings-count_below ids ws)

  encodings-count_below : (ids : List (List ℕ)) (ws : Wires) → length (encodings_below ids ws) ≡ nodes_of ws
  encodings-count_below ids end = refl
  encodings-count_below ids (more w ws) =
      length-append (encodings_in ids w) (encodings_below ids ws) ∙ (λ i. encodings-count ids w i + encodings-count_below ids ws i)

pub as-many : (ids : List (List ℕ)) (w : Wire) (es : List ℕ) → es ≡ encodings_in ids w → length es ≡ nodes w
as-many ids w es e = ap (λ z. length z) e ∙ encodings-count ids w

-- The numbers of a tree's encodings, where they are the first that are found.
pub first-encodings : (w : Wire) (ids : List (List ℕ)) (start es : List ℕ) → start ≡ [] → es ≡ start ++ encodings_in (ids ++ []) w → es ≡ encodings_in ids w
first-encodings w ids start es e h =
    h ∙ ap (λ z. z ++ encodings_in (ids ++ []) w) e ∙ ap (λ z. encodings_in z w) (append-nil ids)

-- ---- numbers in a list of identifiers

past : (xs ys es : List ℕ) (k : ℕ) → drop k es ≡ xs ++ ys → drop (k + length xs) es ≡ ys
past xs ys es k e = sym (drop-drop (length xs) k es) ∙ ap (λ z. drop (length xs) z) e ∙ drop_at xs ys (length xs) refl

at-place : (x : ℕ) (ys es : List ℕ) (k : ℕ) → drop k es ≡ x ∷ ys → get_or es k 0 ≡ x
at-place x ys es k e = ap (λ n. get_or es n 0) (sym (add-zero k)) ∙ sym (get_or-drop k es 0 0) ∙ ap (λ z. get_or z 0 0) e

mutual
  by-encodings : (ids : List (List ℕ)) (es rest : List ℕ) (k n : ℕ) (w : Wire) → drop k es ≡ encodings_in ids w ++ rest → numbered_by es k n w ≡ numbered ids n w
  by-encodings ids es rest k n (node h ws) e =
      let own = length (present h.buffers) in
      let number = at-place (encoding_index h.id ids) (encodings_below ids ws ++ rest) es k e in
      let below = by-encodings_below ids es rest (k + 1) (n + own) ws (past (encoding_index h.id ids ∷ []) (encodings_below ids ws ++ rest) es k e) in
      λ i. node (record { encoding = number i; metadata = h.metadata; buffers = numbers_from n own; stats = h.stats }) (below i)

  by-encodings_below : (ids : List (List ℕ)) (es rest : List ℕ) (k n : ℕ) (ws : Wires) → drop k es ≡ encodings_below ids ws ++ rest → numbered_below_by es k n ws ≡ numbered_below ids n ws
  by-encodings_below ids es rest k n end e = refl
  by-encodings_below ids es rest k n (more w ws) e =
      let own = encodings_in ids w in
      let behind = encodings_below ids ws ++ rest in
      let here : drop k es ≡ own ++ behind = e ∙ append_assoc own (encodings_below ids ws) rest in
      let there : drop (k + nodes w) es ≡ behind = ap (λ m. drop (k + m) es) (sym (encodings-count ids w)) ∙ past own behind es k here in
      λ i. more (by-encodings ids es behind k n w here i) (by-encodings_below ids es rest (k + nodes w) (n + length (gathered buffers_at_node w)) ws there i)

pub root-numbered : (ids : List (List ℕ)) (w : Wire) (es : List ℕ) → es ≡ encodings_in ids w → numbered_by es 0 0 w ≡ numbered ids 0 w
root-numbered ids w es known = by-encodings ids es [] 0 0 w (known ∙ sym (append-nil (encodings_in ids w)))

module _ (ids : List (List ℕ)) (w : Wire) (es bytes : List ℕ) (known : es ≡ encodings_in ids w) where
  root-is : numbered_by es 0 0 w ≡ numbered ids 0 w
  root-is = root-numbered ids w es known

  -- The message is that of the identifiers.
  pub layout-numbered : layout_by es w bytes ≡ layout_of ids w bytes
  layout-numbered = ap (λ root. written_layout array_schema (field (table (node_value root)) (field (elements bytes) no_fields))) root-is

  -- Its value is one of array messages, where the identifiers have their places.
  pub message-of_kind : (old new : Context) (ds : List Descriptor) → new.ids ≡ ids → grown_by (ids_in w) old ≡ Some new → IsWhole w → Everywhere IsTabledNode w → length (buffers_in w) ≤ 65535
      → bytes ≡ descriptors_bytes ds → IsOf array_schema (message_by es w bytes)
  message-of_kind old new ds same grew whole tabled few d =
      let placed = placed_from_ids new.ids w whole (grown_by-placed (ids_in w) old new grew).placed in
      let of = message_value_is_of (numbered new.ids 0 w) ds (numbered_fits new.ids 0 w (omega (arith, few)) placed tabled) in
      let P : Fields → Type 0 = λ v. IsOf array_schema v in
      subst P (λ i. field (table (node_value ((ap (λ z. numbered z 0 w) same ∙ sym root-is) i))) (field (elements (sym d i)) no_fields)) of

-- ---- how many tables a message has

-- A vector that may be absent has no table, and neither has such a number: so the table of a set is one table.
value_tables : (x : Told) → (weight_of_field (value_field x)).tables ≡ 0
value_tables (Exact v) = refl
value_tables (Inexact v) = refl
value_tables Absent = refl

number_tables : (o : Option ℕ) → (weight_of_field (number_field o)).tables ≡ 0
number_tables None = refl
number_tables (Some n) = refl

stats_tables : (x : Stats) → (weight_of_field (table (stats_table x))).tables ≡ 1
stats_tables x =
    omega (
      arith,
      value_tables x.least,
      value_tables x.greatest,
      value_tables (written_sum x.total),
      number_tables (option_map flag_number (exact_flag x.is_sorted)),
      number_tables (option_map flag_number (exact_flag x.is_strict_sorted)),
      number_tables (option_map flag_number (exact_flag x.is_constant)),
      number_tables (option_map count_bits (exact_count x.null_count)),
      number_tables (option_map count_bits (exact_count x.uncompressed_size)),
      number_tables (option_map count_bits (exact_count x.nan_count)),
    )

mutual
  -- Each node is two tables: its own, and that of its statistics.
  node_tables : (es : List ℕ) (k n : ℕ) (w : Wire) → Everywhere IsToldNode w → (weight_of_fields (node_value (numbered_by es k n w))).tables + 1 ≡ 2 * nodes w
  node_tables es k n (node h ws) told =
      let one : (weight_of_field h.stats).tables ≡ 1 = ap (λ (f : Field). (weight_of_field f).tables) told.0.1 ∙ stats_tables told.0.0 in
      omega (arith, one, rows_tables es (k + 1) (n + length (present h.buffers)) ws told.1)

  rows_tables : (es : List ℕ) (k n : ℕ) (ws : Wires) → EverywhereBelow IsToldNode ws → (weight_of_rows (rows_value (numbered_below_by es k n ws))).tables ≡ 2 * nodes_of ws
  rows_tables es k n end told = refl
  rows_tables es k n (more w ws) told =
      omega (arith, node_tables es k n w told.0, rows_tables es (k + nodes w) (n + length (gathered buffers_at_node w)) ws told.1)

-- A message has one table more.
pub message-tables : (es : List ℕ) (w : Wire) (bytes : List ℕ) → Everywhere IsToldNode w → (weight_of (message_by es w bytes)).tables ≡ 2 * nodes w + 1
message-tables es w bytes told = omega (arith, node_tables es 0 0 w told)
