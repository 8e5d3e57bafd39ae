-- Foreign nodes: their rows and parts, where they may stand, and what is read back of them.
use Rattle.std.proofs.Common.{ℕ, zero, suc, ◌≡◌, List, [], ◌∷◌, Some, None, Bool, true, false, IsTrue, codes, slice_get, refl, ap, subst, arith}
use Rattle.std.proofs.lemmas.Bool.{false≢true}
use Rattle.std.proofs.lemmas.Option.{same_Some}
use Rattle.vx_buffer.specs.Buffer.{Buffer}
use Rattle.vx_trees.specs.Rose.{node, end, more, label, below, roses_list}
use Rattle.vx_types.specs.Kind as K
use Rattle.vx_types.specs.Typ.{Typ}
use Rattle.vx_types.specs.Value as V
use Rattle.vx_types.specs.Value.{Value, lone}
use Rattle.vx_types.specs.declared.nullability.Nullability.{Nullability}
use Rattle.vx_types.specs.declared.nullability.Nullability.TheVariants.{Nullable, NonNullable}
use Rattle.vx_numbers.specs.declared.ptype.PType.TheVariants as P
use Rattle.vx_scalars.proofs.LawsStats.{none_fit}
use Rattle.vx_scalars.specs.Stats.{no_stats}
use Rattle.vx_scalars.specs.declared.precision.Precision.TheVariants.{Exact, Absent}
use Rattle.vx_array_tree.specs.Body.{Body}
use Rattle.vx_array_tree.specs.Body as B
use Rattle.vx_array_tree.specs.Canon.{Spelling, canon}
use Rattle.vx_array_tree.specs.Encoding.{Encoding}
use Rattle.vx_array_tree.specs.Encoding as E
use Rattle.vx_array_tree.specs.Encodings.Foreigns as Foreigns
use Rattle.vx_array_tree.specs.Metadata as M
use Rattle.vx_array_tree.specs.Normal.{IsNormal}
use Rattle.vx_array_tree.specs.Place.{place}
use Rattle.vx_array_tree.specs.Sound.{IsSound, IsControlled, HasNoForeign}
use Rattle.vx_array_tree.specs.Table.{own_id, buffers_of, plan_of, is_control}
use Rattle.vx_array_tree.specs.Tree.{Tree, encoding_ids, valid_at, cells, buffers, with_stats}
use Rattle.vx_array_tree.proofs.CanonLaws.{canon_normal}
use Rattle.vx_array_tree.proofs.LawsControls.{native_controlled, one_leaf}
use Rattle.vx_array_tree_tests.proofs.Samples.{array, buffer, bits, number_type, flag_type, text_type, list_of, fixed_type, map_type, entry_type, union_type, variant_type, first_rows, null, tuple, u16, u8s, u16s, i32s, numbers, words, maps, four, count, told_numbers}
use Rattle.vx_array_tree_tests.proofs.SoundSamples.{bits_sound, u16s_sound, numbers_sound}

-- ---- samples

abbrev pub parts : List ℕ → List ℕ → Foreigns.Data
parts id metadata = record { id = id; metadata = metadata; buffers = buffer (1 ∷ 2 ∷ 3 ∷ []) 3 ∷ [] }

-- A node of an encoding that nothing reads, with three bytes at an exponent of 3.
abbrev pub foreign : Typ → ℕ → List Tree → Tree
foreign d n ts = array d n (B.foreign (parts (codes "x.new") (7 ∷ []))) ts

-- Three opaque numbers.
abbrev pub unknown : Tree
unknown = foreign (number_type P.U16 NonNullable) 3 []

abbrev pub pair_type : Typ
pair_type = node (K.structure (codes "a" ∷ codes "b" ∷ []) Nullable) (more (number_type P.U16 NonNullable) (more (number_type P.U16 NonNullable) end))

-- Pairs of which one field is unknown, after this validity.
abbrev pub half_known : Tree → Tree
half_known validity = array pair_type 3 B.struct (validity ∷ unknown ∷ u16s (7 ∷ 8 ∷ 9 ∷ []) ∷ [])

-- A dictionary by these codes over values that are unknown.
abbrev pub unknown_values : Tree → Tree
unknown_values codes = array (number_type P.U16 NonNullable) 2 (B.dict (record { all_values_referenced = false })) (codes ∷ unknown ∷ [])

-- ---- rows

abbrev opaque : Value
opaque = lone V.opaque

unknown_rows : first_rows 3 unknown ≡ opaque ∷ opaque ∷ opaque ∷ []
unknown_rows = refl

-- Whether a row is valid is known of none, whatever its type says and whatever stands below.
unknown_whether : (i : ℕ) → valid_at unknown i ≡ None
unknown_whether i = refl

unknown_over_numbers : (i : ℕ) → valid_at (foreign (number_type P.I32 Nullable) 4 (numbers ∷ [])) i ≡ None
unknown_over_numbers i = refl

unknown_cells : cells unknown 2 ≡ 1
unknown_cells = refl

-- Of pairs it is known which are valid.
pairs_are : first_rows 3 (half_known (bits 3 5)) ≡ tuple (opaque ∷ u16 7 ∷ []) ∷ null ∷ tuple (opaque ∷ u16 9 ∷ []) ∷ []
pairs_are = refl

pair_lacks : valid_at (half_known (bits 3 5)) 1 ≡ Some false
pair_lacks = refl

-- A code names an opaque value.
value_unknown : valid_at (unknown_values (u8s NonNullable (2 ∷ 0 ∷ []) [])) 0 ≡ None
value_unknown = refl

-- ---- parts

-- Each foreign node has an identifier of its own.
own_ids : encoding_ids (half_known (bits 3 5)) ≡ codes "vortex.struct" ∷ codes "vortex.bool" ∷ codes "x.new" ∷ codes "vortex.primitive" ∷ []
own_ids = refl

own_buffers : buffers (foreign (flag_type Nullable) 4 (bits 4 5 ∷ [])) ≡ buffer (1 ∷ 2 ∷ 3 ∷ []) 3 ∷ buffer (5 ∷ []) 0 ∷ []
own_buffers = refl

-- Children of a foreign node are read at its own type and length.
foreign_places : (v : Foreigns.Metadata) → plan_of E.foreign (text_type Nullable) 5 (M.foreign v) 2 ≡ Some (place (text_type Nullable) 5 ∷ place (text_type Nullable) 5 ∷ [])
foreign_places v = refl

-- ---- which children say where rows are

abbrev controls : Encoding → Typ → List Bool
controls e d = is_control e d 3 0 ∷ is_control e d 3 1 ∷ is_control e d 3 2 ∷ []

-- Codes and no values, tags and no members.
of_dictionaries : controls E.dict (text_type Nullable) ≡ true ∷ false ∷ false ∷ []
of_dictionaries = refl

of_unions : controls E.union union_type ≡ true ∷ false ∷ false ∷ []
of_unions = refl

-- All but elements.
of_views : controls E.listview (list_of (number_type P.U16 NonNullable)) ≡ false ∷ true ∷ true ∷ []
of_views = refl

of_lists : controls E.list (list_of (number_type P.U16 NonNullable)) ≡ false ∷ true ∷ true ∷ []
of_lists = refl

of_fixed : controls E.fixed_size_list (fixed_type 3) ≡ false ∷ true ∷ true ∷ []
of_fixed = refl

-- Offsets and validities of what has no elements.
of_texts : controls E.varbin (text_type Nullable) ≡ true ∷ true ∷ true ∷ []
of_texts = refl

-- A struct's validity stands in front of two fields; with three fields none does.
of_pairs : controls E.struct pair_type ≡ true ∷ false ∷ false ∷ []
of_pairs = refl

of_triples : controls E.struct (node (K.structure (codes "a" ∷ codes "b" ∷ codes "c" ∷ []) NonNullable) (more (text_type Nullable) (more (text_type Nullable) (more (text_type Nullable) end)))) ≡ false ∷ false ∷ false ∷ []
of_triples = refl

-- No child of maps, variants, extensions and foreign nodes.
of_maps : controls E.map map_type ≡ false ∷ false ∷ false ∷ []
of_maps = refl

of_variants : controls E.variant (variant_type Nullable) ≡ false ∷ false ∷ false ∷ []
of_variants = refl

of_extensions : controls E.ext (node (K.extension (codes "x.day") []) (more (number_type P.I32 NonNullable) end)) ≡ false ∷ false ∷ false ∷ []
of_extensions = refl

of_foreigns : controls E.foreign (flag_type Nullable) ≡ false ∷ false ∷ false ∷ []
of_foreigns = refl

-- ---- where foreign nodes may stand

unknown_sound : IsSound unknown
unknown_sound = (record { fair = tt; planned = refl; allows = tt; takes = tt; holds = tt; controlled = native_controlled _ _ _ tt; content = tt; stats = none_fit _ }, tt)

-- In memory children of another type and length may stand below a foreign node.
over_numbers_sound : IsSound (foreign (text_type Nullable) 9 (numbers ∷ []))
over_numbers_sound = (
  record { fair = tt; planned = refl; allows = tt; takes = tt; holds = tt; controlled = native_controlled _ _ _ ((tt, one_leaf), tt); content = tt; stats = none_fit _ },
  (numbers_sound, tt),
)

-- A field of a struct may be foreign, as long as the validity is not.
known_pairs : (i : ℕ) (t : Tree) → slice_get (roses_list (below (half_known (bits 3 5)))) i ≡ Some t → IsTrue (is_control E.struct pair_type 3 i) → HasNoForeign t
known_pairs zero t e c = subst (λ (z : Tree). HasNoForeign z) (same_Some (bits 3 5) t e) (tt, tt)
known_pairs (suc zero) t e c = absurd (false≢true c)
known_pairs (suc (suc zero)) t e c = absurd (false≢true c)
known_pairs (suc (suc (suc zero))) t e c = absurd (cc)
known_pairs (suc (suc (suc (suc i)))) t e c = absurd (cc)

half_known_sound : IsSound (half_known (bits 3 5))
half_known_sound = (
  record { fair = tt; planned = refl; allows = λ e. refl; takes = tt; holds = tt; controlled = record { controls = known_pairs; entries = tt }; content = tt; stats = none_fit _ },
  (bits_sound 3 5 (omega arith), (unknown_sound, (u16s_sound (7 ∷ 8 ∷ 9 ∷ []) refl, tt))),
)

-- Values of a dictionary may be foreign, its codes may not, nor may the codes' validity.
foreign_codes : IsSound (unknown_values (foreign (number_type P.U8 NonNullable) 2 [])) → ⊥
foreign_codes s = (s.0.controlled.controls 0 (foreign (number_type P.U8 NonNullable) 2 []) refl refl).0

foreign_below_codes : IsSound (unknown_values (u8s NonNullable (2 ∷ 0 ∷ []) (foreign (flag_type NonNullable) 2 [] ∷ []))) → ⊥
foreign_below_codes s = (s.0.controlled.controls 0 (u8s NonNullable (2 ∷ 0 ∷ []) (foreign (flag_type NonNullable) 2 [] ∷ [])) refl refl).1.0.0

-- Nor a struct's validity, nor offsets, nor tags.
foreign_validity : IsSound (half_known (foreign (flag_type NonNullable) 3 [])) → ⊥
foreign_validity s = (s.0.controlled.controls 0 (foreign (flag_type NonNullable) 3 []) refl refl).0

foreign_offsets : IsSound (array (list_of (number_type P.U16 NonNullable)) 3 B.list (u16s (1 ∷ 2 ∷ 3 ∷ []) ∷ foreign (number_type P.I32 NonNullable) 4 [] ∷ [])) → ⊥
foreign_offsets s = (s.0.controlled.controls 1 (foreign (number_type P.I32 NonNullable) 4 []) refl refl).0

foreign_tags : IsSound (array union_type 3 B.union (foreign (number_type P.U8 Nullable) 3 [] ∷ i32s NonNullable (7 ∷ 8 ∷ 9 ∷ []) [] ∷ words ∷ bits 3 7 ∷ [])) → ⊥
foreign_tags s = (s.0.controlled.controls 0 (foreign (number_type P.U8 Nullable) 3 []) refl refl).0

-- The entries of maps are a list view that is known, over elements that may be foreign.
foreign_entries : IsSound (array map_type 1 B.map (foreign (list_of entry_type) 1 [] ∷ [])) → ⊥
foreign_entries s = s.0.controlled.entries

abbrev unknown_entry : Tree
unknown_entry = maps (array (list_of entry_type) 1 (B.listview (record { zero_copy = false })) (foreign entry_type 1 [] ∷ u8s NonNullable (0 ∷ []) [] ∷ u8s NonNullable (1 ∷ []) [] ∷ []))

foreign_entry_controlled : IsControlled (label unknown_entry) (below unknown_entry)
foreign_entry_controlled = record { controls = λ i t e c. absurd (false≢true c); entries = tt }

-- ---- what is read back

-- Nodes spelled by what they hold, with this metadata where they are of a known encoding.
abbrev bytes_of : Body → List ℕ
bytes_of (B.foreign x) = x.metadata
bytes_of _ = codes "m"

abbrev pub spelled : Spelling
spelled h ts = record { id = own_id h.body; metadata = bytes_of h.body; buffers = buffers_of h.body }

-- Such a node over these children, as it is read.
abbrev kept : Typ → ℕ → List ℕ → List Buffer → List Tree → Tree
kept d n id bs ts = array d n (B.foreign (record { id = id; metadata = codes "m"; buffers = bs })) ts

-- A foreign node stays.
stays : canon spelled unknown ≡ unknown
stays = refl

-- What stands below it is read as foreign, too, at its type and length, with the buffers' exponents; no
-- statistics are.
below_foreign : canon spelled (with_stats (record no_stats { null_count = Exact (count 0) }) (foreign (text_type Nullable) 9 (told_numbers ∷ [])))
    ≡ foreign (text_type Nullable) 9
    (kept (text_type Nullable) 9 (codes "vortex.primitive") (buffer (four (1 ∷ 2 ∷ 3 ∷ 4 ∷ [])) 2 ∷ [])
    (kept (text_type Nullable) 9 (codes "vortex.bool") (buffer (5 ∷ []) 0 ∷ []) [] ∷ []) ∷ [])
below_foreign = refl

-- Values that are foreign take their dictionary's type, and all below them do.
abbrev lifted_unknown : Nullability → List Tree → Tree
lifted_unknown m ts =
    array (number_type P.U16 Nullable) 2 (B.dict (record { all_values_referenced = true })) (u8s Nullable (0 ∷ 1 ∷ []) (bits 2 1 ∷ []) ∷ foreign (number_type P.U16 m) 3 ts ∷ [])

values_take : canon spelled (lifted_unknown NonNullable (bits 7 1 ∷ []))
    ≡ lifted_unknown Nullable (kept (number_type P.U16 Nullable) 3 (codes "vortex.bool") (buffer (1 ∷ []) 0 ∷ []) [] ∷ [])
values_take = refl

-- Nothing is normal that is not read so: statistics of a foreign node, a child that is known, and one of
-- another length.
told_unknown : IsNormal (with_stats (record no_stats { null_count = Exact (count 0) }) unknown) → ⊥
told_unknown n = let x : Exact (count 0) ≡ Absent = ap (λ s. s.null_count) n.0.stats in absurd (cc)

known_child : IsNormal (foreign (number_type P.U16 NonNullable) 3 (u16s (1 ∷ 2 ∷ 3 ∷ []) ∷ [])) → ⊥
known_child n = let x : E.primitive ≡ E.foreign = n.0.children.0.encoding in absurd (cc)

other_length : IsNormal (foreign (number_type P.U16 NonNullable) 4 (unknown ∷ [])) → ⊥
other_length n = let x : 3 ≡ 4 = n.0.children.0.len in absurd (omega (arith, x))

-- What is read back is sound and normal, though the array was not.
read_normal : IsNormal (canon spelled (foreign (text_type Nullable) 9 (numbers ∷ [])))
read_normal = canon_normal spelled (foreign (text_type Nullable) 9 (numbers ∷ [])) over_numbers_sound
