-- Wire trees of arrays of each encoding, the messages of their metadata, and what those mean.
use Rattle.std.specs.Prelude.{◌≡◌, [], ◌∷◌, ◌++◌, Some, None, false, true, codes, refl}
use Rattle.vx_flat.specs.Value.{Field}
use Rattle.vx_trees.specs.Rose.{node, label, below}
use Rattle.vx_numbers.specs.declared.decimal_type.DecimalType.TheVariants as D
use Rattle.vx_types.specs.declared.nullability.Nullability.TheVariants.{Nullable, NonNullable}
use Rattle.vx_numbers.specs.declared.ptype.PType.TheVariants as P
use Rattle.vx_array_tree.specs.Metadata as M
use Rattle.vx_array_tree.specs.Sound.{metadata_in}
use Rattle.vx_array_tree.specs.Tree.{Tree}
use Rattle.vx_array_tree_tests.proofs.Samples.{number_type, text_type, buffer, four, flags, flags_from, numbers, nulls, sixteen, decimals, varbins, texts, dictionary, lists, views, fixed, maps, entries, structs, unions, days, variants, typed, told_of_numbers, told_numbers}
use Rattle.vx_wire_tree.specs.Codec.{Codec}
use Rattle.vx_wire_tree.specs.Fields as F
use Rattle.vx_wire_tree.specs.Fields.{Fields, meant, told}
use Rattle.vx_wire_tree.specs.Session.{SessionMeaning}
use Rattle.vx_wire_tree.specs.Wire.{Wire, ids_in, buffers_in}
use Rattle.vx_wire_tree.specs.Written.{wire}

-- ---- messages

abbrev message : Tree → Fields
message t = told (metadata_in (label t) (below t))

flags_message : message (flags_from 5) ≡ F.bool 5
flags_message = refl

numbers_message : message numbers ≡ F.empty
numbers_message = refl

decimals_message : message (decimals D.I128 (sixteen 100 0 ++ sixteen 244 1) 4 2) ≡ F.decimal D.I128
decimals_message = refl

varbins_message : message (varbins (0 ∷ 2 ∷ 2 ∷ 3 ∷ []) (codes "abc")) ≡ F.varbin P.I32
varbins_message = refl

lists_message : message (lists (0 ∷ 2 ∷ 2 ∷ 3 ∷ [])) ≡ F.list 3 P.I32
lists_message = refl

views_message : message (views true NonNullable (1 ∷ 0 ∷ []) (2 ∷ 1 ∷ []) []) ≡ F.listview 3 P.U8 P.U8
views_message = refl

-- Three values, nullable codes: both flags are written.
dictionary_message : message (dictionary 1) ≡ F.dict (record { values_len = 3; codes_ptype = P.U8; is_nullable_codes = Some true; all_values_referenced = Some false })
dictionary_message = refl

variants_message : message (variants (typed ∷ [])) ≡ F.variant (Some (number_type P.I32 Nullable))
variants_message = refl

bare_variants_message : message (variants []) ≡ F.variant None
bare_variants_message = refl

-- Where the flags are absent, codes are nullable as the type is.
nullable_codes : meant (text_type Nullable) (F.dict (record { values_len = 3; codes_ptype = P.U8; is_nullable_codes = None; all_values_referenced = None }))
    ≡ M.dict (record { values_len = 3; codes_ptype = P.U8; nullable_codes = Nullable; all_values_referenced = false })
nullable_codes = refl

other_codes : meant (text_type NonNullable) (F.dict (record { values_len = 3; codes_ptype = P.U8; is_nullable_codes = None; all_values_referenced = None }))
    ≡ M.dict (record { values_len = 3; codes_ptype = P.U8; nullable_codes = NonNullable; all_values_referenced = false })
other_codes = refl

-- ---- trees, whatever messages and session

-- A wire tree with another field of statistics at its root.
abbrev with_field : Field → Wire → Wire
with_field f (node w ws) = node (record { id = w.id; metadata = w.metadata; buffers = w.buffers; stats = f }) ws

module _ (c : Codec) (s : SessionMeaning) where
  numbers_ids : ids_in (wire c s numbers) ≡ codes "vortex.primitive" ∷ codes "vortex.bool" ∷ []
  numbers_ids = refl

  numbers_buffers : buffers_in (wire c s numbers) ≡ buffer (four (1 ∷ 2 ∷ 3 ∷ 4 ∷ [])) 2 ∷ buffer (5 ∷ []) 0 ∷ []
  numbers_buffers = refl

  -- Statistics stand in their field, and change nothing else.
  numbers_told : wire c s told_numbers ≡ with_field (c.stats_field told_of_numbers) (wire c s numbers)
  numbers_told = refl

  nulls_ids : ids_in (wire c s (nulls 3)) ≡ codes "vortex.null" ∷ []
  nulls_ids = refl

  nulls_buffers : buffers_in (wire c s (nulls 3)) ≡ []
  nulls_buffers = refl

  flags_ids : ids_in (wire c s (flags Nullable)) ≡ codes "vortex.bool" ∷ codes "vortex.bool" ∷ []
  flags_ids = refl

  decimals_ids : ids_in (wire c s (decimals D.I128 (sixteen 100 0 ++ sixteen 244 1) 4 2)) ≡ codes "vortex.decimal" ∷ []
  decimals_ids = refl

  varbins_ids : ids_in (wire c s (varbins (0 ∷ 2 ∷ 2 ∷ 3 ∷ []) (codes "abc"))) ≡ codes "vortex.varbin" ∷ codes "vortex.primitive" ∷ []
  varbins_ids = refl

  texts_ids : ids_in (wire c s (texts 21 97)) ≡ codes "vortex.varbinview" ∷ codes "vortex.bool" ∷ []
  texts_ids = refl

  lists_ids : ids_in (wire c s (lists (0 ∷ 2 ∷ 2 ∷ 3 ∷ []))) ≡ codes "vortex.list" ∷ codes "vortex.primitive" ∷ codes "vortex.primitive" ∷ []
  lists_ids = refl

  views_ids : ids_in (wire c s (views false NonNullable (1 ∷ 0 ∷ []) (2 ∷ 1 ∷ []) []))
      ≡ codes "vortex.listview" ∷ codes "vortex.primitive" ∷ codes "vortex.primitive" ∷ codes "vortex.primitive" ∷ []
  views_ids = refl

  fixed_ids : ids_in (wire c s (fixed 2 2 (1 ∷ 2 ∷ 3 ∷ 4 ∷ []))) ≡ codes "vortex.fixed_size_list" ∷ codes "vortex.primitive" ∷ []
  fixed_ids = refl

  dictionary_ids : ids_in (wire c s (dictionary 1)) ≡ codes "vortex.dict" ∷ codes "vortex.primitive" ∷ codes "vortex.bool" ∷ codes "vortex.varbin" ∷ codes "vortex.primitive" ∷ []
  dictionary_ids = refl

  maps_ids : ids_in (wire c s (maps entries))
      ≡ codes "vortex.map" ∷ codes "vortex.listview" ∷ codes "vortex.struct" ∷ codes "vortex.primitive" ∷ codes "vortex.varbin" ∷ codes "vortex.primitive" ∷ codes "vortex.primitive"
      ∷ codes "vortex.primitive" ∷ []
  maps_ids = refl

  structs_ids : ids_in (wire c s structs) ≡ codes "vortex.struct" ∷ codes "vortex.bool" ∷ codes "vortex.primitive" ∷ []
  structs_ids = refl

  days_ids : ids_in (wire c s days) ≡ codes "vortex.ext" ∷ codes "vortex.primitive" ∷ []
  days_ids = refl

  unions_ids : ids_in (wire c s (unions (0 ∷ 9 ∷ 5 ∷ [])))
      ≡ codes "vortex.union" ∷ codes "vortex.primitive" ∷ codes "vortex.bool" ∷ codes "vortex.primitive" ∷ codes "vortex.varbin" ∷ codes "vortex.primitive" ∷ codes "vortex.bool" ∷ []
  unions_ids = refl

  variants_ids : ids_in (wire c s (variants (typed ∷ []))) ≡ codes "vortex.variant" ∷ codes "x.core" ∷ codes "vortex.primitive" ∷ codes "vortex.bool" ∷ []
  variants_ids = refl

  variants_buffers : buffers_in (wire c s (variants (typed ∷ []))) ≡ buffer (four (1 ∷ 2 ∷ [])) 2 ∷ buffer (1 ∷ []) 0 ∷ []
  variants_buffers = refl

  -- The message's bytes are the node's metadata.
  variants_metadata : (label (wire c s (variants (typed ∷ [])))).metadata ≡ c.fields_bytes (F.variant (Some (number_type P.I32 Nullable)))
  variants_metadata = refl
