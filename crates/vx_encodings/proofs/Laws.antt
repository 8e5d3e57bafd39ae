-- What holds of the messages of metadata, encoding by encoding, and of the tables of statistics.
use Rattle.std.proofs.Common.{ℕ, ◌≡◌, ◌<◌, ◌^◌, List, [], Some, length, refl, sym, ap, ◌∙◌}
use Rattle.vx_flat.specs.Value.{table}
use Rattle.vx_types.specs.Known.{ExtMeaning}
use Rattle.vx_types.specs.Typ.{Typ}
use Rattle.vx_array_tree.specs.Encoding as E
use Rattle.vx_array_tree.specs.Metadata.{Metadata}
use Rattle.vx_array_tree.specs.Metadata as M
use Rattle.vx_array_tree.specs.Table.{IsFair, IsNativeEncoding}
use Rattle.vx_scalar_wire.proofs.LawsStats.{one_set_in, shown_fit_in, written_shown, written_storable, written_alike}
use Rattle.vx_wire_tree.specs.Codec.{IsLawfulAt, HasLawfulStats}
use Rattle.vx_wire_tree.specs.Fields.{Fields, FitsMessage, is_nullable, meant, told}
use Rattle.vx_wire_tree.specs.Fields as F
use Rattle.vx_wire_tree.specs.Reads.{IsMetadata}
use Rattle.vx_encodings.proofs.DictFields.{one_dict, dict_again}
use Rattle.vx_encodings.proofs.ElementCounts.{one_count_and_kind, list_again}
use Rattle.vx_encodings.proofs.OffsetKinds.{one_kind, kind_again}
use Rattle.vx_encodings.proofs.VariantFields.{one_variant, variant_again}
use Rattle.vx_encodings.proofs.ViewCounts.{one_count_and_kinds, views_again}
use Rattle.vx_encodings.proofs.Offsets.{one_offset, offset_again}
use Rattle.vx_encodings.proofs.Widths.{one_width, width_again}
use Rattle.vx_encodings.specs.Messages.{Shows, ShowsNothing, message_bytes, codec}
use Rattle.vx_encodings.specs.Plain.{plain_encoding}
use Rattle.vx_encodings.specs.declared.encoding.Encoding.{Encoding}
use Rattle.vx_encodings.specs.declared.encoding.Encoding.TheVariants.{Null}

one_nothing : (bytes : List ℕ) (f g : Fields) → ShowsNothing bytes f → ShowsNothing bytes g → f ≡ g
one_nothing bytes f g a b = a.fields_are ∙ sym b.fields_are

-- Bytes show at most one message of an encoding's metadata.
pub one_message : (e : E.Encoding) (bytes : List ℕ) (f g : Fields) → Shows e bytes f → Shows e bytes g → f ≡ g
one_message E.null bytes f g a b = one_nothing bytes f g a b
one_message E.bool bytes f g a b = one_offset bytes f g a b
one_message E.primitive bytes f g a b = one_nothing bytes f g a b
one_message E.decimal bytes f g a b = one_width bytes f g a b
one_message E.varbin bytes f g a b = one_kind bytes f g a b
one_message E.varbinview bytes f g a b = one_nothing bytes f g a b
one_message E.dict bytes f g a b = one_dict bytes f g a b
one_message E.list bytes f g a b = one_count_and_kind bytes f g a b
one_message E.listview bytes f g a b = one_count_and_kinds bytes f g a b
one_message E.fixed_size_list bytes f g a b = one_nothing bytes f g a b
one_message E.map bytes f g a b = one_nothing bytes f g a b
one_message E.struct bytes f g a b = one_nothing bytes f g a b
one_message E.union bytes f g a b = one_nothing bytes f g a b
one_message E.variant bytes f g a b = one_variant bytes f g a b
one_message E.ext bytes f g a b = one_nothing bytes f g a b
one_message E.foreign bytes f g a b = absurd a

-- Bytes are metadata of a node of a type in at most one way.
pub one_value : (x : ExtMeaning) (e : E.Encoding) (d : Typ) (bytes : List ℕ) (v w : Metadata) → IsMetadata codec x e d bytes v → IsMetadata codec x e d bytes w → v ≡ w
one_value x e d bytes v w m k = sym m.meaning ∙ ap (λ (f : Fields). meant d f) (one_message e bytes m.fields k.fields m.shown k.shown) ∙ k.meaning

nothing_shown : ShowsNothing [] F.empty
nothing_shown = record { bytes_are = refl; fields_are = refl }

-- What is written of metadata that an encoding admits and that fits its message shows it, where its bytes can be counted.
message_again : (e : E.Encoding) (v : Metadata) → IsNativeEncoding e → IsFair e v → FitsMessage v → length (message_bytes (told v)) < 2 ^ 64 → Shows e (message_bytes (told v)) (told v)
message_again E.null M.empty native fair fits short = nothing_shown
message_again E.bool (M.bool o) native fair fits short = offset_again o fair
message_again E.primitive M.empty native fair fits short = nothing_shown
message_again E.decimal (M.decimal w) native fair fits short = width_again w
message_again E.varbin (M.varbin p) native fair fits short = kind_again p
message_again E.varbinview M.empty native fair fits short = nothing_shown
message_again E.dict (M.dict v) native fair fits short =
    dict_again (record { values_len = v.values_len; codes_ptype = v.codes_ptype; is_nullable_codes = Some (is_nullable v.nullable_codes); all_values_referenced = Some v.all_values_referenced }) fits
message_again E.fixed_size_list M.empty native fair fits short = nothing_shown
message_again E.struct M.empty native fair fits short = nothing_shown
message_again E.ext M.empty native fair fits short = nothing_shown
message_again E.list (M.list v) native fair fits short = list_again v.elements_len v.offset_ptype fits
message_again E.listview (M.listview v) native fair fits short = views_again v fits
message_again E.map M.empty native fair fits short = nothing_shown
message_again E.union M.empty native fair fits short = nothing_shown
message_again E.variant (M.variant v) native fair fits short = variant_again v fair fits short
message_again E.foreign v native fair fits short = absurd native
message_again _ v native fair fits short = absurd fair

-- Each encoding with code is known.
pub native : (e : Encoding) → IsNativeEncoding (plain_encoding e)
native Null = tt
native _ = tt

-- The messages of each known encoding are lawful: bytes show at most one, and what is written is shown.
pub lawful : (e : E.Encoding) → IsNativeEncoding e → IsLawfulAt codec e
lawful e known = record {
  native = known;
  one_message = one_message e;
  message_again = λ v. message_again e v known;
}

-- And so are the tables of statistics.
pub stats_lawful : HasLawfulStats codec
stats_lawful = record {
  one_set = one_set_in;
  shown_fit = shown_fit_in;
  stats_again = written_shown;
  written_storable = written_storable;
  written_alike = λ t. ap (λ vs. table vs) (written_alike t);
  none_storable = record { least = tt; greatest = tt; sum = tt; null_count = tt; uncompressed_size = tt; nan_count = tt };
}
