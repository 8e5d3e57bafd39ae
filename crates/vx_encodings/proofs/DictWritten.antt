-- What is written of dictionaries.
use Rattle.std.proofs.Common.{ℕ, ◌≡◌, ◌<◌, ◌≤◌, ◌-◌, ◌^◌, Some, List, [], ◌∷◌, Result, Ok, Err, IfOk, length, refl, ap, ◌∙◌, arith}
use Rattle.vx_trees.specs.Rose.{label, below, roses_of}
use Rattle.vx_proto.specs.Written.{written}
use Rattle.vx_array_tree.specs.Encodings.Dicts as Dicts
use Rattle.vx_array_tree.specs.Metadata as M
use Rattle.vx_array_tree.specs.Place.{second_place}
use Rattle.vx_array_tree.specs.Tree.{Tree, Trees, places}
use Rattle.vx_wire_tree.specs.Fields.{DictFields, is_nullable, told}
use Rattle.vx_wire_tree.specs.Limits.{HasMessage}
use Rattle.vx_arrays.specs.Plain.{plain_body}
use Rattle.vx_arrays.specs.declared.body.Body.{Body}
use Rattle.vx_arrays.specs.declared.body.Body.TheVariants.{Dict}
use Rattle.vx_encodings.proofs.DictFields.{flags_nest}
use Rattle.vx_encodings.proofs.Fit.{fits_over}
use Rattle.vx_encodings.specs.DictMessage.{dict_bytes, dict_schema, dict_value}
use Rattle.vx_encodings.specs.Messages.{message_bytes}
use Rattle.vx_plans.specs.declared.error.EncodingError.{EncodingError}

-- The fields that are written of metadata.
abbrev pub told_fields : Dicts.Metadata → DictFields
told_fields v = record {
  values_len = v.values_len;
  codes_ptype = v.codes_ptype;
  is_nullable_codes = Some (is_nullable v.nullable_codes);
  all_values_referenced = Some v.all_values_referenced;
}

-- The message is written.
pub fields_written : (v : Dicts.Metadata) (f : DictFields) (r : Result (List ℕ) EncodingError) → f ≡ told_fields v → IfOk r (λ bytes. bytes ≡ written dict_schema 0 (dict_value f)) → IfOk r (λ bytes. bytes ≡ message_bytes (told (M.dict v)))
fields_written v f (Ok bytes) e q = q ∙ ap (λ (g : DictFields). dict_bytes g) e
fields_written v f (Err x) e q = tt

-- Fewer than two children have no values.
pub none_counted : (ts : List Tree) → length ts < 2 → 0 ≡ (second_place (places (roses_of ts))).len
none_counted [] h = refl
none_counted (t ∷ []) h = refl
none_counted (t ∷ u ∷ ts) h = absurd (omega (arith, h))

-- The lemmas for writing this metadata.
pub ruleset dict_written = (flags_nest)

-- The values of a root that fits its message are counted in 32 bits.
pub values_counted : (t : Tree) (b : Body) (x : Dicts.Data) (us : Trees) → b ≡ Dict x → plain_body b ≡ (label t).body → us ≡ below t → HasMessage (label t) (below t) → (second_place (places us)).len ≤ 2 ^ 32 - 1
values_counted t b x us e p u h = fits_over t b (Dict x) e p us u h
