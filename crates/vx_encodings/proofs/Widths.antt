-- The metadata of decimals: bytes that show a width, whatever the type and the readers.
use Rattle.std.proofs.Common.{ℕ, zero, suc, ◌≡◌, ◌<◌, List, refl, sym, ap, ◌∙◌, arith}
use Rattle.vx_numbers.specs.Decimals.{decimal_code_of}
use Rattle.vx_types.specs.Known.{ExtMeaning}
use Rattle.vx_types.specs.Typ.{Typ}
use Rattle.vx_numbers.specs.declared.decimal_type.DecimalType.{DecimalType}
use Rattle.vx_numbers.specs.declared.decimal_type.DecimalType.TheVariants.{I8, I16, I32, I64, I128, I256}
use Rattle.vx_proto.specs.declared.schema.ScalarKind.TheVariants.{Enum}
use Rattle.vx_proto.specs.Reads.{Reads}
use Rattle.vx_array_tree.specs.Encoding as E
use Rattle.vx_array_tree.specs.Metadata.{Metadata}
use Rattle.vx_array_tree.specs.Metadata as M
use Rattle.vx_wire_tree.specs.Fields.{Fields}
use Rattle.vx_wire_tree.specs.Fields as F
use Rattle.vx_wire_tree.specs.Reads.{IsMetadata}
use Rattle.vx_encodings.proofs.Numbers.{one_coded_read, one_coded, coded_again}
use Rattle.vx_encodings.specs.DecimalMessage.{decimal_schema, decimal_value, decimal_bytes, ShowsDecimal, one_width_of_code}
use Rattle.vx_encodings.specs.Messages.{codec}

-- ---- codes of widths

pub few_codes : (w : DecimalType) → decimal_code_of w < 6
few_codes I8 = omega arith
few_codes I16 = omega arith
few_codes I32 = omega arith
few_codes I64 = omega arith
few_codes I128 = omega arith
few_codes I256 = omega arith

-- Each code is a width's.
pub width_coded : (n : ℕ) → n < 6 → (w : DecimalType) × (decimal_code_of w ≡ n)
width_coded zero lt = (I8, refl)
width_coded (suc zero) lt = (I16, refl)
width_coded (suc (suc zero)) lt = (I32, refl)
width_coded (suc (suc (suc zero))) lt = (I64, refl)
width_coded (suc (suc (suc (suc zero)))) lt = (I128, refl)
width_coded (suc (suc (suc (suc (suc zero))))) lt = (I256, refl)
width_coded (suc (suc (suc (suc (suc (suc n)))))) lt = absurd (omega (arith, lt))

-- ---- metadata

-- Bytes are read as one width at most.
one_read : (bytes : List ℕ) (v w : DecimalType) → Reads decimal_schema 0 bytes (decimal_value v) → Reads decimal_schema 0 bytes (decimal_value w) → v ≡ w
one_read = one_coded_read decimal_code_of 6 (λ w. F.decimal w) one_width_of_code

-- Bytes show one width at most.
pub one_width : (bytes : List ℕ) (f g : Fields) → ShowsDecimal bytes f → ShowsDecimal bytes g → f ≡ g
one_width = one_coded decimal_code_of 6 (λ w. F.decimal w) one_width_of_code

-- What is written of a width is read as that width.
pub width_again : (w : DecimalType) → ShowsDecimal (decimal_bytes w) (F.decimal w)
width_again w = coded_again decimal_code_of 6 (λ v. F.decimal v) refl (omega arith) w (few_codes w)

-- Bytes that show a width are metadata of decimals.
pub decimal_metadata : (x : ExtMeaning) (d : Typ) (bytes : List ℕ) (w : DecimalType) → Reads decimal_schema 0 bytes (decimal_value w) → IsMetadata codec x E.decimal d bytes (M.decimal w)
decimal_metadata x d bytes w r = record {
  fields = F.decimal w;
  shown = record { coded = w; reads = r; fields_are = refl };
  meaning = refl;
  fair = tt;
  known = tt;
}

-- What metadata of decimals is read as: a width that the bytes show.
pub record ReadsWidth (bytes : List ℕ) (v : Metadata) : Type 0 where
  pub values_type : DecimalType
  pub reads : Reads decimal_schema 0 bytes (decimal_value values_type)
  pub value_is : v ≡ M.decimal values_type

pub decimal_width : (x : ExtMeaning) (d : Typ) (bytes : List ℕ) (v : Metadata) → IsMetadata codec x E.decimal d bytes v → ReadsWidth bytes v
decimal_width x d bytes v m = record {
  values_type = m.shown.coded;
  reads = m.shown.reads;
  value_is = sym m.meaning ∙ ap (λ (z : Fields). F.meant d z) m.shown.fields_are;
}

-- A width that the bytes show is the one that is read.
pub width_is : (bytes : List ℕ) (v : Metadata) (w : DecimalType) → ReadsWidth bytes v → Reads decimal_schema 0 bytes (decimal_value w) → v ≡ M.decimal w
width_is bytes v w r s = r.value_is ∙ ap (λ (z : DecimalType). M.decimal z) (one_read bytes r.values_type w r.reads s)
