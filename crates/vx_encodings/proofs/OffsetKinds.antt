-- The metadata of texts and of bytes by offsets: bytes that show a kind of integers, whatever the type and the readers.
use Rattle.std.proofs.Common.{ℕ, zero, suc, ◌≡◌, ◌<◌, List, IsTrue, refl, sym, ap, ◌∙◌, subst, arith}
use Rattle.vx_types.specs.Known.{ExtMeaning}
use Rattle.vx_numbers.specs.Numbers.{code_of, is_integer}
use Rattle.vx_types.specs.Typ.{Typ}
use Rattle.vx_numbers.specs.declared.ptype.PType.{PType}
use Rattle.vx_numbers.specs.declared.ptype.PType.TheVariants.{U8, U16, U32, U64, I8, I16, I32, I64, F16, F32, F64}
use Rattle.vx_proto.specs.declared.schema.ScalarKind.TheVariants.{Enum}
use Rattle.vx_proto.specs.Reads.{Reads}
use Rattle.vx_array_tree.specs.Encoding as E
use Rattle.vx_array_tree.specs.Metadata.{Metadata}
use Rattle.vx_array_tree.specs.Metadata as M
use Rattle.vx_array_tree.specs.Table.{IsFair}
use Rattle.vx_wire_tree.specs.Fields.{Fields}
use Rattle.vx_wire_tree.specs.Fields as F
use Rattle.vx_wire_tree.specs.Reads.{IsMetadata}
use Rattle.vx_encodings.proofs.Numbers.{one_coded_read, one_coded, coded_again}
use Rattle.vx_encodings.specs.Messages.{codec}
use Rattle.vx_encodings.specs.VarBinMessage.{varbin_schema, varbin_value, varbin_bytes, ShowsVarBin, one_kind_of_code}

-- ---- codes of kinds

pub few_kinds : (p : PType) → code_of p < 11
few_kinds U8 = omega arith
few_kinds U16 = omega arith
few_kinds U32 = omega arith
few_kinds U64 = omega arith
few_kinds I8 = omega arith
few_kinds I16 = omega arith
few_kinds I32 = omega arith
few_kinds I64 = omega arith
few_kinds F16 = omega arith
few_kinds F32 = omega arith
few_kinds F64 = omega arith

-- Each code is a kind's.
pub kind_coded : (n : ℕ) → n < 11 → (p : PType) × (code_of p ≡ n)
kind_coded zero lt = (U8, refl)
kind_coded (suc zero) lt = (U16, refl)
kind_coded (suc (suc zero)) lt = (U32, refl)
kind_coded (suc (suc (suc zero))) lt = (U64, refl)
kind_coded (suc (suc (suc (suc zero)))) lt = (I8, refl)
kind_coded (suc (suc (suc (suc (suc zero))))) lt = (I16, refl)
kind_coded (suc (suc (suc (suc (suc (suc zero)))))) lt = (I32, refl)
kind_coded (suc (suc (suc (suc (suc (suc (suc zero))))))) lt = (I64, refl)
kind_coded (suc (suc (suc (suc (suc (suc (suc (suc zero)))))))) lt = (F16, refl)
kind_coded (suc (suc (suc (suc (suc (suc (suc (suc (suc zero))))))))) lt = (F32, refl)
kind_coded (suc (suc (suc (suc (suc (suc (suc (suc (suc (suc zero)))))))))) lt = (F64, refl)
kind_coded (suc (suc (suc (suc (suc (suc (suc (suc (suc (suc (suc n))))))))))) lt = absurd (omega (arith, lt))

-- ---- metadata

-- Bytes are read as one kind at most.
one_read : (bytes : List ℕ) (p q : PType) → Reads varbin_schema 0 bytes (varbin_value p) → Reads varbin_schema 0 bytes (varbin_value q) → p ≡ q
one_read = one_coded_read code_of 11 (λ p. F.varbin p) one_kind_of_code

-- Bytes show one kind at most.
pub one_kind : (bytes : List ℕ) (f g : Fields) → ShowsVarBin bytes f → ShowsVarBin bytes g → f ≡ g
one_kind = one_coded code_of 11 (λ p. F.varbin p) one_kind_of_code

-- What is written of a kind is read as that kind.
pub kind_again : (p : PType) → ShowsVarBin (varbin_bytes p) (F.varbin p)
kind_again p = coded_again code_of 11 (λ q. F.varbin q) refl (omega arith) p (few_kinds p)

-- Bytes that show a kind of integers are metadata of texts and of bytes.
pub varbin_metadata : (x : ExtMeaning) (d : Typ) (bytes : List ℕ) (p : PType) → Reads varbin_schema 0 bytes (varbin_value p) → IsTrue (is_integer p) → IsMetadata codec x E.varbin d bytes (M.varbin p)
varbin_metadata x d bytes p r h = record {
  fields = F.varbin p;
  shown = record { coded = p; reads = r; fields_are = refl };
  meaning = refl;
  fair = h;
  known = tt;
}

-- What this metadata is read as: a kind of integers that the bytes show.
pub record ReadsKind (bytes : List ℕ) (v : Metadata) : Type 0 where
  pub offsets_ptype : PType
  pub reads : Reads varbin_schema 0 bytes (varbin_value offsets_ptype)
  pub value_is : v ≡ M.varbin offsets_ptype
  pub integer : IsTrue (is_integer offsets_ptype)

meant_kind : (d : Typ) (f : Fields) (p : PType) (v : Metadata) → f ≡ F.varbin p → F.meant d f ≡ v → v ≡ M.varbin p
meant_kind d f p v e m = sym m ∙ ap (λ (z : Fields). F.meant d z) e

pub varbin_kind : (x : ExtMeaning) (d : Typ) (bytes : List ℕ) (v : Metadata) → IsMetadata codec x E.varbin d bytes v → ReadsKind bytes v
varbin_kind x d bytes v m =
    let e = meant_kind d m.fields m.shown.coded v m.shown.fields_are m.meaning in
    record {
      offsets_ptype = m.shown.coded;
      reads = m.shown.reads;
      value_is = e;
      integer = subst (λ (z : Metadata). IsFair E.varbin z) e m.fair;
    }

-- Bytes that show another kind are no metadata.
pub kind_is_integer : (x : ExtMeaning) (d : Typ) (bytes : List ℕ) (v : Metadata) (p : PType) → IsMetadata codec x E.varbin d bytes v → Reads varbin_schema 0 bytes (varbin_value p) → IsTrue (is_integer p)
kind_is_integer x d bytes v p m r =
    let k = varbin_kind x d bytes v m in
    subst (λ (q : PType). IsTrue (is_integer q)) (one_read bytes k.offsets_ptype p k.reads r) k.integer
