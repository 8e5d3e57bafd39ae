-- The metadata of booleans: bytes that show an offset below 8, whatever the type and the readers.
use Rattle.std.proofs.Common.{ℕ, ◌≡◌, ◌<◌, List, refl, sym, ap, ◌∙◌, subst, arith}
use Rattle.vx_types.specs.Known.{ExtMeaning}
use Rattle.vx_types.specs.Typ.{Typ}
use Rattle.vx_proto.specs.declared.schema.ScalarKind.TheVariants.{Uint32}
use Rattle.vx_proto.specs.Reads.{Reads}
use Rattle.vx_array_tree.specs.Encoding as E
use Rattle.vx_array_tree.specs.Metadata.{Metadata}
use Rattle.vx_array_tree.specs.Metadata as M
use Rattle.vx_array_tree.specs.Table.{IsFair}
use Rattle.vx_wire_tree.specs.Fields.{Fields}
use Rattle.vx_wire_tree.specs.Fields as F
use Rattle.vx_wire_tree.specs.Reads.{IsMetadata}
use Rattle.vx_encodings.proofs.Numbers.{one_number, number_again}
use Rattle.vx_encodings.specs.BoolMessage.{bool_schema, bool_value, bool_bytes, ShowsBool}
use Rattle.vx_encodings.specs.Messages.{codec}

-- Bytes show one offset at most.
pub one_offset : (bytes : List ℕ) (f g : Fields) → ShowsBool bytes f → ShowsBool bytes g → f ≡ g
one_offset bytes f g a b = a.fields_are ∙ ap (λ (n : ℕ). F.bool n) (one_number Uint32 bytes a.offset b.offset a.reads b.reads) ∙ sym b.fields_are

-- What is written of an offset below 8 is read as that offset.
pub offset_again : (n : ℕ) → n < 8 → ShowsBool (bool_bytes n) (F.bool n)
offset_again n lt = record { offset = n; reads = number_again Uint32 tt n tt refl (n, refl, omega arith) (omega arith); fields_are = refl }

-- Bytes that show an offset below 8 are metadata of booleans.
pub bool_metadata : (x : ExtMeaning) (d : Typ) (bytes : List ℕ) (o : ℕ) → Reads bool_schema 0 bytes (bool_value o) → o < 8 → IsMetadata codec x E.bool d bytes (M.bool o)
bool_metadata x d bytes o r lt = record {
  fields = F.bool o;
  shown = record { offset = o; reads = r; fields_are = refl };
  meaning = refl;
  fair = lt;
  known = tt;
}

-- What metadata of booleans is read as: an offset that the bytes show, below 8.
pub record ReadsOffset (bytes : List ℕ) (v : Metadata) : Type 0 where
  pub offset : ℕ
  pub reads : Reads bool_schema 0 bytes (bool_value offset)
  pub value_is : v ≡ M.bool offset
  pub below : offset < 8

meant_bool : (d : Typ) (f : Fields) (o : ℕ) (v : Metadata) → f ≡ F.bool o → F.meant d f ≡ v → v ≡ M.bool o
meant_bool d f o v e m = sym m ∙ ap (λ (z : Fields). F.meant d z) e

pub bool_offset : (x : ExtMeaning) (d : Typ) (bytes : List ℕ) (v : Metadata) → IsMetadata codec x E.bool d bytes v → ReadsOffset bytes v
bool_offset x d bytes v m =
    let e = meant_bool d m.fields m.shown.offset v m.shown.fields_are m.meaning in
    record {
      offset = m.shown.offset;
      reads = m.shown.reads;
      value_is = e;
      below = subst (λ (z : Metadata). IsFair E.bool z) e m.fair;
    }

-- An offset that the bytes show is the one that is read.
pub offset_is : (bytes : List ℕ) (v : Metadata) (o : ℕ) → ReadsOffset bytes v → Reads bool_schema 0 bytes (bool_value o) → v ≡ M.bool o
offset_is bytes v o r s = r.value_is ∙ ap (λ (n : ℕ). M.bool n) (one_number Uint32 bytes r.offset o r.reads s)
