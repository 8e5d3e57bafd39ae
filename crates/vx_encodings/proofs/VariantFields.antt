-- The metadata of variants: bytes that show a type, or none, and what readers know of it.
use Rattle.std.proofs.Common.{ℕ, ◌≡◌, ◌^◌, ◌≤◌, ◌<◌, Option, Some, None, option_map, List, [], ◌∷◌, length, Result, Ok, Err, IfOk, refl, sym, ap, ◌∙◌, subst, arith}
use Rattle.std.proofs.lemmas.Option.{none-some, same_Some}
use Rattle.vx_trees.specs.Rose.{label, below, roses_of}
use Rattle.vx_trees.specs.Walks.{levels}
use Rattle.vx_types.specs.Known.{ExtMeaning}
use Rattle.vx_types.specs.Typ.{Typ, IsType}
use Rattle.vx_proto.specs.Form.{HasForm}
use Rattle.vx_proto.specs.Reads.{Reads}
use Rattle.vx_proto.specs.Value.{Value}
use Rattle.vx_proto.specs.Written.{written, nested}
use Rattle.vx_proto.proofs.LawsOfMessages.{reads_one, written_shown}
use Rattle.vx_proto.proofs.LawsOfParts.{whole_form}
use Rattle.vx_type_wire.specs.Known.{IsRead}
use Rattle.vx_type_wire.specs.TypeMessage.{type_message, IsMessageOf}
use Rattle.vx_type_wire.proofs.LawsTypes.{type_form, type_depth, message-injective}
use Rattle.vx_array_tree.specs.Encoding as E
use Rattle.vx_array_tree.specs.Encodings.Variants.{IsFair, metadata_of}
use Rattle.vx_array_tree.specs.Metadata.{Metadata}
use Rattle.vx_array_tree.specs.Metadata as M
use Rattle.vx_array_tree.specs.Tree.{Tree, Trees, places}
use Rattle.vx_wire_tree.specs.Fields.{Fields, FitsMessage}
use Rattle.vx_wire_tree.specs.Fields as F
use Rattle.vx_wire_tree.specs.KnownTypes.{IsKnownIn}
use Rattle.vx_wire_tree.specs.Limits.{HasMessage}
use Rattle.vx_wire_tree.specs.Reads.{IsMetadata}
use Rattle.vx_arrays.specs.Plain.{plain_body}
use Rattle.vx_arrays.specs.declared.body.Body.{Body}
use Rattle.vx_arrays.specs.declared.body.Body.TheVariants.{Variant}
use Rattle.vx_encodings.proofs.Fit.{fits_over}
use Rattle.vx_encodings.specs.Messages.{codec}
use Rattle.vx_encodings.specs.Steps.{RefusesMetadata}
use Rattle.vx_encodings.specs.VariantMessage.{IsShredded, RefusesShredded, RefusesShreddedType, ShowsVariant, shredded_value, variant_bytes, variant_parts, variant_schema, variant_value}
use Rattle.vx_plans.specs.declared.error.EncodingError.{EncodingError}
use Rattle.vx_plans.specs.declared.error.EncodingError.TheVariants.{OutOfMemory, BadMetadata, BadShape}

-- ---- one type

-- A plain value is that of one message of a type, or of none.
same_slot : (v w : Option Value) → variant_value v ≡ variant_value w → v ≡ w
same_slot v w e = ap (λ (p : Option Value × Unit {0}). p.0) (variant_parts.same (v, tt) (w, tt) e)

same_types : (a b : Option Typ) → IsFair a → IsFair b → option_map type_message a ≡ option_map type_message b → a ≡ b
same_types None None f g e = refl
same_types None (Some u) f g e = absurd (none-some (type_message u) e)
same_types (Some t) None f g e = absurd (none-some (type_message t) (sym e))
same_types (Some t) (Some u) f g e = ap (λ (z : Typ). Some z) (message-injective t u f g (same_Some (type_message t) (type_message u) e))

one_read : (bytes : List ℕ) (a b : Option Typ) → IsFair a → IsFair b → Reads variant_schema 14 bytes (shredded_value a) → Reads variant_schema 14 bytes (shredded_value b) → a ≡ b
one_read bytes a b f g r s = same_types a b f g (same_slot (option_map type_message a) (option_map type_message b) (reads_one variant_schema 14 bytes (shredded_value a) (shredded_value b) r s))

-- Bytes show one message at most.
pub one_variant : (bytes : List ℕ) (f g : Fields) → ShowsVariant bytes f → ShowsVariant bytes g → f ≡ g
one_variant bytes f g a b = a.fields_are ∙ ap (λ (z : Option Typ). F.variant z) (one_read bytes a.shredded b.shredded a.is_type b.is_type a.reads b.reads) ∙ sym b.fields_are

-- ---- what is written

formed : (v : Option Typ) → IsFair v → HasForm variant_schema 14 (shredded_value v)
formed None f = whole_form variant_schema 14 variant_parts (None, tt) (tt, tt)
formed (Some e) f = whole_form variant_schema 14 variant_parts (Some (type_message e), tt) (type_form e f, tt)

-- A type of at most 49 levels nests at most 99 messages.
pub few_nested : (v : Option Typ) → IsFair v → FitsMessage (M.variant v) → nested (shredded_value v) ≤ 100
few_nested None f l = omega arith
few_nested (Some e) f l = omega (arith, l, type_depth e f)

-- What is written is read as the same type.
pub variant_again : (v : Option Typ) → IsFair v → FitsMessage (M.variant v) → length (variant_bytes v) < 2 ^ 64 → ShowsVariant (variant_bytes v) (F.variant v)
variant_again v f l short = record {
  shredded = v;
  is_type = f;
  reads = written_shown variant_schema 14 (shredded_value v) refl (formed v f) (few_nested v f l) short;
  fields_are = refl;
}

-- ---- metadata

-- A type that bytes show and readers know is metadata.
pub variant_metadata : (x : ExtMeaning) (bytes : List ℕ) (d : Typ) (v : Option Typ) → IsShredded x bytes v → IsMetadata codec x E.variant d bytes (M.variant v)
variant_metadata x bytes d v s = record {
  fields = F.variant v;
  shown = record { shredded = v; is_type = s.is_type; reads = s.reads; fields_are = refl };
  meaning = refl;
  fair = s.is_type;
  known = s.known;
}

-- What this metadata is read as.
pub record ReadsVariant (x : ExtMeaning) (bytes : List ℕ) (v : Metadata) : Type 0 where
  pub shredded : Option Typ
  pub value_is : v ≡ M.variant shredded
  pub told : IsShredded x bytes shredded

meant_variant : (d : Typ) (f : Fields) (s : Option Typ) (v : Metadata) → f ≡ F.variant s → F.meant d f ≡ v → v ≡ M.variant s
meant_variant d f s v e m = sym m ∙ ap (λ (z : Fields). F.meant d z) e

pub variant_read : (x : ExtMeaning) (d : Typ) (bytes : List ℕ) (v : Metadata) → IsMetadata codec x E.variant d bytes v → ReadsVariant x bytes v
variant_read x d bytes v m =
    let e = meant_variant d m.fields m.shown.shredded v m.shown.fields_are m.meaning in
    record {
      shredded = m.shown.shredded;
      value_is = e;
      told = record { is_type = m.shown.is_type; reads = m.shown.reads; known = subst (λ (z : Metadata). IsKnownIn x z) e m.known };
    }

-- ---- the type of a shredded child

-- Bytes that are no message show no type.
pub nothing_told : (x : ExtMeaning) (bytes : List ℕ) (e : EncodingError) → RefusesMetadata e variant_schema 14 bytes → RefusesShredded e x bytes
nothing_told x bytes OutOfMemory u = tt
nothing_told x bytes BadMetadata u = λ d h. u _ h.reads
nothing_told x bytes BadShape u = absurd u
nothing_told x bytes _ u = absurd u

-- A message without a type shows that there is none.
pub none_told : (x : ExtMeaning) (bytes : List ℕ) (v : Option Value) → Reads variant_schema 14 bytes (variant_value v) → v ≡ None → IsShredded x bytes None
none_told x bytes v r e = record { is_type = tt; reads = subst (λ (z : Option Value). Reads variant_schema 14 bytes (variant_value z)) e r; known = tt }

-- A message with a type that is read shows it.
pub type_told : (x : ExtMeaning) (bytes : List ℕ) (v : Option Value) (m : Value) (t : Typ) → Reads variant_schema 14 bytes (variant_value v) → v ≡ Some m → IsRead (IsMessageOf m) x t → IsShredded x bytes (Some t)
type_told x bytes v m t r e k =
    let q : v ≡ Some (type_message t) = e ∙ ap (λ (z : Value). Some z) k.shows.is in
    record { is_type = k.shows.is_type; reads = subst (λ (z : Option Value). Reads variant_schema 14 bytes (variant_value z)) q r; known = k.known }

few_levels : (t : Typ) → IsType t → nested (shredded_value (Some t)) ≤ 100 → levels t ≤ 50
few_levels t f n = omega (arith, n, type_depth t f)

-- A message with a type that is not read shows none.
pub type_untold : (x : ExtMeaning) (bytes : List ℕ) (v : Option Value) (m : Value) → Reads variant_schema 14 bytes (variant_value v) → nested (variant_value v) ≤ 100 → v ≡ Some m
    → ((t : Typ) → levels t ≤ 50 → IsRead (IsMessageOf m) x t → ⊥) → (d : Option Typ) → IsShredded x bytes d → ⊥
type_untold x bytes v m r n e never None s =
    none-some m (sym (same_slot v None (reads_one variant_schema 14 bytes (variant_value v) (variant_value None) r s.reads)) ∙ e)
type_untold x bytes v m r n e never (Some t) s =
    let q : v ≡ Some (type_message t) = same_slot v (Some (type_message t)) (reads_one variant_schema 14 bytes (variant_value v) (shredded_value (Some t)) r s.reads) in
    let is : m ≡ type_message t = same_Some m (type_message t) (sym e ∙ q) in
    never t (few_levels t s.is_type (subst (λ (z : Option Value). nested (variant_value z) ≤ 100) q n)) (record { shows = record { is_type = s.is_type; is = is }; known = s.known })

pub types_unknown : (x : ExtMeaning) (bytes : List ℕ) (v : Option Value) (m : Value) (error : EncodingError) → Reads variant_schema 14 bytes (variant_value v) → nested (variant_value v) ≤ 100 → v ≡ Some m → RefusesShreddedType error x m → RefusesShredded error x bytes
types_unknown x bytes v m OutOfMemory r n e u = tt
types_unknown x bytes v m BadMetadata r n e u = type_untold x bytes v m r n e u
types_unknown x bytes v m BadShape r n e u = absurd u
types_unknown x bytes v m _ r n e u = absurd u

pub ruleset shredded_types = (nothing_told, none_told, type_told, types_unknown)

-- ---- what is written of it

-- Fewer than two children have no shredded type.
pub lone_untold : (ts : List Tree) → length ts < 2 → None ≡ metadata_of (places (roses_of ts))
lone_untold [] few = refl
lone_untold (t ∷ []) few = refl
lone_untold (t ∷ u ∷ ts) few = absurd (omega (arith, few))

-- The message of a type of few levels nests few messages.
pub written_nests : (v : Option Value) (d : Option Typ) → v ≡ option_map type_message d → IsFair d → FitsMessage (M.variant d) → nested (variant_value v) ≤ 100
written_nests v d e f l = subst (λ (z : Option Value). nested (variant_value z) ≤ 100) (sym e) (few_nested d f l)

pub written_is : (v : Option Value) (d : Option Typ) (r : Result (List ℕ) EncodingError) → v ≡ option_map type_message d → IfOk r (λ bytes. bytes ≡ written variant_schema 14 (variant_value v)) → IfOk r (λ bytes. bytes ≡ variant_bytes d)
written_is v d (Ok bytes) e q = q ∙ ap (λ (z : Option Value). written variant_schema 14 (variant_value z)) e
written_is v d (Err error) e q = tt

pub ruleset variant_written = (written_nests, written_is)

-- ---- what fits

-- The type in a root whose metadata fits its message has few levels.
pub typed_fit : (t : Tree) (b : Body) (us : Trees) → b ≡ Variant → plain_body b ≡ (label t).body → us ≡ below t → HasMessage (label t) (below t) → FitsMessage (M.variant (metadata_of (places us)))
typed_fit t b us e p u h = fits_over t b Variant e p us u h
