-- A wire tree of numbers, the array that it decodes to, and the causes of trees that decode to none.
use Rattle.std.proofs.Common.{ℕ, zero, suc, ◌≡◌, List, [], ◌∷◌, Option, Some, None, refl, sym, ap, subst, inl, inr, codes, length, arith}
use Rattle.std.proofs.lemmas.Option.{same_Some, none-some}
use Rattle.vx_buffer.specs.Buffer.{Buffer}
use Rattle.vx_flat.specs.Value.{Field, absent, number, text}
use Rattle.vx_scalars.specs.Stats.{Stats, no_stats}
use Rattle.vx_scalars.specs.declared.precision.Precision.TheVariants.{Exact}
use Rattle.vx_trees.specs.Rose.{node, end}
use Rattle.vx_types.specs.Known.{no_readers}
use Rattle.vx_types.specs.Typ.{Typ}
use Rattle.vx_types.specs.declared.nullability.Nullability.TheVariants.{Nullable, NonNullable}
use Rattle.vx_numbers.specs.declared.ptype.PType.TheVariants as P
use Rattle.vx_array_tree.specs.Body as B
use Rattle.vx_array_tree.specs.Encoding.{Encoding}
use Rattle.vx_array_tree.specs.Encoding as E
use Rattle.vx_array_tree.specs.Encodings.Primitives.{IsFilled}
use Rattle.vx_array_tree.specs.Encodings.VarBinViews as VarBinViews
use Rattle.vx_array_tree.specs.Metadata as M
use Rattle.vx_array_tree.specs.Table.{IsShaped, Holds}
use Rattle.vx_array_tree.specs.Tree.{with_stats}
use Rattle.vx_array_tree.proofs.LawsControls.{native_controlled}
use Rattle.vx_array_tree_tests.proofs.Samples.{number_type, text_type, buffer, four, i32s, long_text, long_view, count}
use Rattle.vx_wire_tree.specs.Causes.{IsOf, MayStandFor, out_of_bounds, unknown_index, unknown_encoding, bad_shape, bad_content, bad_stats, RefusesTree}
use Rattle.vx_wire_tree.specs.Codec.{Codec}
use Rattle.vx_wire_tree.specs.Fields as F
use Rattle.vx_wire_tree.specs.Fields.{Fields}
use Rattle.vx_wire_tree.specs.Matches.{Matches}
use Rattle.vx_wire_tree.specs.Session.{SessionMeaning, Reader, shipped}
use Rattle.vx_wire_tree.specs.Wire.{Wire}

-- Nulls, numbers and texts by views have no metadata.
abbrev Shows : Encoding → List ℕ → Fields → Type 0
Shows E.null bytes F.empty = bytes ≡ []
Shows E.primitive bytes F.empty = bytes ≡ []
Shows E.varbinview bytes F.empty = bytes ≡ []
Shows _ bytes f = ⊥

-- A count of null rows.
abbrev nulls : ℕ → Stats
nulls n = record no_stats { null_count = Exact (count n) }

-- A number shows how many rows are null.
abbrev ShowsStats : Typ → Field → Stats → Type 0
ShowsStats d absent x = x ≡ no_stats
ShowsStats d (number n) x = x ≡ nulls n
ShowsStats d _ x = ⊥

abbrev pub codec : Codec
codec = record { Shows = Shows; fields_bytes = λ f. []; ShowsStats = ShowsStats; stats_field = λ x. absent; IsStorable = λ x. Unit {0} }

-- One identifier is read, and nothing is written.
abbrev session : Option Reader → SessionMeaning
session r = record { reader = λ id. r; writer = λ id. None; ext = no_readers }

abbrev numbers_session : SessionMeaning
numbers_session = session (Some (shipped E.primitive))

abbrev pub name : List ℕ
name = codes "vortex.primitive"

abbrev numbers_of : Option (List ℕ) → List (Option Buffer) → Wire
numbers_of id bs = node (record { id = id; metadata = []; buffers = bs; stats = absent }) end

abbrev values : Buffer
values = buffer (four (1 ∷ 2 ∷ 3 ∷ 4 ∷ [])) 2

abbrev type : Typ
type = number_type P.I32 NonNullable

-- Four numbers match.
matched : Matches codec numbers_session (numbers_of (Some name) (Some values ∷ [])) (i32s NonNullable (1 ∷ 2 ∷ 3 ∷ 4 ∷ []) [])
matched = (
  name,
  refl,
  record {
    encoding = refl;
    metadata = record { fields = F.empty; shown = refl; meaning = refl; fair = tt; known = tt };
    buffers = refl;
    stats = refl;
    normal = tt;
    children = refl;
  },
)

-- The same with statistics, at a type that they fit.
abbrev told_numbers : Field → Wire
told_numbers f = node (record { id = Some name; metadata = []; buffers = Some values ∷ []; stats = f }) end

matched_stats : Matches codec numbers_session (told_numbers (number 2)) (with_stats (nulls 2) (i32s NonNullable (1 ∷ 2 ∷ 3 ∷ 4 ∷ []) []))
matched_stats = (
  name,
  refl,
  record {
    encoding = refl;
    metadata = record { fields = F.empty; shown = refl; meaning = refl; fair = tt; known = tt };
    buffers = refl;
    stats = refl;
    normal = tt;
    children = refl;
  },
)

-- Where a field shows none, the statistics are refused, at this node alone.
no_stats_shown : RefusesTree bad_stats codec numbers_session (told_numbers (text [])) type 4
no_stats_shown = ([], record { reader = shipped E.primitive; by = record { id = name; id_is = refl; reader_is = refl }; none = λ x h. h })

stats_shown : RefusesTree bad_stats codec numbers_session (told_numbers (number 2)) type 4 → ⊥
stats_shown ([], x) = x.none (nulls 2) refl
stats_shown (zero ∷ path, x) = let e : None ≡ Some x.0 = x.2.child in absurd (cc)
stats_shown (suc i ∷ path, x) = let e : None ≡ Some x.0 = x.2.child in absurd (cc)

-- A buffer's index without a descriptor, an encoding's index without an identifier, and an identifier that nothing
-- reads where that is not allowed.
no_buffer : RefusesTree out_of_bounds codec numbers_session (numbers_of (Some name) (None ∷ [])) type 4
no_buffer = ([], (0, refl))

no_id : RefusesTree unknown_index codec numbers_session (numbers_of None (Some values ∷ [])) type 4
no_id = ([], refl)

no_reader : RefusesTree unknown_encoding codec (session None) (numbers_of (Some name) (Some values ∷ [])) type 4
no_reader = ([], record { unregistered = record { id = name; id_is = refl; reader_is = refl }; closed = refl })

is_numbers : (bs : List (Option Buffer)) → IsOf numbers_session (numbers_of (Some name) bs) E.primitive
is_numbers bs = record { id = name; id_is = refl; encoding_is = refl }

-- Five rows do not fit the bytes of four.
other_length : (bs : List Buffer) → MayStandFor (Some values ∷ []) bs → IsShaped E.primitive type 5 M.empty bs 0 → ⊥
other_length [] m x = absurd m
other_length (b ∷ []) (p, q) x =
    let r : IsFilled 4 5 b = subst (λ z. Holds type 5 z) (sym (same_Some (B.primitive (record { values = b })) x.body x.body_is)) x.holds in
    let m = r.length_is in
    let n : length b.bytes ≡ 16 = ap (λ z. length z.bytes) p in
    absurd (omega arith)
other_length (b ∷ c ∷ bs) m x = absurd (cc)

too_short : RefusesTree bad_shape codec numbers_session (numbers_of (Some name) (Some values ∷ [])) type 5
too_short = (
  [],
  record {
    encoding = E.primitive;
    by = is_numbers (Some values ∷ []);
    value = M.empty;
    metadata = record { fields = F.empty; shown = refl; meaning = refl; fair = tt; known = tt };
    broken = inr (inl other_length);
  },
)

-- One buffer too many is a wrong shape, whether its index has a descriptor or not.
two_buffers : (bs : List Buffer) → MayStandFor (Some values ∷ None ∷ []) bs → IsShaped E.primitive type 4 M.empty bs 0 → ⊥
two_buffers [] m x = absurd m
two_buffers (b ∷ []) (p, q) x = absurd q
two_buffers (b ∷ c ∷ []) m x = let q = x.body_is in absurd (cc)
two_buffers (b ∷ c ∷ d ∷ bs) m x = let q = x.body_is in absurd (cc)

too_many : RefusesTree bad_shape codec numbers_session (numbers_of (Some name) (Some values ∷ None ∷ [])) type 4
too_many = (
  [],
  record {
    encoding = E.primitive;
    by = is_numbers (Some values ∷ None ∷ []);
    value = M.empty;
    metadata = record { fields = F.empty; shown = refl; meaning = refl; fair = tt; known = tt };
    broken = inr (inl two_buffers);
  },
)

-- Nor do numbers stand under the type of texts.
at_texts : RefusesTree bad_shape codec numbers_session (numbers_of (Some name) (Some values ∷ [])) (text_type Nullable) 4
at_texts = (
  [],
  record {
    encoding = E.primitive;
    by = is_numbers (Some values ∷ []);
    value = M.empty;
    metadata = record { fields = F.empty; shown = refl; meaning = refl; fair = tt; known = tt };
    broken = inl refl;
  },
)

-- A view whose prefix is not that of its bytes.
abbrev long_views : VarBinViews.Data
long_views = record { buffers = buffer long_text 0 ∷ []; views = buffer (long_view 98) 4 }

wrong_prefix : RefusesTree bad_content codec (session (Some (shipped E.varbinview)))
    (node (record { id = Some (codes "vortex.varbinview"); metadata = []; buffers = Some (buffer long_text 0) ∷ Some (buffer (long_view 98) 4) ∷ []; stats = absent }) end) (text_type NonNullable) 1
wrong_prefix = (
  [],
  record {
    encoding = E.varbinview;
    by = record { id = codes "vortex.varbinview"; id_is = refl; encoding_is = refl };
    value = M.empty;
    metadata = record { fields = F.empty; shown = refl; meaning = refl; fair = tt; known = tt };
    places_are = [];
    plan = refl;
    buffers = buffer long_text 0 ∷ buffer (long_view 98) 4 ∷ [];
    buffers_are = refl;
    shaped = record { body = B.varbinview long_views; body_is = refl; holds = record { length_is = refl; aligned = omega arith }; allows = λ e. absurd (omega arith) };
    children = end;
    matched = record { matched = refl; sound = tt; placed = refl };
    controlled = native_controlled _ _ _ tt;
    broken = λ c. none-some _ (c 0 (omega arith) refl).1;
  },
)
