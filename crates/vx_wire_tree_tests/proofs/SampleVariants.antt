-- Wire trees of variants: what they decode to over a core that nothing reads, which readers of extensions know the type
-- of a typed child, and how many levels that type may have.
use Rattle.std.proofs.Common.{ℕ, zero, suc, ◌≡◌, List, [], ◌∷◌, Option, Some, None, option_map, Bool, true, false, codes, refl, arith, sym, subst}
use Rattle.std.proofs.lemmas.Bool.{false≢true}
use Rattle.std.specs.Str.{is_utf8, chars}
use lib.Utf8.{encode}
use Rattle.vx_flat.specs.Value.{absent}
use Rattle.vx_trees.specs.Rose.{node, end, more}
use Rattle.vx_types.specs.Kind as K
use Rattle.vx_types.specs.Known.{no_readers}
use Rattle.vx_types.specs.Typ.{Typ}
use Rattle.vx_types.specs.declared.nullability.Nullability.TheVariants.{Nullable, NonNullable}
use Rattle.vx_numbers.specs.declared.ptype.PType.TheVariants as P
use Rattle.vx_scalars.specs.Stats.{no_stats}
use Rattle.vx_array_tree.specs.Encoding.{Encoding}
use Rattle.vx_array_tree.specs.Encoding as E
use Rattle.vx_array_tree.specs.Metadata.{Metadata}
use Rattle.vx_array_tree.specs.Metadata as M
use Rattle.vx_array_tree.specs.Place.{place}
use Rattle.vx_array_tree.specs.Table.{encoding_named}
use Rattle.vx_array_tree.specs.Tree.{Tree}
use Rattle.vx_array_tree_tests.proofs.Samples.{days as four_days, buffer, bits, four, number_type, list_of, variant_type, unknown_rows, variants, typed}
use Rattle.vx_wire_tree.specs.Causes.{unknown_encoding, bad_metadata, RefusesTree}
use Rattle.vx_wire_tree.specs.Codec.{Codec}
use Rattle.vx_wire_tree.specs.Fields as F
use Rattle.vx_wire_tree.specs.Fields.{Fields, meant, FitsMessage}
use Rattle.vx_wire_tree.specs.KnownTypes.{IsKnownIn}
use Rattle.vx_wire_tree.specs.Limits.{HasMessages}
use Rattle.vx_wire_tree.specs.Matches.{Matches}
use Rattle.vx_wire_tree.specs.Reads.{IsMetadata}
use Rattle.vx_wire_tree.specs.Session.{SessionMeaning, Reader, shipped}
use Rattle.vx_wire_tree.specs.Wire.{Wire, Wires}

-- ---- samples

-- For variants no byte shows no type, and the byte 7 shows this one; booleans, numbers and extensions have no metadata.
abbrev Shows : Typ → Encoding → List ℕ → Fields → Type 0
Shows d E.bool bytes (F.bool zero) = bytes ≡ []
Shows d E.primitive bytes F.empty = bytes ≡ []
Shows d E.ext bytes F.empty = bytes ≡ []
Shows d E.variant bytes (F.variant None) = bytes ≡ []
Shows d E.variant bytes (F.variant (Some e)) = (bytes ≡ 7 ∷ []) × (e ≡ d)
Shows d _ bytes f = ⊥

abbrev codec : Typ → Codec
codec d = record { Shows = Shows d; fields_bytes = λ f. []; ShowsStats = λ e f x. x ≡ no_stats; stats_field = λ x. absent; IsStorable = λ x. Unit {0} }

abbrev by_name : List ℕ → Option Reader
by_name id = option_map shipped (encoding_named id)

-- Each encoding is read, no extension has a reader, and what is unknown is allowed or not.
abbrev session : Bool → SessionMeaning
session unknown = record { reader = by_name; writer = by_name; ext = record { reader = λ id. None; unknown = unknown } }

-- Days as numbers, an extension.
abbrev days : Typ
days = node (K.extension (codes "x.day") []) (more (number_type P.I32 NonNullable) end)

abbrev numbers : Typ
numbers = number_type P.I32 Nullable

abbrev core_node : Wire
core_node = node (record { id = Some (codes "x.core"); metadata = []; buffers = []; stats = absent }) end

abbrev bits_node : Wire
bits_node = node (record { id = Some (codes "vortex.bool"); metadata = []; buffers = Some (buffer (1 ∷ []) 0) ∷ []; stats = absent }) end

abbrev numbers_node : Wire
numbers_node = node (record { id = Some (codes "vortex.primitive"); metadata = []; buffers = Some (buffer (four (1 ∷ 2 ∷ [])) 2) ∷ []; stats = absent }) (more bits_node end)

-- Variants of this metadata over the core, with these nodes after it.
abbrev variants_node : List ℕ → Wires → Wire
variants_node metadata ws = node (record { id = Some (codes "vortex.variant"); metadata = metadata; buffers = []; stats = absent }) (more core_node ws)

-- ---- what is decoded

core_matches : (d : Typ) → Matches (codec d) (session true) core_node (unknown_rows (variant_type Nullable))
core_matches d = (codes "x.core", refl, (refl, (record { kept = record { id = codes "x.core"; metadata = []; buffers = [] }; body = refl; id = refl; metadata = refl; buffers = refl }, refl), (record { stats = refl; children = tt }, tt)))

bare_matches : (d : Typ) → Matches (codec d) (session true) (variants_node [] end) (variants [])
bare_matches d = (
  codes "vortex.variant",
  refl,
  record {
    encoding = refl;
    metadata = record { fields = F.variant None; shown = refl; meaning = refl; fair = tt; known = tt };
    buffers = refl;
    stats = refl;
    normal = tt;
    children = (core_matches d, refl);
  },
)

-- Where what is unknown is not allowed, the core is the cause.
core_refused : (d : Typ) → RefusesTree unknown_encoding (codec d) (session false) (variants_node [] end) (variant_type Nullable) 2
core_refused d = (
  0 ∷ [],
  (
    core_node,
    place (variant_type Nullable) 2,
    record {
      places = place (variant_type Nullable) 2 ∷ [];
      planned = record { id = codes "vortex.variant"; id_is = refl; planned = record { value = M.variant None; metadata = record { fields = F.variant None; shown = refl; meaning = refl; fair = tt; known = tt }; plan = refl } };
      child = refl;
      place = refl;
    },
    record { unregistered = record { id = codes "x.core"; id_is = refl; reader_is = refl }; closed = refl },
  ),
)

-- Numbers after it are a typed child.
typed_matches : Matches (codec numbers) (session true) (variants_node (7 ∷ []) (more numbers_node end)) (variants (typed ∷ []))
typed_matches = (
  codes "vortex.variant",
  refl,
  record {
    encoding = refl;
    metadata = record { fields = F.variant (Some numbers); shown = (refl, refl); meaning = refl; fair = (refl, tt); known = (tt, tt) };
    buffers = refl;
    stats = refl;
    normal = tt;
    children = (core_matches numbers, (numbers_match, refl));
  },
)
  where
    bits_match : Matches (codec numbers) (session true) bits_node (bits 2 1)
    bits_match = (codes "vortex.bool", refl, record { encoding = refl; metadata = record { fields = F.bool 0; shown = refl; meaning = refl; fair = omega arith; known = tt }; buffers = refl; stats = refl; normal = tt; children = refl })

    numbers_match : Matches (codec numbers) (session true) numbers_node typed
    numbers_match = (codes "vortex.primitive", refl, record { encoding = refl; metadata = record { fields = F.empty; shown = refl; meaning = refl; fair = tt; known = tt }; buffers = refl; stats = refl; normal = tt; children = (bits_match, refl) })

-- ---- which types are known

-- A type with an extension that nothing reads is known only where such extensions are allowed.
days_unknown : IsKnownIn no_readers (M.variant (Some days)) → ⊥
days_unknown k = false≢true k.0

lists_unknown : IsKnownIn no_readers (M.variant (Some (list_of days))) → ⊥
lists_unknown k = false≢true k.1.0.0

days_known : IsKnownIn (session true).ext (M.variant (Some days))
days_known = (refl, ((tt, tt), tt))

-- So bytes that show it are metadata there, and are the cause elsewhere, before the core is looked at.
days_read : IsMetadata (codec days) (session true).ext E.variant (variant_type Nullable) (7 ∷ []) (M.variant (Some days))
unfolding is_utf8 chars encode
days_read = record { fields = F.variant (Some days); shown = (refl, refl); meaning = refl; fair = ((refl, refl, tt), ((refl, tt), tt)); known = days_known }

unread : (f : Fields) → Shows days E.variant (7 ∷ []) f → IsKnownIn (session false).ext (meant (variant_type Nullable) f) → ⊥
unread (F.variant None) h k = absurd (cc)
unread (F.variant (Some e)) h k = days_unknown (subst (λ (z : Typ). IsKnownIn no_readers (M.variant (Some z))) h.1 k)
unread _ h k = absurd h

days_refused : RefusesTree bad_metadata (codec days) (session false) (variants_node (7 ∷ []) (more numbers_node end)) (variant_type Nullable) 2
days_refused = (
  [],
  record {
    encoding = E.variant;
    by = record { id = codes "vortex.variant"; id_is = refl; encoding_is = refl };
    none = λ v m. unread m.fields m.shown (subst (λ (z : Metadata). IsKnownIn (session false).ext z) (sym m.meaning) m.known);
  },
)

-- ---- how many levels a type may have

-- Lists in lists, n levels of them over numbers.
abbrev deep : ℕ → Typ
deep zero = numbers
deep (suc n) = list_of (deep n)

-- Variants under a typed child of which nothing is known but its type.
abbrev over_deep : ℕ → Tree
over_deep n = variants (unknown_rows (deep n) ∷ [])

-- Fifty levels are too many for the message, forty-nine are not.
fifty_levels : FitsMessage (M.variant (Some (deep 49))) → ⊥
fifty_levels f = absurd (omega (arith, f))

fifty_refused : HasMessages (over_deep 49) → ⊥
fifty_refused h = fifty_levels h.0

forty_nine_levels : HasMessages (over_deep 48)
forty_nine_levels = (omega arith, ((tt, tt), ((tt, tt), tt)))

-- ---- extensions

-- The type of an extension does not stand in its node: no reader is asked about it.
abbrev day_node : Wire
day_node = node (record { id = Some (codes "vortex.primitive"); metadata = []; buffers = Some (buffer (four (1 ∷ 2 ∷ 3 ∷ 4 ∷ [])) 2) ∷ []; stats = absent }) end

days_match : Matches (codec numbers) (session false) (node (record { id = Some (codes "vortex.ext"); metadata = []; buffers = []; stats = absent }) (more day_node end)) four_days
days_match = (
  codes "vortex.ext",
  refl,
  record {
    encoding = refl;
    metadata = record { fields = F.empty; shown = refl; meaning = refl; fair = tt; known = tt };
    buffers = refl;
    stats = refl;
    normal = tt;
    children = (
      (
        codes "vortex.primitive",
        refl,
        record {
          encoding = refl;
          metadata = record { fields = F.empty; shown = refl; meaning = refl; fair = tt; known = tt };
          buffers = refl;
          stats = refl;
          normal = tt;
          children = refl;
        },
      ),
      refl,
    );
  },
)
